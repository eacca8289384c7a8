-- The texts of replies (RFC 9112, section 4; the statuses of RFC 9110, section 15, and RFC 6585, section 5; `ServeHTTP` of `http.go`).
use Rattle.std.specs.Prelude.{ℕ, Bool, cond, List, [], ◌∷◌, ◌++◌, length, codes, decimal}
use Rattle.std.specs.Borrow.{Bor}
use Rattle.peer_source.specs.Answers.{Answer, Found, Failed}
use Rattle.peer_reply.specs.declared.fault.Fault.{Fault}
use Rattle.peer_reply.specs.declared.fault.Fault.TheVariants.{TooLong, NotAHead, TransferCoding, BadLength, Content, Host, Method, Target}
use Rattle.peer_reply.specs.declared.fault.Fault.TheVariants.{Escape, Outside, NoKey, NoGroup}
use Rattle.peer_reply.specs.Bodies.{body_of}

abbrev pub crlf : List ℕ
crlf = 13 ∷ 10 ∷ []

-- of a status with its reason phrase
abbrev pub status_line : List ℕ → List ℕ
status_line status = codes "HTTP/1.1 " ++ status ++ crlf

abbrev pub field : List ℕ → List ℕ → List ℕ
field name value = name ++ codes ": " ++ value ++ crlf

-- the field that closes the connection
abbrev pub connection_field : Bool → List ℕ
connection_field closing = cond closing (field (codes "Connection") (codes "close")) []

-- a reply from what stands before the content length, and the content, which a bare reply leaves out
abbrev pub reply_text : Bool → Bool → List ℕ → List ℕ → List ℕ
reply_text closing bare start content =
    start ++ field (codes "Content-Length") (decimal (length content)) ++ connection_field closing ++ crlf ++ cond bare [] content

-- what stands before the content length of a value, of a text, and of the refusal of a method
abbrev pub value_start : List ℕ
value_start = status_line (codes "200 OK") ++ field (codes "Content-Type") (codes "application/x-protobuf")

abbrev pub text_start : List ℕ → List ℕ
text_start status =
    status_line status ++ field (codes "Content-Type") (codes "text/plain; charset=utf-8")
    ++ field (codes "X-Content-Type-Options") (codes "nosniff")

abbrev pub method_start : List ℕ
method_start = status_line (codes "405 Method Not Allowed") ++ field (codes "Allow") (codes "GET, HEAD")

-- the reply with a value
abbrev pub value_reply : Bool → Bool → List ℕ → List ℕ
value_reply closing bare value = reply_text closing bare value_start (body_of value)

-- the reply with a text, which ends in a newline
abbrev pub text_reply : Bool → Bool → List ℕ → List ℕ → List ℕ
text_reply closing bare status text = reply_text closing bare (text_start status) (text ++ 10 ∷ [])

-- the reply to a fault
abbrev pub fault_reply : Bool → Bool → Fault → List ℕ
fault_reply closing bare TooLong = text_reply closing bare (codes "431 Request Header Fields Too Large") (codes "head too long")
fault_reply closing bare NotAHead = text_reply closing bare (codes "400 Bad Request") (codes "bad head")
fault_reply closing bare TransferCoding = text_reply closing bare (codes "501 Not Implemented") (codes "transfer coding not supported")
fault_reply closing bare BadLength = text_reply closing bare (codes "400 Bad Request") (codes "bad content length")
fault_reply closing bare Content = text_reply closing bare (codes "413 Content Too Large") (codes "content not accepted")
fault_reply closing bare Host = text_reply closing bare (codes "400 Bad Request") (codes "bad host")
fault_reply closing bare Method = reply_text closing bare method_start []
fault_reply closing bare Target = text_reply closing bare (codes "400 Bad Request") (codes "bad target")
fault_reply closing bare Escape = text_reply closing bare (codes "400 Bad Request") (codes "bad escape")
fault_reply closing bare Outside = text_reply closing bare (codes "404 Not Found") (codes "404 page not found")
fault_reply closing bare NoKey = text_reply closing bare (codes "400 Bad Request") (codes "bad request")
fault_reply closing bare (NoGroup name) = text_reply closing bare (codes "404 Not Found") (codes "no such group: " ++ name)

-- the name that a fault speaks of
abbrev pub group_name : Fault → List ℕ
group_name (NoGroup name) = name
group_name _ = []

-- the reply to an answer of the source
abbrev pub answer_reply : Bool → Bool → Answer → List ℕ
answer_reply closing bare (Found value) = value_reply closing bare value
answer_reply closing bare (Failed text) = text_reply closing bare (codes "500 Internal Server Error") text

-- slices joined
abbrev pub joined : List (Bor (List ℕ)) → List ℕ
joined [] = []
joined (part ∷ parts) = part.now ++ joined parts
