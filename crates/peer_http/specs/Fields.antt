-- Fields that a request has behind those of its own: names and values (RFC 9110, 5), and their lines (RFC 9112, 5).
use Rattle.std.specs.Prelude.{ℕ, Bool, not, ◌&&◌, List, [], ◌∷◌, ◌++◌, codes, flat_map, if◌then◌else◌, Option, Some, None}
use Rattle.std.specs.List.{list_any}
use Rattle.httparse.specs.Grammar.{is_token}
use Rattle.http1.specs.Fields.{Header}
use Rattle.http1.specs.Head.{is_trimmed_value}
use Rattle.http1.specs.Text.{eq_ignore_case}
use Rattle.peer_http.specs.declared.fault.FieldFault.{FieldFault}
use Rattle.peer_http.specs.declared.fault.FieldFault.TheVariants as refused

-- the names of fields by which a request says where it goes and who asks (RFC 9110, 7.2 and 10.1.5), how long it is (8.6 and RFC
-- 9112, 6.1), and what becomes of it and of its connection (RFC 9110, 6.6.2, 7.6.1, 7.8, 10.1.1 and 10.1.4; RFC 9112, C.2.2)
abbrev pub own_names : List (List ℕ)
own_names =
    codes "host" ∷ codes "user-agent" ∷ codes "content-length" ∷ codes "transfer-encoding" ∷ codes "connection" ∷ codes "keep-alive"
    ∷ codes "proxy-connection" ∷ codes "te" ∷ codes "trailer" ∷ codes "upgrade" ∷ codes "expect" ∷ []

-- the name is one of those, in any case
abbrev pub is_own : List ℕ → Bool
is_own name = list_any (λ own. eq_ignore_case name own) own_names

-- the name is a token and none of those, and the value is text without a blank at either end
abbrev pub may_be_added : Header → Bool
may_be_added f = is_token f.0 && (not (is_own f.0) && is_trimmed_value f.1)

-- what is wrong with a name and a value first
abbrev pub fault_of : Header → Option FieldFault
fault_of f =
    if not (is_token f.0) then Some refused.Name
    else (if is_own f.0 then Some refused.Own else (if is_trimmed_value f.1 then None else Some refused.Value))

abbrev pub crlf : List ℕ
crlf = 13 ∷ 10 ∷ []

-- the line of a field
abbrev pub field_line : Header → List ℕ
field_line f = f.0 ++ codes ": " ++ f.1 ++ crlf

-- the lines of fields, in order
abbrev pub field_lines : List Header → List ℕ
field_lines fields = flat_map field_line fields
