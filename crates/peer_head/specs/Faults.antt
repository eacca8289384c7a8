-- What is wrong with a head, and whether the connection closes after its reply (RFC 9112, sections
-- 3.2, 6 and 9.3).
use Rattle.std.specs.Prelude.{ℕ, ◌==◌, nat_lt, Bool, true, ◌&&◌, ◌||◌, List, [], ◌∷◌, length, codes, bytes_eq}
use Rattle.std.specs.Prelude.{Option, Some, None, if◌then◌else◌}
use Rattle.std.specs.Option.{option_or}
use Rattle.std.specs.List.{list_all, list_any}
use Rattle.peer_head.specs.declared.fault.HeadFault.{HeadFault}
use Rattle.peer_head.specs.declared.fault.HeadFault.TheVariants.{TransferCoding, BadLength, Content, Host}
use Rattle.peer_head.specs.Heads.{HeadField, HeadParts}
use Rattle.peer_head.specs.Fields.{values, is_digits, is_zero, asks_close}

-- the values of the fields Transfer-Encoding
abbrev pub codings : List HeadField → List (List ℕ)
codings fields = values (codes "Transfer-Encoding") fields

-- the values of the fields Content-Length
abbrev pub lengths : List HeadField → List (List ℕ)
lengths fields = values (codes "Content-Length") fields

-- the values of the fields Host
abbrev pub hosts : List HeadField → List (List ℕ)
hosts fields = values (codes "Host") fields

-- the values of the fields Connection
abbrev pub connections : List HeadField → List (List ℕ)
connections fields = values (codes "Connection") fields

-- no two of the values differ
abbrev pub is_one_value : List (List ℕ) → Bool
is_one_value [] = true
is_one_value (v ∷ vs) = list_all (bytes_eq v) vs

-- each value is a number, and they are written alike
abbrev pub is_length : List (List ℕ) → Bool
is_length vs = list_all is_digits vs && is_one_value vs

-- HTTP/1.1 asks for exactly one field Host, HTTP/1.0 for at most one
abbrev pub is_host_count : ℕ → ℕ → Bool
is_host_count minor count = count == 1 || (minor == 0 && count == 0)

-- no transfer coding is served
abbrev pub coding_fault : List (List ℕ) → Option HeadFault
coding_fault vs = if nat_lt 0 (length vs) then Some TransferCoding else None

-- a content length has to be one, and 0
abbrev pub length_fault : List (List ℕ) → Option HeadFault
length_fault vs =
    if is_length vs
    then (if list_all is_zero vs then None else Some Content)
    else Some BadLength

-- the fields Host have to be as many as the version asks for
abbrev pub host_fault : ℕ → ℕ → Option HeadFault
host_fault minor count = if is_host_count minor count then None else Some Host

-- the first of these faults that the head has, if it has one
abbrev pub head_fault : HeadParts → Option HeadFault
head_fault p =
    option_or (coding_fault (codings p.fields))
    (option_or (length_fault (lengths p.fields)) (host_fault p.minor (length (hosts p.fields))))

-- the connection closes after the reply
abbrev pub is_closing : HeadParts → Bool
is_closing p = p.minor == 0 || list_any asks_close (connections p.fields)

-- the reply goes without its content (RFC 9110, section 9.3.2)
abbrev pub is_bare : HeadParts → Bool
is_bare p = bytes_eq p.method (codes "HEAD")
