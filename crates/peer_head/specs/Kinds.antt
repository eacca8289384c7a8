-- Which of the fields that the rules on heads name a field is.
use Rattle.std.specs.Prelude.{◌≡◌, ◌==◌, ℕ, Bool, List, codes}
use Rattle.std.specs.Str.{str_eq_ignore_ascii_case}
use Rattle.peer_head.specs.declared.field.FieldKind.{FieldKind}
use Rattle.peer_head.specs.declared.field.FieldKind.TheVariants.{Host, Connection, ContentLength, TransferEncoding, Other}

-- the place of a kind among the kinds
abbrev pub number_of_kind : FieldKind → ℕ
number_of_kind Host = 0
number_of_kind Connection = 1
number_of_kind ContentLength = 2
number_of_kind TransferEncoding = 3
number_of_kind Other = 4

-- the two kinds are the same
abbrev pub is_same_kind : FieldKind → FieldKind → Bool
is_same_kind one other = number_of_kind one == number_of_kind other

-- the kind is told by the name without regard to case in ASCII
pub record IsKindOf (name : List ℕ) (kind : FieldKind) : Type 0 where
  pub host : str_eq_ignore_ascii_case name (codes "Host") ≡ is_same_kind Host kind
  pub connection : str_eq_ignore_ascii_case name (codes "Connection") ≡ is_same_kind Connection kind
  pub content_length : str_eq_ignore_ascii_case name (codes "Content-Length") ≡ is_same_kind ContentLength kind
  pub transfer_encoding : str_eq_ignore_ascii_case name (codes "Transfer-Encoding") ≡ is_same_kind TransferEncoding kind
