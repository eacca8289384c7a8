-- What a list of bytes is beside the bodies of values (`GetResponse` of `groupcache.proto`).
use Rattle.std.specs.Prelude.{◌≡◌, ◌≢◌, ℕ, ◌<◌, ◌≤◌, List, ◌∷◌, ◌++◌, length, Result, Ok, Err}
use Rattle.std.specs.Borrow.{Bor}
use Rattle.peer_view.specs.Sinks.{MAX_VALUE}
use Rattle.peer_reply.specs.Bodies.{body_of}
use Rattle.peer_reply.specs.declared.response.PbFault.{PbFault}
use Rattle.peer_reply.specs.declared.response.PbFault.TheVariants as fault

-- the input is the body of the value
pub record IsBody (input value : List ℕ) : Type 0 where
  pub small : length value ≤ MAX_VALUE
  pub body : input ≡ body_of value

-- the input goes on with more bytes to a body
pub record IsCutShort (input : List ℕ) : Type 0 where
  pub value : List ℕ
  pub more : List ℕ
  pub some : 0 < length more
  pub body : IsBody (input ++ more) value

-- the input begins with a byte that is not the tag
pub record HasOtherTag (input : List ℕ) : Type 0 where
  pub first : ℕ
  pub rest : List ℕ
  pub begins : input ≡ first ∷ rest
  pub other : first ≢ 10

-- the input begins with the tag, but neither does a body begin with it nor does it begin with a body
pub record HasBadLength (input : List ℕ) : Type 0 where
  pub rest : List ℕ
  pub begins : input ≡ 10 ∷ rest
  pub not_cut : (value more : List ℕ) → ¬ (IsBody (input ++ more) value)
  pub not_body : (front value more : List ℕ) → IsBody front value → ¬ (input ≡ front ++ more)

-- the input begins with a body, and goes on
pub record GoesOn (input : List ℕ) : Type 0 where
  pub value : List ℕ
  pub front : List ℕ
  pub more : List ℕ
  pub some : 0 < length more
  pub body : IsBody front value
  pub begins : input ≡ front ++ more

-- what a reading of the input answers: the value, or the one fault that it has
abbrev pub ReadsAs : List ℕ → Result (Bor (List ℕ)) PbFault → Type 0
ReadsAs input (Ok value) = IsBody input value.now
ReadsAs input (Err fault.Truncated) = IsCutShort input
ReadsAs input (Err fault.Tag) = HasOtherTag input
ReadsAs input (Err fault.Varint) = HasBadLength input
ReadsAs input (Err fault.Extra) = GoesOn input
