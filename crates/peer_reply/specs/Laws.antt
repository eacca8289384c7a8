-- Laws of bodies, and of reading them.
use Rattle.std.specs.Prelude.{◌≡◌, ℕ, ◌≤◌, List, [], ◌++◌, length, Ok, Err}
use Rattle.std.specs.Borrow.{Bor}
use Rattle.peer_view.specs.Sinks.{MAX_VALUE}
use Rattle.peer_reply.specs.Bodies.{body_of}
use Rattle.peer_reply.specs.Responses.{ReadsAs}
use Rattle.peer_reply.specs.declared.response.PbFault.{PbFault}

-- no body is a proper prefix of another, and equal bodies have equal values
abbrev pub BodiesDiffer : Type 0
BodiesDiffer =
    (value other more : List ℕ) → length value ≤ MAX_VALUE → length other ≤ MAX_VALUE → body_of value ++ more ≡ body_of other
    → (more ≡ []) × (value ≡ other)

-- at most one fault applies ..
abbrev pub HasOneFault : Type 0
HasOneFault = (input : List ℕ) (f g : PbFault) → ReadsAs input (Err f) → ReadsAs input (Err g) → f ≡ g

-- .. and none to a body
abbrev pub BodyHasNoFault : Type 0
BodyHasNoFault = (input : List ℕ) (value : Bor (List ℕ)) (f : PbFault) → ReadsAs input (Ok value) → ReadsAs input (Err f) → ⊥
