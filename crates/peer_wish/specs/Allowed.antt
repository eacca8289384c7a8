-- Which answers the replies may be of.
use Rattle.std.specs.Prelude.{◌≡◌, ℕ, List}
use Rattle.peer_source.specs.Answers.{Answer}

-- the answers that some source of a type may give
abbrev pub allows : (ℕ → List ℕ → Answer → Type 0) → ℕ → List ℕ → Answer → Type 0
allows allowed group key answer = ∥ allowed group key answer ∥₁

-- the one answer for each group and key
abbrev pub only : (ℕ → List ℕ → Answer) → ℕ → List ℕ → Answer → Type 0
only the_answer group key answer = answer ≡ the_answer group key
