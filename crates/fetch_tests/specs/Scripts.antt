-- What a scripted network gives.
use Rattle.std.specs.Prelude.{◌≡◌, ℕ, List, [], ◌++◌}
use Rattle.std.proofs.Common.{zero, suc}

-- a text so many times
abbrev pub copies : List ℕ → ℕ → List ℕ
copies text zero = []
copies text (suc n) = copies text n ++ text

-- these bytes are whole copies of a text
abbrev pub IsCopies : List ℕ → List ℕ → Type 0
IsCopies text bytes = (n : ℕ) × (bytes ≡ copies text n)
