-- How far bytes are visible ASCII.
use Rattle.std.proofs.Common.{◌≡◌, ℕ, ◌<◌, Bool, true, false, List, get_or, All, ◌⊎◌}
use Rattle.peer_head.specs.Heads.{IsVisible}

-- the bytes before a place are visible, or not all of them are, whatever follows
abbrev pub VisibleUpTo : List ℕ → ℕ → Bool → Type 0
VisibleUpTo xs i visible = ((visible ≡ true) × ((k : ℕ) → k < i → IsVisible (get_or xs k 0))) ⊎ ((visible ≡ false) × (All IsVisible xs → ⊥))
