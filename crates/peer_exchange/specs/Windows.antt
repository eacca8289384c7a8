-- How many tickets of an exchange may wait.
use Rattle.std.specs.Prelude.{ℕ, ◌*◌, ◌/◌, min, max, List, [], ◌∷◌, length}

-- behind a reply of so many bytes: as many as such replies fill 64 KiB, at most twice what it was, and 1 to 64
abbrev pub window_after : ℕ → ℕ → ℕ
window_after len tickets = max (min (65536 / max len 1) (min (2 * tickets) 64)) 1

-- behind these replies
abbrev pub window_behind : List (List ℕ) → ℕ → ℕ
window_behind [] tickets = tickets
window_behind (r ∷ rs) tickets = window_behind rs (window_after (length r) tickets)
