-- One that goes from a list to the end of another takes its weight along, and what it has.
use Rattle.std.proofs.Common.{◌≡◌, ℕ, ◌+◌, List, [], ◌∷◌, ◌++◌, All, arith, sum_by}
use Rattle.std.proofs.lemmas.List.Elements.{All-push, All-same}
use Rattle.peer_fill.proofs.Lasts.{sum_last}

pub moves : {X Y : Type 0} (f : X → ℕ) (h : Y → ℕ) (xs xs' : List X) (ys ys' : List Y) (y : Y) (w n : ℕ) → sum_by f xs ≡ sum_by f xs' + w
    → ys' ≡ ys ++ y ∷ [] → h y ≡ w → sum_by f xs + sum_by h ys ≡ n → sum_by f xs' + sum_by h ys' ≡ n
moves f h xs xs' ys ys' y w n less more same sum = omega (arith, less, sum_last h ys' ys y more, same, sum)

pub all_push : {X : Type 0} (P : X → Type 0) (ys ys' : List X) (y : X) → ys' ≡ ys ++ y ∷ [] → All P ys → P y → All P ys'
all_push P ys ys' y e h p = All-same P ys' (ys ++ y ∷ []) e (All-push P ys y h p)
