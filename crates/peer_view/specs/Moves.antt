-- What a read and a write do to what is known of a reader and a writer.
use Rattle.std.specs.Prelude.{◌≡◌, ℕ, ◌+◌, List, [], ◌++◌, take, length, cond, eqb, ltb, ◌&&◌, Ok, Err, Result, Option}
use Rattle.std.specs.Io.KnownBytes.{Appends}

-- the bytes that a call moved: the first n of the slice at `Ok(n)`, none at `Err`
abbrev pub moved : {E : Type 0} → Result ℕ E → List ℕ → List ℕ
moved (Ok n) xs = take n xs
moved (Err e) xs = []

-- 1 where the call failed
abbrev pub failure_count : {E : Type 0} → Result ℕ E → ℕ
failure_count (Ok n) = 0
failure_count (Err e) = 1

-- 1 where the call told the end: no byte into a room that is not empty
abbrev pub end_count : {E : Type 0} → Result ℕ E → List ℕ → ℕ
end_count (Ok n) room = cond (eqb n 0 && ltb 0 (length room)) 1 0
end_count (Err e) room = 0

-- known bytes grew by a front of `before`, and `after` is what is left of it
abbrev pub Moves : Option (List ℕ) → Option (List ℕ) → List ℕ → List ℕ → Type 0
Moves old new before after = (p : List ℕ) × Appends old new p × (p ++ after ≡ before)

-- a call moved the front of `before` out: all but `after` at `Ok`, some of it at `Err`, with one failure more
abbrev pub Sends : {E : Type 0} → Result Unit E → ℕ → ℕ → Option (List ℕ) → Option (List ℕ) → List ℕ → List ℕ → Type 0
Sends (Ok done) failures failures' old new before after = Moves old new before after × (failures' ≡ failures)
Sends (Err e) failures failures' old new before after = ((q : List ℕ) × Moves old new before q) × (failures' ≡ failures + 1)
