-- The first bytes of a key, copied to the front of a place for 64.
use Rattle.std.proofs.Common.{◌≡◌, ◌∙◌, ◌≤◌, ℕ, List, ◌++◌, length, take, min, ap, sym}
use Rattle.std.proofs.Math.Seq.{take-append_seam}
use Rattle.std.proofs.lemmas.List.{length-take-le, take_min}

pub started : (own rest key : List ℕ) (n : ℕ) → own ≡ take n key → n ≤ length key → n ≡ min 64 (length key) → take n (own ++ rest) ≡ take 64 key
started own rest key n same fits is =
    let len : length (take n key) ≡ n = length-take-le n key fits in
    ap (λ l. take n (l ++ rest)) same ∙ ap (λ m. take m (take n key ++ rest)) (sym len) ∙ take-append_seam (take n key) rest
    ∙ ap (λ m. take m key) is ∙ take_min 64 key
