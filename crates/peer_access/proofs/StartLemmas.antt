-- The first bytes of a text, copied to the front of a place for 256.
use Rattle.std.proofs.Common.{◌≡◌, ◌∙◌, ◌≤◌, ℕ, List, ◌++◌, length, take, min, ap, sym}
use Rattle.std.proofs.Math.Seq.{take-append_seam}
use Rattle.std.proofs.lemmas.List.{length-take-le, take_min}

pub started : (own rest text : List ℕ) (n : ℕ) → own ≡ take n text → n ≤ length text → n ≡ min 256 (length text) → take n (own ++ rest) ≡ take 256 text
started own rest text n same fits is =
    let len : length (take n text) ≡ n = length-take-le n text fits in
    ap (λ l. take n (l ++ rest)) same ∙ ap (λ m. take m (take n text ++ rest)) (sym len) ∙ take-append_seam (take n text) rest
    ∙ ap (λ m. take m text) is ∙ take_min 256 text
