-- Texts of the elements of a list that were appended one after the other.
use Rattle.std.proofs.Common.{◌≡◌, ◌∙◌, ℕ, ◌+◌, ◌<◌, List, ◌++◌, length, flat_map, get_or, take, ap, sym}
use Rattle.std.proofs.lemmas.List.{flat_map_more, take_more}

pub one_more : {X : Type 0} (f : X → List ℕ) (page : List ℕ) (xs : List X) (i : ℕ) (d : X) → {now next : List ℕ} → i < length xs
    → now ≡ page ++ flat_map f (take i xs) → next ≡ now ++ f (get_or xs i d) → next ≡ page ++ flat_map f (take (i + 1) xs)
one_more f page xs i d within before after =
    after ∙ ap (λ v. v ++ f (get_or xs i d)) before ∙ flat_map_more f page (take i xs) (get_or xs i d)
    ∙ ap (λ v. page ++ flat_map f v) (sym (take_more xs i d within))
