-- Names stay in the order of the numbers of their groups where that of the next group is put after them.
use Rattle.std.proofs.Common.{◌≡◌, ◌∙◌, ℕ, zero, suc, List, [], ◌∷◌, ◌++◌, length, map, Option, Some, None, Vec, Global, ap, subst, sym, refl}
use Rattle.std.specs.Prelude.{slice_get}
use Rattle.std.proofs.lemmas.Option.{none-some, same_Some}
use Rattle.peer_groups.specs.Names.{AreNumbered}

-- what holds of each name and of one more holds of all
with_more : (P : ℕ → List ℕ → Type 0) (names : List (List ℕ)) (more : List ℕ)
    → ((i : ℕ) (name : List ℕ) → slice_get names i ≡ Some name → P i name) → P (length names) more
    → (i : ℕ) (name : List ℕ) → slice_get (names ++ more ∷ []) i ≡ Some name → P i name
with_more P [] more each last zero name e = subst (P 0) (same_Some more name e) last
with_more P [] more each last (suc i) name e = absurd (none-some name e)
with_more P (n ∷ ns) more each last zero name e = each zero name e
with_more P (n ∷ ns) more each last (suc i) name e = with_more (λ j m. P (suc j) m) ns more (λ j m. each (suc j) m) last i name e

texts_more : (names : List (Vec ℕ Global)) (more : Vec ℕ Global) → map (λ n. n.items) (names ++ more ∷ []) ≡ map (λ n. n.items) names ++ more.items ∷ []
texts_more [] more = refl
texts_more (n ∷ ns) more = ap (λ v. n.items ∷ v) (texts_more ns more)

texts_length : (names : List (Vec ℕ Global)) → length (map (λ n. n.items) names) ≡ length names
texts_length [] = refl
texts_length (n ∷ ns) = ap suc (texts_length ns)

pub offered : (number_of : List ℕ → Option ℕ) (names : List (Vec ℕ Global)) (more : Vec ℕ Global) (name : List ℕ) (number : ℕ)
    → {all : List (Vec ℕ Global)} → all ≡ names ++ more ∷ [] → more.items ≡ name → Some number ≡ number_of name → number ≡ length names
    → AreNumbered number_of (map (λ n. n.items) names) → AreNumbered number_of (map (λ n. n.items) all)
offered number_of names more name number put copied found next each =
    let last : number_of more.items ≡ Some (length (map (λ n. n.items) names)) =
    ap number_of copied ∙ sym found ∙ ap Some (next ∙ sym (texts_length names)) in
    subst (AreNumbered number_of) (sym (ap (map (λ n. n.items)) put ∙ texts_more names more))
    (with_more (λ i m. number_of m ≡ Some i) (map (λ n. n.items) names) more.items each last)
