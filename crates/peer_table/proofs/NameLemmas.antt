-- Names, and their numbers.
use Rattle.std.proofs.Common.{◌≡◌, ℕ, ◌+◌, ◌<◌, ◌≤◌, Bool, true, false, ◌||◌, cond, List, [], ◌∷◌, ◌++◌, length, Option, Some}
use Rattle.std.proofs.Common.{None, Vec, refl, sym, ap, ◌∙◌, subst, arith, length-append}
use Rattle.std.specs.Prelude.{bytes_eq, is_some}
use Rattle.std.specs.List.{list_any, position_from}
use Rattle.std.specs.Map.{lookup, IsKeyTest, AreApart, KeepsOthers}
use Rattle.std.specs.HashMap.{UpdatesBy}
use Rattle.std.specs.declared.alloc.Global.{Global}
use Rattle.std.specs.Cmp.Lexicographic.{nat_list_eq_equiv}
use Rattle.std.proofs.lemmas.Slice.Eq.{bytes_eq-Decides}
use Rattle.std.proofs.lemmas.Option.{none-some}
use Rattle.peer_table.specs.Indexes.{AreNumbers, Numbers, PutsName, number_at}
use Rattle.peer_table.specs.Tables.{MAX_GROUPS}

-- two byte strings are the same, or the test says that they are not
pub data Same (a b : List ℕ) : Type 0 where
  same : a ≡ b → bytes_eq a b ≡ true → Same a b
  other : bytes_eq a b ≡ false → bytes_eq b a ≡ false → Same a b

pub same_or_other : (a b : List ℕ) → Same a b
same_or_other a b =
    (elim (bytes_eq a b) as (λ v. bytes_eq a b ≡ v → Same a b) [
      | true ↦ λ e. same ((bytes_eq-Decides a b).0 e) e
      | false ↦ λ e. other e (nat_list_eq_equiv.symm b a ∙ e)
    ]) refl

-- a vector's test of another
abbrev pub vec_eq : Vec ℕ Global → Vec ℕ Global → Bool
vec_eq a b = bytes_eq a.items b.items

keeps_others : {K X : Type 0} (eq : K → K → Bool) (test : K → Bool) (old new : List (K × X)) → KeepsOthers eq test old new
    → (other : K → Bool) → IsKeyTest eq other → AreApart test other → lookup other new ≡ lookup other old
unfolding KeepsOthers
keeps_others eq test old new h = h

-- what an insertion leaves for each name
pub number_put : (old new : Numbers) (key : Vec ℕ Global) (v : ℕ) → UpdatesBy vec_eq (vec_eq key) old new (Some v) → (q : List ℕ)
    → number_at new q ≡ cond (bytes_eq key.items q) (Some v) (number_at old q)
number_put old new key v h q =
    elim (same_or_other key.items q) [
      | same e passes ↦ rw passes (subst (λ l. number_at new l ≡ Some v) e h.1)
      | other fails fails' ↦
          rw fails (keeps_others vec_eq (vec_eq key) old.entries new.entries h.3 (λ (k : Vec ℕ Global). bytes_eq q k.items)
          (λ x y. nat_list_eq_equiv.congr q x.items y.items)
          (λ k passes. nat_list_eq_equiv.symm q k.items ∙ sym (nat_list_eq_equiv.congr key.items k.items q passes) ∙ fails))
    ]

-- the place of the first that passes, or else the other
abbrev pub or_else : {A : Type 0} → Option A → Option A → Option A
or_else None later = later
or_else (Some x) later = Some x

-- one more at the end
pub position-push : (t : List ℕ → Bool) (i : ℕ) (xs : List (List ℕ)) (x : List ℕ)
    → position_from t i (xs ++ x ∷ []) ≡ or_else (position_from t i xs) (cond (t x) (Some (i + length xs)) None)
position-push t i [] x = ap (λ n. cond (t x) (Some n) None) (omega arith)
position-push t i (y ∷ xs) x =
    elim (t y) as (λ v. cond v (Some i) (position_from t (i + 1) (xs ++ x ∷ []))
    ≡ or_else (cond v (Some i) (position_from t (i + 1) xs)) (cond (t x) (Some (i + length (y ∷ xs))) None)) [
      | true ↦ refl
      | false ↦ position-push t (i + 1) xs x ∙ ap (λ n. or_else (position_from t (i + 1) xs) (cond (t x) (Some n) None)) (omega arith)
    ]

-- a name has a number where it is among the names
pub numbered : (t : List ℕ → Bool) (i : ℕ) (xs : List (List ℕ)) → is_some (position_from t i xs) ≡ list_any t xs
numbered t i [] = refl
numbered t i (x ∷ xs) =
    elim (t x) as (λ v. is_some (cond v (Some i) (position_from t (i + 1) xs)) ≡ (v || list_any t xs)) [
      | true ↦ refl
      | false ↦ numbered t (i + 1) xs
    ]

pub missing : {A : Type 0} (o : Option A) → is_some o ≡ false → o ≡ None
missing None h = refl
missing (Some x) h = cc

-- a number is below how many there are
pub position_below : (t : List ℕ → Bool) (i : ℕ) (xs : List (List ℕ)) (j : ℕ) → position_from t i xs ≡ Some j → j < i + length xs
position_below t i [] j h = absurd (none-some j h)
position_below t i (x ∷ xs) j h =
    (elim (t x) as (λ v. cond v (Some i) (position_from t (i + 1) xs) ≡ Some j → j < i + length (x ∷ xs)) [
      | true ↦ λ e. let same : i ≡ j = cc in omega arith
      | false ↦ λ e. let on = position_below t (i + 1) xs j e in omega arith
    ]) h

-- a name that is there stays
pub name_there : (numbers : Numbers) (names : List (List ℕ)) (name : List ℕ) → true ≡ is_some (number_at numbers name)
    → PutsName numbers numbers names names name true
name_there numbers names name there are =
    let among : list_any (bytes_eq name) names ≡ true = sym (numbered (bytes_eq name) 0 names) ∙ ap is_some (sym (are name)) ∙ sym there in
    (are, rw among, λ few. few)

-- a name that has no place
name_new : (numbers : Numbers) (names : List (List ℕ)) (name : List ℕ) → is_some (number_at numbers name) ≡ false → AreNumbers numbers names
    → list_any (bytes_eq name) names ≡ false
name_new numbers names name new are = sym (numbered (bytes_eq name) 0 names) ∙ ap is_some (sym (are name)) ∙ new

pub name_too_many : (numbers : Numbers) (names : List (List ℕ)) (name : List ℕ) → is_some (number_at numbers name) ≡ false
    → MAX_GROUPS ≤ length names → PutsName numbers numbers names names name false
name_too_many numbers names name new full are =
    rw (name_new numbers names name new are) (omega (arith, length-append names (name ∷ [])))

-- a new name gets the next number
pub name_put : (old new : Numbers) (names : List (List ℕ)) (name : List ℕ)
    → ((q : List ℕ) → number_at new q ≡ cond (bytes_eq name q) (Some (length names)) (number_at old q))
    → is_some (number_at old name) ≡ false → length names < MAX_GROUPS
    → PutsName old new names (names ++ name ∷ []) name true
name_put old new names name at fresh few are =
    let none = name_new old names name fresh are in (
      λ q. elim (same_or_other name q) [
        | same e passes ↦
            let gone : position_from (bytes_eq q) 0 names ≡ None =
            ap (λ l. position_from (bytes_eq l) 0 names) (sym e) ∙ missing _ (numbered (bytes_eq name) 0 names ∙ none) in
            let hit : bytes_eq q name ≡ true = nat_list_eq_equiv.symm q name ∙ passes in
            at q ∙ rw passes (sym (position-push (bytes_eq q) 0 names name ∙ rw (gone, hit) (ap (λ n. Some n) (omega arith))))
        | other fails fails' ↦
            at q ∙ rw fails (are q ∙ sym (position-push (bytes_eq q) 0 names name ∙ rw fails' (stays (position_from (bytes_eq q) 0 names))))
      ],
      rw none,
      λ _. omega (arith, length-append names (name ∷ [])),
    ) where
      stays : (o : Option ℕ) → or_else o None ≡ o
      stays None = refl
      stays (Some x) = refl
