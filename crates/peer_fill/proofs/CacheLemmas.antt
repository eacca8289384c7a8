-- What becomes of caches where the one of a group is looked into or changed.
use Rattle.std.proofs.Common.{◌≡◌, ℕ, zero, suc, List, [], ◌∷◌, Option, None, Some, Result, Ok, Err, IfOk, IfSome, OnOk, OnErr, refl, ap, sym, ◌∙◌}
use Rattle.std.proofs.Math.ListN.{set}
use Rattle.std.specs.List.{slice_get}
use Rattle.std.specs.Option.{option_map, option_map_or}
use Rattle.std.proofs.lemmas.Option.{none-some, same_Some}
use Rattle.peer_source.specs.Answers.{Filled}
use Rattle.peer_source.specs.Caches.{Cache, fill_of, found_fill, looked_up}
use Rattle.peer_fill.specs.Caches.{IsFoundFor, fill_in, kept_fill, with_cache}

set_self : (xs : List Cache) (n : ℕ) (c : Cache) → slice_get xs n ≡ Some c → set xs n c ≡ xs
set_self [] n c is = absurd (none-some c is)
set_self (x ∷ xs) zero c is = ap (λ (y : Cache). y ∷ xs) (sym (same_Some x c is))
set_self (x ∷ xs) (suc n) c is = ap (λ (ys : List Cache). x ∷ ys) (set_self xs n c is)

pub cached_here : (f : Cache → Cache) (xs : List Cache) (n : ℕ) (c : Cache) → slice_get xs n ≡ Some c → with_cache f n xs ≡ set xs n (f c)
cached_here f xs n c is = ap (λ (o : Option Cache). option_map_or (λ (d : Cache). set xs n (f d)) o xs) is

-- there is no such cache
pub cached_past : (f : Cache → Cache) (xs : List Cache) (n : ℕ) → slice_get xs n ≡ None → with_cache f n xs ≡ xs
cached_past f xs n is = ap (λ (o : Option Cache). option_map_or (λ (d : Cache). set xs n (f d)) o xs) is

-- where it did what f says, these are the caches with it so changed
pub ok_cached : {T E : Type 0} (r : Result T E) (f : Cache → Cache) (xs : List Cache) (n : ℕ) (c y : Cache) → slice_get xs n ≡ Some c
    → OnOk r (y ≡ f c) → OnOk r (set xs n y ≡ with_cache f n xs)
ok_cached (Ok v) f xs n c y is e = ap (set xs n) e ∙ sym (cached_here f xs n c is)
ok_cached (Err v) f xs n c y is e = e

-- where it failed and is as it was, so are the caches
pub err_same : {T E : Type 0} (r : Result T E) (xs : List Cache) (n : ℕ) (c y : Cache) → slice_get xs n ≡ Some c
    → OnErr r (y ≡ c) → OnErr r (set xs n y ≡ xs)
err_same (Ok v) xs n c y is e = e
err_same (Err v) xs n c y is e = ap (set xs n) e ∙ set_self xs n c is

-- what it gave is what the caches keep
pub ok_kept : {E : Type 0} (r : Result (Option Filled) E) (xs : List Cache) (n : ℕ) (key : List ℕ) (c : Cache) → slice_get xs n ≡ Some c
    → IfOk r (λ found. found ≡ fill_of key c) → IfOk r (λ found. found ≡ kept_fill xs n key)
ok_kept (Ok v) xs n key c is e = e ∙ sym (ap (fill_in key) is)
ok_kept (Err v) xs n key c is e = e

found_of : (o : Option (List ℕ)) (g n : ℕ) (key : List ℕ) (found : Option Filled) → g ≡ n → found ≡ option_map (found_fill g key) o
    → IfSome found (IsFoundFor n key)
found_of o g n key None same e = tt
found_of None g n key (Some f) same e = absurd (none-some f (sym e))
found_of (Some v) g n key (Some f) same e = (v, same_Some f (found_fill g key v) e ∙ ap (λ (k : ℕ). found_fill k key v) same)

-- it was found for this group and key
pub ok_found : {E : Type 0} (r : Result (Option Filled) E) (n : ℕ) (key : List ℕ) (c : Cache) → c.group ≡ n
    → IfOk r (λ found. found ≡ fill_of key c) → IfOk r (λ found. IfSome found (IsFoundFor n key))
ok_found (Ok v) n key c same e = found_of (looked_up key c) c.group n key v same e
ok_found (Err v) n key c same e = e

none_looked_up : {X Y : Type 0} (f : X → Y) (o : Option X) → option_map f o ≡ None → o ≡ None
none_looked_up f None e = refl
none_looked_up f (Some x) e = absurd (none-some (f x) (sym e))

-- where the caches keep nothing for the key, that one has no entry of it
pub none_kept : (xs : List Cache) (n : ℕ) (key : List ℕ) (c : Cache) → slice_get xs n ≡ Some c → kept_fill xs n key ≡ None → looked_up key c ≡ None
none_kept xs n key c is e = none_looked_up (found_fill c.group key) (looked_up key c) (sym (ap (fill_in key) is) ∙ e)

get_set : (xs : List Cache) (n : ℕ) (c y : Cache) → slice_get xs n ≡ Some c → slice_get (set xs n y) n ≡ Some y
get_set [] n c y is = absurd (none-some c is)
get_set (x ∷ xs) zero c y is = refl
get_set (x ∷ xs) (suc n) c y is = get_set xs n c y is

set_again : (xs : List Cache) (n : ℕ) (y z : Cache) → set (set xs n y) n z ≡ set xs n z
set_again [] n y z = refl
set_again (x ∷ xs) zero y z = refl
set_again (x ∷ xs) (suc n) y z = ap (λ (ys : List Cache). x ∷ ys) (set_again xs n y z)

-- where what f makes of one of them stays the same, so does what it makes of all
pub cached_same : (f : Cache → Cache) (xs : List Cache) (n : ℕ) (c y : Cache) → slice_get xs n ≡ Some c → f y ≡ f c
    → with_cache f n (set xs n y) ≡ with_cache f n xs
cached_same f xs n c y is same =
    cached_here f (set xs n y) n y (get_set xs n c y is)
    ∙ set_again xs n y (f y)
    ∙ ap (set xs n) same
    ∙ sym (cached_here f xs n c is)
