-- What the words on the entries of a map give where keys are bytes.
use Rattle.std.proofs.Common.{◌≡◌, ℕ, zero, suc, ◌+◌, ◌-◌, ◌<◌, ◌≤◌, true, false, ◌⊎◌, List, [], ◌∷◌, length, take, slice_get, All}
use Rattle.std.proofs.Common.{Contains, Option, Some, None, refl, sym, ap, ◌∙◌, subst, inl, inr, arith}
use Rattle.std.specs.Prelude.{bytes_eq}
use Rattle.std.specs.Map.{lookup, lookup_entry}
use Rattle.std.proofs.lemmas.Slice.Eq.{bytes_eq-Decides}
use Rattle.std.proofs.lemmas.Option.{none-some, same_Some}
use Rattle.std.proofs.lemmas.List.{take_all}
use Rattle.std.proofs.lemmas.List.Elements.{All-weaker, All-contains_itself, All-contains}
use Rattle.lru.specs.LruCache.{LruCache, promoted, put_entries, displaced}
use Rattle.lru.proofs.CallerLemmas.{Contains-remove_entry, Contains-lookup_entry}
use Rattle.peer_source.specs.Caches.{Entry, bytes_of, bytes_in, without}

-- what holds of each entry holds of the others than the one with the key
pub All-without : (P : Entry → Type 0) (k : List ℕ) (es : List Entry) → All P es → All P (without k es)
All-without P k es all =
    All-weaker (Contains (without k es)) P (λ e here. All-contains P es e all (Contains-remove_entry (bytes_eq k) es e here)) (without k es)
    (All-contains_itself (without k es))

-- the entry first, and the others, as far as there is room
abbrev pub first_of : ℕ → List ℕ → List ℕ → List Entry → List Entry
first_of cap k v es = take cap ((k, v) ∷ without k es)

pub take_first : (cap : ℕ) (e : Entry) (es : List Entry) → 0 < cap → take cap (e ∷ es) ≡ e ∷ take (cap - 1) es
take_first cap e es some = let more : cap ≡ suc (cap - 1) = omega arith in ap (λ n. take n (e ∷ es)) more

-- the first entry is found for its key, and promoting it changes nothing
pub record IsFound (k : List ℕ) (es : List Entry) (e : Entry) : Type 0 where
  pub entry : lookup_entry (bytes_eq k) es ≡ Some e
  pub stays : promoted (bytes_eq k) es ≡ es

pub first_found : (k v : List ℕ) (es : List Entry) → slice_get es 0 ≡ Some (k, v) → IsFound k es (k, v)
first_found k v [] none = absurd (let e : None ≡ Some (k, v) = none in cc)
first_found k v (e ∷ es) first =
    let same : e ≡ (k, v) = same_Some e (k, v) first in
    let passes : bytes_eq k e.0 ≡ true = (bytes_eq-Decides k e.0).1 (sym (ap (λ (x : Entry). x.0) same)) in
    record { entry = rw passes (ap Some same); stays = rw passes refl }

-- no entry has the key
pub record IsMissing (k : List ℕ) (es : List Entry) : Type 0 where
  pub value : lookup (bytes_eq k) es ≡ None
  pub entry : lookup_entry (bytes_eq k) es ≡ None
  pub others : without k es ≡ es

module _ (each : ℕ) where
  -- the entry with the key has the value v
  pub record IsThere (k : List ℕ) (es : List Entry) (v : List ℕ) : Type 0 where
    pub value : lookup (bytes_eq k) es ≡ Some v
    pub entry : lookup_entry (bytes_eq k) es ≡ Some (k, v)
    pub sum : bytes_of each (k, v) + bytes_in each (without k es) ≡ bytes_in each es
    pub size : suc (length (without k es)) ≡ length es

  abbrev Cases : List ℕ → List Entry → Type 0
  Cases k es = IsMissing k es ⊎ ((v : List ℕ) × IsThere k es v)

  -- the first entry has the key
  at_first : (k : List ℕ) (e : Entry) (es : List Entry) → bytes_eq k e.0 ≡ true → IsThere k (e ∷ es) e.1
  at_first k e es passes =
      let key : k ≡ e.0 = (bytes_eq-Decides k e.0).0 passes in
      record {
        value = rw passes;
        entry = rw passes (ap (λ q. Some (q, e.1)) (sym key));
        sum = rw passes (ap (λ q. bytes_of each (q, e.1) + bytes_in each es) key);
        size = rw passes;
      }

  -- the first entry has another key
  behind_first : (k : List ℕ) (e : Entry) (es : List Entry) → bytes_eq k e.0 ≡ false → Cases k es → Cases k (e ∷ es)
  behind_first k e es fails (inl none) = inl (record {
    value = rw fails none.value;
    entry = rw fails none.entry;
    others = rw fails (ap (λ l. e ∷ l) none.others);
  })
  behind_first k e es fails (inr some) = let there = some.1 in inr (
    some.0,
    record {
      value = rw fails there.value;
      entry = rw fails there.entry;
      sum = rw fails (omega (arith, there.sum));
      size = rw fails (ap suc there.size);
    },
  )

  -- an entry has the key or none has
  pub cases_key : (k : List ℕ) (es : List Entry) → Cases k es
  cases_key k [] = inl (record { value = refl; entry = refl; others = refl })
  cases_key k (e ∷ es) =
      (elim (bytes_eq k e.0) as (λ b. bytes_eq k e.0 ≡ b → Cases k (e ∷ es)) [
        | true ↦ λ passes. inr (e.1, at_first k e es passes)
        | false ↦ λ fails. behind_first k e es fails (cases_key k es)
      ]) refl

  -- what holds of each entry holds of the one with the key
  pub All-there : (P : Entry → Type 0) (k : List ℕ) (es : List Entry) (v : List ℕ) → All P es → IsThere k es v → P (k, v)
  All-there P k es v all there = All-contains P es (k, v) all (Contains-lookup_entry (bytes_eq k) es (k, v) there.entry).0

  -- the bytes of an entry that may be there
  abbrev pub bytes_left : Option Entry → ℕ
  bytes_left None = 0
  bytes_left (Some e) = bytes_of each e

  -- the entry at n goes, where none is behind it
  at_end : (n : ℕ) (es : List Entry) → length es ≤ suc n → bytes_left (slice_get es n) + bytes_in each (take n es) ≡ bytes_in each es
  at_end zero [] short = refl
  at_end zero (e ∷ []) short = omega arith
  at_end zero (e ∷ f ∷ es) short = absurd (omega arith)
  at_end (suc n) [] short = refl
  at_end (suc n) (e ∷ es) short = omega (arith, at_end n es (omega arith))

  -- what `push` leaves and hands back
  pub record Pushes (c : LruCache (List ℕ) (List ℕ)) (k v : List ℕ) : Type 0 where
    pub entries : put_entries bytes_eq c k v ≡ first_of c.cap k v c.entries
    pub first : bytes_in each (first_of c.cap k v c.entries) ≡ bytes_of each (k, v) + bytes_in each (take (c.cap - 1) (without k c.entries))
    pub others : bytes_left (displaced bytes_eq c k v) + bytes_in each (take (c.cap - 1) (without k c.entries)) ≡ bytes_in each c.entries

  pub pushes : (c : LruCache (List ℕ) (List ℕ)) (k v : List ℕ) → length c.entries ≤ c.cap → 0 < c.cap → Pushes c k v
  pushes c k v most some =
      elim (cases_key k c.entries) [
        | inl none ↦ record {
          entries = rw (none.entry, none.others) (sym (take_first c.cap (k, v) c.entries some));
          first = ap (bytes_in each) (take_first c.cap (k, v) (without k c.entries) some);
          others = rw (none.value, none.others) (at_end (c.cap - 1) c.entries (omega arith));
        }
        | inr there ↦
            let all : take (c.cap - 1) (without k c.entries) ≡ without k c.entries =
            take_all (c.cap - 1) (without k c.entries) (omega (arith, there.1.size)) in
            record {
              entries = rw there.1.entry (sym (take_first c.cap (k, v) (without k c.entries) some ∙ ap (λ l. (k, v) ∷ l) all));
              first = ap (bytes_in each) (take_first c.cap (k, v) (without k c.entries) some);
              others = rw (there.1.value, all) there.1.sum;
            }
      ]

  -- an entry that is found has the key
  pub found_there : (k : List ℕ) (es : List Entry) (e : Entry) → Some e ≡ lookup_entry (bytes_eq k) es → (k ≡ e.0) × IsThere k es e.1
  found_there k es e found =
      let key : k ≡ e.0 = (bytes_eq-Decides k e.0).0 (Contains-lookup_entry (bytes_eq k) es e (sym found)).1 in
      elim (cases_key k es) [
        | inl none ↦ absurd (none-some e (sym none.entry ∙ sym found))
        | inr there ↦
            let same : (k, there.0) ≡ e = same_Some (k, there.0) e (sym there.1.entry ∙ sym found) in
            (key, subst (IsThere k es) (ap (λ (x : Entry). x.1) same) there.1)
      ]

  -- a value that is found is that of the entry with the key
  pub value_there : (k : List ℕ) (es : List Entry) (v : List ℕ) → Some v ≡ lookup (bytes_eq k) es → IsThere k es v
  value_there k es v found =
      elim (cases_key k es) [
        | inl none ↦ absurd (none-some v (sym none.value ∙ sym found))
        | inr there ↦ let same : there.0 ≡ v = same_Some there.0 v (sym there.1.value ∙ sym found) in subst (IsThere k es) same there.1
      ]

  -- where the value that is looked up is missing, so is the entry
  pub none_found : (k : List ℕ) (es : List Entry) → None ≡ lookup_entry (bytes_eq k) es → IsMissing k es
  none_found k es none =
      elim (cases_key k es) [
        | inl missing ↦ missing
        | inr there ↦ absurd (none-some (k, there.0) (none ∙ there.1.entry))
      ]

  -- the entry that is there comes to the front
  pub promoted_there : (k : List ℕ) (es : List Entry) (v : List ℕ) → IsThere k es v → promoted (bytes_eq k) es ≡ (k, v) ∷ without k es
  promoted_there k es v there = rw there.entry
