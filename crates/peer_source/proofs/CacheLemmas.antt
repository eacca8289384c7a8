-- What a cache keeps when an entry comes to the front, and when one is put there.
use Rattle.std.proofs.Common.{◌≡◌, ℕ, ◌+◌, ◌-◌, ◌<◌, ◌≤◌, Bool, true, List, ◌∷◌, ◌++◌, take, drop, None, refl, sym, ap, ◌∙◌}
use Rattle.std.proofs.Common.{subst, inl, inr, arith}
use Rattle.std.specs.Prelude.{nat_le, bytes_eq}
use Rattle.std.specs.Map.{lookup, lookup_entry}
use Rattle.std.proofs.lemmas.Bool.{le-leb}
use Rattle.std.proofs.lemmas.Option.{none-some}
use Rattle.std.proofs.lemmas.List.{length-take}
use Rattle.std.proofs.lemmas.List.Elements.{All-cons, All-take}
use Rattle.lru.specs.LruCache.{LruCache, lru_cache, promoted}
use Rattle.peer_source.specs.Answers.{Answer}
use Rattle.peer_source.specs.Caches.{Cache, Entry, IsAnswer, Keeps, bytes_of, bytes_in, brought_to_front}
use Rattle.peer_source.specs.Caches.{fitting, put_first, without}
use Rattle.peer_source.proofs.EntryLemmas.{All-there, All-without, cases_key, first_of, promoted_there, take_first}
use Rattle.peer_source.proofs.FittingLemmas.{All-fitting, length-fitting}

abbrev pub Kept : Type 0
Kept = LruCache (List ℕ) (List ℕ)

-- the cache with these bounds and entries
abbrev pub cache_of : ℕ → ℕ → ℕ → Bool → Kept → Cache
cache_of group limit each clears kept =
    record { group = group; limit = limit; most = kept.cap; each = each; clears = clears; entries = kept.entries }

-- where no value is found for a key, no entry is
pub missing_entry : (k : List ℕ) (es : List Entry) → lookup (bytes_eq k) es ≡ None → lookup_entry (bytes_eq k) es ≡ None
missing_entry k es missing =
    elim (cases_key 0 k es) [
      | inl none ↦ none.entry
      | inr there ↦ absurd (none-some there.0 (sym missing ∙ there.1.value))
    ]

module _ (group limit each : ℕ) (clears : Bool) (kept new : Kept) (k : List ℕ)
    (moved : new ≡ lru_cache (promoted (bytes_eq k) kept.entries) kept.cap) where
  -- what is kept is the same in another order
  pub Keeps-front : (allowed : ℕ → List ℕ → Answer → Type 0) (bytes : ℕ) → Keeps allowed group limit each bytes kept
      → Keeps allowed group limit each bytes new
  Keeps-front allowed bytes old =
      subst (Keeps allowed group limit each bytes) (sym moved)
      (elim (cases_key each k kept.entries) [
        | inl none ↦
            let same : promoted (bytes_eq k) kept.entries ≡ kept.entries = rw none.entry refl in
            subst (λ es. Keeps allowed group limit each bytes (lru_cache es kept.cap)) (sym same) old
        | inr there ↦
            let P = IsAnswer allowed group in
            let first : promoted (bytes_eq k) kept.entries ≡ (k, there.0) ∷ without k kept.entries =
            promoted_there each k kept.entries there.0 there.1 in
            subst (λ es. Keeps allowed group limit each bytes (lru_cache es kept.cap)) (sym first) (record {
              sum = old.sum ∙ sym there.1.sum;
              within = old.within;
              some = old.some;
              most = omega (arith, old.most, there.1.size);
              off = λ zero. absurd (none-some there.0 (ap (lookup (bytes_eq k)) (sym (old.off zero)) ∙ there.1.value));
              answers = All-cons P (k, there.0) (without k kept.entries) (All-there each P k kept.entries there.0 old.answers there.1)
                  (All-without P k kept.entries old.answers);
            })
      ])

  pub cache_of-front : cache_of group limit each clears new ≡ brought_to_front k (cache_of group limit each clears kept)
  cache_of-front =
      ap (cache_of group limit each clears) moved
      ∙ elim (cases_key each k kept.entries) [
        | inl none ↦ rw (none.entry, none.value) refl
        | inr there ↦ rw (there.1.entry, there.1.value) refl
      ]

-- an entry that fits is first, and behind it what fits beside it
pub fitting_first : (each limit room : ℕ) (e : Entry) (es : List Entry) → room + bytes_of each e ≡ limit
    → fitting each limit (e ∷ es) ≡ e ∷ fitting each room es
fitting_first each limit room e es beside =
    let fits : nat_le (bytes_of each e) limit ≡ true = le-leb (bytes_of each e) limit (omega arith) in
    let left : limit - bytes_of each e ≡ room = omega arith in
    rw (fits, left)

-- behind the entry that was put first there is what the others take
pub behind_first : (each : ℕ) (kept put : Kept) (k v : List ℕ) (others : ℕ) → 0 < kept.cap
    → put ≡ lru_cache (first_of kept.cap k v kept.entries) kept.cap → others + bytes_of each (k, v) ≡ bytes_in each put.entries
    → others ≡ bytes_in each (drop 1 put.entries)
behind_first each kept put k v others some first counted =
    let is = first ∙ ap (λ es. lru_cache es kept.cap) (take_first kept.cap (k, v) (without k kept.entries) some) in
    rw is (omega (arith, counted, ap (λ (m : Kept). bytes_in each m.entries) is))

module _ (each : ℕ) (kept put new : Kept) (k v : List ℕ) (limit room others : ℕ)
    (some : 0 < kept.cap)
    (first : put ≡ lru_cache (first_of kept.cap k v kept.entries) kept.cap)
    (evicted : new ≡ lru_cache (take 1 put.entries ++ fitting each room (drop 1 put.entries)) put.cap)
    (counted : others ≡ bytes_in each (fitting each room (drop 1 put.entries)))
    (beside : room + bytes_of each (k, v) ≡ limit) where
  put_is : put ≡ lru_cache ((k, v) ∷ take (kept.cap - 1) (without k kept.entries)) kept.cap
  put_is = first ∙ ap (λ es. lru_cache es kept.cap) (take_first kept.cap (k, v) (without k kept.entries) some)

  new_is : new ≡ lru_cache ((k, v) ∷ fitting each room (take (kept.cap - 1) (without k kept.entries))) kept.cap
  new_is = evicted ∙ ap (λ (m : Kept). lru_cache (take 1 m.entries ++ fitting each room (drop 1 m.entries)) m.cap) put_is

  fits_is : fitting each limit (first_of kept.cap k v kept.entries)
      ≡ (k, v) ∷ fitting each room (take (kept.cap - 1) (without k kept.entries))
  fits_is =
      ap (fitting each limit) (take_first kept.cap (k, v) (without k kept.entries) some)
      ∙ fitting_first each limit room (k, v) (take (kept.cap - 1) (without k kept.entries)) beside

  fits : nat_le (bytes_of each (k, v)) limit ≡ true
  fits = le-leb (bytes_of each (k, v)) limit (omega (arith, beside))

  pub cache_of-put : (group : ℕ) (clears : Bool)
      → cache_of group limit each clears new ≡ put_first k v (cache_of group limit each clears kept)
  cache_of-put group clears =
      rw fits
      (ap (cache_of group limit each clears) new_is
      ∙ ap (λ es. cache_of group limit each clears (lru_cache es kept.cap)) (sym fits_is))

  -- what is kept is the entry, and behind it what fits beside it
  pub Keeps-put : (allowed : ℕ → List ℕ → Answer → Type 0) (group bytes : ℕ) → Keeps allowed group limit each bytes kept
      → IsAnswer allowed group (k, v) → 0 < limit → others ≤ room → Keeps allowed group limit each (others + (limit - room)) new
  Keeps-put allowed group bytes old answer on small =
      let P = IsAnswer allowed group in
      let rest = take (kept.cap - 1) (without k kept.entries) in
      let sum : others ≡ bytes_in each (fitting each room rest) =
      counted ∙ ap (λ (m : Kept). bytes_in each (fitting each room (drop 1 m.entries))) put_is in
      subst (Keeps allowed group limit each (others + (limit - room))) (sym new_is) (record {
        sum = omega (arith, sum, beside);
        within = omega (arith, beside, small);
        some = some;
        off = λ zero. absurd (omega (arith, on, zero));
        most = omega (arith, length-fitting each room rest, length-take (kept.cap - 1) (without k kept.entries), some);
        answers = All-cons P (k, v) (fitting each room rest) answer
            (All-fitting each P room rest (All-take P (kept.cap - 1) (without k kept.entries) (All-without P k kept.entries old.answers)));
      })
