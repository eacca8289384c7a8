-- What fits a room, and what the last entry takes away.
use Rattle.std.proofs.Common.{◌≡◌, ℕ, suc, ◌+◌, ◌-◌, ◌<◌, ◌≤◌, true, false, cond, List, [], ◌∷◌, ◌++◌, length, take, drop}
use Rattle.std.proofs.Common.{slice_get, All, Some, None, refl, sym, ap, ◌∙◌, arith}
use Rattle.std.specs.Prelude.{nat_le}
use Rattle.std.proofs.lemmas.Bool.{le-leb, leb-true}
use Rattle.std.proofs.lemmas.Option.{none-some, same_Some}
use Rattle.std.proofs.lemmas.List.Elements.{All-nil, All-cons, All-head, All-tail}
use Rattle.std.proofs.lemmas.List.{take-append-drop}
use Rattle.lru.specs.LruCache.{LruCache, lru_cache, last_entry}
use Rattle.peer_source.specs.Caches.{Entry, bytes_of, bytes_in, fitting}

-- the entries but the last
abbrev pub but_last : List Entry → List Entry
but_last es = take (length es - 1) es

but_last-cons : (e f : Entry) (es : List Entry) → but_last (e ∷ f ∷ es) ≡ e ∷ but_last (f ∷ es)
but_last-cons e f es =
    let more : length (e ∷ f ∷ es) - 1 ≡ suc (length (f ∷ es) - 1) = omega arith in
    ap (λ n. take n (e ∷ f ∷ es)) more

last_entry-cons : (e f : Entry) (es : List Entry) → last_entry (e ∷ f ∷ es) ≡ last_entry (f ∷ es)
last_entry-cons e f es =
    let more : length (e ∷ f ∷ es) - 1 ≡ suc (length (f ∷ es) - 1) = omega arith in
    ap (slice_get (e ∷ f ∷ es)) more

pub length-but_last : (e : Entry) (es : List Entry) → length (but_last (e ∷ es)) ≡ length es
length-but_last e [] = refl
length-but_last e (f ∷ es) = ap length (but_last-cons e f es) ∙ ap suc (length-but_last f es)

has_some : (f : Entry) (es : List Entry) → last_entry (f ∷ es) ≡ None → ⊥
has_some f [] none = none-some f (sym none)
has_some f (g ∷ es) none = has_some g es (sym (last_entry-cons f g es) ∙ none)

-- a map with these entries and this capacity
pub same_cache : {c : LruCache (List ℕ) (List ℕ)} {es : List Entry} {n : ℕ} → c.entries ≡ es → c.cap ≡ n → c ≡ lru_cache es n
same_cache entries cap = λ i. record { entries = entries i; cap = cap i }

module _ (each : ℕ) where
  -- entries that are not larger than the room fit
  pub fitting_all : (room : ℕ) (es : List Entry) → bytes_in each es ≤ room → fitting each room es ≡ es
  fitting_all room [] small = refl
  fitting_all room (e ∷ es) small =
      let fits : nat_le (bytes_of each e) room ≡ true = le-leb (bytes_of each e) room (omega arith) in
      rw fits (ap (λ l. e ∷ l) (fitting_all (room - bytes_of each e) es (omega arith)))

  -- what fits is not larger than the room
  pub bytes_in-fitting : (room : ℕ) (es : List Entry) → bytes_in each (fitting each room es) ≤ room
  bytes_in-fitting room [] = omega arith
  bytes_in-fitting room (e ∷ es) =
      (elim (nat_le (bytes_of each e) room) as (λ b. nat_le (bytes_of each e) room ≡ b
      → bytes_in each (cond b (e ∷ fitting each (room - bytes_of each e) es) []) ≤ room) [
        | true ↦ λ fits. omega (arith, leb-true (bytes_of each e) room fits, bytes_in-fitting (room - bytes_of each e) es)
        | false ↦ λ _. omega arith
      ]) refl

  -- what fits is not longer
  pub length-fitting : (room : ℕ) (es : List Entry) → length (fitting each room es) ≤ length es
  length-fitting room [] = omega arith
  length-fitting room (e ∷ es) =
      elim (nat_le (bytes_of each e) room) as (λ b. length (cond b (e ∷ fitting each (room - bytes_of each e) es) []) ≤ length (e ∷ es)) [
        | true ↦ omega (arith, length-fitting (room - bytes_of each e) es)
        | false ↦ omega arith
      ]

  -- what holds of all holds of what fits
  pub All-fitting : (P : Entry → Type 0) (room : ℕ) (es : List Entry) → All P es → All P (fitting each room es)
  All-fitting P room [] all = all
  All-fitting P room (e ∷ es) all =
      elim (nat_le (bytes_of each e) room) as (λ b. All P (cond b (e ∷ fitting each (room - bytes_of each e) es) [])) [
        | true ↦ All-cons P e (fitting each (room - bytes_of each e) es) (All-head P e es all)
            (All-fitting P (room - bytes_of each e) es (All-tail P e es all))
        | false ↦ All-nil P
      ]

  -- without the last, what fits is the same, where not all fits
  pub fitting-but_last : (room : ℕ) (es : List Entry) → room < bytes_in each es → fitting each room (but_last es) ≡ fitting each room es
  fitting-but_last room [] large = absurd (omega arith)
  fitting-but_last room (e ∷ []) large =
      (elim (nat_le (bytes_of each e) room) as (λ b. nat_le (bytes_of each e) room ≡ b → [] ≡ cond b (e ∷ []) []) [
        | true ↦ λ fits. absurd (omega (arith, leb-true (bytes_of each e) room fits))
        | false ↦ λ _. refl
      ]) refl
  fitting-but_last room (e ∷ f ∷ es) large =
      rw (but_last-cons e f es)
      ((elim (nat_le (bytes_of each e) room) as (λ b. nat_le (bytes_of each e) room ≡ b
      → cond b (e ∷ fitting each (room - bytes_of each e) (but_last (f ∷ es))) [] ≡ cond b (e ∷ fitting each (room - bytes_of each e) (f ∷ es)) []) [
        | true ↦ λ fits. ap (λ l. e ∷ l) (fitting-but_last (room - bytes_of each e) (f ∷ es) (omega (arith, leb-true (bytes_of each e) room fits)))
        | false ↦ λ _. refl
      ]) refl)

  -- the last entry takes its bytes away
  pub bytes_in-but_last : (es : List Entry) (x : Entry) → last_entry es ≡ Some x → bytes_in each (but_last es) + bytes_of each x ≡ bytes_in each es
  bytes_in-but_last [] x last = absurd (none-some x last)
  bytes_in-but_last (e ∷ []) x last = let same : e ≡ x = same_Some e x last in omega (arith, ap (bytes_of each) same)
  bytes_in-but_last (e ∷ f ∷ es) x last =
      let on = bytes_in-but_last (f ∷ es) x (sym (last_entry-cons e f es) ∙ last) in
      omega (arith, ap (bytes_in each) (but_last-cons e f es), on)

  -- the first stays, and behind it the last goes, where not all behind it fits
  pub record Popped (room : ℕ) (es : List Entry) (x : Entry) : Type 0 where
    pub first : take 1 (but_last es) ≡ take 1 es
    pub others : bytes_in each (drop 1 (but_last es)) + bytes_of each x ≡ bytes_in each (drop 1 es)
    pub fits : fitting each room (drop 1 (but_last es)) ≡ fitting each room (drop 1 es)
    pub less : length (but_last es) < length es

  pub popped : (room : ℕ) (es : List Entry) (x : Entry) → room < bytes_in each (drop 1 es) → last_entry es ≡ Some x → Popped room es x
  popped room [] x large last = absurd (none-some x last)
  popped room (e ∷ []) x large last = absurd (omega arith)
  popped room (e ∷ f ∷ es) x large last = record {
    first = ap (take 1) (but_last-cons e f es);
    others = ap (λ l. bytes_in each (drop 1 l) + bytes_of each x) (but_last-cons e f es)
        ∙ bytes_in-but_last (f ∷ es) x (sym (last_entry-cons e f es) ∙ last);
    fits = ap (λ l. fitting each room (drop 1 l)) (but_last-cons e f es) ∙ fitting-but_last room (f ∷ es) large;
    less = omega (arith, length-but_last e (f ∷ es));
  }

  -- where not all behind the first fits, there is a last
  pub has_last : (room : ℕ) (es : List Entry) → room < bytes_in each (drop 1 es) → last_entry es ≡ None → ⊥
  has_last room [] large none = omega arith
  has_last room (e ∷ []) large none = omega arith
  has_last room (e ∷ f ∷ es) large none = has_some f es (sym (last_entry-cons e f es) ∙ none)

  -- where not all fits, there is a last
  pub has_any : (room : ℕ) (es : List Entry) → room < bytes_in each es → last_entry es ≡ None → ⊥
  has_any room [] large none = omega arith
  has_any room (e ∷ es) large none = has_some e es none

  -- all behind the first fit, so this is what fits
  pub fits_all : (room : ℕ) (es from : List Entry) → take 1 es ≡ take 1 from → fitting each room (drop 1 es) ≡ fitting each room (drop 1 from)
      → bytes_in each (drop 1 es) ≤ room
      → (es ≡ take 1 from ++ fitting each room (drop 1 from)) × (drop 1 es ≡ fitting each room (drop 1 from))
  fits_all room es from first same small =
      let rest : drop 1 es ≡ fitting each room (drop 1 from) = sym (fitting_all room (drop 1 es) small) ∙ same in
      (sym (take-append-drop 1 es) ∙ ap (λ l. l ++ drop 1 es) first ∙ ap (λ l. take 1 from ++ l) rest, rest)
