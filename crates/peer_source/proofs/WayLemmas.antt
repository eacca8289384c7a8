-- What is left while the last entries go.
use Rattle.std.proofs.Common.{◌≡◌, ℕ, zero, suc, ◌+◌, ◌-◌, ◌<◌, ◌≤◌, Bool, true, false, List, [], ◌∷◌, length, take}
use Rattle.std.proofs.Common.{All, Some, None, refl, sym, ap, ◌∙◌, inl, inr, subst, arith}
use Rattle.std.specs.Prelude.{bytes_eq, nat_le}
use Rattle.std.specs.Map.{lookup_entry}
use Rattle.std.proofs.Math.Seq.{take-nil}
use Rattle.std.proofs.lemmas.Bool.{le-leb, leb-true, leb-false}
use Rattle.std.proofs.lemmas.List.{take_all, length-take}
use Rattle.std.proofs.lemmas.List.Elements.{All-take}
use Rattle.std.proofs.lemmas.Option.{none-some}
use Rattle.lru.specs.LruCache.{last_entry}
use Rattle.peer_source.specs.Answers.{Answer, Filled}
use Rattle.peer_source.specs.Caches.{Entry, IsAnswer, IsFrontOf, Keeps, LeavesRoom, added, bytes_of, bytes_in, fitting, put_first, without}
use Rattle.peer_source.proofs.CacheLemmas.{Kept, cache_of, fitting_first, missing_entry}
use Rattle.peer_source.proofs.EntryLemmas.{cases_key, take_first}
use Rattle.peer_source.proofs.FittingLemmas.{but_last, bytes_in-but_last, fitting-but_last, length-but_last}

-- the first of the first
take_less : (n m : ℕ) (es : List Entry) → n ≤ m → take n (take m es) ≡ take n es
take_less zero m es less = refl
take_less (suc n) zero es less = absurd (omega arith)
take_less (suc n) (suc m) [] less = refl
take_less (suc n) (suc m) (e ∷ es) less = ap (λ l. e ∷ l) (take_less n m es (omega arith))

-- no entry of the first has a key that none has
missing_take : (k : List ℕ) (n : ℕ) (es : List Entry) → lookup_entry (bytes_eq k) es ≡ None → lookup_entry (bytes_eq k) (take n es) ≡ None
missing_take k zero es none = refl
missing_take k (suc n) [] none = refl
missing_take k (suc n) (e ∷ es) none =
    (elim (bytes_eq k e.0) as (λ b. bytes_eq k e.0 ≡ b → lookup_entry (bytes_eq k) (take (suc n) (e ∷ es)) ≡ None) [
      | true ↦ λ passes. absurd (none-some e (sym (rw passes at none)))
      | false ↦ λ fails. rw fails (missing_take k n es (rw fails at none))
    ]) refl

-- the entries without a key that none has are the same
without_missing : (k : List ℕ) (es : List Entry) → lookup_entry (bytes_eq k) es ≡ None → without k es ≡ es
without_missing k es none =
    elim (cases_key 0 k es) [
      | inl missing ↦ missing.others
      | inr there ↦ absurd (none-some (k, there.0) (sym none ∙ there.1.entry))
    ]

module _ (each room cap : ℕ) (es : List Entry) (x : Entry)
    (large : room < bytes_in each es)
    (most : length es ≤ cap)
    (last : last_entry es ≡ Some x) where
  length_left : suc (length (but_last es)) ≡ length es
  length_left =
      (elim es as (λ l. es ≡ l → suc (length (but_last l)) ≡ length l) [
        | [] ↦ λ none. absurd (none-some x (subst (λ l. last_entry l ≡ Some x) none last))
        | e ∷ rest ↦ λ _. ap suc (length-but_last e rest)
      ]) refl

  pub bytes_left_behind : bytes_in each (but_last es) + bytes_of each x ≡ bytes_in each es
  bytes_left_behind = bytes_in-but_last each es x last

  pub fewer : length (but_last es) < length es
  fewer = omega (arith, length_left)

  -- the entry that goes does not fit: without it, the same of the first fit
  pub fits_behind : fitting each room (take (cap - 1) (but_last es)) ≡ fitting each room (take (cap - 1) es)
  fits_behind =
      let behind : take (cap - 1) (but_last es) ≡ but_last es = take_all (cap - 1) (but_last es) (omega (arith, length_left)) in
      ap (fitting each room) behind
      ∙ (elim (nat_le cap (length es)) as (λ b. nat_le cap (length es) ≡ b → fitting each room (but_last es) ≡ fitting each room (take (cap - 1) es)) [
        | true ↦ λ full.
            let same : cap - 1 ≡ length es - 1 = omega (arith, leb-true cap (length es) full) in
            ap (λ n. fitting each room (take n es)) (sym same)
        | false ↦ λ room_left.
            let all : take (cap - 1) es ≡ es = take_all (cap - 1) es (omega (arith, leb-false cap (length es) room_left)) in
            fitting-but_last each room es large ∙ ap (fitting each room) (sym all)
      ]) refl

  -- what is left is the front of what there was
  pub front_behind : (from : List Entry) → es ≡ take (length es) from → but_last es ≡ take (length (but_last es)) from
  front_behind from front =
      let size : length (but_last es) ≡ length es - 1 = omega (arith, length_left) in
      ap (take (length es - 1)) front
      ∙ take_less (length es - 1) (length es) from (omega arith)
      ∙ ap (λ n. take n from) (sym size)

-- the first have no more bytes than all
bytes_in-take : (each n : ℕ) (es : List Entry) → bytes_in each (take n es) ≤ bytes_in each es
bytes_in-take each zero es = omega arith
bytes_in-take each (suc n) [] = omega arith
bytes_in-take each (suc n) (e ∷ es) = omega (arith, bytes_in-take each n es)

-- a cache keeps the front of what it kept
pub Keeps-front_of : (allowed : ℕ → List ℕ → Answer → Type 0) (group limit each bytes left : ℕ) (kept new : Kept) → IsFrontOf kept new
    → left ≡ bytes_in each new.entries → Keeps allowed group limit each bytes kept → Keeps allowed group limit each left new
Keeps-front_of allowed group limit each bytes left kept new front sum old =
    let P = IsAnswer allowed group in
    let less = bytes_in-take each (length new.entries) kept.entries in
    record {
      sum = sum;
      within = omega (arith, sum, ap (bytes_in each) front.front, less, old.sum, old.within);
      some = omega (arith, front.cap, old.some);
      most = omega (arith, front.cap, old.most, ap length front.front, length-take (length new.entries) kept.entries);
      off = λ zero. front.front ∙ ap (take (length new.entries)) (old.off zero) ∙ take-nil (length new.entries);
      answers = subst (All P) (sym front.front) (All-take P (length new.entries) kept.entries old.answers);
    }

-- putting an entry first gives the same where only entries went that it evicts
pub put_first-front_of : (group limit each room : ℕ) (clears : Bool) (kept new : Kept) (k v : List ℕ) → IsFrontOf kept new → 0 < kept.cap
    → lookup_entry (bytes_eq k) kept.entries ≡ None → room + bytes_of each (k, v) ≡ limit
    → fitting each room (take (kept.cap - 1) new.entries) ≡ fitting each room (take (kept.cap - 1) kept.entries)
    → put_first k v (cache_of group limit each clears new) ≡ put_first k v (cache_of group limit each clears kept)
put_first-front_of group limit each room clears kept new k v front some missing beside same =
    let fits : nat_le (bytes_of each (k, v)) limit ≡ true = le-leb (bytes_of each (k, v)) limit (omega (arith, beside)) in
    let gone : lookup_entry (bytes_eq k) new.entries ≡ None =
    ap (lookup_entry (bytes_eq k)) front.front ∙ missing_take k (length new.entries) kept.entries missing in
    let put : (m : Kept) → m.cap ≡ kept.cap → lookup_entry (bytes_eq k) m.entries ≡ None
    → fitting each limit (take m.cap ((k, v) ∷ without k m.entries)) ≡ (k, v) ∷ fitting each room (take (kept.cap - 1) m.entries) =
    λ m cap none.
    ap (λ es. fitting each limit (take m.cap ((k, v) ∷ es))) (without_missing k m.entries none)
    ∙ ap (λ n. fitting each limit (take n ((k, v) ∷ m.entries))) cap
    ∙ ap (fitting each limit) (take_first kept.cap (k, v) m.entries some)
    ∙ fitting_first each limit room (k, v) (take (kept.cap - 1) m.entries) beside in
    let entries : fitting each limit (take new.cap ((k, v) ∷ without k new.entries)) ≡ fitting each limit (take kept.cap ((k, v) ∷ without k kept.entries)) =
    put new front.cap gone ∙ ap (λ es. (k, v) ∷ es) same ∙ sym (put kept refl missing) in
    rw fits (λ i. record {
      group = group;
      limit = limit;
      most = front.cap i;
      each = each;
      clears = clears;
      entries = entries i;
    })

-- adding a fill gives the same where only entries went that it evicts
pub added-front_of : (fill : Filled) (group limit each room : ℕ) (clears : Bool) (kept new : Kept) → IsFrontOf kept new → 0 < kept.cap
    → LeavesRoom fill (cache_of group limit each clears kept) room
    → fitting each room (take (kept.cap - 1) new.entries) ≡ fitting each room (take (kept.cap - 1) kept.entries)
    → added fill (cache_of group limit each clears new) ≡ added fill (cache_of group limit each clears kept)
added-front_of fill group limit each room clears kept new front some leaves same =
    rw leaves.kept
    (put_first-front_of group limit each room clears kept new fill.key leaves.value front some
    (missing_entry fill.key kept.entries leaves.missing) leaves.beside same)
