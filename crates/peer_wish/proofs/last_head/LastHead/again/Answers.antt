use Rattle.std.proofs.Common.{◌≡◌, ◌+◌, ◌-◌, ◌<◌, ℕ, List, nat_eq, take, drop, length, All, false, true, refl, sym, ap, ◌∙◌, subst, arith}
use Rattle.std.proofs.lemmas.List.{take_rest, length-take-le}
use Rattle.std.specs.Cmp.Lexicographic.{pointwise}
use Rattle.peer_head.specs.Blocks.{IsFrontLength}
use Rattle.peer_path.specs.Places.{PlaceParts}
use Rattle.peer_wish.specs.Wishes.{get_wish}
use Rattle.peer_wish.specs.Nexts.{IsNextWish}
use Rattle.peer_wish.specs.Lasts.{IsKeyByte, LastParts, KnowsGroup, last_parts}
use Rattle.peer_wish.proofs.LastLemmas.{same_next, key_of}
use Rattle.peer_wish.proofs.last_head.LastHead.again.Goals as goal

pub returns : goal.returns
returns c = λ numbers known.
    let i = c.self.inside in
    let block = i.block.items in
    let held = c.args.held.now in
    let behind = c.in_ok-behind.behind.now in
    let len = c.in_ok-len.len in
    let inside : len < length behind = c.in_ok-len.ensures.0.high in
    let plain : All IsKeyByte (take len behind) = c.if-not-are_key_bytes.ensures refl in
    let last : LastParts = last_parts block i.target i.key i.rest i.group i.bare in
    let asks = c.self.invariant.last numbers (subst (KnowsGroup numbers) (sym c.self.view_is) known) in
    let prefix : List ℕ = take i.key c.deref.result.now in
    let suffix : List ℕ = take (length c.deref-2.result.now - i.rest) (drop i.rest c.deref-2.result.now) in
    let n : ℕ = i.key + len + length suffix in
    let prefix_is : prefix ≡ take i.key block = ap (take i.key) c.deref.ensures.value in
    let suffix_is : suffix ≡ drop i.rest block = take_rest c.deref-2.result.now i.rest ∙ ap (drop i.rest) c.deref-2.ensures.value in
    let held_long : length c.deref.result.now ≡ length block = ap length c.deref.ensures.value in
    let long : length prefix ≡ i.key = length-take-le i.key c.deref.result.now (omega (arith, c.self.invariant.ordered, c.self.invariant.within, held_long)) in
    let size : n ≡ length prefix + len + length suffix = omega (arith, long) in
    let cases = c.in_ok-behind.ensures.cases in
    let behind_is : behind ≡ drop i.key held = cases.1 ∙ ap (λ k. drop k held) long in
    let ends : pointwise nat_eq suffix (take (length suffix) (drop len behind)) ≡ true =
    subst (λ (v : List ℕ). pointwise nat_eq suffix (take (length suffix) v) ≡ true) (take_rest behind len)
    (sym c.if-not-starts_with.ensures.value) in
    let key_is : c.cut_at-place.result.key ≡ take len behind =
    ap (λ (p : PlaceParts). p.key) c.cut_at-place.ensures
    ∙ key_of held i.target i.key len (omega (arith, c.self.invariant.named)) ∙ ap (take len) (sym behind_is) in
    let P : List ℕ → Type 0 = λ k. IsNextWish numbers held (get_wish i.group k false i.bare) × IsFrontLength held n in
    subst P (sym key_is)
    (same_next numbers last held behind prefix suffix len n asks prefix_is suffix_is cases.0 cases.1 plain (omega (arith, inside)) ends size c.if-end-gt-HEAD_LIMIT.false)
