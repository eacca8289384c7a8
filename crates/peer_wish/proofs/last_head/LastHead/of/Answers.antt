use Rattle.std.proofs.Common.{◌≡◌, ◌+◌, ◌-◌, List, ℕ, length, take, drop, sym, subst}
use Rattle.std.proofs.lemmas.List.{length-take-le}
use Rattle.peer_wish.specs.Lasts.{IsLastAt}
use Rattle.peer_wish.proofs.LastLemmas.{kept_last}
use Rattle.peer_wish.proofs.last_head.LastHead.of.Goals as goal

pub slice_bounds-copy_into-end : goal.slice_bounds-copy_into-end
slice_bounds-copy_into-end c =
    let shows = c.requires.shows in
    sym (length-take-le c.args.len c.args.held.now (c.requires.front shows.block shows.rest shows.begins).0)

pub invariant_of-result : goal.invariant_of-result
invariant_of-result c =
    let p = c.args.head.now in
    let name = c.args.name.now in
    let bytes = c.in_ok-block.block.items in
    let bare = c.is_bare.result in
    let kept = kept_last c.args.held.now bytes p name c.args.group bare c.args.len c.requires.first c.requires.shows c.requires.front
    c.requires.named c.requires.stays c.requires.served c.in_ok-block.ensures c.is_bare.ensures in
    let M : List ℕ → Type 0 = λ v. IsLastAt bytes (length v + 1) (length v + 1 + 13 + length name + 1) (length v + 1 + length p.target) c.args.group bare in
    let T : List ℕ → Type 0 =
    λ v. IsLastAt bytes (length c.method.result.now + 1) (length c.method.result.now + 1 + 13 + length name + 1)
    (length c.method.result.now + 1 + length v) c.args.group bare in
    subst T (sym c.target.ensures) (subst M (sym c.method.ensures) kept.0)

pub returns-clause-name : goal.returns-clause-name
returns-clause-name c =
    let p = c.args.head.now in
    let name = c.args.name.now in
    let bytes = c.in_ok-block.block.items in
    let kept = kept_last c.args.held.now bytes p name c.args.group c.is_bare.result c.args.len c.requires.first c.requires.shows
    c.requires.front c.requires.named c.requires.stays c.requires.served c.in_ok-block.ensures c.is_bare.ensures in
    let N : List ℕ → Type 0 =
    λ v. take (length v + 1 + 13 + length name + 1 - 1 - (length v + 1 + 13)) (drop (length v + 1 + 13) bytes) ≡ name in
    subst N (sym c.method.ensures) kept.1
