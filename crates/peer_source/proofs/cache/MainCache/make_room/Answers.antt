use Rattle.std.proofs.Common.{sym, subst}
use Rattle.peer_source.specs.Caches.{Cache, LeavesRoom}
use Rattle.peer_source.proofs.WayLemmas.{Keeps-front_of, added-front_of}
use Rattle.peer_source.proofs.cache.MainCache.make_room.Goals as goal

pub invariant_of-self : goal.invariant_of-self
invariant_of-self g c =
    let kept = c.self.inside in
    let left = c.make_way-self-inside in
    Keeps-front_of g.S.Source.allowed kept.group.number kept.limit kept.each kept.bytes left.result kept.entries left.new.entries
    left.ensures.front left.ensures.bytes c.self.invariant

pub returns-clause-gives : goal.returns-clause-gives
returns-clause-gives g c =
    let kept = c.self.inside in
    let left = c.make_way-self-inside in
    let leaves = subst (λ (m : Cache). LeavesRoom c.args.fill.now m c.in-Some.room) (sym c.self.view_is) c.in-Some.ensures in
    rw (← c.self.view_is)
    (added-front_of c.args.fill.now kept.group.number kept.limit kept.each c.in-Some.room kept.clears kept.entries left.new.entries
    left.ensures.front c.self.invariant.some leaves left.ensures.fits)
