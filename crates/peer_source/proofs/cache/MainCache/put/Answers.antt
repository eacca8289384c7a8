use Rattle.std.proofs.Common.{◌<◌, arith, ap, sym, subst}
use Rattle.peer_source.specs.Caches.{Cache, IsAnswer}
use Rattle.peer_source.proofs.CacheLemmas.{Keeps-put, behind_first, cache_of-put}
use Rattle.peer_source.proofs.cache.MainCache.put.Goals as goal

pub evict-requires : goal.evict-requires
evict-requires g c =
    let first = rw (c.in_ok-key.ensures, c.in_ok-value.ensures) at c.in_ok-others.ensures.front in
    let counted = rw (c.in_ok-key.ensures, c.in_ok-value.ensures) at c.in_ok-others.ensures.others in
    record {
      others =
          behind_first c.self.inside.each c.self.inside.entries c.put_in_front.new.entries c.args.key.now c.args.value.now
          c.in_ok-others.others c.self.invariant.some first counted;
    }

pub invariant_of-self-2 : goal.invariant_of-self-2
invariant_of-self-2 g c =
    let kept = c.self.inside in
    let key = c.args.key.now in
    let value = c.args.value.now in
    let first = rw (c.in_ok-key.ensures, c.in_ok-value.ensures) at c.in_ok-others.ensures.front in
    let answer =
    subst (λ n. IsAnswer g.S.Source.allowed n (key, value)) (sym (ap (λ (x : Cache). x.group) c.self.view_is)) c.requires.answer in
    let on : 0 < kept.limit = omega (arith, ap (λ (x : Cache). x.limit) c.self.view_is, c.requires.on) in
    Keeps-put kept.each kept.entries c.put_in_front.new.entries c.evict.new.entries key value kept.limit c.in-Some.room c.evict.result
    c.self.invariant.some first c.evict.ensures.entries c.evict.ensures.others c.in-Some.ensures.room
    g.S.Source.allowed kept.group.number kept.bytes c.self.invariant answer on c.evict.ensures.fits

pub returns-clause-ok : goal.returns-clause-ok
returns-clause-ok g c =
    let kept = c.self.inside in
    let key = c.args.key.now in
    let value = c.args.value.now in
    let first = rw (c.in_ok-key.ensures, c.in_ok-value.ensures) at c.in_ok-others.ensures.front in
    rw (← c.self.view_is)
    (cache_of-put kept.each kept.entries c.put_in_front.new.entries c.evict.new.entries key value kept.limit c.in-Some.room
    c.evict.result c.self.invariant.some first c.evict.ensures.entries c.evict.ensures.others c.in-Some.ensures.room
    kept.group.number kept.clears)
