use Rattle.std.proofs.Common.{◌≡◌, ◌<◌, ℕ, length, refl, rules, subst}
use Rattle.std.proofs.Math.ListN.{set}
use Rattle.std.proofs.lemmas.Option.{slice_get_read}
use Rattle.peer_source.specs.Caches.{added}
use Rattle.peer_fill.specs.Caches.{with_cache}
use Rattle.peer_fill.proofs.CacheLemmas.{cached_same}
use Rattle.peer_fill.proofs.caches.Caches.make_room.Goals as goal

pub returns : goal.returns
returns g c =
    let xs = c.args.self.now.each.items in
    let n = c.group.result.number in
    let within : n < length xs = search rules in
    let f = added c.args.fill.now in
    subst (λ (m : ℕ). with_cache f m (set xs n c.make_room.new.self) ≡ with_cache f m xs) c.group.ensures
    (cached_same f xs n c.in-Some.own.now c.make_room.new.self (slice_get_read xs (length xs) n _ refl within c.in-Some.ensures.value)
    c.make_room.ensures.gives)
