use Rattle.std.proofs.Common.{◌≡◌, ℕ, ◌<◌, OnOk, length, refl, rules, subst}
use Rattle.std.proofs.Math.ListN.{set}
use Rattle.std.proofs.lemmas.Option.{slice_get_read}
use Rattle.peer_source.specs.Caches.{added}
use Rattle.peer_fill.specs.Caches.{with_cache}
use Rattle.peer_fill.proofs.CacheLemmas.{err_same, ok_cached}
use Rattle.peer_fill.proofs.caches.Caches.add.Goals as goal

pub returns-in_default-clause-nothing : goal.returns-in_default-clause-nothing
returns-in_default-clause-nothing g c = λ _. refl

pub returns-clause-ok : goal.returns-clause-ok
returns-clause-ok g c =
    let xs = c.args.self.now.each.items in
    let n = c.group.result.number in
    let within : n < length xs = search rules in
    subst (λ (m : ℕ). OnOk c.add.result (set xs n c.add.new.self ≡ with_cache (added c.args.fill.now) m xs)) c.group.ensures
    (ok_cached c.add.result (added c.args.fill.now) xs n c.in-Some.cache.now c.add.new.self
    (slice_get_read xs (length xs) n _ refl within c.in-Some.ensures.value) c.add.ensures.ok)

pub returns-clause-err : goal.returns-clause-err
returns-clause-err g c =
    let xs = c.args.self.now.each.items in
    let n = c.group.result.number in
    let within : n < length xs = search rules in
    err_same c.add.result xs n c.in-Some.cache.now c.add.new.self (slice_get_read xs (length xs) n _ refl within c.in-Some.ensures.value) c.add.ensures.err
