use Rattle.std.proofs.Common.{◌≡◌, None, bytes_eq, sym, ap, ◌∙◌, rules}
use Rattle.std.specs.Map.{lookup}
use Rattle.std.proofs.lemmas.Option.{none-some}
use Rattle.peer_source.specs.Caches.{IsAnswer, looked_up}
use Rattle.peer_source.proofs.EntryLemmas.{All-there, value_there}
use Rattle.peer_source.proofs.CacheLemmas.{Keeps-front, cache_of-front}
use Rattle.peer_source.proofs.cache.MainCache.get.Goals as goal

pub returns-in_err-own_key-clause-missing : goal.returns-in_err-own_key-clause-missing
returns-in_err-own_key-clause-missing g c missing =
    let none : lookup (bytes_eq c.args.key.now) c.self.inside.entries.entries ≡ None = ap (looked_up c.args.key.now) c.self.view_is ∙ missing in
    absurd (none-some c.in-Some.value.now (sym none ∙ sym c.in-Some.ensures.value))

pub returns-in_err-share-clause-missing : goal.returns-in_err-share-clause-missing
returns-in_err-share-clause-missing g c missing =
    let none : lookup (bytes_eq c.args.key.now) c.self.inside.entries.entries ≡ None = ap (looked_up c.args.key.now) c.self.view_is ∙ missing in
    absurd (none-some c.in-Some.value.now (sym none ∙ sym c.in-Some.ensures.value))

pub of_value-fill-requires : goal.of_value-fill-requires
of_value-fill-requires g c =
    let kept = c.self.inside in
    let P = IsAnswer g.S.Source.allowed kept.group.number in
    let there = value_there kept.each c.args.key.now kept.entries.entries c.in-Some.value.now c.in-Some.ensures.value in
    rw (c.in_ok-own_key.ensures, c.in_ok-share.ensures)
    (All-there kept.each P c.args.key.now kept.entries.entries c.in-Some.value.now c.self.invariant.answers there)

pub invariant_of-self : goal.invariant_of-self
invariant_of-self g c =
    let kept = c.self.inside in
    Keeps-front kept.group.number kept.limit kept.each kept.clears kept.entries c.bring_to_front.new.entries c.args.key.now
    c.bring_to_front.ensures g.S.Source.allowed kept.bytes c.self.invariant

pub returns-clause-front : goal.returns-clause-front
returns-clause-front g c =
    let kept = c.self.inside in
    rw (← c.self.view_is)
    (cache_of-front kept.group.number kept.limit kept.each kept.clears kept.entries c.bring_to_front.new.entries c.args.key.now
    c.bring_to_front.ensures)

pub returns-clause-fill : goal.returns-clause-fill
returns-clause-fill g c = search rules
