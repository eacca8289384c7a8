use Rattle.std.proofs.Common.{◌≡◌, Some, None, bytes_eq, refl, sym, ap, ◌∙◌, subst, rules}
use Rattle.std.specs.Map.{lookup, lookup_entry}
use Rattle.peer_source.specs.Caches.{IsAnswer, found_fill, looked_up}
use Rattle.peer_source.proofs.EntryLemmas.{All-there, found_there, none_found}
use Rattle.peer_source.proofs.CacheLemmas.{Keeps-front, cache_of-front, missing_entry}
use Rattle.peer_source.proofs.cache.MainCache.find.Goals as goal

pub invariant_of-self : goal.invariant_of-self
invariant_of-self g c =
    let kept = c.self.inside in
    Keeps-front kept.group.number kept.limit kept.each kept.clears kept.entries c.find.new.entries c.args.key.now c.find.ensures.front
    g.S.Source.allowed kept.bytes c.self.invariant

pub invariant_of-self-2 : goal.invariant_of-self-2
invariant_of-self-2 g c =
    let kept = c.self.inside in
    Keeps-front kept.group.number kept.limit kept.each kept.clears kept.entries c.find.new.entries c.args.key.now c.find.ensures.front
    g.S.Source.allowed kept.bytes c.self.invariant

pub returns-in_err-own_key-clause-front : goal.returns-in_err-own_key-clause-front
returns-in_err-own_key-clause-front g c =
    let kept = c.self.inside in
    rw (← c.self.view_is)
    (cache_of-front kept.group.number kept.limit kept.each kept.clears kept.entries c.find.new.entries c.args.key.now c.find.ensures.front)

pub returns-in_default-clause-front : goal.returns-in_default-clause-front
returns-in_default-clause-front g c =
    let kept = c.self.inside in
    rw (← c.self.view_is)
    (cache_of-front kept.group.number kept.limit kept.each kept.clears kept.entries c.find.new.entries c.args.key.now c.find.ensures.front)

pub returns-clause-front : goal.returns-clause-front
returns-clause-front g c =
    let kept = c.self.inside in
    rw (← c.self.view_is)
    (cache_of-front kept.group.number kept.limit kept.each kept.clears kept.entries c.find.new.entries c.args.key.now c.find.ensures.front)

pub returns-in_err-own_key-clause-missing : goal.returns-in_err-own_key-clause-missing
returns-in_err-own_key-clause-missing g c missing =
    let es = c.self.inside.entries.entries in
    let none : lookup (bytes_eq c.args.key.now) es ≡ None = ap (looked_up c.args.key.now) c.self.view_is ∙ missing in
    let refused = c.in_err-own_key.ensures.missing (missing_entry c.args.key.now es none) in
    cc

pub returns-in_default-clause-fill : goal.returns-in_default-clause-fill
returns-in_default-clause-fill g c =
    let es = c.self.inside.entries.entries in
    let none : None ≡ lookup_entry (bytes_eq c.args.key.now) es = search rules in
    rw (← c.self.view_is) (rw (none_found c.self.inside.each c.args.key.now es none).value refl)

pub of_value-requires : goal.of_value-requires
of_value-requires g c =
    let kept = c.self.inside in
    let P = IsAnswer g.S.Source.allowed kept.group.number in
    let found : Some (c.in-Some.own_key, c.in-Some.value) ≡ lookup_entry (bytes_eq c.args.key.now) kept.entries.entries = search rules in
    let there = found_there kept.each c.args.key.now kept.entries.entries (c.in-Some.own_key, c.in-Some.value) found in
    subst (λ k. P (k, c.in-Some.value)) there.0
    (All-there kept.each P c.args.key.now kept.entries.entries c.in-Some.value c.self.invariant.answers there.1)

pub returns-clause-fill : goal.returns-clause-fill
returns-clause-fill g c =
    let kept = c.self.inside in
    let found : Some (c.in-Some.own_key, c.in-Some.value) ≡ lookup_entry (bytes_eq c.args.key.now) kept.entries.entries = search rules in
    let there = found_there kept.each c.args.key.now kept.entries.entries (c.in-Some.own_key, c.in-Some.value) found in
    rw (← c.self.view_is)
    (rw there.1.value
    (ap Some (c.of_value.ensures ∙ ap (λ k. found_fill kept.group.number k c.in-Some.value) (sym there.0))))
