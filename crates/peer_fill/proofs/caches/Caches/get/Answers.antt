use Rattle.std.proofs.Common.{◌<◌, ◌≤◌, ◌∙◌, ap, length, refl, rules, sym}
use Rattle.std.proofs.Math.ListN.{set}
use Rattle.std.proofs.lemmas.Option.{slice_get_past, slice_get_read}
use Rattle.peer_source.specs.Caches.{brought_to_front}
use Rattle.peer_fill.proofs.CacheLemmas.{cached_here, cached_past, none_kept, ok_found, ok_kept}
use Rattle.peer_fill.proofs.caches.Caches.get.Goals as goal

pub returns-in_default-clause-front : goal.returns-in_default-clause-front
returns-in_default-clause-front g c =
    let xs = c.args.self.now.each.items in
    let n = c.args.group.number in
    let past : length xs ≤ n = search rules in
    sym (cached_past (brought_to_front c.args.key.now) xs n (slice_get_past xs n past))

pub returns-in_default-clause-missing : goal.returns-in_default-clause-missing
returns-in_default-clause-missing g c = λ _. refl

pub returns-clause-own : goal.returns-clause-own
returns-clause-own g c =
    let xs = c.args.self.now.each.items in
    let n = c.args.group.number in
    let within : n < length xs = search rules in
    ok_kept c.find.result xs n c.args.key.now c.in-Some.cache.now (slice_get_read xs (length xs) n _ refl within c.in-Some.ensures.value) c.find.ensures.fill

pub returns-clause-found : goal.returns-clause-found
returns-clause-found g c =
    let xs = c.args.self.now.each.items in
    let n = c.args.group.number in
    let within : n < length xs = search rules in
    let here = slice_get_read xs (length xs) n c.in-Some.cache.now refl within c.in-Some.ensures.value in
    ok_found c.find.result n c.args.key.now c.in-Some.cache.now (c.args.self.now.in_place.in_place n _ here) c.find.ensures.fill

pub returns-clause-front : goal.returns-clause-front
returns-clause-front g c =
    let xs = c.args.self.now.each.items in
    let n = c.args.group.number in
    let within : n < length xs = search rules in
    let here = slice_get_read xs (length xs) n c.in-Some.cache.now refl within c.in-Some.ensures.value in
    ap (set xs n) c.find.ensures.front ∙ sym (cached_here (brought_to_front c.args.key.now) xs n c.in-Some.cache.now here)

pub returns-clause-missing : goal.returns-clause-missing
returns-clause-missing g c = λ none.
    let xs = c.args.self.now.each.items in
    let n = c.args.group.number in
    let within : n < length xs = search rules in
    c.find.ensures.missing (none_kept xs n _ c.in-Some.cache.now (slice_get_read xs (length xs) n _ refl within c.in-Some.ensures.value) none)
