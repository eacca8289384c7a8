use Rattle.std.proofs.Common.{◌≡◌, Some, bytes_eq, sym, ap, ◌∙◌, rules}
use Rattle.std.specs.Map.{lookup_entry}
use Rattle.std.proofs.lemmas.Option.{none-some}
use Rattle.lru.specs.LruCache.{lru_cache}
use Rattle.peer_source.proofs.EntryLemmas.{first_found}
use Rattle.peer_source.proofs.entries.find.Goals as goal

pub returns-then-eq-clause-front : goal.returns-then-eq-clause-front
returns-then-eq-clause-front c =
    let same : c.in-Some.first.now ≡ c.args.key.now = search rules in
    let first : Some (c.args.key.now, c.in-Some.value.now) ≡ _ = ap (λ k. Some (k, c.in-Some.value.now)) (sym same) ∙ c.in-Some.ensures in
    let there = first_found c.args.key.now c.in-Some.value.now c.args.entries.now.entries (sym first) in
    ap (λ es. lru_cache es c.args.entries.now.cap) (sym there.stays)

pub returns-then-eq-clause-found : goal.returns-then-eq-clause-found
returns-then-eq-clause-found c =
    let same : c.in-Some.first.now ≡ c.args.key.now = search rules in
    let first : Some (c.args.key.now, c.in-Some.value.now) ≡ _ = ap (λ k. Some (k, c.in-Some.value.now)) (sym same) ∙ c.in-Some.ensures in
    let there = first_found c.args.key.now c.in-Some.value.now c.args.entries.now.entries (sym first) in
    ap Some c.in_ok-share.ensures ∙ ap (λ k. Some (k, c.in-Some.value.now)) same ∙ sym there.entry

pub returns-in_err-share-clause-front : goal.returns-in_err-share-clause-front
returns-in_err-share-clause-front c =
    let same : c.in-Some.first.now ≡ c.args.key.now = search rules in
    let first : Some (c.args.key.now, c.in-Some.value.now) ≡ _ = ap (λ k. Some (k, c.in-Some.value.now)) (sym same) ∙ c.in-Some.ensures in
    let there = first_found c.args.key.now c.in-Some.value.now c.args.entries.now.entries (sym first) in
    ap (λ es. lru_cache es c.args.entries.now.cap) (sym there.stays)

pub returns-in_err-share-clause-missing : goal.returns-in_err-share-clause-missing
returns-in_err-share-clause-missing c missing =
    let same : c.in-Some.first.now ≡ c.args.key.now = search rules in
    let first : Some (c.args.key.now, c.in-Some.value.now) ≡ _ = ap (λ k. Some (k, c.in-Some.value.now)) (sym same) ∙ c.in-Some.ensures in
    let there = first_found c.args.key.now c.in-Some.value.now c.args.entries.now.entries (sym first) in
    absurd (none-some (c.args.key.now, c.in-Some.value.now) (sym missing ∙ there.entry))

pub returns-in_err-share-2-clause-missing : goal.returns-in_err-share-2-clause-missing
returns-in_err-share-2-clause-missing c missing =
    let found : Some (c.in-Some-get_key_value.own_key.now, c.in-Some-get_key_value.value.now)
    ≡ lookup_entry (bytes_eq c.args.key.now) c.args.entries.now.entries = rw c.of.ensures at c.in-Some-get_key_value.ensures.value in
    absurd (none-some _ (sym missing ∙ sym found))
