use Rattle.std.proofs.Common.{◌∙◌, List, ap, arith, rules, ℕ}
use Rattle.lru.specs.LruCache.{LruCache, lru_cache}
use Rattle.peer_source.specs.Caches.{bytes_in}
use Rattle.peer_source.proofs.EntryLemmas.{bytes_left, pushes}
use Rattle.peer_source.proofs.entries.put_in_front.Goals as goal

pub bytes_without-requires : goal.bytes_without-requires
bytes_without-requires c =
    let pushed = pushes c.args.each c.args.entries.now c.args.key c.args.value c.requires.most c.requires.some in
    let gone = ap (bytes_left c.args.each) c.in-Ok.ensures.old in
    omega (arith, pushed.others, c.requires.bytes, ap (bytes_left c.args.each) c.in-Some.is, gone)

pub returns-in-Some-clause-front : goal.returns-in-Some-clause-front
returns-in-Some-clause-front c =
    let pushed = pushes c.args.each c.args.entries.now c.args.key c.args.value c.requires.most c.requires.some in
    c.in-Ok.ensures.entries ∙ ap (λ es. lru_cache es c.args.entries.now.cap) pushed.entries

pub returns-in-None-clause-front : goal.returns-in-None-clause-front
returns-in-None-clause-front c =
    let pushed = pushes c.args.each c.args.entries.now c.args.key c.args.value c.requires.most c.requires.some in
    c.in-Ok.ensures.entries ∙ ap (λ es. lru_cache es c.args.entries.now.cap) pushed.entries

pub returns-in-Some-clause-others : goal.returns-in-Some-clause-others
returns-in-Some-clause-others c =
    let pushed = pushes c.args.each c.args.entries.now c.args.key c.args.value c.requires.most c.requires.some in
    let new = ap (λ (m : LruCache (List ℕ) (List ℕ)). bytes_in c.args.each m.entries) c.in-Ok.ensures.entries ∙ ap (bytes_in c.args.each) pushed.entries in
    omega (
      arith,
      new,
      pushed.first,
      pushed.others,
      c.requires.bytes,
      ap (bytes_left c.args.each) c.in-Some.is,
      ap (bytes_left c.args.each) c.in-Ok.ensures.old,
      c.bytes_without.ensures,
    )

pub returns-in-None-clause-others : goal.returns-in-None-clause-others
returns-in-None-clause-others c =
    let pushed = pushes c.args.each c.args.entries.now c.args.key c.args.value c.requires.most c.requires.some in
    let new = ap (λ (m : LruCache (List ℕ) (List ℕ)). bytes_in c.args.each m.entries) c.in-Ok.ensures.entries ∙ ap (bytes_in c.args.each) pushed.entries in
    omega (arith, new, pushed.first, pushed.others, c.requires.bytes, ap (bytes_left c.args.each) c.in-None.is, ap (bytes_left c.args.each) c.in-Ok.ensures.old)

pub returns-in_default-clause-err : goal.returns-in_default-clause-err
returns-in_default-clause-err c = search rules
