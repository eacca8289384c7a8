use Rattle.std.proofs.Common.{◌≤◌, ◌<◌, ℕ, List, ap, sym, ◌∙◌, drop, take, arith}
use Rattle.lru.specs.LruCache.{LruCache}
use Rattle.peer_source.specs.Caches.{bytes_in, fitting}
use Rattle.peer_source.proofs.FittingLemmas.{popped, has_last, fits_all, same_cache}
use Rattle.peer_source.proofs.entries.evict.Goals as goal

pub bytes_without-others-requires : goal.bytes_without-others-requires
bytes_without-others-requires c =
    let now = c.loop-others.invariant in
    let larger : c.args.room < bytes_in c.args.each (drop 1 c.loop-others.entries.entries) = omega (arith, now.others) in
    let gone = popped c.args.each c.args.room c.loop-others.entries.entries c.in-Some.entry larger (sym c.in-Some.ensures.value) in
    omega (arith, now.others, gone.others)

pub loop-others-preserved : goal.loop-others-preserved
loop-others-preserved c =
    let now = c.loop-others.invariant in
    let es = c.loop-others.entries.entries in
    let larger : c.args.room < bytes_in c.args.each (drop 1 es) = omega (arith, now.others) in
    let gone = popped c.args.each c.args.room es c.in-Some.entry larger (sym c.in-Some.ensures.value) in
    let left = c.in-Some.ensures.entries in
    record {
      cap = ap (λ (m : LruCache (List ℕ) (List ℕ)). m.cap) left ∙ now.cap;
      first = ap (λ (m : LruCache (List ℕ) (List ℕ)). take 1 m.entries) left ∙ gone.first ∙ now.first;
      others = omega (
        arith,
        c.bytes_without-others.ensures,
        now.others,
        gone.others,
        ap (λ (m : LruCache (List ℕ) (List ℕ)). bytes_in c.args.each (drop 1 m.entries)) left,
      );
      fits = ap (λ (m : LruCache (List ℕ) (List ℕ)). fitting c.args.each c.args.room (drop 1 m.entries)) left ∙ gone.fits ∙ now.fits;
    }

pub returns-after-loop-others-clause-entries : goal.returns-after-loop-others-clause-entries
returns-after-loop-others-clause-entries c =
    let now = c.loop-others.invariant in
    let small : bytes_in c.args.each (drop 1 c.loop-others.entries.entries) ≤ c.args.room = omega (arith, now.others) in
    same_cache (fits_all c.args.each c.args.room c.loop-others.entries.entries c.args.entries.now.entries now.first now.fits small).0 now.cap

pub returns-after-loop-others-clause-others : goal.returns-after-loop-others-clause-others
returns-after-loop-others-clause-others c =
    let now = c.loop-others.invariant in
    let small : bytes_in c.args.each (drop 1 c.loop-others.entries.entries) ≤ c.args.room = omega (arith, now.others) in
    now.others ∙ ap (bytes_in c.args.each) (fits_all c.args.each c.args.room c.loop-others.entries.entries c.args.entries.now.entries now.first now.fits small).1

pub returns-in_default-clause-entries : goal.returns-in_default-clause-entries
returns-in_default-clause-entries c =
    let larger : c.args.room < bytes_in c.args.each (drop 1 c.loop-others.entries.entries) = omega (arith, c.loop-others.invariant.others) in
    absurd (has_last c.args.each c.args.room c.loop-others.entries.entries larger (sym c.in_default.ensures.value))

pub returns-in_default-clause-others : goal.returns-in_default-clause-others
returns-in_default-clause-others c =
    let larger : c.args.room < bytes_in c.args.each (drop 1 c.loop-others.entries.entries) = omega (arith, c.loop-others.invariant.others) in
    absurd (has_last c.args.each c.args.room c.loop-others.entries.entries larger (sym c.in_default.ensures.value))

pub returns-in_default-clause-fits : goal.returns-in_default-clause-fits
returns-in_default-clause-fits c =
    let larger : c.args.room < bytes_in c.args.each (drop 1 c.loop-others.entries.entries) = omega (arith, c.loop-others.invariant.others) in
    absurd (has_last c.args.each c.args.room c.loop-others.entries.entries larger (sym c.in_default.ensures.value))
