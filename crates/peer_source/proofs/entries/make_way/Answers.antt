use Rattle.std.proofs.Common.{◌≤◌, ◌<◌, ◌-◌, ℕ, List, ap, sym, ◌∙◌, length, take, arith}
use Rattle.lru.specs.LruCache.{LruCache}
use Rattle.peer_source.specs.Caches.{bytes_in, fitting}
use Rattle.peer_source.proofs.FittingLemmas.{has_any}
use Rattle.peer_source.proofs.WayLemmas.{bytes_left_behind, fewer, fits_behind, front_behind}
use Rattle.peer_source.proofs.entries.make_way.Goals as goal

pub bytes_without-bytes-requires : goal.bytes_without-bytes-requires
bytes_without-bytes-requires c =
    let now = c.loop-bytes.invariant in
    let es = c.loop-bytes.entries.entries in
    let large : c.args.room < bytes_in c.args.each es = omega (arith, now.bytes) in
    let most : length es ≤ c.args.entries.now.cap = omega (arith, now.most, now.front.cap) in
    omega (arith, now.bytes, bytes_left_behind c.args.each c.args.room c.args.entries.now.cap es c.in-Some.oldest large most (sym c.in-Some.ensures.value))

pub loop-bytes-preserved : goal.loop-bytes-preserved
loop-bytes-preserved c =
    let now = c.loop-bytes.invariant in
    let es = c.loop-bytes.entries.entries in
    let x = c.in-Some.oldest in
    let last = sym c.in-Some.ensures.value in
    let left = c.in-Some.ensures.entries in
    let large : c.args.room < bytes_in c.args.each es = omega (arith, now.bytes) in
    let most : length es ≤ c.args.entries.now.cap = omega (arith, now.most, now.front.cap) in
    let cap = ap (λ (m : LruCache (List ℕ) (List ℕ)). m.cap) left in
    let entries = ap (λ (m : LruCache (List ℕ) (List ℕ)). m.entries) left in
    let from = c.args.entries.now in
    record {
      front = record {
        cap = cap ∙ now.front.cap;
        front = entries ∙ front_behind c.args.each c.args.room from.cap es x large most last from.entries now.front.front
            ∙ ap (λ l. take (length l) from.entries) (sym entries);
      };
      most = omega (arith, ap length entries, cap, now.most, fewer c.args.each c.args.room from.cap es x large most last);
      bytes = omega (
        arith,
        c.bytes_without-bytes.ensures,
        now.bytes,
        bytes_left_behind c.args.each c.args.room from.cap es x large most last,
        ap (bytes_in c.args.each) entries,
      );
      fits = ap (λ l. fitting c.args.each c.args.room (take (from.cap - 1) l)) entries
          ∙ fits_behind c.args.each c.args.room from.cap es x large most last ∙ now.fits;
    }

pub returns-in_default-clause-bytes : goal.returns-in_default-clause-bytes
returns-in_default-clause-bytes c =
    let now = c.loop-bytes.invariant in
    let large : c.args.room < bytes_in c.args.each c.loop-bytes.entries.entries = omega (arith, now.bytes) in
    absurd (has_any c.args.each c.args.room c.loop-bytes.entries.entries large (sym c.in_default.ensures.value))

pub returns-in_default-clause-fits : goal.returns-in_default-clause-fits
returns-in_default-clause-fits c =
    let now = c.loop-bytes.invariant in
    let large : c.args.room < bytes_in c.args.each c.loop-bytes.entries.entries = omega (arith, now.bytes) in
    absurd (has_any c.args.each c.args.room c.loop-bytes.entries.entries large (sym c.in_default.ensures.value))
