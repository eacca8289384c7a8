use Rattle.std.proofs.Common.{refl, ap, sym, ◌∙◌, ◌≡◌, ◌+◌, ◌-◌, ◌≤◌, ◌++◌, ℕ, List, take, drop, length, arith, length-append, length-drop}
use Rattle.std.proofs.lemmas.List.{take_rest}
use Rattle.peer_head.specs.Buffers.{HeldBytes}
use Rattle.peer_head.specs.Lending.{fitted}
use Rattle.peer_head.proofs.BufferLemmas.{lent, lent_parts, back_part, piece_length}
use Rattle.peer_head.proofs.buffer.HeadBuf.room.Goals as goal

pub returns : goal.returns
returns c =
    let all = c.self.inside.bytes.items in
    let s = c.self.inside.start in
    let i = c.self.inside.end - s in
    let held = take i (drop s all) in
    let free = drop i all in
    let xs = c.move_to_front.new.bytes.items in
    let n = c.move_to_front.new.bytes.len in
    let size : n ≡ length xs = c.move_to_front.new.bytes.ok.0 in
    let fits : s + i ≤ length all = omega (arith, c.self.invariant) in
    let moved : xs ≡ held ++ free = c.move_to_front.ensures in
    let long : i ≡ length held = piece_length all s i fits in
    let within : i ≤ length xs = omega (arith, ap length moved, length-append held free, long) in
    let value = c.slice_mut.ensures.value ∙ ap (λ k. take (k - i) (drop i xs)) size ∙ take_rest xs i
    ∙ back_part xs held free i moved long in (
      (
        refl,
        λ w.
            let z = drop (length (take i xs ++ (w ++ drop (length w) (drop i xs)))) xs in
            let parts = lent_parts xs (take n ((take i xs ++ (w ++ drop (length w) (drop i xs))) ++ z)) held free w i long moved
            (lent xs w z i n within size) in
            let H : List ℕ → HeldBytes =
            λ v. record { held = v; free = drop (i - 0) (take n ((take i xs ++ (w ++ drop (length w) (drop i xs))) ++ z)) } in
            let K : List ℕ → HeldBytes = λ v. record { held = held; free = v } in
            let F : HeldBytes → HeldBytes = λ v. record { held = v.held; free = fitted v.free w } in
            ap H parts.0 ∙ ap K parts.1 ∙ ap F c.self.view_is,
      ),
      record {
        lends = tt;
        value = value ∙ ap (λ v. v.free) c.self.view_is;
        len =
            ap (λ v. length v.held + length c.slice_mut.result.now) (sym c.self.view_is)
            ∙ omega (arith, ap length value, length-drop i all, long, fits, c.self.invariant);
      },
    )
