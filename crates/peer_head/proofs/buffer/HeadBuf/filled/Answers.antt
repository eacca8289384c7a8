use Rattle.std.proofs.Common.{ap, sym, ◌∙◌, ◌+◌, ◌-◌, ◌≡◌, ◌≤◌, drop, length, arith}
use Rattle.std.proofs.lemmas.List.{drop-drop}
use Rattle.peer_head.proofs.BufferLemmas.{back_part, piece_length}
use Rattle.peer_head.proofs.buffer.HeadBuf.filled.Goals as goal

pub returns-clause-free : goal.returns-clause-free
returns-clause-free c =
    let xs = c.self.inside.bytes.items in
    let s = c.self.inside.start in
    let i = c.self.inside.end - s in
    let ys = c.move_to_front.new.bytes.items in
    let fits : s + i ≤ length xs = omega (arith, c.self.invariant) in
    let behind : drop i ys ≡ drop i xs = back_part _ _ _ i c.move_to_front.ensures (piece_length xs s i fits) in
    let on : i + c.args.n - 0 ≡ i + c.args.n = omega arith in
    ap (λ k. drop k ys) on ∙ sym (drop-drop c.args.n i ys) ∙ ap (drop c.args.n) (behind ∙ ap (λ v. v.free) c.self.view_is)
