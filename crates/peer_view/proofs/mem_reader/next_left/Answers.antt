use Rattle.std.proofs.Common.{◌<◌, ◌≤◌, ◌∙◌, length, ap, arith, add-one, sym}
use Rattle.std.proofs.lemmas.Grind.{common_steps}
use Rattle.peer_view.specs.Pieces.{given_of, left_of, piece_at}
use Rattle.peer_view.proofs.PieceLemmas.{used_up, used_up_left, first_left, some_piece, none_left, some_left}
use Rattle.peer_view.proofs.mem_reader.next_left.Goals as goal

pub loop-at-preserved : goal.loop-at-preserved
loop-at-preserved c =
    let ps = c.args.pieces.now in
    let at = c.loop-at.at in
    let inside : at.index < length ps = grind (arith, common_steps) in
    let used : length (piece_at ps at.index) ≤ at.offset = grind (arith, common_steps) in
    record {
      given = ap (λ i. given_of ps i 0) (add-one at.index) ∙ used_up ps at.index at.offset inside used ∙ c.loop-at.invariant.given;
      left = ap (λ i. left_of ps i 0) (add-one at.index) ∙ used_up_left ps at.index at.offset inside used ∙ c.loop-at.invariant.left;
    }

pub returns-then-at-piece-clause-some : goal.returns-then-at-piece-clause-some
returns-then-at-piece-clause-some c within nothing =
    let ps = c.args.pieces.now in
    let at = c.loop-at.at in
    let inside : at.offset < length (piece_at ps at.index) = grind (arith, common_steps) in
    some_piece (left_of ps at.index at.offset) _ (first_left ps at.index at.offset within inside)
    (some_left (piece_at ps at.index) at.offset inside) (c.loop-at.invariant.left ∙ nothing)

pub returns-clause-none : goal.returns-clause-none
returns-clause-none c behind = sym c.loop-at.invariant.left ∙ none_left c.args.pieces.now c.loop-at.at.index c.loop-at.at.offset behind
