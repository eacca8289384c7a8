use Rattle.std.proofs.Common.{◌≡◌, ℕ, List, ◌+◌, ◌-◌, ◌++◌, ◌∙◌, take, drop, length, min, ap, sym}
use Rattle.std.proofs.lemmas.List.{take_rest}
use Rattle.peer_view.specs.Pieces.{given_of, left_of, piece_at}
use Rattle.peer_view.proofs.PieceLemmas.{given_more, first_left, give_left, take_room}
use Rattle.peer_view.proofs.mem_reader.give.Goals as goal

-- what is left of the piece
rest_is : (piece rest : List ℕ) (o : ℕ) → rest ≡ piece → take (length rest - o) (drop o rest) ≡ drop o piece
rest_is piece rest o e = take_rest rest o ∙ ap (drop o) e

pub returns-clause-given : goal.returns-clause-given
returns-clause-given c =
    let ps = c.args.pieces.now in
    let at = c.args.at in
    let n = c.copy_front.result in
    given_more ps at.index at.offset n c.requires.within
    ∙ ap (λ v. given_of ps at.index at.offset ++ take n v)
    (sym (rest_is (piece_at ps at.index) c.piece-piece.result.now at.offset c.piece-piece.ensures))
    ∙ ap (λ v. given_of ps at.index at.offset ++ v) (sym c.copy_front.ensures.copied)

pub returns-clause-piece : goal.returns-clause-piece
returns-clause-piece c =
    let ps = c.args.pieces.now in
    let at = c.args.at in
    let m = length c.args.room.now in
    let rest = take (length c.piece-piece.result.now - at.offset) (drop at.offset c.piece-piece.result.now) in
    c.copy_front.ensures.copied
    ∙ ap (λ n. take n rest) c.copy_front.ensures.count
    ∙ take_room m rest
    ∙ ap (take m) (rest_is (piece_at ps at.index) c.piece-piece.result.now at.offset c.piece-piece.ensures
    ∙ sym (first_left ps at.index at.offset c.requires.within c.requires.left))

pub returns-clause-left : goal.returns-clause-left
returns-clause-left c =
    let ps = c.args.pieces.now in
    let at = c.args.at in
    let m = length c.args.room.now in
    ap (λ n. left_of ps at.index (at.offset + n))
    (c.copy_front.ensures.count ∙ ap (λ v. min m (length v))
    (rest_is (piece_at ps at.index) c.piece-piece.result.now at.offset c.piece-piece.ensures))
    ∙ give_left ps at.index at.offset m c.requires.within c.requires.left
