use Rattle.std.proofs.Common.{◌∙◌}
use Rattle.peer_view.proofs.PieceLemmas.{piece_get}
use Rattle.peer_view.proofs.mem_reader.piece.Goals as goal

pub returns : goal.returns
returns c = c.as_slice.ensures.value ∙ piece_get c.args.pieces.now c.args.index c.index-pieces-index.result c.requires
    c.index-pieces-index.is
