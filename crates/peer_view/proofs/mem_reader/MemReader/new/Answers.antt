use Rattle.peer_view.proofs.PieceLemmas.{nothing_given, all_left}
use Rattle.peer_view.proofs.mem_reader.MemReader.new.Goals as goal

pub returns : goal.returns
returns c = rw (nothing_given c.args.pieces.items, all_left c.args.pieces.items, c.none.ensures.calls, c.none.ensures.ends, c.none.ensures.failures)
