use Rattle.std.proofs.Common.{◌≡◌, ◌++◌, take}
use Rattle.peer_view.specs.Moves.{Moves}
use Rattle.peer_reply.specs.Texts.{joined}
use Rattle.peer_conn.proofs.write_buffer.WriteBuffer.put_parts.Given as goal

abbrev pub invariant-loop-i : goal.invariant-loop-i
invariant-loop-i g l = record {
  moved : Moves (g.W.PeerWrite.taken l.fn.self.writer) (g.W.PeerWrite.taken l.self.writer) (l.fn.self.buffered.items ++ joined (take l.i l.parts)) l.self.buffered.items;
  fine : g.W.PeerWrite.failures l.self.writer ≡ g.W.PeerWrite.failures l.fn.self.writer;
}
