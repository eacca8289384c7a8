-- The two halves of a connection before its first read.
use Rattle.std.specs.Prelude.{ℕ}
use Rattle.peer_view.specs.declared.reader.PeerRead as Read
use Rattle.peer_view.specs.declared.writer.PeerWrite as Write
use Rattle.peer_conn.specs.Requests.{AreNewRequests}
use Rattle.peer_conn.specs.Responses.{AreNewResponses}
use Rattle.peer_conn.specs.declared.halves.Halves.{Halves}

module _ {R W : Type 0} {G : Read.Ghosts R} {H : Write.Ghosts W} where
  -- nothing was read, put or written yet
  pub record AreNewHalves (r : R) (w : W) (reads : ℕ) (halves : Halves R W G H) : Type 0 where
    pub requests : AreNewRequests r reads halves.requests
    pub responses : AreNewResponses w halves.responses
