-- What the two halves of a connection did between two moments.
use Rattle.std.specs.Prelude.{ℕ, List, Option}
use Rattle.peer_source.specs.Answers.{Answer}
use Rattle.peer_view.specs.declared.reader.PeerRead as Read
use Rattle.peer_view.specs.declared.writer.PeerWrite as Write
use Rattle.peer_reply.specs.declared.wish.Wish.{Wish}
use Rattle.peer_conn.specs.Requests.{Stops}
use Rattle.peer_conn.specs.Responses.{PutsReplies}
use Rattle.peer_conn.specs.declared.requests.Requests.{Requests}
use Rattle.peer_conn.specs.declared.responses.Responses.{Responses}
use Rattle.peer_conn.specs.declared.end.ReaderStop.{ReaderStop}

module _ {R W : Type 0} {G : Read.Ghosts R} {H : Write.Ghosts W} where
  -- these wishes were given, and the replies to them put
  pub record Exchanges (numbers : List ℕ → Option ℕ) (answers : ℕ → List ℕ → Answer → Type 0)
      (q q' : Requests R G) (p p' : Responses W H) (stop : ReaderStop) : Type 0 where
    pub wishes : List Wish
    pub stops : Stops numbers q q' wishes stop
    pub replies : PutsReplies answers p p' wishes
