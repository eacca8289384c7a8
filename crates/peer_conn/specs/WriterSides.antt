-- What the writer's side of a connection did between two moments: the tickets that it took, and the replies that it put.
use Rattle.std.specs.Prelude.{◌≡◌, ℕ, List, ◌++◌}
use Rattle.peer_source.specs.Answers.{Answer}
use Rattle.peer_source.specs.declared.source.Source as Source
use Rattle.peer_view.specs.declared.writer.PeerWrite as Write
use Rattle.peer_lane.specs.Lanes.{IsSameOut, tickets_put, tickets_taken}
use Rattle.peer_lane.specs.declared.lane_in.LaneIn.{LaneIn}
use Rattle.peer_reply.specs.declared.wish.Wish.{Wish}
use Rattle.peer_conn.specs.LaneWishes.{wishes_taken, wishes_put}
use Rattle.peer_conn.specs.Responses.{PutsReplies}
use Rattle.peer_conn.specs.Strangers.{CountsAmong, Rises}
use Rattle.peer_conn.specs.declared.writer_side.WriterSide.{WriterSide}

-- no ticket was taken, and so many strangers were counted at most
abbrev pub KeepsTickets : {S W : Type 0} {g : Source.Ghosts S} {k : Write.Ghosts W} → ℕ → WriterSide S W g k → WriterSide S W g k → Type 0
KeepsTickets n old new = (new.lane ≡ old.lane) × Rises n old.strangers new.strangers

module _ {S W : Type 0} {g : Source.Ghosts S} {k : Write.Ghosts W} (answers : ℕ → List ℕ → Answer → Type 0) where
  -- the tickets of these wishes were taken, and their replies put
  pub record AnswersTickets (old new : WriterSide S W g k) : Type 0 where
    pub same : IsSameOut old.lane new.lane
    pub wishes : List Wish
    pub taken : wishes_taken new.lane ≡ wishes_taken old.lane ++ wishes
    pub replies : PutsReplies answers old.responses new.responses wishes
    pub strangers : CountsAmong (tickets_taken old.lane) (tickets_taken new.lane) old.strangers new.strangers

  -- the replies to all wishes that were put and not taken were put
  pub record AnswersLeft (put : LaneIn S g) (old new : WriterSide S W g k) : Type 0 where
    pub wishes : List Wish
    pub all : wishes_taken old.lane ++ wishes ≡ wishes_put put
    pub replies : PutsReplies answers old.responses new.responses wishes
    pub strangers : CountsAmong (tickets_taken old.lane) (tickets_put put) old.strangers new.strangers
