-- What a connection's responses did between two moments: the wishes whose replies were put.
use Rattle.std.specs.Prelude.{◌≡◌, ℕ, List, [], Option}
use Rattle.peer_source.specs.Answers.{Answer}
use Rattle.peer_view.specs.declared.writer.PeerWrite.{Ghosts}
use Rattle.peer_reply.specs.declared.wish.Wish.{Wish}
use Rattle.peer_conn.specs.Sending.{Sending, sending_of_buffer}
use Rattle.peer_conn.specs.WriterStates.{RepliesFrom, FlushesFrom, PutsFrom}
use Rattle.peer_conn.specs.declared.responses.Responses.{Responses}
use Rattle.peer_conn.specs.declared.end.WriterState.TheVariants.{Active}

module _ {W : Type 0} {G : Ghosts W} where
  abbrev pub sending_of : Responses W G → Responses W G → Sending
  sending_of old new = sending_of_buffer G.failures G.taken old.out new.out

  -- nothing was put yet
  pub record AreNewResponses (w : W) (p : Responses W G) : Type 0 where
    pub writer : p.out.writer ≡ w
    pub empty : p.out.buffered.items ≡ []
    pub fine : p.state ≡ Active

  -- a reply of this text was put where all stood fine, or none where there was no memory for it
  pub record PutsReply (old new : Responses W G) (text : Option (List ℕ)) : Type 0 where
    pub puts : PutsFrom old.state text (sending_of old new) new.state

  -- what was buffered is written, unless a write failed
  pub record IsFlushed (old new : Responses W G) : Type 0 where
    pub flushes : FlushesFrom old.state (sending_of old new) new.state

  -- the replies to these wishes were put, as far as the writer stood fine
  pub record PutsReplies (answers : ℕ → List ℕ → Answer → Type 0) (old new : Responses W G) (ws : List Wish) : Type 0 where
    pub step : RepliesFrom answers old.state ws (sending_of old new) new.state
