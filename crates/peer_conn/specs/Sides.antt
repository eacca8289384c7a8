-- What the two threads of a connection did together.
use Rattle.std.specs.Prelude.{◌≡◌, ℕ, ◌+◌, List, [], Option}
use Rattle.peer_source.specs.Answers.{Answer}
use Rattle.peer_source.specs.declared.source.Source as Source
use Rattle.peer_view.specs.declared.reader.PeerRead as Read
use Rattle.peer_view.specs.declared.writer.PeerWrite as Write
use Rattle.peer_fill.specs.Seats.{asks_of}
use Rattle.peer_lane.specs.Lanes.{IsLane, tickets_put, tickets_taken}
use Rattle.peer_reply.specs.declared.wish.Wish.{Wish}
use Rattle.peer_wish.specs.Tickets.{asks_in}
use Rattle.peer_conn.specs.Requests.{Stops}
use Rattle.peer_conn.specs.Responses.{PutsReplies}
use Rattle.peer_conn.specs.Connects.{end_for}
use Rattle.peer_conn.specs.declared.requests.Requests.{Requests}
use Rattle.peer_conn.specs.declared.responses.Responses.{Responses}
use Rattle.peer_conn.specs.declared.reader_side.ReaderSide.{ReaderSide}
use Rattle.peer_conn.specs.declared.writer_side.WriterSide.{WriterSide}
use Rattle.peer_conn.specs.declared.end.Served.{Served}
use Rattle.peer_conn.specs.declared.end.ReaderStop.{ReaderStop}

module _ {S L R W : Type 0} {g : Source.Ghosts S} {k : Read.Ghosts R} {m : Write.Ghosts W} where
  -- the sides of one lane, where nothing was put, taken or refilled yet
  abbrev pub AreNewSides : ReaderSide S L R g k → WriterSide S W g m → Type 0
  AreNewSides reader writer = IsLane reader.lane writer.lane × (tickets_put reader.lane ≡ [])
      × (tickets_taken writer.lane ≡ []) × (writer.strangers ≡ 0)

  -- these wishes came, were asked for, and their replies were put and written
  pub record ServesSides (numbers : List ℕ → Option ℕ) (answers : ℕ → List ℕ → Answer → Type 0)
      (reader : ReaderSide S L R g k) (writer : WriterSide S W g m) (served : Served R W) (asked : ℕ) : Type 0 where
    pub wishes : List Wish
    pub stop : ReaderStop
    pub requests : Requests R k
    pub responses : Responses W m
    pub stops : Stops numbers reader.requests requests wishes stop
    pub replies : PutsReplies answers writer.responses responses wishes
    pub empty : responses.out.buffered.items ≡ []
    pub counted : asked ≡ (asks_of reader.seat).asked + asks_in wishes
    pub gave : served.reader ≡ requests.reader
    pub took : served.writer ≡ responses.out.writer
    pub end : served.end ≡ end_for responses.state stop
