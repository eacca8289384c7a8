-- What a call for a connection did, by the reader and the writer that it took and those that it handed back.
use Rattle.std.specs.Prelude.{◌≡◌, ℕ, List, Option, Some}
use Rattle.peer_source.specs.Answers.{Answer}
use Rattle.peer_source.specs.declared.source.Source as Source
use Rattle.peer_view.specs.declared.reader.PeerRead as Read
use Rattle.peer_view.specs.declared.writer.PeerWrite as Write
use Rattle.peer_fill.specs.Seats.{asks_of}
use Rattle.peer_fill.specs.declared.seats.ConnSeat.{ConnSeat}
use Rattle.peer_conn.specs.Connects.{Connects}
use Rattle.peer_conn.specs.Ends.{EndsAs, Serves, reading, writing}
use Rattle.peer_conn.specs.Headline.{WritesReplies}
use Rattle.peer_conn.specs.declared.end.Served.{Served}

module _ {R W : Type 0} (G : Read.Ghosts R) (H : Write.Ghosts W) (r : R) (w : W) (served : Served R W)
    (numbers : List ℕ → Option ℕ) (answers : ℕ → List ℕ → Answer → Type 0) where
  -- it served, with at most `reads` reads
  abbrev pub CallServes : ℕ → Type 0
  CallServes reads = Serves numbers answers reads (reading G r served.reader) (writing H w served.writer) served.end

  -- it served, and the seat counted what it asked for
  abbrev pub CallConnects : {S L : Type 0} {g : Source.Ghosts S} → ℕ → ConnSeat S L g → ConnSeat S L g → Type 0
  CallConnects reads seat seat' = Connects numbers answers reads (reading G r served.reader) (writing H w served.writer)
      (asks_of seat).asked (asks_of seat').asked served.end

  -- it wrote replies to what was read
  abbrev pub CallWrites : Type 0
  CallWrites = WritesReplies numbers answers (reading G r served.reader) (writing H w served.writer) served.end

  -- the reader gave t in all, the writer took o, and the end fits these very bytes
  abbrev pub CallTells : ℕ → Type 0
  CallTells reads = (t : List ℕ) × (o : List ℕ) × (G.given served.reader ≡ Some t) × (H.taken served.writer ≡ Some o)
      × EndsAs numbers answers reads (reading G r served.reader) (writing H w served.writer) t o served.end
