-- What the reader's side of a connection did between two moments: the requests that came, and the tickets that it put.
use Rattle.std.specs.Prelude.{◌≡◌, ℕ, ◌+◌, List, ◌++◌, Option}
use Rattle.std.specs.declared.sync.ledger.Ledger as Ledger
use Rattle.peer_source.specs.declared.source.Source as Source
use Rattle.peer_view.specs.declared.reader.PeerRead as Read
use Rattle.peer_fill.specs.Pools.{IsConnSeatOf}
use Rattle.peer_fill.specs.Seats.{asks_of, conn_parts}
use Rattle.peer_fill.specs.declared.pool.Pool.{Pool}
use Rattle.peer_fill.specs.declared.seats.ConnSeat.{ConnSeat}
use Rattle.peer_lane.specs.Lanes.{IsSameIn, tickets_put}
use Rattle.peer_lane.specs.declared.lane_in.LaneIn.{LaneIn}
use Rattle.peer_reply.specs.declared.wish.Wish.{Wish}
use Rattle.peer_wish.specs.Tickets.{asks_in}
use Rattle.peer_wish.specs.Strangers.{flights_in}
use Rattle.peer_conn.specs.LaneWishes.{wishes_put}
use Rattle.peer_conn.specs.Requests.{Stops}
use Rattle.peer_conn.specs.Strangers.{flights_of}
use Rattle.peer_conn.specs.declared.reader_side.ReaderSide.{ReaderSide}
use Rattle.peer_conn.specs.declared.end.ReaderStop.{ReaderStop}

module _ {S L : Type 0} {g : Source.Ghosts S} {h : Ledger.Ghosts L} where
  -- the tickets of these wishes were put, each that has group and key after it was asked for; the seat is the pool's
  -- still and has its parts, and the end of the lane is the same one
  pub record PutsTickets (pool : Pool S L g h) (seat seat' : ConnSeat S L g) (lane lane' : LaneIn S g) (ws : List Wish) : Type 0 where
    pub of_pool : IsConnSeatOf pool seat'
    pub parts : conn_parts seat' ≡ conn_parts seat
    pub strangers : (asks_of seat').strangers ≡ (asks_of seat).strangers
    pub same : IsSameIn lane lane'
    pub put : wishes_put lane' ≡ wishes_put lane ++ ws
    pub asked : (asks_of seat').asked ≡ (asks_of seat).asked + asks_in ws
    pub flights : flights_of (asks_of seat') + flights_in (tickets_put lane) ≡ flights_of (asks_of seat) + flights_in (tickets_put lane')

  -- these requests came, their tickets were put, and then this stopped it
  pub record TakesRequests {R : Type 0} {k : Read.Ghosts R} (numbers : List ℕ → Option ℕ) (pool : Pool S L g h)
      (old new : ReaderSide S L R g k) (stop : ReaderStop) : Type 0 where
    pub wishes : List Wish
    pub stops : Stops numbers old.requests new.requests wishes stop
    pub puts : PutsTickets pool old.seat new.seat old.lane new.lane wishes
