-- What the two ends of a lane know.
use Rattle.std.specs.Prelude.{◌≡◌, ℕ, List}
use Rattle.rtrb.specs.Ring.{sent, known_free, received, known_items, IsPair, SameProducer, SameConsumer}
use Rattle.peer_source.specs.declared.source.Source.{Ghosts}
use Rattle.peer_wish.specs.declared.ticket.Ticket.{Ticket}
use Rattle.peer_lane.specs.declared.lane_in.LaneIn.{LaneIn}
use Rattle.peer_lane.specs.declared.lane_out.LaneOut.{LaneOut}

module _ {S : Type 0} {G : Ghosts S} where
  -- the tickets put so far, oldest first
  abbrev pub tickets_put : LaneIn S G → List (Ticket S)
  tickets_put l = sent l.producer

  -- how many places are known to be free
  abbrev pub free_places : LaneIn S G → ℕ
  free_places l = known_free l.producer

  -- the tickets taken so far, oldest first
  abbrev pub tickets_taken : LaneOut S G → List (Ticket S)
  tickets_taken l = received l.consumer

  -- the tickets that were seen in the lane and not taken, oldest first
  abbrev pub tickets_known : LaneOut S G → List (Ticket S)
  tickets_known l = known_items l.consumer

  -- these are the two ends of one lane
  abbrev pub IsLane : LaneIn S G → LaneOut S G → Type 0
  IsLane a b = IsPair a.producer b.consumer

  -- this is one end before and after
  abbrev pub IsSameIn : LaneIn S G → LaneIn S G → Type 0
  IsSameIn a b = SameProducer a.producer b.producer

  abbrev pub IsSameOut : LaneOut S G → LaneOut S G → Type 0
  IsSameOut a b = SameConsumer a.consumer b.consumer

  -- this is one end before and after, and no ticket was put, or taken, meanwhile
  abbrev pub PutsNone : LaneIn S G → LaneIn S G → Type 0
  PutsNone a b = IsSameIn a b × (tickets_put b ≡ tickets_put a)

  abbrev pub TakesNone : LaneOut S G → LaneOut S G → Type 0
  TakesNone a b = IsSameOut a b × (tickets_taken b ≡ tickets_taken a)
