-- The wishes whose tickets went through a lane.
use Rattle.std.specs.Prelude.{List}
use Rattle.peer_source.specs.declared.source.Source.{Ghosts}
use Rattle.peer_lane.specs.Lanes.{tickets_put, tickets_taken}
use Rattle.peer_lane.specs.declared.lane_in.LaneIn.{LaneIn}
use Rattle.peer_lane.specs.declared.lane_out.LaneOut.{LaneOut}
use Rattle.peer_reply.specs.declared.wish.Wish.{Wish}
use Rattle.peer_wish.specs.Tickets.{wishes_by}

module _ {S : Type 0} {G : Ghosts S} where
  -- the wishes whose tickets were put
  abbrev pub wishes_put : LaneIn S G → List Wish
  wishes_put lane = wishes_by (tickets_put lane)

  -- the wishes whose tickets were taken
  abbrev pub wishes_taken : LaneOut S G → List Wish
  wishes_taken lane = wishes_by (tickets_taken lane)
