use Rattle.std.proofs.Common.{rules}
use Rattle.peer_lane.proofs.lane_out.LaneOut.take_known.Goals as goal

pub returns-clause-known : goal.returns-clause-known
returns-clause-known g c = search rules

pub returns-clause-taken : goal.returns-clause-taken
returns-clause-taken g c = search rules
