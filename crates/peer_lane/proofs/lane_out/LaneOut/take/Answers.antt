use Rattle.std.proofs.Common.{rules}
use Rattle.peer_lane.proofs.lane_out.LaneOut.take.Goals as goal

pub returns-clause-kept : goal.returns-clause-kept
returns-clause-kept g c = search rules

pub returns-clause-oldest : goal.returns-clause-oldest
returns-clause-oldest g c = search rules

pub returns-clause-succeeds : goal.returns-clause-succeeds
returns-clause-succeeds g c = search rules

pub returns-clause-taken : goal.returns-clause-taken
returns-clause-taken g c = search rules
