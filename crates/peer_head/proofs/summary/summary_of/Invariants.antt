use Rattle.std.proofs.Common.{map, take}
use Rattle.peer_head.specs.Summaries.{IsSummaryOf}
use Rattle.peer_head.specs.Views.{field_at}
use Rattle.peer_head.proofs.summary.summary_of.Given as goal

abbrev pub invariant-loop-field : goal.invariant-loop-field
invariant-loop-field l = IsSummaryOf (map (field_at l.block) (take l.field-index l.fields)) l.summary
