use Rattle.std.proofs.Common.{sym, subst, List, take, map}
use Rattle.peer_head.specs.Heads.{HeadField}
use Rattle.peer_head.specs.Summaries.{IsSummaryOf}
use Rattle.peer_head.specs.Views.{field_at}
use Rattle.peer_head.proofs.SummaryLemmas.{field_more}
use Rattle.peer_head.proofs.summary.summary_of.Goals as goal

pub loop-field-preserved : goal.loop-field-preserved
loop-field-preserved c =
    let before = map (field_at c.args.block.now) (take c.loop-field.field-index c.args.fields.now) in
    let more = field_more c.args.block.now c.args.fields.now c.loop-field.field-index _ _ _ c.loop-field-test.true c.of.ensures
    c.of-in-loop-field.ensures in
    subst (λ (fs : List HeadField). IsSummaryOf fs c.with-summary.result) (sym more) (c.with-summary.ensures before c.loop-field.invariant)
