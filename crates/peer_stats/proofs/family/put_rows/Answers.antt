use Rattle.peer_stats.specs.Families.{labelled_text}
use Rattle.peer_stats.proofs.EachLemmas.{one_more}
use Rattle.peer_stats.proofs.family.put_rows.Goals as goal

pub loop-row-preserved : goal.loop-row-preserved
loop-row-preserved c = one_more (λ row. labelled_text c.args.name.now row.0.now row.1) c.args.page.now.items c.args.rows.now c.loop-row.row-index _ c.loop-row-test.true c.loop-row.invariant c.in_ok-put_labelled.ensures
