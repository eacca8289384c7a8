use Rattle.peer_log.specs.Lines.{field_text}
use Rattle.peer_log.proofs.EachLemmas.{one_more}
use Rattle.peer_log.proofs.line.put_fields.Goals as goal

pub loop-field-preserved : goal.loop-field-preserved
loop-field-preserved c = one_more field_text c.args.line.now.items c.args.fields.now c.loop-field.field-index _ c.loop-field-test.true c.loop-field.invariant c.in_ok-put_field.ensures
