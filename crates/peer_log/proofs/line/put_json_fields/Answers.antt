use Rattle.peer_log.specs.Lines.{json_field}
use Rattle.peer_log.proofs.EachLemmas.{one_more}
use Rattle.peer_log.proofs.line.put_json_fields.Goals as goal

pub loop-field-preserved : goal.loop-field-preserved
loop-field-preserved c = one_more json_field c.args.line.now.items c.args.fields.now c.loop-field.field-index _ c.loop-field-test.true c.loop-field.invariant c.in_ok-put_json_field.ensures
