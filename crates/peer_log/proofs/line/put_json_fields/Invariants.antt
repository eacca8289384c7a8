use Rattle.std.proofs.Common.{◌≡◌, ◌++◌, flat_map, take}
use Rattle.peer_log.specs.Lines.{json_field}
use Rattle.peer_log.proofs.line.put_json_fields.Given as goal

abbrev pub invariant-loop-field : goal.invariant-loop-field
invariant-loop-field l = l.line.items ≡ l.fn.line.items ++ flat_map json_field (take l.field-index l.fields)
