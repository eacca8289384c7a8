use Rattle.std.proofs.Common.{◌≡◌, ◌++◌, flat_map, take}
use Rattle.peer_log.specs.Lines.{field_text}
use Rattle.peer_log.proofs.line.put_fields.Given as goal

abbrev pub invariant-loop-field : goal.invariant-loop-field
invariant-loop-field l = l.line.items ≡ l.fn.line.items ++ flat_map field_text (take l.field-index l.fields)
