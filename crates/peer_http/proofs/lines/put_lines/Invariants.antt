use Rattle.std.proofs.Common.{◌≡◌, ◌++◌, take}
use Rattle.peer_http.specs.Fields.{field_lines}
use Rattle.peer_http.specs.Lines.{lines_of}
use Rattle.peer_http.proofs.lines.put_lines.Given as goal

abbrev pub invariant-loop-field : goal.invariant-loop-field
invariant-loop-field l = l.bytes.items ≡ l.fn.bytes.items ++ field_lines (lines_of (take l.field-index l.fields))
