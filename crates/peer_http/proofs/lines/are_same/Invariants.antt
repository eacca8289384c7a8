use Rattle.std.proofs.Common.{◌≡◌, take}
use Rattle.peer_http.specs.Lines.{lines_of}
use Rattle.peer_http.proofs.lines.are_same.Given as goal

abbrev pub invariant-loop-index : goal.invariant-loop-index
invariant-loop-index l = lines_of (take l.index l.fields) ≡ lines_of (take l.index l.others)
