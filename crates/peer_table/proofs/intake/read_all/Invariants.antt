use Rattle.std.proofs.Common.{◌≤◌, ◌<◌, length}
use Rattle.peer_view.specs.ReadWrite.{reading}
use Rattle.peer_table.specs.Reads.{Gave}
use Rattle.peer_table.specs.Tables.{MAX_TEXT}
use Rattle.peer_table.proofs.intake.read_all.Given as goal

abbrev pub invariant-loop-made : goal.invariant-loop-made
invariant-loop-made g l = record {
  gave : Gave (reading g.R.PeerRead l.fn.reader l.reader) l._made l.text.items;
  within : length l.text.items ≤ MAX_TEXT;
  room : 0 < length l.room.items;
}
