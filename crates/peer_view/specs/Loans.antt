-- What the sinks over a loan were lent, and hold.
use Rattle.std.specs.Prelude.{ℕ, List, take}
use Rattle.std.specs.Borrow.{GName}
use Rattle.peer_view.specs.declared.view_sink.ViewSink.{ViewSink}
use Rattle.peer_view.specs.declared.trunc_sink.TruncSink.{TruncSink}

-- the view, and its loan
abbrev pub lent_view : ViewSink → List ℕ
lent_view s = s.view.now

abbrev pub view_loan : ViewSink → GName
view_loan s = s.view.ghost_name

-- the destination, its loan, how many bytes of the last value fit, and those bytes
abbrev pub destination_of : TruncSink → List ℕ
destination_of s = s.destination.now

abbrev pub destination_loan : TruncSink → GName
destination_loan s = s.destination.ghost_name

abbrev pub kept_len : TruncSink → ℕ
kept_len s = s.len

abbrev pub kept_value : TruncSink → List ℕ
kept_value s = take s.len s.destination.now
