-- What a call for a connection did, with its reader and its writer in threads of their own.
use Rattle.std.specs.Prelude.{◌≡◌, ℕ, ◌+◌, List, Option}
use Rattle.peer_source.specs.Answers.{Answer}
use Rattle.peer_flight.specs.declared.table.AskFault.TheVariants as ask
use Rattle.peer_reply.specs.declared.wish.Wish.{Wish}
use Rattle.peer_wish.specs.Wishes.{AreFirst, IsWhole}
use Rattle.peer_wish.specs.Tickets.{asks_in}
use Rattle.peer_wish.specs.declared.end.End.{End}
use Rattle.peer_wish.specs.declared.end.End.TheVariants as end
use Rattle.peer_conn.specs.Ends.{Reading, Writing, Serves}
use Rattle.peer_conn.specs.declared.end.ReaderStop.{ReaderStop}
use Rattle.peer_conn.specs.declared.end.ReaderStop.TheVariants as stop
use Rattle.peer_conn.specs.declared.end.WriterState.{WriterState}
use Rattle.peer_conn.specs.declared.end.WriterState.TheVariants as state

-- the end, by how the writer stands and what stopped the reader
abbrev pub end_for : WriterState → ReaderStop → End
end_for state.WriteFault c = end.WriteFault
end_for state.Memory c = end.Memory
end_for state.Active stop.Closed = end.Clean
end_for state.Active stop.Ended = end.Clean
end_for state.Active stop.Cut = end.Cut
end_for state.Active stop.ReadFault = end.ReadFault
end_for state.Active stop.Spent = end.Spent
end_for state.Active (stop.Refused ask.Memory) = end.Memory
end_for state.Active (stop.Refused ask.Worn) = end.Worn
end_for state.Active stop.Stopped = end.Memory

-- the wishes that were asked for: all of the text's where it was read through
abbrev pub AreAsked : (List ℕ → Option ℕ) → End → List ℕ → List Wish → Type 0
AreAsked numbers end.WriteFault t ws = AreFirst numbers 0 t ws
AreAsked numbers end.Memory t ws = AreFirst numbers 0 t ws
AreAsked numbers end.Worn t ws = AreFirst numbers 0 t ws
AreAsked numbers _ t ws = IsWhole numbers 0 t ws

-- what a call for a connection did; and a seat asked for those of the text's wishes that have group and key
pub record Connects (numbers : List ℕ → Option ℕ) (answers : ℕ → List ℕ → Answer → Type 0) (reads : ℕ)
    (r : Reading) (w : Writing) (asked asked' : ℕ) (end : End) : Type 0 where
  pub serves : Serves numbers answers reads r w end
  pub wishes : List Wish
  pub asks : AreAsked numbers end serves.text wishes
  pub counted : asked' ≡ asked + asks_in wishes
