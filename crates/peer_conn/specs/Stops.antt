-- What stopped the reader of a connection.
use Rattle.std.specs.Prelude.{◌≡◌, ℕ, ◌+◌, ◌<◌, ◌≤◌, ⊤, List, Option}
use Rattle.std.specs.Io.KnownBytes.{Appends}
use Rattle.peer_view.specs.ReadWrite.{Reading}
use Rattle.peer_reply.specs.declared.wish.Wish.{Wish}
use Rattle.peer_wish.specs.Wishes.{ClosedWishes, AreFirst, AreAll}
use Rattle.peer_wish.specs.Ends.{AreToEnd, AreToCut}
use Rattle.peer_conn.specs.declared.end.ReaderStop.{ReaderStop}
use Rattle.peer_conn.specs.declared.end.ReaderStop.TheVariants as stop

-- what stopped the reader at the text t, after n wishes and the wishes ws of t
abbrev pub StopsAs : (List ℕ → Option ℕ) → ℕ → ℕ → Reading → List ℕ → List Wish → ReaderStop → Type 0
StopsAs numbers n reads r t ws stop.Closed = ClosedWishes numbers n t ws × (r.failures' ≡ r.failures)
StopsAs numbers n reads r t ws stop.Ended = AreToEnd numbers n t ws × (r.ends < r.ends') × (r.failures' ≡ r.failures)
StopsAs numbers n reads r t ws stop.Cut = AreToCut numbers n t ws × (r.ends < r.ends') × (r.failures' ≡ r.failures)
StopsAs numbers n reads r t ws stop.ReadFault = (rest : List ℕ) × AreAll numbers n t ws rest × (r.failures < r.failures')
StopsAs numbers n reads r t ws stop.Spent = (rest : List ℕ) × AreAll numbers n t ws rest × (r.calls' ≡ r.calls + reads)
    × (r.ends' ≡ r.ends) × (r.failures' ≡ r.failures)
StopsAs numbers n reads r t ws (stop.Refused fault) = AreFirst numbers n t ws
StopsAs numbers n reads r t ws stop.Stopped = AreFirst numbers n t ws

-- what stopped an end of reads
abbrev pub IsEndOfReads : ReaderStop → Type 0
IsEndOfReads stop.Ended = ⊤
IsEndOfReads stop.Cut = ⊤
IsEndOfReads stop.ReadFault = ⊤
IsEndOfReads stop.Spent = ⊤
IsEndOfReads _ = ⊥

-- the reader gave a text in at most `reads` reads, its wishes are ws, and this stopped it
pub record IsRead (numbers : List ℕ → Option ℕ) (reads : ℕ) (r : Reading) (ws : List Wish) (stop : ReaderStop) : Type 0 where
  pub text : List ℕ
  pub gave : Appends r.given r.given' text
  pub calls : r.calls' ≤ r.calls + reads
  pub stops : StopsAs numbers 0 reads r text ws stop
