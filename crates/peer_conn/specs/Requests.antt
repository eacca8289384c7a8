-- What a connection's requests did between two moments: the bytes that came, and the wishes that were given.
use Rattle.std.specs.Prelude.{◌≡◌, ℕ, ◌+◌, ◌≤◌, List, [], ◌∷◌, ◌++◌, length, Option, Result, Ok, Err}
use Rattle.std.specs.Io.KnownBytes.{Appends}
use Rattle.peer_flight.specs.declared.table.AskFault.TheVariants as ask
use Rattle.peer_head.specs.Blocks.{IsUnfinished}
use Rattle.peer_view.specs.declared.reader.PeerRead.{Ghosts}
use Rattle.peer_reply.specs.declared.wish.Wish.{Wish}
use Rattle.peer_wish.specs.Known.{IsKnown}
use Rattle.peer_wish.specs.Wishes.{OpenWishes}
use Rattle.peer_conn.specs.Stops.{StopsAs}
use Rattle.peer_conn.specs.Ends.{Reading, reading}
use Rattle.peer_conn.specs.declared.requests.Requests.{Requests}
use Rattle.peer_conn.specs.declared.requests.NextRequest.{NextRequest}
use Rattle.peer_conn.specs.declared.requests.NextRequest.TheVariants as given
use Rattle.peer_conn.specs.declared.end.ReaderStop.{ReaderStop}
use Rattle.peer_conn.specs.declared.end.ReaderStop.TheVariants as stop

module _ {R : Type 0} {G : Ghosts R} where
  abbrev pub reading_of : Requests R G → Requests R G → Reading
  reading_of old new = reading G old.reader new.reader

  -- no byte came yet, and no wish was given
  pub record AreNewRequests (r : R) (reads : ℕ) (q : Requests R G) : Type 0 where
    pub reader : q.reader ≡ r
    pub held : q.held.held ≡ []
    pub count : q.count ≡ 0
    pub left : q.left ≡ reads

  -- the text came, and of it and what was held these wishes were given, none of which closes
  pub record Receives (numbers : List ℕ → Option ℕ) (old new : Requests R G) (ws : List Wish) : Type 0 where
    pub text : List ℕ
    pub gave : Appends (G.given old.reader) (G.given new.reader) text
    pub opens : OpenWishes numbers old.count (old.held.held ++ text) ws new.held.held
    pub counted : new.count ≡ old.count + length ws
    pub calls : G.calls new.reader + new.left ≡ G.calls old.reader + old.left
    pub told : G.ends new.reader ≡ G.ends old.reader
    pub failed : G.failures new.reader ≡ G.failures old.reader

  -- the text came, these wishes were given, and then there was no other, for this stop
  pub record Stops (numbers : List ℕ → Option ℕ) (old new : Requests R G) (ws : List Wish) (stop : ReaderStop) : Type 0 where
    pub text : List ℕ
    pub gave : Appends (G.given old.reader) (G.given new.reader) text
    pub calls : G.calls new.reader ≤ G.calls old.reader + old.left
    pub stops : StopsAs numbers old.count old.left (reading_of old new) (old.held.held ++ text) ws stop

  -- the next wish of the bytes held was given, or there is none
  abbrev pub GivesNext : (List ℕ → Option ℕ) → Requests R G → Requests R G → NextRequest → Type 0
  GivesNext numbers old new (given.Request w) = Receives numbers old new (w ∷ [])
  GivesNext numbers old new (given.Last w) = Stops numbers old new (w ∷ []) stop.Closed
  GivesNext numbers old new given.Need = IsUnfinished new.held.held × Receives numbers old new []
  GivesNext numbers old new given.NoMemory = Stops numbers old new [] (stop.Refused ask.Memory)

  -- bytes came, or no more
  abbrev pub Reads : (List ℕ → Option ℕ) → Requests R G → Requests R G → Result Unit ReaderStop → Type 0
  Reads numbers old new (Ok done) = Receives numbers old new []
  Reads numbers old new (Err stop) = Stops numbers old new [] stop

-- the request that was given, if one was, asks for a group that is one of so many
abbrev pub GivesKnown : ℕ → NextRequest → Type 0
GivesKnown count (given.Request w) = IsKnown count w.body
GivesKnown count (given.Last w) = IsKnown count w.body
GivesKnown count given.Need = Unit {0}
GivesKnown count given.NoMemory = Unit {0}
