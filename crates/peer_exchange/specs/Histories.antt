-- What a call keeps of the histories of an exchange.
use Rattle.std.specs.Prelude.{◌≡◌, ℕ, List, ◌++◌, take, Result, Ok, Err}
use Rattle.peer_source.specs.declared.source.Source.{Ghosts}
use Rattle.peer_exchange.specs.declared.exchange.Exchange.{Exchange}

-- the first n of these bytes came behind those that had come, or none
abbrev pub Came : {E : Type 0} → List ℕ → List ℕ → List ℕ → Result ℕ E → Type 0
Came old new bytes (Ok n) = new ≡ old ++ take n bytes
Came old new bytes (Err why) = new ≡ old

module _ {S : Type 0} {G : Ghosts S} where
  -- no byte came and none was sent, for the same source
  pub record KeepsHistories (old new : Exchange S G) : Type 0 where
    pub names : new.names ≡ old.names
    pub came : new.came.bytes ≡ old.came.bytes
    pub sent : new.sent.bytes ≡ old.sent.bytes
