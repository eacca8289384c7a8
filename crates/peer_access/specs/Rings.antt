-- Records on their way from a loop to the log.
use Rattle.std.specs.Prelude.{◌≡◌, ◌≤◌, ◌+◌, ◌-◌, ◌^◌, ◌⊎◌, ◌++◌, [], ◌∷◌, length, min}
use Rattle.rtrb.specs.Ring.{IsPair, consumer_capacity, known_free, producer_capacity, received, sent}
use Rattle.peer_access.specs.declared.record.ReplyRecord.{ReplyRecord}
use Rattle.peer_access.specs.declared.ring.RecordsIn.{RecordsIn}
use Rattle.peer_access.specs.declared.ring.RecordsOut.{RecordsOut}

-- the two ends of one ring of 4,096 places, in which nothing was put, and of which nothing was dropped
pub record AreRing (put : RecordsIn) (out : RecordsOut) : Type 0 where
  pub pair : IsPair put.producer out.consumer
  pub places : producer_capacity put.producer ≡ 4096
  pub none : sent put.producer ≡ []
  pub dropped : put.dropped ≡ 0

-- the record stands behind those that were put before, and none was dropped
abbrev pub Puts : ReplyRecord → RecordsIn → RecordsIn → Type 0
Puts r old new = (sent new.producer ≡ sent old.producer ++ r ∷ []) × (new.dropped ≡ old.dropped)

-- no place was free: it was dropped, and counted
abbrev pub Drops : RecordsIn → RecordsIn → Type 0
Drops old new = (sent new.producer ≡ sent old.producer) × (known_free new.producer ≡ 0) × (new.dropped ≡ min (old.dropped + 1) (2 ^ 64 - 1))

-- one of the two
abbrev pub PutsOrDrops : ReplyRecord → RecordsIn → RecordsIn → Type 0
PutsOrDrops r old new = Puts r old new ⊎ Drops old new
