-- What the seats of a pool count.
use Rattle.std.specs.Prelude.{◌≡◌, ◌+◌, ℕ}
use Rattle.peer_fill.specs.declared.counts.AskCounts.{AskCounts}
use Rattle.peer_fill.specs.declared.counts.FillCounts.{FillCounts}
use Rattle.peer_fill.specs.declared.counts.Found.{Found}
use Rattle.peer_fill.specs.declared.counts.Found.TheVariants.{Value, Flight}

-- nothing was asked
abbrev pub no_asks : AskCounts
no_asks = record { asked = 0; hits = 0; led = 0; joined = 0; strangers = 0 }

-- 1 where a value was found, and where a flight was
abbrev pub hits_of : Found → ℕ
hits_of Value = 1
hits_of Flight = 0

abbrev pub joins_of : Found → ℕ
joins_of Value = 0
joins_of Flight = 1

-- one ask more, which found this
abbrev pub with_found : Found → AskCounts → AskCounts
with_found found asks = record asks {
  asked = asks.asked + 1;
  hits = asks.hits + hits_of found;
  joined = asks.joined + joins_of found;
}

-- no job was taken
abbrev pub no_fills : FillCounts
no_fills = record { calls = 0; rehits = 0 }

-- the jobs that were taken
abbrev pub taken_of : FillCounts → ℕ
taken_of fills = fills.calls + fills.rehits

-- the counts of both, added up
pub record AddsAsks (one other sum : AskCounts) : Type 0 where
  pub asked : sum.asked ≡ one.asked + other.asked
  pub hits : sum.hits ≡ one.hits + other.hits
  pub led : sum.led ≡ one.led + other.led
  pub joined : sum.joined ≡ one.joined + other.joined
  pub strangers : sum.strangers ≡ one.strangers + other.strangers

pub record AddsFills (one other sum : FillCounts) : Type 0 where
  pub calls : sum.calls ≡ one.calls + other.calls
  pub rehits : sum.rehits ≡ one.rehits + other.rehits
