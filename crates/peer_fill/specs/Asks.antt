-- What an ask gives, and how it counts.
use Rattle.std.specs.Prelude.{◌≡◌, ◌≤◌, ◌+◌, ℕ}
use Rattle.peer_fill.specs.Caches.{IsFoundFor}
use Rattle.peer_flight.specs.declared.claim.Claim.{Claim}
use Rattle.peer_flight.specs.declared.claim.Claim.TheVariants.{Ready, Pending}
use Rattle.peer_flight.specs.declared.table.Ask.{Ask}
use Rattle.peer_flight.specs.declared.table.Ask.TheVariants.{Led, Joined}
use Rattle.peer_fill.specs.declared.counts.AskCounts.{AskCounts}

-- 1 where a flight was led
abbrev pub led_count : {S : Type 0} → Ask S → ℕ
led_count (Led flight right) = 1
led_count (Joined flight) = 0

-- 1 where the claim is ready
abbrev pub hit_count : {S : Type 0} → Claim S → ℕ
hit_count (Ready fill) = 1
hit_count (Pending flight) = 0

-- one ask more, which gave this claim: a hit where it is ready, and else a flight led or joined
pub record CountsAsk {S : Type 0} (claim : Claim S) (old new : AskCounts) : Type 0 where
  pub asked : new.asked ≡ old.asked + 1
  pub hits : new.hits ≡ old.hits + hit_count claim
  pub flights : hit_count claim + new.led + new.joined ≡ old.led + old.joined + 1
  pub led : old.led ≤ new.led
  pub joined : old.joined ≤ new.joined
  pub strangers : new.strangers ≡ old.strangers

-- a claim that is ready shows a value that was found
abbrev pub IsFoundIfReady : {S : Type 0} → Claim S → Type 0
IsFoundIfReady (Ready fill) = IsFoundFor fill.group fill.key fill
IsFoundIfReady (Pending flight) = Unit {0}
