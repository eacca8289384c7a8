-- What a claim is of, and what a look at it gives.
use Rattle.std.specs.Prelude.{◌≡◌, ℕ, Option, None, Some, MatchOption}
use Rattle.once_cell.specs.Once.{Agrees}
use Rattle.once_cell.specs.declared.race.note.Note.{Note}
use Rattle.peer_source.specs.Answers.{Filled}
use Rattle.peer_flight.specs.SingleFlight.{Place}
use Rattle.peer_flight.specs.declared.claim.Claim.{Claim}
use Rattle.peer_flight.specs.declared.claim.Claim.TheVariants.{Ready, Pending}

-- what a note knows
abbrev pub known_of : {T : Type 0} → Option (Note T) → Option T
known_of None = None
known_of (Some note) = note.known

-- the place that the claim is of
abbrev pub claim_place : {S : Type 0} → Claim S → Place
claim_place (Ready fill) = record { group = fill.group; key = fill.key }
claim_place (Pending flight) = flight.place

-- the name of the claim's cell, where it has one
abbrev pub claim_cell : {S : Type 0} → Claim S → Option ℕ
claim_cell (Ready fill) = None
claim_cell (Pending flight) = Some flight.cell

-- a look at the claim gave this fill, or none, where the note knew `known` before and `known'` afterwards
abbrev pub Looked : {S : Type 0} → Claim S → Option Filled → Option Filled → Option Filled → Type 0
Looked (Ready fill) known known' result = result ≡ Some fill
Looked (Pending flight) known known' result = MatchOption result ((known ≡ None) × (known' ≡ None))
    (λ seen. (known' ≡ Some seen) × Agrees known seen)
