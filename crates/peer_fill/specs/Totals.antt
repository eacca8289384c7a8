-- What seats counted, added up.
use Rattle.std.specs.Prelude.{◌≡◌, ℕ, List, sum_by}
use Rattle.peer_source.specs.declared.source.Source as Source
use Rattle.std.specs.declared.sync.ledger.Ledger as Ledger
use Rattle.peer_fill.specs.declared.counts.AskCounts.{AskCounts}
use Rattle.peer_fill.specs.declared.counts.FillCounts.{FillCounts}
use Rattle.peer_fill.specs.declared.close.Report.{Report}
use Rattle.peer_fill.specs.declared.jobs.Ranked.{Ranked}
use Rattle.peer_fill.specs.declared.seats.ConnSeat.{ConnSeat}
use Rattle.peer_fill.specs.declared.seats.FillSeat.{FillSeat}
use Rattle.peer_fill.specs.Jobs.{weigh}
use Rattle.peer_fill.specs.Seats.{asks_of, fills_of, pushed_of, popped_of}

module _ {S L : Type 0} {g : Source.Ghosts S} where
  -- the asks of these seats, added up
  pub record IsTotalOfConns (seats : List (ConnSeat S L g)) (sum : AskCounts) : Type 0 where
    pub asked : sum.asked ≡ sum_by (λ s. (asks_of s).asked) seats
    pub hits : sum.hits ≡ sum_by (λ s. (asks_of s).hits) seats
    pub led : sum.led ≡ sum_by (λ s. (asks_of s).led) seats
    pub joined : sum.joined ≡ sum_by (λ s. (asks_of s).joined) seats
    pub strangers : sum.strangers ≡ sum_by (λ s. (asks_of s).strangers) seats

  -- these are the flights whose jobs these seats pushed, however they are weighed
  abbrev pub ArePushedBy : List (ConnSeat S L g) → List Ranked → Type 0
  ArePushedBy seats all = (w : Ranked → ℕ) → weigh w all ≡ sum_by (λ s. weigh w (pushed_of s)) seats

module _ {S L : Type 0} {g : Source.Ghosts S} {h : Ledger.Ghosts L} where
  -- the jobs of these seats, added up
  pub record IsTotalOfFills (seats : List (FillSeat S L g h)) (sum : FillCounts) : Type 0 where
    pub calls : sum.calls ≡ sum_by (λ s. (fills_of s).calls) seats
    pub rehits : sum.rehits ≡ sum_by (λ s. (fills_of s).rehits) seats

  -- these are the flights whose jobs these seats popped, however they are weighed
  abbrev pub ArePoppedBy : List (FillSeat S L g h) → List Ranked → Type 0
  ArePoppedBy seats all = (w : Ranked → ℕ) → weigh w all ≡ sum_by (λ s. weigh w (popped_of s)) seats

  -- the report tells the sums of what these seats counted
  pub record AddsUp (workers : List (FillSeat S L g h)) (clients : List (ConnSeat S L g)) (report : Report) : Type 0 where
    pub asked : report.asked ≡ sum_by (λ s. (asks_of s).asked) clients
    pub hits : report.hits ≡ sum_by (λ s. (asks_of s).hits) clients
    pub led : report.led ≡ sum_by (λ s. (asks_of s).led) clients
    pub joined : report.joined ≡ sum_by (λ s. (asks_of s).joined) clients
    pub strangers : report.strangers ≡ sum_by (λ s. (asks_of s).strangers) clients
    pub calls : report.calls ≡ sum_by (λ s. (fills_of s).calls) workers
    pub rehits : report.rehits ≡ sum_by (λ s. (fills_of s).rehits) workers

-- the report tells these counts
pub record Reports (report : Report) (asks : AskCounts) (fills : FillCounts) : Type 0 where
  pub asked : report.asked ≡ asks.asked
  pub hits : report.hits ≡ asks.hits
  pub led : report.led ≡ asks.led
  pub joined : report.joined ≡ asks.joined
  pub strangers : report.strangers ≡ asks.strangers
  pub calls : report.calls ≡ fills.calls
  pub rehits : report.rehits ≡ fills.rehits
