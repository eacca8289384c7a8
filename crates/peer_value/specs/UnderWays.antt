-- What is known of a value under way, and of one that is done.
use Rattle.std.specs.Prelude.{◌≡◌, ℕ, Bool, List, IfErr, IfOk, IsSomeAnd}
use Rattle.std.specs.declared.time.Duration.{Duration}
use Rattle.peer_source.specs.declared.source.Source as Source
use Rattle.peer_origin.specs.Fetched.{IfStatus}
use Rattle.peer_value.specs.Values.{IsAnswerOf, IsCarried, IsFailureOf, IsFree, IsSent}
use Rattle.peer_origin.specs.declared.failure.Failure.{Failure}
use Rattle.peer_value.specs.declared.done.Done.{Done}
use Rattle.peer_value.specs.declared.fetching.Answer.{Answer}
use Rattle.peer_value.specs.declared.under_way.UnderWay.{UnderWay}

module _ {S : Type 0} {g : Source.Ghosts S} where
  -- it is the same job at the same numbered endpoint, due at the same time
  abbrev pub HasSameJob : UnderWay S g → UnderWay S g → Type 0
  HasSameJob u u' = (u'.at ≡ u.at) × (u'.job ≡ u.job) × (u'.due ≡ u.due)

  -- the number of its endpoint
  abbrev pub number_of : UnderWay S g → ℕ
  number_of u = u.at.number

  -- when it is given up
  abbrev pub due_of : UnderWay S g → Duration
  due_of u = u.due

  -- its whole request was sent
  abbrev pub IsAsked : UnderWay S g → Type 0
  IsAsked u = IsSent u.fetching

  -- this is the answer of its fetch
  abbrev pub IsAnswerTo : UnderWay S g → Answer → Type 0
  IsAnswerTo u = IsAnswerOf u.fetching

  -- the job is given back with its endpoint
  abbrev pub IsDoneOf : UnderWay S g → Done S g → Type 0
  IsDoneOf u d = (d.endpoint ≡ u.at.endpoint) × (d.job ≡ u.job)

  -- if a value was found, or a status is told, a network says what the connection of its fetch carried
  abbrev pub IsDoneOn : (List ℕ → List ℕ → Bool → Type 0) → Done S g → Type 0
  IsDoneOn carried d = IfOk d.got (λ v. IsSomeAnd d.by (IsCarried carried)) × IfErr d.got (λ why. IfStatus why (λ s. IsSomeAnd d.by (IsCarried carried)))

  -- a network says what the connection of its fetch carried, and a status that this failure tells is one that came there
  abbrev pub IsCutOn : (List ℕ → List ℕ → Bool → Type 0) → UnderWay S g → Failure → Type 0
  IsCutOn carried u failure = IsCarried carried u.fetching × IsFailureOf u.fetching failure

  -- another request may follow on the connection of its fetch
  abbrev pub LeavesFree : Done S g → Type 0
  LeavesFree d = IsSomeAnd d.by IsFree
