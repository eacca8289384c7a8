-- What the outcome of a fill says.
use Rattle.std.specs.Prelude.{Option, Some, None}
use Rattle.peer_source.specs.Answers.{Answer, Found, Failed}
use Rattle.peer_source.specs.declared.fill.Outcome.{Outcome}
use Rattle.peer_source.specs.declared.fill.Outcome.TheVariants as outcome

-- the answer of an outcome, none where memory was refused
abbrev pub answer_of : Outcome → Option Answer
answer_of (outcome.Found value) = Some (Found value)
answer_of (outcome.Failed text) = Some (Failed text)
answer_of outcome.NoMemory = None
