-- What a call of `get` reports.
use Rattle.std.specs.Prelude.{ℕ, List, Option, Some, None, Result, Ok, Err}
use Rattle.peer_source.specs.Answers.{Answer, Found, Failed, too_long_text}
use Rattle.peer_source.specs.declared.source.GetFault.{GetFault}
use Rattle.peer_source.specs.declared.source.GetFault.TheVariants.{Text, TooLong, Memory}

-- the answer that a call reports which left `value` in the sink, none where memory was refused
abbrev pub reported : Result Unit GetFault → List ℕ → Option Answer
reported (Ok done) value = Some (Found value)
reported (Err (Text text)) value = Some (Failed text.items)
reported (Err TooLong) value = Some (Failed too_long_text)
reported (Err Memory) value = None
