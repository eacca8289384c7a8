use Rattle.std.proofs.Common.{◌∙◌, [], inl, Some, ap, subst}
use Rattle.peer_source.specs.Answers.{Failed}
use Rattle.peer_source.specs.Outcomes.{answer_of}
use Rattle.peer_value.specs.Values.{AnswersBy}
use Rattle.peer_value.proofs.done.fault.Goals as goal

pub returns-in-Text : goal.returns-in-Text
returns-in-Text c = subst (λ a. AnswersBy a (answer_of c.failed.result)) (c.in-Text.ensures []) c.failed.ensures

pub returns-in-TooLong : goal.returns-in-TooLong
returns-in-TooLong c = inl (ap Some (ap Failed c.too_long_text.ensures ∙ c.in-TooLong.ensures []))
