use mathlib.Core.Logic.{∥∥₁_map}
use Rattle.std.proofs.Common.{◌∙◌, ◌++◌, ap, suc}
use Rattle.fetch_tests.specs.declared.tests.scripted.TheConstants.{REPLY}
use Rattle.fetch_tests.proofs.tests.scripted.ScriptedWires.read.Goals as goal

pub returns-clause-carried : goal.returns-clause-carried
returns-clause-carried g c = ∥∥₁_map c.requires.carried (λ x. (suc x.0, c.note_came.ensures.came ∙ ap (λ xs. xs ++ REPLY.now) x.1))
