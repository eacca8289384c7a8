use mathlib.Core.Logic.{∥∥₁_map}
use Rattle.std.proofs.Common.{◌∙◌}
use Rattle.fetch_tests.proofs.tests.scripted.ScriptedWires.write.Goals as goal

pub returns-clause-carried : goal.returns-clause-carried
returns-clause-carried g c = ∥∥₁_map c.requires (λ x. (x.0, c.write.ensures.came.0 ∙ x.1))
