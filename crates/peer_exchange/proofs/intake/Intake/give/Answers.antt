use Rattle.std.proofs.Common.{refl}
use Rattle.peer_exchange.proofs.IntakeLemmas.{judges_closing, judges_staying}
use Rattle.peer_exchange.proofs.intake.Intake.give.Goals as goal

pub returns-then-closing-clause-judges : goal.returns-then-closing-clause-judges
returns-then-closing-clause-judges c numbers w next front same = judges_closing numbers c.args.self.now _ w c.args.closing c.requires.judging next same c.if-closing.true refl

pub returns-else-closing-clause-judges : goal.returns-else-closing-clause-judges
returns-else-closing-clause-judges c numbers w next front same =
    judges_staying numbers c.args.self.now _ w c.args.closing c.args.len c.requires.judging next front same c.if-closing.false c.drop_front.ensures refl refl
