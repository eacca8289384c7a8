use Rattle.peer_wish.proofs.WishLemmas.{first_of}
use Rattle.peer_exchange.proofs.IntakeLemmas.{judged_first}
use Rattle.peer_exchange.proofs.intake.Intake.give_up.Goals as goal

pub returns-clause-first : goal.returns-clause-first
returns-clause-first c numbers came ws vs h =
    let a = c.args.self.now in
    record { judged = first_of numbers ws vs 0 came (judged_first numbers a.stage came _ a.count a.held h.judged) }
