use Rattle.peer_exchange.proofs.IntakeLemmas.{judged_more}
use Rattle.peer_exchange.proofs.intake.Intake.receive.Goals as goal

pub returns-in-Ok-clause-came : goal.returns-in-Ok-clause-came
returns-in-Ok-clause-came c numbers came ws h =
    let a = c.args.self.now in
    record { judged = judged_more numbers a.stage came _ ws a.count a.held _ c.requires c.in-Ok.ensures.put h.judged }
