use Rattle.std.proofs.lemmas.Grind.{common_steps}
use Rattle.std.proofs.Common.{arith, rules, subst, sym}
use Rattle.peer_http.specs.Receivings.{IsReadTo}
use Rattle.peer_http.proofs.receiving.Receiving.give.Goals as goal

pub invariant_of-self-clause-reads : goal.invariant_of-self-clause-reads
invariant_of-self-clause-reads c =
    let r = c.args.self.now in
    ∣ subst (λ s. IsReadTo r.came.bytes s r.client r.intake c.replace-value.new.dest.items) (sym c.requires) tt ∣₁

pub returns-clause-keeps : goal.returns-clause-keeps
returns-clause-keeps c = grind (arith, common_steps)

pub returns-clause-status : goal.returns-clause-status
returns-clause-status c = search rules
