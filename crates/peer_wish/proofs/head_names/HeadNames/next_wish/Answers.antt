use Rattle.std.proofs.Common.{Some, subst}
use Rattle.peer_wish.specs.Nexts.{IsNextOf}
use Rattle.peer_wish.proofs.head_names.HeadNames.next_wish.Goals as goal

pub returns-in-Some-clause-next : goal.returns-in-Some-clause-next
returns-in-Some-clause-next g c =
    let numbers = g.S.Source.number_of c.self.inside.names in
    subst (λ s. IsNextOf (g.S.Source.number_of s) c.args.held.now (Some c.in-Some.next)) c.self.view_is
    (c.in-Some.ensures numbers c.self.invariant)
