use Rattle.std.proofs.Common.{map}
use Rattle.peer_groups.specs.Names.{AreNumbered}
use Rattle.peer_groups.proofs.names.offer_table.Given as goal

abbrev pub invariant-loop-number : goal.invariant-loop-number
invariant-loop-number g l = AreNumbered (g.S.Source.number_of l.source) (map (λ n. n.items) l.names.items)
