use Rattle.std.proofs.Common.{map}
use Rattle.peer_groups.specs.Names.{AreNumbered}
use Rattle.peer_groups.proofs.names.offer_words.Given as goal

abbrev pub invariant-loop-word : goal.invariant-loop-word
invariant-loop-word g l = AreNumbered (g.S.Source.number_of l.source) (map (λ n. n.items) l.names.items)
