use Rattle.std.proofs.Common.{rules, subst₂, sym}
use Rattle.peer_http.specs.Replies.{Interims, none}
use Rattle.peer_http.proofs.receiving.Receiving.new.Goals as goal

pub invariant_of-result-clause-reads : goal.invariant_of-result-clause-reads
invariant_of-result-clause-reads c = ∣ (subst₂ Interims (sym c.none.ensures) (sym c.new.ensures) none, c.new-2.ensures.items) ∣₁

pub invariant_of-result-clause-silence : goal.invariant_of-result-clause-silence
invariant_of-result-clause-silence c = search rules
