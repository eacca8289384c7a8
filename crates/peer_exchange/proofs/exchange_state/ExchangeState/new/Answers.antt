use Rattle.std.proofs.Common.{◌≡◌, [], ◌++◌, inl, List, sym, ap, subst, refl, length, arith}
use Rattle.peer_reply.specs.declared.wish.Wish.{Wish}
use Rattle.peer_wish.specs.Tickets.{wishes_by}
use Rattle.peer_exchange.specs.Intakes.{Judged}
use Rattle.peer_exchange.proofs.IntakeLemmas.{judged_new}
use Rattle.peer_exchange.proofs.exchange_state.ExchangeState.new.Goals as goal

pub returns-clause-upholds : goal.returns-clause-upholds
returns-clause-upholds g c numbers =
    let nothing : List Wish = [] in
    let none : nothing ≡ wishes_by c.new-2.result.items ++ [] = ap (λ ts. wishes_by ts ++ []) (sym c.new-2.ensures.items) in
    record {
      answered = [];
      judged = subst (λ ws. Judged numbers [] ws c.new.result) none (judged_new numbers c.new.result c.new.ensures);
      replies = [];
      each = refl;
      put = c.new-3.ensures;
      waiting = omega (arith, c.new-2.ensures.len);
      unsent = inl (omega (arith, ap length c.new-3.ensures));
    }
