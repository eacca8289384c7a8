use Rattle.std.proofs.Common.{◌≡◌, refl, subst, true}
use Rattle.peer_fill.specs.Seats.{HaveAllConns, HaveAllFills}
use Rattle.peer_fill.proofs.pool.Pool.end.Goals as goal

pub gather_fills-totals-requires-clause-all : goal.gather_fills-totals-requires-clause-all
gather_fills-totals-requires-clause-all g c =
    let all : c.has_all_fills-all_fills.result ≡ true = cc in
    subst (λ xs. HaveAllFills xs) c.deref.ensures.value (c.has_all_fills-all_fills.ensures.0 all)

pub returns-clause-exactly : goal.returns-clause-exactly
returns-clause-exactly g c =
    let all_fills : c.has_all_fills-all_fills.result ≡ true = cc in
    let all_conns : c.has_all_conns-all_conns.result ≡ true = cc in (
      λ _. (
        subst (λ xs. HaveAllFills xs) c.deref.ensures.value (c.has_all_fills-all_fills.ensures.0 all_fills),
        subst (λ xs. HaveAllConns xs) c.deref-2.ensures.value (c.has_all_conns-all_conns.ensures.0 all_conns),
      ),
      λ _. refl,
    )
