use Rattle.std.proofs.Common.{Some, subst, sym, ◌∙◌, refl}
use Rattle.peer_wish.specs.Nexts.{IsNextOf}
use Rattle.peer_wish.proofs.WishLemmas.{next_block}
use Rattle.peer_wish.proofs.KnownLemmas.{next_known}
use Rattle.peer_conn.proofs.RequestLemmas.{given_last, given_open}
use Rattle.peer_conn.proofs.requests.Requests.next_held.Goals as goal

pub returns-then-closes_after-clause-gives : goal.returns-then-closes_after-clause-gives
returns-then-closes_after-clause-gives g c =
    let next : IsNextOf (g.S.Source.number_of c.args.names.now) c.args.self.now.held.held (Some c.in-Some.next) = subst (λ t. IsNextOf (g.S.Source.number_of c.args.names.now) t (Some c.in-Some.next)) c.rest.ensures.bytes (rw c.in-Some.is at c.in-Ok.ensures) in
    given_last _ c.args.self.now _ c.in-Some.next.wish next.0 (sym c.closes_after.ensures ∙ c.if-closes_after.true) refl

pub drop_front-requires-clause-block : goal.drop_front-requires-clause-block
drop_front-requires-clause-block g c =
    let next : IsNextOf (g.S.Source.number_of c.args.names.now) c.args.self.now.held.held (Some c.in-Some.next) = subst (λ t. IsNextOf (g.S.Source.number_of c.args.names.now) t (Some c.in-Some.next)) c.rest.ensures.bytes (rw c.in-Some.is at c.in-Ok.ensures) in
    next_block _ c.args.self.now.count _ c.in-Some.next.wish next.0 (sym c.closes_after.ensures ∙ c.if-closes_after.false)

pub returns-clause-gives : goal.returns-clause-gives
returns-clause-gives g c =
    let next : IsNextOf (g.S.Source.number_of c.args.names.now) c.args.self.now.held.held (Some c.in-Some.next) = subst (λ t. IsNextOf (g.S.Source.number_of c.args.names.now) t (Some c.in-Some.next)) c.rest.ensures.bytes (rw c.in-Some.is at c.in-Ok.ensures) in
    given_open _ c.args.self.now _ c.in-Some.next.wish next.0 (sym c.closes_after.ensures ∙ c.if-closes_after.false) c.drop_front.ensures.rest refl refl refl

pub returns-then-closes_after-clause-known : goal.returns-then-closes_after-clause-known
returns-then-closes_after-clause-known g c =
    let next : IsNextOf (g.S.Source.number_of c.args.names.now) c.args.self.now.held.held (Some c.in-Some.next) = subst (λ t. IsNextOf (g.S.Source.number_of c.args.names.now) t (Some c.in-Some.next)) c.rest.ensures.bytes (rw c.in-Some.is at c.in-Ok.ensures) in
    let laws = g.met.S.Source in
    next_known _ _ (laws.numbered c.args.names.now) _ c.in-Some.next.wish next.0

pub returns-clause-known : goal.returns-clause-known
returns-clause-known g c =
    let next : IsNextOf (g.S.Source.number_of c.args.names.now) c.args.self.now.held.held (Some c.in-Some.next) = subst (λ t. IsNextOf (g.S.Source.number_of c.args.names.now) t (Some c.in-Some.next)) c.rest.ensures.bytes (rw c.in-Some.is at c.in-Ok.ensures) in
    let laws = g.met.S.Source in
    next_known _ _ (laws.numbered c.args.names.now) _ c.in-Some.next.wish next.0

pub drop_front-requires-clause-len : goal.drop_front-requires-clause-len
drop_front-requires-clause-len g c =
    let next : IsNextOf (g.S.Source.number_of c.args.names.now) c.args.self.now.held.held (Some c.in-Some.next) = subst (λ t. IsNextOf (g.S.Source.number_of c.args.names.now) t (Some c.in-Some.next)) c.rest.ensures.bytes (rw c.in-Some.is at c.in-Ok.ensures) in
    next.1
