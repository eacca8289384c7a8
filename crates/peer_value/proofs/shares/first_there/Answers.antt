use Rattle.std.proofs.Common.{rules, ◌≡◌}
use Rattle.peer_value.specs.Shares.{host_at}
use Rattle.peer_value.proofs.ShareLemmas.{hosts_from_there, none_more, there_from_hosts}
use Rattle.peer_value.proofs.shares.first_there.Goals as goal

pub returns-then-eq : goal.returns-then-eq
returns-then-eq c = record {
  there = there_from_hosts c.args.endpoints.now c.loop-first.first c.args.number _ _ (search rules) c.index-endpoints-first.is c.requires c.index-endpoints-number.is (search rules);
  first = c.loop-first.invariant;
}

pub loop-first-preserved : goal.loop-first-preserved
loop-first-preserved c =
    let each = c.args.endpoints.now in
    none_more (λ m. host_at each m ≡ host_at each c.args.number) c.loop-first.first c.loop-first.invariant (λ there.
    let same : c.index-endpoints-first.result.host.items ≡ c.index-endpoints-number.result.host.items =
    hosts_from_there each c.loop-first.first c.args.number _ _ (search rules) c.index-endpoints-first.is c.requires c.index-endpoints-number.is there in
    search rules)
