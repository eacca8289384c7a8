use Rattle.std.proofs.Common.{◌++◌, arith, length-append, rules}
use Rattle.crossbeam_queue.specs.Passes.{view}
use Rattle.peer_fill.specs.declared.jobs.Ranked.{Ranked}
use Rattle.peer_fill.specs.Jobs.{ranked}
use Rattle.peer_fill.proofs.Ordering.{learns, length-ranked, weigh-one}
use Rattle.peer_fill.proofs.closed.Closed.report.Goals as goal

pub len_as-queued-requires-clause-rule : goal.len_as-queued-requires-clause-rule
len_as-queued-requires-clause-rule g c =
    let parts = c.args.self.all_parts in
    learns _ _ (omega (arith, c.args.self.totals.pass_parts, parts.0, parts.1))

pub returns-clause-left : goal.returns-clause-left
returns-clause-left g c =
    let held = c.len_as-queued.ensures.rule.1 in
    (held.0, held.2, omega (arith, held.1))

pub returns-clause-each_flight : goal.returns-clause-each_flight
returns-clause-each_flight g c =
    let held = c.len_as-queued.ensures.rule.1 in
    let order = held.2 in
    let all = ranked 0 (order.front ++ held.0) in
    let front = ranked 0 order.front in
    let t = c.args.self.totals in
    let v = view t.pass in
    omega (
      arith,
      held.1,
      order.pushed (λ (x : Ranked). 1),
      order.popped (λ (x : Ranked). 1),
      weigh-one v.pushed,
      weigh-one v.popped,
      weigh-one all,
      weigh-one front,
      length-ranked 0 (order.front ++ held.0),
      length-ranked 0 order.front,
      length-append order.front held.0,
      t.pushed,
      t.popped,
      t.share_led,
      c.count_led-led.ensures.seats,
    )

pub returns-clause-asks : goal.returns-clause-asks
returns-clause-asks g c = search rules

pub returns-clause-each_ask : goal.returns-clause-each_ask
returns-clause-each_ask g c = search rules
