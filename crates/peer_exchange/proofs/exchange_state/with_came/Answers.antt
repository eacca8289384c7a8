use Rattle.std.proofs.Common.{◌<◌, ◌≤◌, ◌+◌, length, arith, add-one}
use Rattle.peer_exchange.proofs.HoldingLemmas.{came_next, came_all}
use Rattle.peer_exchange.proofs.exchange_state.with_came.Goals as goal

pub loop-i-preserved : goal.loop-i-preserved
loop-i-preserved g c =
    let h = c.loop-i.invariant in
    let waiting = c.args.waiting.now in
    let t = c.in-Some.ticket.now in
    let lt : c.loop-i.i < length waiting.items = omega (arith, c.loop-i-test.true, c.len-i-end.ensures, waiting.ok.0) in
    let next = came_next waiting.items c.loop-i.i t h.came c.len_of.result lt c.in-Some.ensures.lookup h.of c.len_of.ensures in
    record { came = h.came + c.len_of.result; of = rw (add-one c.loop-i.i) next; sum = omega (arith, h.sum, c.saturating_add-all.ensures) }

pub returns : goal.returns
returns g c =
    let h = c.loop-i.invariant in
    let waiting = c.args.waiting.now in
    let le : length waiting.items ≤ c.loop-i.i = omega (arith, c.loop-i-test.false, c.len-i-end.ensures, waiting.ok.0) in
    (h.came, came_all waiting.items c.loop-i.i h.came le h.of, h.sum)
