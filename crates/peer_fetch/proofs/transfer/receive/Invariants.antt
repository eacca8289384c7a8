use Rattle.peer_runtime.specs.Wires.{Carried}
use Rattle.peer_value.specs.UnderWays.{HasSameJob}
use Rattle.peer_fetch.specs.Transfers.{IsOn}
use Rattle.peer_fetch.proofs.transfer.receive.Given as goal

abbrev pub invariant-loop : goal.invariant-loop
invariant-loop g l = record {
  kept : HasSameJob l.fn.under l.under;
  carried : Carried g.H.Wires.carried l.wire;
  on : IsOn l.wire l.under;
}
