use Rattle.std.proofs.Common.{slice_get}
use Rattle.peer_origin.proofs.FaultLemmas.{unreached_answers}
use Rattle.peer_origin.proofs.source.OriginSourceSource.get.Goals as goal

pub returns : goal.returns
returns g c = unreached_answers g.H.Wires.carried (slice_get c.args.self.now.origins.items c.args._group.number) c.args._key.now _ (c.get_fault.ensures c.args._sink.now)
