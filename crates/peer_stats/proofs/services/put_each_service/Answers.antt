use Rattle.peer_stats.specs.Services.{service_text}
use Rattle.peer_stats.proofs.EachLemmas.{one_more}
use Rattle.peer_stats.proofs.services.put_each_service.Goals as goal

pub loop-service-preserved : goal.loop-service-preserved
loop-service-preserved c = one_more (service_text c.args.name.now c.args.labels.now c.args.number) c.args.page.now.items c.args.services.now c.loop-service.service-index _ c.loop-service-test.true c.loop-service.invariant c.in_ok-put_service.ensures
