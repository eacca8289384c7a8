use Rattle.std.proofs.Common.{◌≡◌, ◌++◌, flat_map, take}
use Rattle.peer_stats.specs.Services.{service_text}
use Rattle.peer_stats.proofs.services.put_each_service.Given as goal

abbrev pub invariant-loop-service : goal.invariant-loop-service
invariant-loop-service l = l.page.items ≡ l.fn.page.items ++ flat_map (service_text l.name l.labels l.number) (take l.service-index l.services)
