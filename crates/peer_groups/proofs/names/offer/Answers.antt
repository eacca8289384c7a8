use Rattle.std.proofs.Common.{rules}
use Rattle.peer_groups.proofs.NameLemmas.{offered}
use Rattle.peer_groups.proofs.names.offer.Goals as goal

pub returns : goal.returns
returns g c = offered (g.S.Source.number_of c.args.source.now) c.args.names.now.items c.in_ok-to_vec.field-0 c.args.name.now c.in-Some.group.number c.in_ok-push.ensures.items (search rules) c.in-Some.ensures (search rules) c.requires
