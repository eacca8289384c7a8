use Rattle.peer_reply.proofs.VarintLemmas.{after_length, without_length}
use Rattle.peer_reply.proofs.response.read_value.Goals as goal

pub returns-in-Ok : goal.returns-in-Ok
returns-in-Ok c =
    after_length c.args.bytes.now c.in-Ok.length.rest.now c.in-Ok.length.value c.check_length.result c.in-Ok.ensures c.check_length.ensures

pub returns-in-Err : goal.returns-in-Err
returns-in-Err c = without_length c.args.bytes.now c.in-Err.fault c.in-Err.ensures
