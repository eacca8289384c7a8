use Rattle.peer_conn.proofs.ResponseLemmas.{replies_fill, some_allowed}
use Rattle.peer_conn.proofs.writer_side.WriterSide.put_fill.Goals as goal

pub returns-clause-replies : goal.returns-clause-replies
returns-clause-replies g c =
    let fill = c.args.fill.now in
    replies_fill (record { number = fill.group }) fill.key c.args.form.closing c.args.form.bare fill.answer (some_allowed (g.S.Source.allowed fill.group fill.key) fill.answer c.law.ensures) c.put_fill.ensures
