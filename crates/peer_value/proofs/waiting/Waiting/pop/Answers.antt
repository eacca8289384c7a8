use Rattle.std.proofs.Common.{rules}
use Rattle.std.specs.VecDeque.{deque_items}
use Rattle.std.proofs.lemmas.Option.{slice_get_read}
use Rattle.peer_value.proofs.WaitingLemmas.{other_line, popped_line}
use Rattle.peer_value.proofs.waiting.Waiting.pop.Goals as goal

pub returns-clause-first : goal.returns-clause-first
returns-clause-first g c =
    let lines = c.args.self.now.lines in
    let line = c.in_ok-get_mut.field-0.now in
    let there = slice_get_read lines.items lines.len c.args.group line (search rules) (search rules) c.in_ok-get_mut.ensures.value in
    popped_line deque_items lines.items c.args.group line _ c.in_ok-under.under there c.in_ok-under.ensures.items

pub returns-clause-others : goal.returns-clause-others
returns-clause-others g c n differ = other_line deque_items c.args.self.now.lines.items c.args.group n _ differ
