use Rattle.std.proofs.Common.{rules, [], ◌∷◌, ◌++◌, ap, refl, ◌∙◌}
use Rattle.std.specs.VecDeque.{deque_items}
use Rattle.std.proofs.lemmas.Option.{slice_get_read}
use Rattle.peer_value.specs.Waitings.{line_of}
use Rattle.peer_value.proofs.WaitingLemmas.{other_line, pushed_line, same_line}
use Rattle.peer_value.proofs.waiting.Waiting.put.Goals as goal

pub returns-then-is_err-2-clause-others : goal.returns-then-is_err-2-clause-others
returns-then-is_err-2-clause-others g c n differ =
    other_line deque_items c.reserve_lines.new.self.lines.items c.args.group n c.reserve.new.self differ ∙ c.reserve_lines.ensures n

pub returns-then-is_err-2-clause-back : goal.returns-then-is_err-2-clause-back
returns-then-is_err-2-clause-back g c =
    let lines = c.reserve_lines.new.self.lines in
    let line = c.in-Some.line.now in
    let group = c.args.group in
    let there = slice_get_read lines.items lines.len group line (search rules) (search rules) c.in-Some.ensures.value in
    (refl, same_line deque_items lines.items group line c.reserve.new.self there c.reserve.ensures.items ∙ c.reserve_lines.ensures group)

pub returns-clause-put : goal.returns-clause-put
returns-clause-put g c =
    let lines = c.reserve_lines.new.self.lines in
    let line = c.in-Some.line.now in
    let group = c.args.group in
    let before = line_of c.args.self.now group in
    let there = slice_get_read lines.items lines.len group line (search rules) (search rules) c.in-Some.ensures.value in
    let last = c.push_back_reserved.ensures.items ∙ ap (λ xs. xs ++ c.args.under ∷ []) c.reserve.ensures.items in
    pushed_line deque_items lines.items group line c.push_back_reserved.new.self c.args.under before there (c.reserve_lines.ensures group) last

pub returns-clause-others : goal.returns-clause-others
returns-clause-others g c n differ =
    other_line deque_items c.reserve_lines.new.self.lines.items c.args.group n c.push_back_reserved.new.self differ
    ∙ c.reserve_lines.ensures n
