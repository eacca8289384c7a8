use Rattle.std.proofs.Common.{◌+◌, sym, ◌∙◌, refl}
use Rattle.peer_table.proofs.LineLemmas.{repeated, too_many, too_long, adds}
use Rattle.peer_table.proofs.index.add_line.Goals as goal

pub returns-then-not-branch : goal.returns-then-not-branch
returns-then-not-branch c seen plain h =
    repeated _ _ _ _ _ _ c.args.n c.requires.order c.requires.within c.range.ensures c.in-Some.ensures.some _ seen plain h
    _ refl (sym c.if-not-branch.true ∙ c.in_ok-put_joined.ensures.fresh)

pub returns-then-not-branch-2 : goal.returns-then-not-branch-2
returns-then-not-branch-2 c seen plain h =
    too_many _ _ _ _ _ _ c.args.n c.requires.order c.requires.within c.range.ensures c.in-Some.ensures.some _ seen plain h
    _ refl (sym c.if-not-branch.false ∙ c.in_ok-put_joined.ensures.fresh) _ refl
    c.put_name.new.numbers c.put_name.new.names.items (rw c.if-not-branch-2.true at c.in_ok-put_name.ensures.put)

pub returns-then-span-gt-MAX_VALUE : goal.returns-then-span-gt-MAX_VALUE
returns-then-span-gt-MAX_VALUE c seen plain h =
    too_long _ _ _ _ _ _ c.args.n c.requires.order c.requires.within c.range.ensures c.in-Some.ensures.some _ seen plain h
    _ refl (sym c.if-not-branch.false ∙ c.in_ok-put_joined.ensures.fresh) _ refl
    c.put_name.new.numbers c.put_name.new.names.items (rw c.if-not-branch-2.false at c.in_ok-put_name.ensures.put) c.if-span-gt-MAX_VALUE.true

pub returns : goal.returns
returns c seen plain h =
    let from = c.args.from + c.in-Some.tabs.second + 1 in
    adds _ _ _ _ _ _ c.args.n c.requires.order c.requires.within c.range.ensures c.in-Some.ensures.some _ seen plain h
    _ refl (sym c.if-not-branch.false ∙ c.in_ok-put_joined.ensures.fresh) _ refl
    c.put_name.new.numbers c.put_name.new.names.items (rw c.if-not-branch-2.false at c.in_ok-put_name.ensures.put)
    (record { names = c.put_name.new.names; numbers = c.put_name.new.numbers; spans = c.put_joined.new.spans })
    (record { from = from; to = c.args.to }) refl refl refl refl c.in_ok-put_joined.ensures.put c.if-span-gt-MAX_VALUE.false
