use Rattle.std.proofs.Common.{refl, sym, ◌∙◌, ap, subst, Bool, bytes_eq, codes}
use Rattle.peer_head.specs.Looks.{IsFault, ShowsHead, of_head}
use Rattle.peer_head.specs.Views.{parts_at}
use Rattle.peer_head.proofs.look.judge.Goals as goal

pub new-requires-clause-closes : goal.new-requires-clause-closes
new-requires-clause-closes c =
    let p = parts_at c.args.block.now c.args.fields.now c.args.spans in
    c.is_closing.ensures p c.summary_of-summary.ensures refl

pub returns-in-None : goal.returns-in-None
returns-in-None c = λ text rest begins.
    let p = parts_at c.args.block.now c.args.fields.now c.args.spans in
    let fine = sym (c.in-None.ensures p c.summary_of-summary.ensures refl) in
    subst (ShowsHead text) (sym c.new.ensures)
    (record { block = c.args.block.now; rest = rest; begins = begins; head = c.requires.head.head; fine = fine })

pub returns-in-Some : goal.returns-in-Some
returns-in-Some c = λ text rest begins.
    let p = parts_at c.args.block.now c.args.fields.now c.args.spans in
    let fault = sym (c.in-Some.ensures p c.summary_of-summary.ensures refl) in
    let bare = c.is_bare.ensures ∙ ap (λ v. bytes_eq v (codes "HEAD")) c.of.ensures in
    subst (λ (b : Bool). IsFault text c.in-Some.fault b) (sym bare)
    (of_head c.args.block.now rest begins p c.requires.head.head c.in-Some.fault fault)
