use Rattle.std.proofs.Common.{◌≡◌, ◌<◌, ◌++◌, arith, length, length-append, rules, take}
use Rattle.std.proofs.lemmas.List.{length-take}
use Rattle.std.proofs.lemmas.Grind.{common_steps}
use Rattle.peer_view.specs.ReadWrite.{reading}
use Rattle.peer_table.specs.Tables.{MAX_TEXT}
use Rattle.peer_table.proofs.ReadLemmas.{too_large}
use Rattle.peer_table.proofs.intake.read_all.Goals as goal

pub returns-then-n-len : goal.returns-then-n-len
returns-then-n-len g c =
    let R = g.R.PeerRead in
    let i = c.loop-made.invariant in
    let r = c.in-Ok.ensures in
    let p = take c.in-Ok.n c.read.new.room in
    let quiet : R.ends c.read.new.self ≡ R.ends c.loop-made.reader = grind (arith, common_steps, r.end_told) in
    let fine : R.failures c.read.new.self ≡ R.failures c.loop-made.reader = grind (arith, r.failed) in
    let over : MAX_TEXT < length (c.loop-made.text.items ++ p) =
    omega (arith, length-append c.loop-made.text.items p, length-take c.in-Ok.n c.read.new.room, r.bound) in
    too_large (reading R c.args.reader.now c.loop-made.reader) c.loop-made._made c.args.reads
    c.loop-made.text.items p
    (R.given c.read.new.self) (R.calls c.read.new.self) (R.ends c.read.new.self) (R.failures c.read.new.self) i.gave r.bytes r.called
    c.loop-made-test.true i.within over quiet fine

pub returns-in_default : goal.returns-in_default
returns-in_default g c = search rules

pub loop-made-preserved : goal.loop-made-preserved
loop-made-preserved g c = grind (arith, common_steps)
