use Rattle.std.proofs.Common.{arith, length-drop}
use Rattle.std.proofs.lemmas.List.{take_rest}
use Rattle.peer_head.proofs.BlockLemmas.{found_block, no_blank_rest, far_blank_line}
use Rattle.peer_head.proofs.block.find_block.Goals as goal

pub returns-then-end-le-HEAD_LIMIT : goal.returns-then-end-le-HEAD_LIMIT
returns-then-end-le-HEAD_LIMIT c =
    let t = c.args.text.now in
    let s = c.skip_pairs-start.result in
    let found = rw (take_rest t s) at c.in-Some.ensures in
    found_block t s c.in-Some.blank c.skip_pairs-start.ensures found.0 found.1 c.if-end-le-HEAD_LIMIT.true

pub returns-then-text-lt-HEAD_LIMIT : goal.returns-then-text-lt-HEAD_LIMIT
returns-then-text-lt-HEAD_LIMIT c = record {
  short = c.if-text-lt-HEAD_LIMIT.true;
  none = no_blank_rest _ _ c.skip_pairs-start.ensures c.in-None.ensures;
}

pub returns-else-end-le-HEAD_LIMIT : goal.returns-else-end-le-HEAD_LIMIT
returns-else-end-le-HEAD_LIMIT c =
    let t = c.args.text.now in
    let s = c.skip_pairs-start.result in
    let found = rw (take_rest t s) at c.in-Some.ensures in
    record {
      long = omega (arith, found.1.fits, c.if-end-le-HEAD_LIMIT.false, length-drop s t, c.skip_pairs-start.ensures.within);
      none = far_blank_line t s c.in-Some.blank c.skip_pairs-start.ensures found.0 c.if-end-le-HEAD_LIMIT.false;
    }

pub returns-else-text-lt-HEAD_LIMIT : goal.returns-else-text-lt-HEAD_LIMIT
returns-else-text-lt-HEAD_LIMIT c = record {
  long = c.if-text-lt-HEAD_LIMIT.false;
  none = no_blank_rest _ _ c.skip_pairs-start.ensures c.in-None.ensures;
}
