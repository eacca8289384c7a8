use Rattle.std.proofs.Common.{◌+◌, ◌≤◌, ◌∙◌, ap, append-nil, arith, drop, length, rules, take}
use Rattle.std.proofs.lemmas.List.{take_rest, take_all}
use Rattle.std.proofs.KnownBytes.{Appends-trans}
use Rattle.peer_view.proofs.MovingLemmas.{Appends-take-add, Appends-along, Moves-front, Moves-all}
use Rattle.peer_view.proofs.writer.write_all.Goals as goal

pub loop-at-preserved : goal.loop-at-preserved
loop-at-preserved g c = record {
  within = grind arith;
  wrote = Appends-take-add _ _ _ c.args.bytes.now _ c.loop-at.at c.in-Ok.n (take_rest c.args.bytes.now c.loop-at.at)
      c.loop-at.invariant.wrote c.in-Ok.ensures.bytes;
  same_failures = grind arith;
}

-- a failed write takes nothing, and leaves what is behind what the earlier ones took
pub returns-in-Err-clause-sends : goal.returns-in-Err-clause-sends
returns-in-Err-clause-sends g c = (
  (
    drop c.loop-at.at c.args.bytes.now,
    Moves-front _ _ c.loop-at.at c.args.bytes.now
        (Appends-along _ _ _ _ (append-nil (take c.loop-at.at c.args.bytes.now))
        (Appends-trans _ _ _ _ _ c.loop-at.invariant.wrote c.in-Err.ensures.bytes)),
  ),
  c.in-Err.ensures.failed ∙ ap (λ f. f + 1) c.loop-at.invariant.same_failures,
)

-- in the end all was taken
pub returns-clause-sends : goal.returns-clause-sends
returns-clause-sends g c =
    let whole : length c.args.bytes.now ≤ c.loop-at.at = omega arith in (
      Moves-all _ _ c.args.bytes.now (Appends-along _ _ _ _ (take_all c.loop-at.at c.args.bytes.now whole) c.loop-at.invariant.wrote),
      c.loop-at.invariant.same_failures,
    )

pub returns-in-Err-clause-written : goal.returns-in-Err-clause-written
returns-in-Err-clause-written g c = search rules
