use Rattle.std.proofs.Common.{◌∙◌, ◌++◌, ap, codes}
use Rattle.peer_stats.specs.Latencies.{times_text}
use Rattle.peer_stats.specs.declared.latencies.Which.TheVariants as which
use Rattle.peer_stats.proofs.latencies.put_loop_turns.Goals as goal

pub returns : goal.returns
returns c = c.in_ok-put_times.ensures ∙ ap (λ v. c.args.page.now.items ++ times_text (codes "peer_front_loop_turn_duration_seconds") which.Loop v c.args.turns.now.turns) (c.as_bytes.ensures.value ∙ c.format.ensures.text)
