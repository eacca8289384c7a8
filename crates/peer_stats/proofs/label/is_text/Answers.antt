use Rattle.std.proofs.Common.{◌∙◌}
use Rattle.peer_stats.proofs.TextLemmas.{read_as_text}
use Rattle.peer_stats.proofs.label.is_text.Goals as goal

pub returns : goal.returns
returns c = c.is_ok.ensures.value ∙ read_as_text _ _ c.args.name.now c.from_utf8.result c.from_utf8.ensures.cases
