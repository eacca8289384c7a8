use Rattle.std.proofs.Common.{rules, tests}
use Rattle.std.proofs.lemmas.Iterator.Consumers.{YieldsList-from_first}
use Rattle.std.proofs.lemmas.Iterator.Search.{all_from_yields_List}
use Rattle.peer_path.specs.Places.{is_escape_at}
use Rattle.peer_path.proofs.escape.has_good_escapes.Goals as goal

pub returns : goal.returns
returns c =
    all_from_yields_List (is_escape_at c.args.path.now) _ _ _ c.all.ensures.ran
    (YieldsList-from_first (λ x. x) (λ rest. rest) _ c.memchr_iter.ensures.value) (λ x b q k. search (rules, tests))
