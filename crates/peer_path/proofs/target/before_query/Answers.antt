use Rattle.std.proofs.Common.{sym, ap, take}
use Rattle.memchr.specs.Find.{is_byte}
use Rattle.peer_path.specs.Places.{question_mark}
use Rattle.peer_path.proofs.Searches.{position_or_len-found, before_first-absent}
use Rattle.peer_path.proofs.target.before_query.Goals as goal

pub returns-in-Some : goal.returns-in-Some
returns-in-Some c =
    ap (λ n. take n c.args.target.now) (sym (position_or_len-found (is_byte question_mark) _ _ c.in-Some.ensures))

pub returns-in-None : goal.returns-in-None
returns-in-None c = sym (before_first-absent (is_byte question_mark) _ c.in-None.ensures)
