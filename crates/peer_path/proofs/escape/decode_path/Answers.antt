use Rattle.std.proofs.Common.{sym}
use Rattle.memchr.specs.Find.{is_byte}
use Rattle.percent_encoding.specs.Percent.{percent_sign}
use Rattle.peer_path.proofs.Searches.{All-absent}
use Rattle.peer_path.proofs.EscapeLemmas.{has_good_escapes-plain, percent_decode-plain}
use Rattle.peer_path.proofs.escape.decode_path.Goals as goal

pub returns-in_default-clause-good : goal.returns-in_default-clause-good
returns-in_default-clause-good c = has_good_escapes-plain c.args.path.now c.in_default.ensures

pub returns-in_default-clause-bytes : goal.returns-in_default-clause-bytes
returns-in_default-clause-bytes c =
    sym (percent_decode-plain c.args.path.now (All-absent (is_byte percent_sign) c.args.path.now c.in_default.ensures))
