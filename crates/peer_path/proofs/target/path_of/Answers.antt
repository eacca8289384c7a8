use Rattle.std.proofs.Common.{rules, sym, ap, ◌∙◌, ◌∷◌}
use Rattle.std.proofs.lemmas.List.{take_rest}
use Rattle.memchr.specs.Find.{is_byte}
use Rattle.peer_path.specs.Places.{slash}
use Rattle.peer_path.proofs.Searches.{cons-after_first-found, after_first-absent}
use Rattle.peer_path.proofs.TargetLemmas.{path_of-absolute, path_of-other}
use Rattle.peer_path.proofs.target.path_of.Goals as goal

pub returns-in-Some : goal.returns-in-Some
returns-in-Some c =
    path_of-absolute c.args.target.now c.in_ok-scheme.scheme.now c.in_ok-scheme.rest.now _
    (sym c.starts_with.ensures.value ∙ c.if-starts_with.false) (search rules) (search rules) (search rules)
    (take_rest c.in_ok-scheme.rest.now c.in-Some.at ∙ cons-after_first-found slash c.in_ok-scheme.rest.now c.in-Some.at c.in-Some.ensures)

pub returns-in-None : goal.returns-in-None
returns-in-None c =
    path_of-absolute c.args.target.now c.in_ok-scheme.scheme.now c.in_ok-scheme.rest.now _
    (sym c.starts_with.ensures.value ∙ c.if-starts_with.false) (search rules) (search rules) (search rules)
    (ap (λ l. slash ∷ l) (sym (after_first-absent (is_byte slash) c.in_ok-scheme.rest.now c.in-None.ensures)))

pub returns-then-not-eq_ignore_ascii_case : goal.returns-then-not-eq_ignore_ascii_case
returns-then-not-eq_ignore_ascii_case c =
    path_of-other c.args.target.now c.in_ok-scheme.scheme.now (sym c.starts_with.ensures.value ∙ c.if-starts_with.false) (search rules)
    (search rules)
