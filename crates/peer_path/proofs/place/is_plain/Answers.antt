use Rattle.std.proofs.Common.{◌≡◌, ℕ, Bool, true, false, not, ◌||◌, List, nat_eq, Option, Some, None, codes, sym, refl, ap, ◌∙◌}
use Rattle.std.specs.Prelude.{◌==◌, slice_index, is_some}
use Rattle.std.specs.Bool.{OnTrue}
use Rattle.std.specs.List.{starts_with}
use Rattle.std.proofs.lemmas.Bool.{false≢true}
use Rattle.memchr.specs.Find.{IsFirstByte, is_byte, is_byte2}
use Rattle.percent_encoding.specs.Percent.{percent_sign}
use Rattle.peer_path.specs.Places.{question_mark, place_of, place_below_base}
use Rattle.peer_path.proofs.Searches.{All-absent, before_first-absent}
use Rattle.peer_path.proofs.EscapeLemmas.{percent_decode-plain, has_good_escapes-plain}
use Rattle.peer_path.proofs.place.is_plain.Goals as goal

or_right : (x y : Bool) → y ≡ true → (x || y) ≡ true
or_right true y e = refl
or_right false y e = e

-- where neither of two bytes stands, the first does not
absent_left : (a b : ℕ) (xs : List ℕ) → IsFirstByte (is_byte2 a b) xs None → IsFirstByte (is_byte a) xs None
absent_left a b xs absent = λ k low high is. absent k low high (ap (λ (it : Bool). it || (slice_index xs k == b)) is)

-- and the second does not
absent_right : (a b : ℕ) (xs : List ℕ) → IsFirstByte (is_byte2 a b) xs None → IsFirstByte (is_byte b) xs None
absent_right a b xs absent = λ k low high is. absent k low high (or_right (slice_index xs k == a) (slice_index xs k == b) is)

-- an origin form with neither a query nor an escape leads where it leads as a path
plain_place : (target : List ℕ) → starts_with nat_eq target (codes "/") ≡ true
    → IsFirstByte (is_byte2 question_mark percent_sign) target None → place_of target ≡ place_below_base target
plain_place target starts absent =
    let no_escape = absent_right question_mark percent_sign target absent in
    rw (
      before_first-absent (is_byte question_mark) target (absent_left question_mark percent_sign target absent),
      starts,
      has_good_escapes-plain target no_escape,
      percent_decode-plain target (All-absent (is_byte percent_sign) target no_escape),
    )
    refl

-- the same by what the search answered
plain_where_none : (target : List ℕ) (found : Option ℕ) (none : Bool) → starts_with nat_eq target (codes "/") ≡ true
    → IsFirstByte (is_byte2 question_mark percent_sign) target found → is_some found ≡ not none
    → OnTrue none (place_of target ≡ place_below_base target)
plain_where_none target (Some k) true starts first e = absurd (false≢true (sym e))
plain_where_none target None true starts first e = plain_place target starts first
plain_where_none target found false starts first e = tt

pub returns-then-starts_with : goal.returns-then-starts_with
returns-then-starts_with c =
    plain_where_none c.args.target.now c.memchr2.result c.is_none.result (sym c.starts_with.ensures.value ∙ c.if-starts_with.true)
    c.memchr2.ensures c.is_none.ensures
