-- A text without a bad line is that of its lines.
use Rattle.std.proofs.Common.{◌≡◌, ℕ, ◌+◌, Bool, true, false, cond, List, [], ◌∷◌, ◌++◌, length, All, Option, Some, None}
use Rattle.std.proofs.Common.{refl, sym, ap, ◌∙◌, subst, arith, append_assoc, append-nil}
use Rattle.std.specs.Prelude.{is_some, nat_lt, ◌==◌}
use Rattle.std.proofs.lemmas.Bool.{eqb-true, ltb-false}
use Rattle.std.proofs.lemmas.Option.{none-some, same_Some}
use Rattle.std.proofs.lemmas.List.Elements.{All-nil, All-append, All-cons}
use Rattle.peer_view.specs.Sinks.{MAX_VALUE}
use Rattle.peer_table.specs.Tables.{IsShort, Line, bad_line, before_pieces, fault_behind, first_bad, first_bad_from, first_of, line_bytes}
use Rattle.peer_table.specs.Tables.{line_of, lines_behind, lines_of, names_of, pieces, three_of, value_in, with_line, with_name, written}
use Rattle.peer_table.specs.Tables.{MAX_GROUPS}
use Rattle.peer_table.specs.declared.fault.TableFault.{TableFault}
use Rattle.peer_table.specs.declared.fault.TableFault.TheVariants as fault
use Rattle.peer_table.proofs.PieceLemmas.{some_piece}

-- pieces with a byte between them
abbrev pub join : ℕ → List (List ℕ) → List ℕ
join b [] = []
join b (p ∷ []) = p
join b (p ∷ q ∷ ps) = p ++ b ∷ join b (q ∷ ps)

join_before : (b x : ℕ) (p : List ℕ) (ps : List (List ℕ)) → join b ((x ∷ p) ∷ ps) ≡ x ∷ join b (p ∷ ps)
join_before b x p [] = refl
join_before b x p (q ∷ ps) = refl

-- the pieces joined are the bytes
pub join-pieces : (b : ℕ) (xs : List ℕ) → join b (pieces b xs) ≡ xs
join-pieces b [] = refl
join-pieces b (x ∷ xs) =
    let h = some_piece b xs in
    let on : join b (h.0 ∷ h.1) ≡ xs = ap (join b) (sym h.2) ∙ join-pieces b xs in
    (elim (x == b) as (λ v. (x == b) ≡ v → join b (cond v ([] ∷ pieces b xs) (before_pieces x (pieces b xs))) ≡ x ∷ xs) [
      | true ↦ λ e. ap (λ ps. join b ([] ∷ ps)) h.2 ∙ ap (λ l. b ∷ l) on ∙ ap (λ y. y ∷ xs) (sym (eqb-true x b e))
      | false ↦ λ _. ap (λ ps. join b (before_pieces x ps)) h.2 ∙ join_before b x h.0 h.1 ∙ ap (λ l. x ∷ l) on
    ]) refl

three_joined : (ps : List (List ℕ)) (line : Line) → three_of ps ≡ Some line → join 9 ps ≡ line.group ++ 9 ∷ (line.key ++ 9 ∷ line.value)
three_joined [] line e = absurd (none-some line e)
three_joined (a ∷ []) line e = absurd (none-some line e)
three_joined (a ∷ b ∷ []) line e = absurd (none-some line e)
three_joined (a ∷ b ∷ x ∷ []) line e =
    ap (λ (l : Line). l.group ++ 9 ∷ (l.key ++ 9 ∷ l.value)) (same_Some (record { group = a; key = b; value = x }) line e)
three_joined (a ∷ b ∷ x ∷ d ∷ ps) line e = absurd (none-some line e)

-- a line's bytes and its end
line_joined : (bytes : List ℕ) (line : Line) → line_of bytes ≡ Some line → line_bytes line ≡ bytes ++ 10 ∷ []
line_joined bytes line e =
    let h : bytes ≡ line.group ++ 9 ∷ (line.key ++ 9 ∷ line.value) = sym (join-pieces 9 bytes) ∙ three_joined (pieces 9 bytes) line e in
    sym (ap (λ l. l ++ 10 ∷ []) h ∙ append_assoc line.group (9 ∷ (line.key ++ 9 ∷ line.value)) (10 ∷ [])
    ∙ ap (λ l. line.group ++ 9 ∷ l) (append_assoc line.key (9 ∷ line.value) (10 ∷ [])))

written_push : (lines : List Line) (line : Line) → written (lines ++ line ∷ []) ≡ written lines ++ line_bytes line
written_push [] line = append-nil (line_bytes line)
written_push (l ∷ lines) line =
    ap (λ t. line_bytes l ++ t) (written_push lines line) ∙ sym (append_assoc (line_bytes l) (written lines) (line_bytes line))

both_none : (a b : Option TableFault) → first_of a b ≡ None → (a ≡ None) × (b ≡ None)
both_none None b e = (refl, e)
both_none (Some f) b e = absurd (none-some f (sym e))

value_short : (n : ℕ) (before : List Line) (line : Line) → fault_behind n before line ≡ None → IsShort line
value_short n before line e =
    go (is_some (value_in before line.group line.key)) (nat_lt MAX_GROUPS (length (with_name (names_of before) line.group)))
    (nat_lt MAX_VALUE (length line.value)) refl e where
      go : (a b d : Bool) → nat_lt MAX_VALUE (length line.value) ≡ d
          → cond a (Some (fault.Repeated n)) (cond b (Some (fault.Groups n)) (cond d (Some (fault.Value n)) None)) ≡ None → IsShort line
      go true b d is h = absurd (none-some (fault.Repeated n) (sym h))
      go false true d is h = absurd (none-some (fault.Groups n) (sym h))
      go false false true is h = absurd (none-some (fault.Value n) (sym h))
      go false false false is h = ltb-false MAX_VALUE (length line.value) is

-- what holds behind the lines before
pub record Whole (before : List Line) (ps : List (List ℕ)) : Type 0 where
  pub text : written (lines_behind before ps) ≡ written before ++ join 10 ps
  pub short : All IsShort before → All IsShort (lines_behind before ps)

whole_left : (n : ℕ) (before : List Line) (left : List ℕ) → first_bad_from n before (left ∷ []) ≡ None → Whole before (left ∷ [])
whole_left n before [] e = record { text = sym (append-nil (written before)); short = λ all. all }
whole_left n before (x ∷ xs) e =
    let more : (length (x ∷ xs) == 0) ≡ false = grind arith in
    absurd (none-some (fault.Line n) (sym (rw more at e)))

whole_line : (n : ℕ) (before : List Line) (bytes : List ℕ) (q : List ℕ) (ps : List (List ℕ)) (o : Option Line) → line_of bytes ≡ o
    → bad_line n before o ≡ None → Whole (with_line before o) (q ∷ ps) → Whole before (bytes ∷ q ∷ ps)
whole_line n before bytes q ps None is good on = absurd (none-some (fault.Line n) (sym good))
whole_line n before bytes q ps (Some line) is good on =
    let with : with_line before (line_of bytes) ≡ before ++ line ∷ [] = ap (with_line before) is in
    record {
      text =
          ap (λ l. written (lines_behind l (q ∷ ps))) with ∙ on.text
          ∙ ap (λ t. t ++ join 10 (q ∷ ps)) (written_push before line ∙ ap (λ t. written before ++ t) (line_joined bytes line is))
          ∙ append_assoc (written before) (bytes ++ 10 ∷ []) (join 10 (q ∷ ps))
          ∙ ap (λ t. written before ++ t) (append_assoc bytes (10 ∷ []) (join 10 (q ∷ ps)));
      short = λ all. subst (λ l. All IsShort (lines_behind l (q ∷ ps))) (sym with)
          (on.short (All-append IsShort before (line ∷ []) all
          (All-cons IsShort line [] (value_short n before line good) (All-nil IsShort))));
    }

pub whole : (n : ℕ) (before : List Line) (ps : List (List ℕ)) → first_bad_from n before ps ≡ None → Whole before ps
whole n before [] e = record { text = sym (append-nil (written before)); short = λ all. all }
whole n before (left ∷ []) e = whole_left n before left e
whole n before (bytes ∷ q ∷ ps) e =
    let h = both_none (bad_line n before (line_of bytes)) (first_bad_from (n + 1) (with_line before (line_of bytes)) (q ∷ ps)) e in
    whole_line n before bytes q ps (line_of bytes) refl h.0 (whole (n + 1) (with_line before (line_of bytes)) (q ∷ ps) h.1)

pub text_whole : (text : List ℕ) → first_bad text ≡ None → written (lines_of text) ≡ text
text_whole text good = (whole 1 [] (pieces 10 text) good).text ∙ join-pieces 10 text

pub text_short : (text : List ℕ) → first_bad text ≡ None → All IsShort (lines_of text)
text_short text good = (whole 1 [] (pieces 10 text) good).short (All-nil IsShort)
