-- Each block is a head, or it is none: the pieces of the grammar are read one after another.
use Rattle.std.proofs.Common.{◌≡◌, ℕ, zero, suc, ◌+◌, ◌<◌, ◌⊎◌, inl, inr, Bool, true, false, List, [], ◌∷◌, ◌++◌, length, take, drop, All}
use Rattle.std.proofs.Common.{IsUtf8, flat_map, refl, sym, ◌∙◌, ap, subst, arith, append_assoc, append-nil, length-append}
use Rattle.std.proofs.Math.Seq.{take-append_seam}
use Rattle.std.proofs.lemmas.Bool.{cases_Bool, cases_lt, cases_eq}
use Rattle.std.proofs.lemmas.List.{take-append-drop, length-map}
use Rattle.std.proofs.lemmas.List.Elements.{All-nil, All-cons, All-weaker}
use Rattle.std.proofs.lemmas.Str.{IsUtf8-from_ascii}
use Rattle.std.proofs.lemmas.Str.Ascii.{IsAscii-from_all}
use Rattle.httparse.specs.Ascii.{space}
use Rattle.httparse.specs.Grammar.{is_token_byte, is_uri_byte, is_value_byte, AllPass, LineEnd, crlf, lf, print_end, print_version}
use Rattle.httparse.specs.Grammar.{Field, print_field, IsField, RequestHead, ReadsRequest}
use Rattle.httparse.specs.Pieces.{Piece, Begins, Then, Stops, is_newline, Bytes, Newline, Blank, Word, Method}
use Rattle.httparse.specs.Pieces.{Version, Text, FieldLine, Section}
use Rattle.httparse.proofs.RunLemmas.{run_unique, run_unstopped}
use Rattle.httparse.proofs.PieceLemmas.{IsDeterministic, NotYet_intro, NotYet_elim, Then_deterministic, Blank_deterministic}
use Rattle.httparse.proofs.PieceLemmas.{Method_deterministic, Version_deterministic, Newline_deterministic, Word_deterministic}
use Rattle.httparse.proofs.PieceLemmas.{Name_deterministic, space_ends_token, colon_ends_token, Stops_value, print_field-append}
use Rattle.httparse.proofs.PieceLemmas.{FieldLine_parts, Section_skip, Section_line}
use Rattle.httparse.proofs.ReadLemmas.{Blank_open, Blank_newline, Blank_after, FieldLine_done}
use Rattle.httparse.proofs.GrammarLemmas.{request_head, request_tree, request_pieces, request_from_pieces, request_unique}
use Rattle.peer_head.specs.Heads.{HeadParts, IsHead, HasNoHead, IsPaired, IsVisible, parts_of, field_of, MAX_FIELDS}
use Rattle.peer_head.proofs.ParseLemmas.{fields_few}
use Rattle.peer_head.proofs.Deciding.{Decided, decided_by, decided_same, decided_all, decided_visible, decided_paired}

-- a text begins with the piece, or it doesn't
abbrev Reader : {A : Type 0} → Piece A → Type 0
Reader G = (text : List ℕ) → Decided (Begins G text)

-- one piece and then another
read_then : {A B : Type 0} (G : Piece A) (H : Piece B) → IsDeterministic G → Reader G → Reader H → Reader (Then G H)
read_then G H det g h text =
    elim (g text) as (λ _. Decided (Begins (Then G H) text)) [
      | inl x ↦
          elim (h x.1) as (λ _. Decided (Begins (Then G H) text)) [
            | inl y ↦ inl ((x.0, y.0), y.1, (x.1, x.2, y.2))
            | inr none ↦ inr λ z.
                let same = det.unique z.0.0 x.0 text z.2.0 x.1 z.2.1 x.2 in
                none (z.0.1, z.1, subst (λ (m : List ℕ). H z.0.1 m z.1) same.1 z.2.2)
          ]
      | inr none ↦ inr (λ z. none (z.0.0, z.2.0, z.2.1))
    ]

-- these bytes
read_bytes : (bytes : List ℕ) → Reader (Bytes bytes)
read_bytes bytes text =
    let n = length bytes in
    decided_by {P = take n text ≡ bytes}
    (λ e. (tt, drop n text, sym (take-append-drop n text) ∙ ap (λ (v : List ℕ). v ++ drop n text) e))
    (λ h. ap (take n) h.2 ∙ take-append_seam bytes h.1)
    (decided_same (take n text) bytes)

-- a line end is one of the two
which_end : (text : List ℕ) → (Begins (Bytes (print_end crlf)) text → ⊥) → (Begins (Bytes (print_end lf)) text → ⊥)
    → (e : LineEnd) (rest : List ℕ) → Newline e text rest → ⊥
which_end text a b crlf rest h = a (tt, rest, h)
which_end text a b lf rest h = b (tt, rest, h)

-- a line end
read_newline : Reader Newline
read_newline text =
    elim (read_bytes (print_end crlf) text) as (λ _. Decided (Begins Newline text)) [
      | inl x ↦ inl (crlf, x.1, x.2)
      | inr a ↦
          elim (read_bytes (print_end lf) text) as (λ _. Decided (Begins Newline text)) [
            | inl y ↦ inl (lf, y.1, y.2)
            | inr b ↦ inr (λ z. which_end text a b z.0 z.1 z.2)
          ]
    ]

-- a version is one of the two
which_version : (text : List ℕ) → (Begins (Bytes (print_version 0)) text → ⊥) → (Begins (Bytes (print_version 1)) text → ⊥)
    → (minor : ℕ) (rest : List ℕ) → Version minor text rest → ⊥
which_version text a b minor rest h =
    elim (cases_eq minor 0) as (λ _. ⊥) [
      | inl zeroth ↦ a (tt, rest, subst (λ (m : ℕ). text ≡ print_version m ++ rest) zeroth h.1)
      | inr other ↦
          let first : minor ≡ 1 = omega (arith, other, h.0) in
          b (tt, rest, subst (λ (m : ℕ). text ≡ print_version m ++ rest) first h.1)
    ]

-- a version
read_version : Reader Version
read_version text =
    elim (read_bytes (print_version 0) text) as (λ _. Decided (Begins Version text)) [
      | inl x ↦ inl (0, x.1, (omega arith, x.2))
      | inr a ↦
          elim (read_bytes (print_version 1) text) as (λ _. Decided (Begins Version text)) [
            | inl y ↦ inl (1, y.1, (omega arith, y.2))
            | inr b ↦ inr (λ z. which_version text a b z.0 z.1 z.2)
          ]
    ]

-- the empty lines at the front of a text that begins with no line end
read_no_blank : (text : List ℕ) → (Begins Newline text → ⊥) → Decided (Begins Blank text)
read_no_blank [] none = inr (NotYet_elim (Blank_open [] 0 (omega arith)))
read_no_blank (b ∷ text) none =
    elim (cases_Bool (is_newline b)) as (λ _. Decided (Begins Blank (b ∷ text))) [
      | inl newline ↦ inr (NotYet_elim (Blank_newline (b ∷ text) 0 (omega arith) newline (NotYet_intro none)))
      | inr other ↦ inl ([], b ∷ text, (refl, other))
    ]

-- what a line end leaves of a text is shorter
end_shortens : (e : LineEnd) (text rest : List ℕ) → text ≡ print_end e ++ rest → length rest < length text
end_shortens crlf text rest e = omega (arith, ap length e)
end_shortens lf text rest e = omega (arith, ap length e)

-- the empty lines of a text of fewer than n bytes
read_blank_of : (n : ℕ) (text : List ℕ) → length text < n → Decided (Begins Blank text)
read_blank_of zero text short = absurd (omega (arith, short))
read_blank_of (suc n) text short =
    elim (read_newline text) as (λ _. Decided (Begins Blank text)) [
      | inl x ↦
          elim (read_blank_of n x.1 (omega (arith, short, end_shortens x.0 text x.1 x.2))) as (λ _. Decided (Begins Blank text)) [
            | inl y ↦ inl (
              x.0 ∷ y.0,
              y.1,
              (
                x.2 ∙ ap (λ (v : List ℕ). print_end x.0 ++ v) y.2.0
                    ∙ sym (append_assoc (print_end x.0) _ y.1),
                y.2.1,
              ),
            )
            | inr none ↦
                let front = x.2 ∙ ap (λ (v : List ℕ). v ++ x.1) (sym (append-nil (print_end x.0))) in
                inr (NotYet_elim (Blank_after (x.0 ∷ []) front (NotYet_intro none)))
          ]
      | inr none ↦ read_no_blank text none
    ]

-- all empty lines
read_blank : Reader Blank
read_blank text = read_blank_of (length text + 1) text (omega arith)

-- the longest run of passing bytes at the front of a text
record RunOf (test : ℕ → Bool) (text : List ℕ) : Type 0 where
  run : List ℕ
  rest : List ℕ
  cut : text ≡ run ++ rest
  pass : AllPass test run
  stops : (rest ≡ []) ⊎ Stops test rest

-- each text has one
run_of : (test : ℕ → Bool) (text : List ℕ) → RunOf test text
run_of test [] = record { run = []; rest = []; cut = refl; pass = All-nil (λ v. test v ≡ true); stops = inl refl }
run_of test (b ∷ text) =
    elim (cases_Bool (test b)) as (λ _. RunOf test (b ∷ text)) [
      | inl passes ↦
          let r = run_of test text in
          record {
            run = b ∷ r.run;
            rest = r.rest;
            cut = ap (λ (v : List ℕ). b ∷ v) r.cut;
            pass = All-cons (λ v. test v ≡ true) b r.run passes r.pass;
            stops = r.stops;
          }
      | inr fails ↦ record { run = []; rest = b ∷ text; cut = refl; pass = All-nil (λ v. test v ≡ true); stops = inr fails }
    ]

-- another cut of the text at a stop is the same
run_same : (test : ℕ → Bool) (text : List ℕ) (r : RunOf test text) (w q : List ℕ) → AllPass test w → Stops test q → text ≡ w ++ q
    → (r.run ≡ w) × (r.rest ≡ q)
run_same test text r w q pass stops e =
    elim r.stops as (λ _. (r.run ≡ w) × (r.rest ≡ q)) [
      | inl empty ↦
          let whole : r.run ≡ w ++ q = sym (append-nil r.run) ∙ ap (λ (v : List ℕ). r.run ++ v) (sym empty) ∙ sym r.cut ∙ e in
          absurd (run_unstopped test w q (subst (AllPass test) whole r.pass) stops)
      | inr s ↦ run_unique test r.run w r.rest q r.pass pass s stops (sym r.cut ∙ e)
    ]

-- one or more passing bytes and their stop
read_word : (test : ℕ → Bool) (stop : ℕ) → test stop ≡ false → Reader (Word test stop)
read_word test stop fails text =
    let r = run_of test text in
    elim (read_bytes (stop ∷ []) r.rest) as (λ _. Decided (Begins (Word test stop) text)) [
      | inl x ↦
          elim (cases_lt 0 (length r.run)) as (λ _. Decided (Begins (Word test stop) text)) [
            | inl some ↦ inl (r.run, x.1, (some, r.pass, r.cut ∙ ap (λ (v : List ℕ). r.run ++ v) x.2))
            | inr none ↦ inr λ z.
                let same = run_same test text r z.0 (stop ∷ z.1) z.2.1 fails z.2.2 in
                omega (arith, none, z.2.0, ap length same.0)
          ]
      | inr none ↦ inr λ z.
          let same = run_same test text r z.0 (stop ∷ z.1) z.2.1 fails z.2.2 in
          none (tt, z.1, same.1)
    ]

-- the bytes of a value and the end of its line
read_text : Reader Text
read_text text =
    let r = run_of is_value_byte text in
    elim (read_newline r.rest) as (λ _. Decided (Begins Text text)) [
      | inl x ↦ inl ((r.run, x.0), x.1, (r.pass, r.cut ∙ ap (λ (v : List ℕ). r.run ++ v) x.2))
      | inr none ↦ inr λ z.
          let same = run_same is_value_byte text r z.0.0 (print_end z.0.1 ++ z.1) z.2.0 (Stops_value z.0.1 z.1) z.2.1 in
          none (z.0.1, z.1, same.1)
    ]

-- a field line
read_field : Reader FieldLine
read_field text =
    decided_by {P = Begins (Then (Word is_token_byte 58) Text) text}
    (λ h. (record { name = h.0.0; raw = h.0.1.0; end = h.0.1.1 }, h.1, FieldLine_done h.0.0 h.0.1.0 h.0.1.1 text h.2.0 h.1 h.2.1 h.2.2))
    (λ h. (_, h.1, FieldLine_parts h.0 text h.1 h.2))
    (read_then (Word is_token_byte 58) Text Name_deterministic (read_word is_token_byte 58 colon_ends_token) read_text text)

-- what a field line leaves of a text is shorter
field_shortens : (f : Field) (text rest : List ℕ) → FieldLine f text rest → length rest < length text
field_shortens f text rest h =
    let after = print_end f.end ++ rest in
    omega (
      arith,
      ap length (h.1 ∙ print_field-append f rest),
      length-append f.name (58 ∷ (f.raw ++ after)),
      length-append f.raw after,
      length-append (print_end f.end) rest,
      h.0.name.0,
    )

-- a field line before a section
section_more : (f : Field) (fields : List Field) (last : LineEnd) (text middle rest : List ℕ) → FieldLine f text middle
    → Section (fields, last) middle rest → Section (f ∷ fields, last) text rest
section_more f fields last text middle rest x y =
    let lines = flat_map print_field fields in (
      All-cons IsField f fields x.0 y.0,
      x.1 ∙ ap (λ (v : List ℕ). print_field f ++ v) y.1
          ∙ sym (ap (λ (v : List ℕ). v ++ rest) (append_assoc (print_field f) lines (print_end last))
          ∙ append_assoc (print_field f) (lines ++ print_end last) rest),
    )

-- the section of a text of fewer than n bytes
read_section_of : (n : ℕ) (text : List ℕ) → length text < n → Decided (Begins Section text)
read_section_of zero text short = absurd (omega (arith, short))
read_section_of (suc n) text short =
    elim (read_newline text) as (λ _. Decided (Begins Section text)) [
      | inl x ↦ inl (([], x.0), x.1, (All-nil IsField, x.2))
      | inr no_end ↦
          elim (read_field text) as (λ _. Decided (Begins Section text)) [
            | inl x ↦
                elim (read_section_of n x.1 (omega (arith, short, field_shortens x.0 text x.1 x.2)))
                as (λ _. Decided (Begins Section text)) [
                  | inl y ↦ inl ((x.0 ∷ y.0.0, y.0.1), y.1, section_more x.0 y.0.0 y.0.1 text x.1 y.1 x.2 y.2)
                  | inr none ↦ inr λ z.
                      let line = x.2.1 ∙ ap (λ (v : List ℕ). v ++ x.1) (sym (append-nil (print_field x.0))) in
                      let skipped =
                      Section_skip (x.0 ∷ []) z.0.0 z.0.1 text x.1 z.1 (All-cons IsField x.0 [] x.2.0 (All-nil IsField), line) z.2 in
                      none ((skipped.0, z.0.1), z.1, skipped.2)
                ]
            | inr no_field ↦ inr λ z.
                elim (Section_line z.0 text z.1 z.2) as (λ _. ⊥) [
                  | inl end ↦ no_end end
                  | inr field ↦ no_field field
                ]
          ]
    ]

-- the section of a text
read_section : Reader Section
read_section text = read_section_of (length text + 1) text (omega arith)

-- request-target SP, in visible ASCII
abbrev Visible : Piece (List ℕ)
Visible target text rest = Word is_uri_byte space target text rest × All IsVisible target

-- a target is read in one way
Uri_deterministic : IsDeterministic (Word is_uri_byte space)
Uri_deterministic = Word_deterministic is_uri_byte 32 refl

-- a visible target is read in one way
Visible_deterministic : IsDeterministic Visible
Visible_deterministic = record {
  unique = λ a b text r q x y. Uri_deterministic.unique a b text r q x.0 y.0;
  append = λ a text r more x. (Uri_deterministic.append a text r more x.0, x.1);
}

-- a visible target
read_visible : Reader Visible
read_visible text =
    elim (read_word is_uri_byte 32 refl text) as (λ _. Decided (Begins Visible text)) [
      | inl x ↦
          elim (decided_all IsVisible decided_visible x.0) as (λ _. Decided (Begins Visible text)) [
            | inl visible ↦ inl (x.0, x.1, (x.2, visible))
            | inr none ↦ inr λ z.
                none (subst (All IsVisible) (Uri_deterministic.unique z.0 x.0 text z.1 x.1 z.2.0 x.2).0 z.2.1)
          ]
      | inr none ↦ inr (λ z. none (z.0, z.1, z.2.0))
    ]

-- *empty-line request-line, whose target is visible ASCII
abbrev VisibleStart : Piece (List LineEnd × (List ℕ × (List ℕ × (ℕ × LineEnd))))
VisibleStart = Then Blank (Then Method (Then Visible (Then Version Newline)))

-- it is read in one way
VisibleStart_deterministic : IsDeterministic VisibleStart
VisibleStart_deterministic =
    Then_deterministic Blank_deterministic (Then_deterministic Method_deterministic
    (Then_deterministic Visible_deterministic (Then_deterministic Version_deterministic Newline_deterministic)))

-- a request line and its section
read_start : Reader (Then VisibleStart Section)
read_start =
    read_then VisibleStart Section VisibleStart_deterministic
    (read_then Blank (Then Method (Then Visible (Then Version Newline))) Blank_deterministic read_blank
    (read_then Method (Then Visible (Then Version Newline)) Method_deterministic (read_word is_token_byte 32 space_ends_token)
    (read_then Visible (Then Version Newline) Visible_deterministic read_visible
    (read_then Version Newline Version_deterministic read_version read_newline))))
    read_section

-- visible ASCII is UTF-8
visible_text : (bytes : List ℕ) → All IsVisible bytes → IsUtf8 bytes
visible_text bytes visible =
    IsUtf8-from_ascii bytes (IsAscii-from_all bytes (All-weaker IsVisible (λ b. b < 128) (λ b h. omega (arith, h.1)) bytes visible))

-- a text begins with a head of the grammar, whose target is visible ASCII
record BeginsHead (text : List ℕ) : Type 0 where
  head : RequestHead
  rest : List ℕ
  reads : ReadsRequest text head rest
  visible : All IsVisible head.target

-- the pieces as a head
head_from_pieces : (text : List ℕ) → Begins (Then VisibleStart Section) text → BeginsHead text
head_from_pieces text x =
    let start = x.2.1 in
    let line = start.2 in
    let target = line.2 in
    record {
      head = request_head x.0;
      rest = x.1;
      reads = request_from_pieces text x.0 x.1
          (x.2.0, (start.0, start.1, (line.0, line.1, (target.0, (target.1.0, visible_text x.0.0.1.1.0 target.1.1), target.2))), x.2.2);
      visible = target.1.1;
    }

-- a head as its pieces
head_pieces : (text : List ℕ) → BeginsHead text → Begins (Then VisibleStart Section) text
head_pieces text h =
    let x = request_pieces text h.head h.rest h.reads in
    let start = x.1 in
    let line = start.2 in
    let target = line.2 in (
      request_tree h.head,
      h.rest,
      (x.0, (start.0, start.1, (line.0, line.1, (target.0, (target.1.0, h.visible), target.2))), x.2),
    )

-- a head at the front of a text
read_head : (text : List ℕ) → Decided (BeginsHead text)
read_head text = decided_by (head_from_pieces text) (head_pieces text) (read_start text)

-- a head is at the front of its block
head_begins : (block : List ℕ) (p : HeadParts) → IsHead block p → BeginsHead block
head_begins block p y = record {
  head = y.head;
  rest = [];
  reads = y.reads;
  visible = subst (All IsVisible) (ap (λ (q : HeadParts). q.target) (sym y.parts)) y.visible;
}

-- what a head leaves of its block
left_over : (block : List ℕ) (x : BeginsHead block) (p : HeadParts) (y : IsHead block p) → (x.head ≡ y.head) × (x.rest ≡ [])
left_over block x p y = request_unique block x.head y.head x.rest [] x.reads y.reads

-- the block is a head, or it is none
pub data HeadOf (block : List ℕ) : Type 0 where
  is_head : (p : HeadParts) → IsHead block p → HeadOf block
  is_none : HasNoHead block → HeadOf block

-- a head that is the whole block, paired
few_fields : (block : List ℕ) (x : BeginsHead block) → x.rest ≡ [] → IsPaired block → HeadOf block
few_fields block x whole paired =
    elim (cases_lt MAX_FIELDS (length x.head.fields)) as (λ _. HeadOf block) [
      | inl many ↦ is_none λ p y.
          omega (arith, many, fields_few block p y, ap (λ (h : RequestHead). length h.fields) (left_over block x p y).0)
      | inr few ↦ is_head (parts_of x.head) (record {
        head = x.head;
        reads = subst (λ (v : List ℕ). ReadsRequest block x.head v) whole x.reads;
        parts = refl;
        paired = paired;
        visible = x.visible;
        few = omega (arith, few, length-map x.head.fields field_of);
      })
    ]

-- a block that begins with a head of the grammar
whole_head : (block : List ℕ) (x : BeginsHead block) → HeadOf block
whole_head block x =
    elim (decided_same x.rest []) as (λ _. HeadOf block) [
      | inl whole ↦
          elim (decided_paired block) as (λ _. HeadOf block) [
            | inl paired ↦ few_fields block x whole paired
            | inr none ↦ is_none (λ p y. none y.paired)
          ]
      | inr none ↦ is_none (λ p y. none (left_over block x p y).1)
    ]

-- what each block is
pub head_of : (block : List ℕ) → HeadOf block
head_of block =
    elim (read_head block) as (λ _. HeadOf block) [
      | inl x ↦ whole_head block x
      | inr none ↦ is_none (λ p y. none (head_begins block p y))
    ]
