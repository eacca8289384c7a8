-- A line behind the lines that an index holds.
use Rattle.std.proofs.Common.{◌≡◌, ℕ, ◌+◌, ◌-◌, ◌<◌, ◌≤◌, Bool, true, false, ◌||◌, ◌&&◌, cond, List, [], ◌∷◌, ◌++◌, length, take, drop}
use Rattle.std.proofs.Common.{Option, Some, None, refl, sym, ap, ◌∙◌, subst, arith, length-drop}
use Rattle.std.specs.Prelude.{bytes_eq, is_some, is_none, slice_range, option_map, nat_lt, ◌==◌}
use Rattle.std.specs.List.{list_any}
use Rattle.std.specs.HashMap.{get}
use Rattle.std.specs.Cmp.Lexicographic.{nat_list_eq_equiv}
use Rattle.std.proofs.lemmas.Bool.{lt-ltb}
use Rattle.std.proofs.lemmas.List.{drop-take, take-take, drop-drop, length-take}
use Rattle.std.proofs.lemmas.Option.{same_Some}
use Rattle.peer_view.specs.Sinks.{MAX_VALUE}
use Rattle.peer_table.specs.Holds.{Adds, ArePlain, Holds}
use Rattle.peer_table.specs.Indexes.{AreNumbers, AreSpans, AreTabs, Numbers, Spans, PutsName, joined, part_of, value_of_joined}
use Rattle.peer_table.specs.Tables.{IsPlain, Line, bad_line, fault_behind, line_of, names_behind, names_of, value_in, with_name, MAX_GROUPS}
use Rattle.peer_table.specs.declared.fault.TableFault.{TableFault}
use Rattle.peer_table.specs.declared.fault.TableFault.TheVariants as fault
use Rattle.peer_table.specs.declared.index.Index.{Index}
use Rattle.peer_table.specs.declared.index.Span.{Span}
use Rattle.peer_table.proofs.NameLemmas.{same, other, same_or_other, or_else}

not_plain : (x : ℕ) (g : List ℕ) → 9 ≡ x → IsPlain (x ∷ g) → ⊥
not_plain x g e plain = let h : IsPlain (9 ∷ g) = subst (λ b. IsPlain (b ∷ g)) (sym e) plain in cc

tail_plain : (x : ℕ) (g : List ℕ) → IsPlain (x ∷ g) → IsPlain g
tail_plain x g plain =
    (elim (x == 9) as (λ v. (v || list_any (λ b. b == 9) g) ≡ false → IsPlain g) [
      | true ↦ λ h. cc
      | false ↦ λ h. h
    ]) plain

-- a group without 09 is what stands before the first 09
pub joined_apart : (g g' k k' : List ℕ) → IsPlain g → IsPlain g' → joined g k ≡ joined g' k' → (g ≡ g') × (k ≡ k')
joined_apart [] [] k k' plain plain' e = (refl, cc)
joined_apart [] (x ∷ g') k k' plain plain' e =
    let first : 9 ≡ x = cc in
    absurd (not_plain x g' first plain')
joined_apart (x ∷ g) [] k k' plain plain' e =
    let first : 9 ≡ x = cc in
    absurd (not_plain x g first plain)
joined_apart (x ∷ g) (y ∷ g') k k' plain plain' e =
    let first : x ≡ y = cc in
    let rest : joined g k ≡ joined g' k' = cc in
    let on = joined_apart g g' k k' (tail_plain x g plain) (tail_plain y g' plain') rest in
    (ap (λ h. h ∷ g) first ∙ ap (λ l. y ∷ l) on.0, on.1)

-- the tests of a joined group and key are those of its parts
pub joined_test : (g g' k k' : List ℕ) → IsPlain g → IsPlain g' → bytes_eq (joined g k) (joined g' k') ≡ (bytes_eq g g' && bytes_eq k k')
joined_test g g' k k' plain plain' =
    elim (same_or_other (joined g k) (joined g' k')) [
      | same e passes ↦
          let parts = joined_apart g g' k k' plain plain' e in
          passes ∙ sym (rw (← parts.0, ← parts.1) (both (bytes_eq g g) (bytes_eq k k) (nat_list_eq_equiv.refl g)
          (nat_list_eq_equiv.refl k)))
      | other fails _ ↦ elim (same_or_other g g') [
        | other apart _ ↦ fails ∙ rw apart
        | same e1 p1 ↦ elim (same_or_other k k') [
          | other apart _ ↦ fails ∙ rw (p1, apart)
          | same e2 p2 ↦
              absurd (let h : bytes_eq (joined g k) (joined g' k') ≡ true = rw (← e1, ← e2) (nat_list_eq_equiv.refl (joined g k)) in cc)
        ]
      ]
    ] where
      both : (a b : Bool) → a ≡ true → b ≡ true → (a && b) ≡ true
      both a b p q = rw (p, q)

-- what the lines have for a group and key, joined
pub value_joined : (lines : List Line) (g k : List ℕ) → IsPlain g → ArePlain lines → value_of_joined lines (joined g k) ≡ value_in lines g k
value_joined [] g k plain all = refl
value_joined (line ∷ lines) g k plain all =
    rw (joined_test g line.group k line.key plain all.0, value_joined lines g k plain all.1)

-- one line more
pub value_push : (lines : List Line) (line : Line) (q : List ℕ)
    → value_of_joined (lines ++ line ∷ []) q ≡ or_else (value_of_joined lines q)
    (cond (bytes_eq q (joined line.group line.key)) (Some line.value) None)
value_push [] line q = refl
value_push (l ∷ lines) line q =
    elim (bytes_eq q (joined l.group l.key)) as (λ v. cond v (Some l.value) (value_of_joined (lines ++ line ∷ []) q)
    ≡ or_else (cond v (Some l.value) (value_of_joined lines q))
    (cond (bytes_eq q (joined line.group line.key)) (Some line.value) None)) [
      | true ↦ refl
      | false ↦ value_push lines line q
    ]

pub plain_push : (lines : List Line) (line : Line) → ArePlain lines → IsPlain line.group → ArePlain (lines ++ line ∷ [])
plain_push [] line all plain = (plain, tt)
plain_push (l ∷ lines) line all plain = (all.0, plain_push lines line all.1 plain)

pub names_push : (names : List (List ℕ)) (lines : List Line) (line : Line)
    → names_behind names (lines ++ line ∷ []) ≡ with_name (names_behind names lines) line.group
names_push names [] line = refl
names_push names (l ∷ lines) line = names_push (with_name names l.group) lines line

-- a span was found exactly where there is a value
pub is_some_map : {A B : Type 0} (f : A → B) (o : Option A) → is_some (option_map f o) ≡ is_some o
is_some_map f None = refl
is_some_map f (Some x) = refl

none_of : {A B : Type 0} (f : A → B) (o : Option A) → true ≡ is_none o → option_map f o ≡ None
none_of f None h = refl
none_of f (Some x) h = cc

some_of : {A B : Type 0} (f : A → B) (o : Option A) → false ≡ is_none o → is_some (option_map f o) ≡ true
some_of f None h = cc
some_of f (Some x) h = refl

at_cond : (text : List ℕ) (b : Bool) (span : Span) (o n : Option Span) → n ≡ cond b (Some span) o → b ≡ true
    → option_map (part_of text) n ≡ Some (part_of text span)
at_cond text b span o n put passes = rw (put, passes)

past_cond : (text : List ℕ) (b : Bool) (span : Span) (o n : Option Span) → n ≡ cond b (Some span) o → b ≡ false
    → option_map (part_of text) n ≡ option_map (part_of text) o
past_cond text b span o n put fails = rw (put, fails)

inside_put : (text : List ℕ) (b : Bool) (span p : Span) (o n : Option Span) → n ≡ cond b (Some span) o
    → ((r : Span) → o ≡ Some r → (r.from ≤ r.to) × (r.to ≤ length text)) → span.from ≤ span.to → span.to ≤ length text → n ≡ Some p
    → (p.from ≤ p.to) × (p.to ≤ length text)
inside_put text true span p o n put old low high found = let same : span ≡ p = same_Some span p (sym put ∙ found) in
    (subst (λ (r : Span). r.from ≤ r.to) same low, subst (λ (r : Span). r.to ≤ length text) same high)
inside_put text false span p o n put old low high found = old p (sym put ∙ found)

-- the spans with one more
pub spans_push : (text : List ℕ) (old new : Spans) (lines : List Line) (line : Line) (span : Span) (named : List ℕ)
    → AreSpans text old lines → named ≡ joined line.group line.key → part_of text span ≡ line.value
    → true ≡ is_none (get bytes_eq old named)
    → ((q : List ℕ) → get bytes_eq new q ≡ cond (bytes_eq named q) (Some span) (get bytes_eq old q))
    → AreSpans text new (lines ++ line ∷ [])
spans_push text old new lines line span named are is part fresh put q =
    elim (same_or_other named q) [
      | same e passes ↦
          let here : value_of_joined lines q ≡ None =
          ap (value_of_joined lines) (sym e) ∙ sym (are named) ∙ none_of (part_of text) (get bytes_eq old named) fresh in
          let hit : bytes_eq q (joined line.group line.key) ≡ true = ap (bytes_eq q) (sym is) ∙ nat_list_eq_equiv.symm q named ∙ passes in
          at_cond text (bytes_eq named q) span (get bytes_eq old q) (get bytes_eq new q) (put q) passes ∙ ap (λ v. Some v) part
          ∙ sym (value_push lines line q ∙ rw (here, hit))
      | other fails fails' ↦
          let miss : bytes_eq q (joined line.group line.key) ≡ false = ap (bytes_eq q) (sym is) ∙ fails' in
          past_cond text (bytes_eq named q) span (get bytes_eq old q) (get bytes_eq new q) (put q) fails ∙ are q
          ∙ sym (value_push lines line q ∙ rw miss (stays (value_of_joined lines q)))
    ] where
      stays : (o : Option (List ℕ)) → or_else o None ≡ o
      stays None = refl
      stays (Some x) = refl

-- the line round two bytes 09
abbrev pub line_at : List ℕ → ℕ → ℕ → Line
line_at bytes first second =
    record { group = take first bytes; key = slice_range bytes (first + 1) second; value = drop (second + 1) bytes }

module _ (text bytes : List ℕ) (from to first second : ℕ) (order : from ≤ to) (within : to ≤ length text)
    (is : bytes ≡ slice_range text from to) (tabs : AreTabs bytes first second) where
  size : length bytes ≡ to - from
  size = omega (arith, ap length is, length-take (to - from) (drop from text), length-drop from text)

  front : (n : ℕ) → n ≤ to - from → slice_range text from (from + n) ≡ take n bytes
  front n small =
      let less : from + n - from ≡ n = omega arith in
      ap (λ m. take m (drop from text)) less ∙ sym (take-take n (to - from) (drop from text) small) ∙ ap (take n) (sym is)

  pub named_is : slice_range text from (from + second) ≡ joined (take first bytes) (slice_range bytes (first + 1) second)
  named_is = front second (omega (arith, tabs.within, size)) ∙ tabs.front

  pub name_is : slice_range text from (from + first) ≡ take first bytes
  name_is = front first (omega (arith, tabs.within, tabs.order, size))

  pub value_size : length (drop (second + 1) bytes) ≡ to - (from + second + 1)
  value_size = omega (arith, length-drop (second + 1) bytes, size)

  pub value_is : slice_range text (from + second + 1) to ≡ drop (second + 1) bytes
  value_is =
      let left = to - (from + second + 1) in
      let sum : to - from ≡ second + 1 + left = omega (arith, tabs.within, size) in
      let span : from + second + 1 ≡ from + (second + 1) = omega arith in
      sym (
      ap (drop (second + 1)) (is ∙ ap (λ m. take m (drop from text)) sum)
      ∙ drop-take (second + 1) left (drop from text)
      ∙ ap (take left) (drop-drop (second + 1) from text ∙ ap (λ m. drop m text) (sym span))
      )

not_below : (a b : ℕ) → b ≤ a → nat_lt a b ≡ false
not_below a b h = grind arith

-- what is wrong with a line
module _ (n : ℕ) (seen : List Line) (line : Line) where
  pub is_repeated : is_some (value_in seen line.group line.key) ≡ true → fault_behind n seen line ≡ Some (fault.Repeated n)
  is_repeated h = rw h

  pub is_group_too_many : is_some (value_in seen line.group line.key) ≡ false → MAX_GROUPS < length (with_name (names_of seen) line.group)
      → fault_behind n seen line ≡ Some (fault.Groups n)
  is_group_too_many h many = rw (h, lt-ltb MAX_GROUPS (length (with_name (names_of seen) line.group)) many)

  pub is_too_long : is_some (value_in seen line.group line.key) ≡ false → length (with_name (names_of seen) line.group) ≤ MAX_GROUPS
      → MAX_VALUE < length line.value → fault_behind n seen line ≡ Some (fault.Value n)
  is_too_long h few long =
      rw (h, not_below MAX_GROUPS (length (with_name (names_of seen) line.group)) few, lt-ltb MAX_VALUE (length line.value) long)

  pub is_good : is_some (value_in seen line.group line.key) ≡ false → length (with_name (names_of seen) line.group) ≤ MAX_GROUPS
      → length line.value ≤ MAX_VALUE → fault_behind n seen line ≡ None
  is_good h few short =
      rw (h, not_below MAX_GROUPS (length (with_name (names_of seen) line.group)) few, not_below MAX_VALUE (length line.value) short)

-- a line between two places of the text, behind the lines that an index holds
module _ (text bytes : List ℕ) (from to first second n : ℕ) (order : from ≤ to) (within : to ≤ length text)
    (is : bytes ≡ slice_range text from to) (tabs : AreTabs bytes first second)
    (index : Index) (seen : List Line) (plain : ArePlain seen) (holds : Holds text index seen) (named : List ℕ)
    (named_at : named ≡ slice_range text from (from + second)) where
  bad_is : (f : Option TableFault) → fault_behind n seen (line_at bytes first second) ≡ f
      → bad_line n seen (line_of (slice_range text from to)) ≡ f
  bad_is f h = ap (λ b. bad_line n seen (line_of b)) (sym is) ∙ ap (bad_line n seen) tabs.line ∙ h

  joined_is : named ≡ joined (take first bytes) (slice_range bytes (first + 1) second)
  joined_is = named_at ∙ named_is text bytes from to first second order within is tabs

  stood : option_map (part_of text) (get bytes_eq index.spans named)
      ≡ value_in seen (take first bytes) (slice_range bytes (first + 1) second)
  stood = holds.spans named ∙ ap (value_of_joined seen) joined_is
      ∙ value_joined seen (take first bytes) (slice_range bytes (first + 1) second) tabs.plain plain

  pub repeated : false ≡ is_none (get bytes_eq index.spans named)
      → bad_line n seen (line_of (slice_range text from to)) ≡ Some (fault.Repeated n)
  repeated there =
      bad_is (Some (fault.Repeated n)) (is_repeated n seen (line_at bytes first second)
      (ap is_some (sym stood) ∙ some_of (part_of text) (get bytes_eq index.spans named) there))

  new_line : true ≡ is_none (get bytes_eq index.spans named)
      → is_some (value_in seen (take first bytes) (slice_range bytes (first + 1) second)) ≡ false
  new_line fresh = ap is_some (sym stood ∙ none_of (part_of text) (get bytes_eq index.spans named) fresh)

  module _ (fresh : true ≡ is_none (get bytes_eq index.spans named)) (name : List ℕ)
      (name_at : name ≡ slice_range text from (from + first)) (numbers' : Numbers) (names' : List (List ℕ)) where
    group_is : name ≡ take first bytes
    group_is = name_at ∙ name_is text bytes from to first second order within is tabs

    with_is : with_name index.names.items name ≡ with_name (names_of seen) (take first bytes)
    with_is = ap (λ l. with_name l name) holds.names ∙ ap (with_name (names_of seen)) group_is

    pub too_many : PutsName index.numbers numbers' index.names.items names' name false
        → bad_line n seen (line_of (slice_range text from to)) ≡ Some (fault.Groups n)
    too_many put =
        let many : MAX_GROUPS < length (with_name (names_of seen) (take first bytes)) =
        subst (λ l. MAX_GROUPS < length l) with_is (put holds.numbers) in
        bad_is (Some (fault.Groups n)) (is_group_too_many n seen (line_at bytes first second) (new_line fresh) many)

    module _ (put : PutsName index.numbers numbers' index.names.items names' name true) where
      names_are : names' ≡ with_name (names_of seen) (take first bytes)
      names_are = (put holds.numbers).1 ∙ with_is

      few : length (with_name (names_of seen) (take first bytes)) ≤ MAX_GROUPS
      few = subst (λ l. length l ≤ MAX_GROUPS) names_are ((put holds.numbers).2 holds.few)

      pub too_long : MAX_VALUE < to - (from + second + 1) → bad_line n seen (line_of (slice_range text from to)) ≡ Some (fault.Value n)
      too_long long =
          bad_is (Some (fault.Value n)) (is_too_long n seen (line_at bytes first second) (new_line fresh) few
          (omega (arith, value_size text bytes from to first second order within is tabs)))

      -- the index with the line
      pub adds : (index' : Index) (span : Span) → index'.numbers ≡ numbers' → index'.names.items ≡ names' → span.from ≡ from + second + 1
          → span.to ≡ to
          → ((q : List ℕ) → get bytes_eq index'.spans q ≡ cond (bytes_eq named q) (Some span) (get bytes_eq index.spans q))
          → to - (from + second + 1) ≤ MAX_VALUE → Adds text n seen (slice_range text from to) index'
      adds index' span numbers_are same_names span_from span_to put_there short =
          record {
            line = line_at bytes first second;
            is = ap line_of (sym is) ∙ tabs.line;
            good = is_good n seen (line_at bytes first second) (new_line fresh) few
                (omega (arith, value_size text bytes from to first second order within is tabs));
            plain = plain_push seen (line_at bytes first second) plain tabs.plain;
            holds = record {
              names = same_names ∙ names_are ∙ sym (names_push [] seen (line_at bytes first second));
              numbers = subst (λ (m : Numbers). AreNumbers m index'.names.items) (sym numbers_are)
                  (subst (AreNumbers numbers') (sym same_names) (put holds.numbers).0);
              spans = spans_push text index.spans index'.spans seen (line_at bytes first second) span named holds.spans joined_is
                  (ap (λ m. slice_range text m span.to) span_from ∙ ap (slice_range text (from + second + 1)) span_to
                  ∙ value_is text bytes from to first second order within is tabs) fresh put_there;
              inside = λ q p found. inside_put text (bytes_eq named q) span p (get bytes_eq index.spans q) (get bytes_eq index'.spans q)
                  (put_there q) (holds.inside q)
                  (omega (arith, span_from, span_to, tabs.within, size text bytes from to first second order within is tabs))
                  (omega (arith, span_to)) found;
              few = subst (λ l. length l ≤ MAX_GROUPS) (sym (same_names ∙ names_are)) few;
            };
          }
