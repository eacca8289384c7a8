-- What one more field does to a summary.
use Rattle.std.proofs.Common.{◌≡◌, ℕ, suc, get_or, take, ◌<◌, ◌+◌, Bool, true, false, cond, ◌&&◌, List, [], ◌∷◌, ◌++◌, length, map, filter}
use Rattle.std.proofs.Common.{refl, sym, ◌∙◌, ap, arith, inl, inr, bytes_eq, All, length-append, append-nil, Some, None}
use Rattle.std.specs.List.{list_all}
use Rattle.std.proofs.lemmas.Bool.{cases_Bool}
use Rattle.std.proofs.lemmas.Slice.Eq.{bytes_eq-Decides}
use Rattle.std.proofs.Math.Bool.{and-false}
use Rattle.std.proofs.Math.Seq.{take-suc}
use Rattle.httparse.specs.declared.spans.HeaderSpan.{HeaderSpan}
use Rattle.httparse.specs.Spans.{span_bytes}
use Rattle.std.proofs.lemmas.List.{map-append}
use Rattle.std.proofs.lemmas.List.Folds.{list_all-append}
use Rattle.std.proofs.lemmas.List.Elements.{filter-append, All-append}
use Rattle.peer_head.specs.declared.fault.HeadFault.TheVariants.{BadLength, Content}
use Rattle.peer_head.specs.Heads.{HeadField}
use Rattle.peer_head.specs.Fields.{is_named, values, is_digits, is_zero}
use Rattle.peer_head.specs.Faults.{is_length, is_one_value, length_fault}
use Rattle.peer_head.specs.Summaries.{AgreesOn}
use Rattle.peer_head.specs.Views.{field_at}

-- the first of values that are the same
All-first : (v : List ℕ) (vs : List (List ℕ)) (n : List ℕ) → All (λ w. w ≡ n) (v ∷ vs) → v ≡ n
All-first v vs n h = h 0 [] (omega arith)

-- the later ones
All-later : (v : List ℕ) (vs : List (List ℕ)) (n : List ℕ) → All (λ w. w ≡ n) (v ∷ vs) → All (λ w. w ≡ n) vs
All-later v vs n h = λ k d lt. h (suc k) d (omega arith)

-- one value that is the same
All-one : (v n : List ℕ) → v ≡ n → All (λ w. w ≡ n) (v ∷ [])
All-one v n e = λ k d lt. let here : k ≡ 0 = omega (arith, lt) in ap (λ i. get_or (v ∷ []) i d) here ∙ e

-- what holds of one value holds of values like it
list_all_same : (p : List ℕ → Bool) (vs : List (List ℕ)) (n : List ℕ) → All (λ v. v ≡ n) vs → p n ≡ true → list_all p vs ≡ true
list_all_same p [] n h e = refl
list_all_same p (v ∷ vs) n h e = ap (λ b. b && list_all p vs) (ap p (All-first v vs n h) ∙ e) ∙ list_all_same p vs n (All-later v vs n h) e

-- values that agree are a length
pub agreed_length : (vs : List (List ℕ)) (n : List ℕ) → AgreesOn vs n → is_length vs ≡ true
agreed_length [] n h = refl
agreed_length (v ∷ vs) n h =
    let one : list_all (bytes_eq v) vs ≡ true =
    list_all_same (bytes_eq v) vs n (All-later v vs n h.same) ((bytes_eq-Decides v n).1 (All-first v vs n h.same)) in
    ap (λ b. b && list_all (bytes_eq v) vs) (list_all_same is_digits (v ∷ vs) n h.same h.digits) ∙ one

-- values that agree are 0 where one is
pub agreed_zero : (vs : List (List ℕ)) (n : List ℕ) → AgreesOn vs n → list_all is_zero vs ≡ is_zero n
agreed_zero [] n h = absurd (omega (arith, h.some))
agreed_zero (v ∷ vs) n h =
    elim (cases_Bool (is_zero n)) as (λ _. list_all is_zero (v ∷ vs) ≡ is_zero n) [
      | inl y ↦ list_all_same is_zero (v ∷ vs) n h.same y ∙ sym y
      | inr z ↦ ap (λ b. b && list_all is_zero vs) (ap is_zero (All-first v vs n h.same) ∙ z) ∙ sym z
    ]

-- the fault of values that agree
pub agreed_fault : (vs : List (List ℕ)) (n : List ℕ) (b : Bool) → AgreesOn vs n → b ≡ is_zero n
    → length_fault vs ≡ cond b None (Some Content)
agreed_fault vs n b h e =
    ap (λ x. cond x (cond (list_all is_zero vs) None (Some Content)) (Some BadLength)) (agreed_length vs n h)
    ∙ ap (λ x. cond x None (Some Content)) (agreed_zero vs n h ∙ sym e)

-- one value more that agrees
pub agreed_more : (vs : List (List ℕ)) (n v : List ℕ) → AgreesOn vs n → n ≡ v → AgreesOn (vs ++ v ∷ []) n
agreed_more vs n v h e = record {
  some = omega (arith, length-append vs (v ∷ []));
  digits = h.digits;
  same = All-append (λ w. w ≡ n) vs (v ∷ []) h.same (All-one v n (sym e));
}

-- a field of the name behind the others
pub values-snoc_yes : (name : List ℕ) (fs : List HeadField) (f : HeadField) → is_named name f ≡ true
    → values name (fs ++ f ∷ []) ≡ values name fs ++ f.value ∷ []
values-snoc_yes name fs f e =
    let more : filter (is_named name) (fs ++ f ∷ []) ≡ filter (is_named name) fs ++ f ∷ [] =
    filter-append (is_named name) fs (f ∷ []) ∙ ap (λ b. filter (is_named name) fs ++ cond b (f ∷ []) []) e
    in
    ap (map (λ (g : HeadField). g.value)) more ∙ map-append (λ (g : HeadField). g.value) (filter (is_named name) fs) (f ∷ [])

-- a field of another name behind the others
pub values-snoc_no : (name : List ℕ) (fs : List HeadField) (f : HeadField) → is_named name f ≡ false
    → values name (fs ++ f ∷ []) ≡ values name fs
values-snoc_no name fs f e =
    ap (map (λ (g : HeadField). g.value)) (filter-append (is_named name) fs (f ∷ [])
    ∙ ap (λ b. filter (is_named name) fs ++ cond b (f ∷ []) []) e ∙ append-nil (filter (is_named name) fs))

-- one value more that differs
pub differing_more : (vs : List (List ℕ)) (n v : List ℕ) → AgreesOn vs n → bytes_eq n v ≡ false → is_length (vs ++ v ∷ []) ≡ false
differing_more [] n v h ne = absurd (omega (arith, h.some))
differing_more (w ∷ vs) n v h ne =
    let first = All-first w vs n h.same in
    let one : is_one_value ((w ∷ vs) ++ v ∷ []) ≡ false =
    list_all-append (bytes_eq w) vs (v ∷ [])
    ∙ ap (λ b. list_all (bytes_eq w) vs && (b && true)) (ap (λ u. bytes_eq u v) first ∙ ne)
    ∙ and-false (list_all (bytes_eq w) vs)
    in
    ap (λ b. list_all is_digits ((w ∷ vs) ++ v ∷ []) && b) one ∙ and-false (list_all is_digits ((w ∷ vs) ++ v ∷ []))

-- one field more, by its spans
pub field_more : (block : List ℕ) (spans : List HeaderSpan) (i : ℕ) (d : HeaderSpan) (name value : List ℕ) → i < length spans
    → name ≡ span_bytes block (get_or spans i d).name → value ≡ span_bytes block (get_or spans i d).value
    → map (field_at block) (take (i + 1) spans) ≡ map (field_at block) (take i spans) ++ record { name = name; value = value } ∷ []
field_more block spans i d name value lt n v =
    let up : i + 1 ≡ suc i = omega arith in
    let N : List ℕ → HeadField = λ x. record { name = x; value = span_bytes block (get_or spans i d).value } in
    let V : List ℕ → HeadField = λ x. record { name = name; value = x } in
    ap (λ k. map (field_at block) (take k spans)) up
    ∙ ap (map (field_at block)) (take-suc spans i d lt)
    ∙ map-append (field_at block) (take i spans) (get_or spans i d ∷ [])
    ∙ ap (λ f. map (field_at block) (take i spans) ++ f ∷ []) (ap N (sym n) ∙ ap V (sym v))
