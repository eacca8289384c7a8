-- What the parser's answers say of a block.
use Rattle.std.proofs.Common.{◌≡◌, ◌≢◌, ℕ, ◌≤◌, List, [], ◌∷◌, length, map, take, drop, refl, sym, ◌∙◌, ap, subst, arith, All, append-nil}
use Rattle.std.proofs.Math.Seq.{drop-length}
use Rattle.std.proofs.lemmas.List.{length-map, length-take-le}
use Rattle.httparse.specs.declared.spans.HeaderSpan.{HeaderSpan}
use Rattle.httparse.specs.declared.spans.RequestSpans.{RequestSpans}
use Rattle.httparse.specs.Grammar.{RequestHead, ReadsRequest, Field, print_request}
use Rattle.httparse.specs.Spans.{IsRequestWithin, IsRequestAt, IsRequestOf, span_bytes, header_bytes, name_and_value}
use Rattle.peer_head.specs.Heads.{HeadField, HeadParts, IsHead, IsPaired, IsVisible, HasNoHead, parts_of, field_of, MAX_FIELDS}
use Rattle.peer_head.specs.Views.{field_at, parts_at, IsHeadAt}

-- a field of the pair of its name and its value
abbrev paired_field : List ℕ × List ℕ → HeadField
paired_field p = record { name = p.0; value = p.1 }

-- the fields that the spans cover are those of the head
fields_same : (block : List ℕ) (spans : List HeaderSpan) (fields : List Field) → map (header_bytes block) spans ≡ map name_and_value fields
    → map (field_at block) spans ≡ map field_of fields
fields_same block [] [] e = refl
fields_same block [] (f ∷ fields) e = cc
fields_same block (s ∷ spans) [] e = cc
fields_same block (s ∷ spans) (f ∷ fields) e =
    let first : header_bytes block s ≡ name_and_value f = cc in
    let later : map (header_bytes block) spans ≡ map name_and_value fields = cc in
    ap (λ v. v ∷ map (field_at block) spans) (ap paired_field first) ∙ ap (λ v. field_of f ∷ v) (fields_same block spans fields later)

-- the parts that the spans cover are those of the head
pub parts_same : (block : List ℕ) (fields : List HeaderSpan) (r : RequestSpans) (h : RequestHead) → IsRequestAt block fields r h
    → parts_of h ≡ parts_at block fields r
parts_same block fields r h x =
    let all = map (field_at block) (take r.headers fields) in
    let M : List ℕ → HeadParts = λ v. record { method = v; target = h.target; minor = h.minor; fields = map field_of h.fields } in
    let T : List ℕ → HeadParts =
    λ v. record { method = span_bytes block r.method; target = v; minor = h.minor; fields = map field_of h.fields } in
    let N : ℕ → HeadParts =
    λ v. record { method = span_bytes block r.method; target = span_bytes block r.path; minor = v; fields = map field_of h.fields } in
    let F : List HeadField → HeadParts =
    λ v. record { method = span_bytes block r.method; target = span_bytes block r.path; minor = r.version; fields = v } in
    ap M (sym x.method) ∙ ap T (sym x.path) ∙ ap N (sym x.version)
    ∙ ap F (sym (fields_same block (take r.headers fields) h.fields x.fields))

-- what the parser found is a head, where it is the whole block
pub head_found : (block : List ℕ) (fields : List HeaderSpan) (r : RequestSpans) → length fields ≡ MAX_FIELDS
    → IsRequestWithin block fields r → IsRequestOf block fields r → r.len ≡ length block → IsPaired block
    → All IsVisible (span_bytes block r.path) → IsHeadAt block fields r
head_found block fields r room within x whole paired visible =
    let left : drop r.len block ≡ [] = ap (λ n. drop n block) whole ∙ drop-length block in
    let count : length (take r.headers fields) ≡ r.headers = length-take-le r.headers fields within.section.count_fits in
    record {
      within = within;
      head = record {
        head = x.0;
        reads = subst (λ (v : List ℕ). ReadsRequest block x.0 v) left x.1.reads;
        parts = parts_same block fields r x.0 x.1;
        paired = paired;
        visible = visible;
        few = omega (arith, length-map (take r.headers fields) (field_at block), count, within.section.count_fits, room);
      };
    }

-- how many fields a head has
pub fields_few : (block : List ℕ) (p : HeadParts) (y : IsHead block p) → length y.head.fields ≤ MAX_FIELDS
fields_few block p y = omega (arith, y.few, length-map y.head.fields field_of, ap (λ q. length q.fields) y.parts)

-- what the parser finds of a head
record Found (block : List ℕ) (r : RequestSpans) : Type 0 where
  whole : r.len ≡ length block
  visible : All IsVisible (span_bytes block r.path)

head_at : (block : List ℕ) (fields : List HeaderSpan) (r : RequestSpans) (p : HeadParts) (y : IsHead block p)
    → IsRequestAt block fields r y.head → Found block r
head_at block fields r p y x =
    let path : p.target ≡ span_bytes block r.path = ap (λ q. q.target) (sym y.parts) ∙ sym x.path in
    record {
      whole = x.len ∙ ap length (sym (append-nil (print_request y.head)) ∙ sym y.reads.1);
      visible = subst (λ (v : List ℕ). All IsVisible v) path y.visible;
    }

-- the parser's answer is a part of the block
pub not_whole : (block : List ℕ) (fields : List HeaderSpan) (r : RequestSpans)
    → ((h : RequestHead) (rest : List ℕ) → ReadsRequest block h rest → length h.fields ≤ MAX_FIELDS → IsRequestAt block fields r h)
    → r.len ≢ length block → HasNoHead block
not_whole block fields r finds ne p y = ne (head_at block fields r p y (finds y.head [] y.reads (fields_few block p y))).whole

-- the target of the parser's answer isn't visible
pub not_visible : (block : List ℕ) (fields : List HeaderSpan) (r : RequestSpans)
    → ((h : RequestHead) (rest : List ℕ) → ReadsRequest block h rest → length h.fields ≤ MAX_FIELDS → IsRequestAt block fields r h)
    → (All IsVisible (span_bytes block r.path) → ⊥) → HasNoHead block
not_visible block fields r finds ne p y = ne (head_at block fields r p y (finds y.head [] y.reads (fields_few block p y))).visible
