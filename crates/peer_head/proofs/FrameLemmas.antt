-- A head is a head with any other visible target in place of its own.
use Rattle.std.proofs.Common.{◌≡◌, ◌≢◌, ℕ, zero, suc, ◌+◌, ◌<◌, ◌≤◌, true, false, List, [], ◌∷◌, ◌++◌, length, take, drop}
use Rattle.std.proofs.Common.{get_or, All, IsUtf8, refl, sym, ◌∙◌, ap, subst, arith, append_assoc, length-append}
use Rattle.std.proofs.Math.Seq.{take-append_seam, drop-append_seam}
use Rattle.std.proofs.lemmas.Bool.{false≢true}
use Rattle.std.proofs.lemmas.Bool.Decides.{nat_tests}
use Rattle.std.proofs.lemmas.List.Elements.{All-nil, All-cons, All-head, All-tail, All-append, All-weaker}
use Rattle.std.proofs.lemmas.Str.{IsUtf8-from_ascii}
use Rattle.std.proofs.lemmas.Str.Ascii.{IsAscii-from_all}
use Rattle.httparse.specs.Grammar.{is_token_byte, is_uri_byte, AllPass, LineEnd, crlf, lf, print_end, print_blank, print_version}
use Rattle.httparse.specs.Grammar.{print_section, print_request, RequestHead, IsRequestHead}
use Rattle.httparse.proofs.GrammarLemmas.{print_request-append}
use Rattle.peer_head.specs.Blocks.{Begins, LIMIT, pair, blank_line}
use Rattle.peer_head.specs.Heads.{HeadParts, IsHead, IsPaired, IsVisible, parts_of}
use Rattle.peer_head.specs.Frames.{framed, with_target, IsFramed, IsFrame, target_start, before_target, after_target}
use Rattle.peer_head.specs.Laws.{TakesAnyTarget}

-- a byte that is neither CR nor LF
abbrev IsInner : ℕ → Type 0
IsInner b = (b ≢ 13) × (b ≢ 10)

-- bytes that go up to their first blank line
record IsCut (bytes : List ℕ) : Type 0 where
  front : List ℕ
  ends : bytes ≡ front ++ blank_line
  first : (i : ℕ) → i < length front → take 4 (drop i bytes) ≢ blank_line

-- without their first byte
cut_tail_by : (x : ℕ) (xs front : List ℕ) → x ≢ 13 → x ∷ xs ≡ front ++ blank_line
    → ((i : ℕ) → i < length front → take 4 (drop i (x ∷ xs)) ≢ blank_line) → IsCut xs
cut_tail_by x xs [] n e first =
    let same : x ≡ 13 = ap (λ v. get_or v 0 0) e in
    absurd (n same)
cut_tail_by x xs (f ∷ front) n e first = record {
  front = front;
  ends = ap (drop 1) e;
  first = λ i lt. first (suc i) (omega (arith, lt));
}

cut_tail : (x : ℕ) (xs : List ℕ) → x ≢ 13 → IsCut (x ∷ xs) → IsCut xs
cut_tail x xs n h = cut_tail_by x xs h.front n h.ends h.first

-- with one byte more in front
first_cons : (x : ℕ) (xs front : List ℕ) → x ≢ 13 → ((i : ℕ) → i < length front → take 4 (drop i xs) ≢ blank_line)
    → (i : ℕ) → i < length (x ∷ front) → take 4 (drop i (x ∷ xs)) ≢ blank_line
first_cons x xs front n first zero lt e =
    let same : x ≡ 13 = ap (λ v. get_or v 0 0) e in
    n same
first_cons x xs front n first (suc i) lt e = first i (omega (arith, lt)) e

cut_cons : (x : ℕ) (xs : List ℕ) → x ≢ 13 → IsCut xs → IsCut (x ∷ xs)
cut_cons x xs n h = record {
  front = x ∷ h.front;
  ends = ap (λ v. x ∷ v) h.ends;
  first = first_cons x xs h.front n h.first;
}

-- the same of pairs
paired_tail : (x : ℕ) (xs : List ℕ) → x ≢ 13 → IsPaired (x ∷ xs) → IsPaired xs
paired_tail x xs n p = record {
  cr = λ i is.
      let up : suc i + 1 ≡ suc (i + 1) = omega arith in
      subst (λ (k : ℕ). get_or (x ∷ xs) k 0 ≡ 10) up (p.cr (suc i) is);
  lf = λ i is.
      let up : suc (i + 1) ≡ suc i + 1 = omega arith in
      p.lf (suc i) (subst (λ (k : ℕ). get_or (x ∷ xs) k 0 ≡ 10) up is);
  first = λ is. n (p.lf 0 is);
}

cr_cons : (x : ℕ) (xs : List ℕ) → x ≢ 13 → IsPaired xs → (i : ℕ) → get_or (x ∷ xs) i 0 ≡ 13 → get_or (x ∷ xs) (i + 1) 0 ≡ 10
cr_cons x xs n p zero is = absurd (n is)
cr_cons x xs n p (suc i) is =
    let up : suc (i + 1) ≡ suc i + 1 = omega arith in
    subst (λ (k : ℕ). get_or (x ∷ xs) k 0 ≡ 10) up (p.cr i is)

lf_cons : (x : ℕ) (xs : List ℕ) → IsPaired xs → (i : ℕ) → get_or (x ∷ xs) (i + 1) 0 ≡ 10 → get_or (x ∷ xs) i 0 ≡ 13
lf_cons x xs p zero is = absurd (p.first is)
lf_cons x xs p (suc i) is =
    let up : suc i + 1 ≡ suc (i + 1) = omega arith in
    p.lf i (subst (λ (k : ℕ). get_or (x ∷ xs) k 0 ≡ 10) up is)

paired_cons : (x : ℕ) (xs : List ℕ) → IsInner x → IsPaired xs → IsPaired (x ∷ xs)
paired_cons x xs n p = record { cr = cr_cons x xs n.0 p; lf = lf_cons x xs p; first = n.1 }

-- a word without CR and LF in front
record IsTail (xs : List ℕ) : Type 0 where
  cut : IsCut xs
  paired : IsPaired xs

behind : (w xs : List ℕ) → All IsInner w → IsTail (w ++ xs) → IsTail xs
behind [] xs a h = h
behind (x ∷ w) xs a h =
    let n = All-head IsInner x w a in
    behind w xs (All-tail IsInner x w a)
    (record { cut = cut_tail x (w ++ xs) n.0 h.cut; paired = paired_tail x (w ++ xs) n.0 h.paired })

ahead : (w xs : List ℕ) → All IsInner w → IsTail xs → IsTail (w ++ xs)
ahead [] xs a h = h
ahead (x ∷ w) xs a h =
    let n = All-head IsInner x w a in
    let t = ahead w xs (All-tail IsInner x w a) h in
    record { cut = cut_cons x (w ++ xs) n.0 t.cut; paired = paired_cons x (w ++ xs) n t.paired }

-- the bytes of a method and of a visible target are neither CR nor LF
cr_no_token : is_token_byte 13 ≡ false
unfolding is_token_byte
cr_no_token = refl

lf_no_token : is_token_byte 10 ≡ false
unfolding is_token_byte
lf_no_token = refl

token_inner : (b : ℕ) → is_token_byte b ≡ true → IsInner b
token_inner b h = (
  λ e. false≢true (sym cr_no_token ∙ ap is_token_byte (sym e) ∙ h),
  λ e. false≢true (sym lf_no_token ∙ ap is_token_byte (sym e) ∙ h),
)

visible_inner : (b : ℕ) → IsVisible b → IsInner b
visible_inner b v = (λ e. omega (arith, e, v.0), λ e. omega (arith, e, v.0))

visible_uri : (b : ℕ) → IsVisible b → is_uri_byte b ≡ true
visible_uri b v = let low = v.0 in let high = v.1 in grind (arith, nat_tests)

-- visible ASCII is UTF-8
visible_text : (bytes : List ℕ) → All IsVisible bytes → IsUtf8 bytes
visible_text bytes visible =
    IsUtf8-from_ascii bytes (IsAscii-from_all bytes (All-weaker IsVisible (λ b. b < 128) (λ b h. omega (arith, h.1)) bytes visible))

-- no empty line stands before a head whose block begins with no pair and no LF
no_blank : (ends : List LineEnd) (x : List ℕ) → take 2 (print_blank ends ++ x) ≢ pair → get_or (print_blank ends ++ x) 0 0 ≢ 10 → ends ≡ []
no_blank [] x p n = refl
no_blank (crlf ∷ ends) x p n = absurd (p refl)
no_blank (lf ∷ ends) x p n = absurd (n refl)

-- what stands before a target, and what stands behind it
abbrev method_part : RequestHead → List ℕ
method_part h = h.method ++ 32 ∷ []

abbrev rest_part : RequestHead → List ℕ
rest_part h = 32 ∷ (print_version h.minor ++ (print_end h.line_end ++ (print_section h.fields h.last ++ [])))

-- a head without empty lines, around its target
printed : (h : RequestHead) → h.blank ≡ [] → print_request h ++ [] ≡ framed (method_part h) (rest_part h) h.target
printed h none =
    print_request-append h []
    ∙ ap (λ (v : List LineEnd). print_blank v ++ (h.method ++ 32 ∷ (h.target ++ rest_part h))) none
    ∙ sym (append_assoc h.method (32 ∷ []) (h.target ++ rest_part h))

-- the head of the grammar with another target
abbrev retargeted : RequestHead → List ℕ → RequestHead
retargeted h target = record h { target = target }

retarget_valid : (h : RequestHead) (target : List ℕ) → IsRequestHead h → 0 < length target → All IsVisible target
    → IsRequestHead (retargeted h target)
retarget_valid h target x some visible = record {
  method = x.method;
  target = (some, All-weaker IsVisible (λ b. is_uri_byte b ≡ true) visible_uri target visible);
  target_text = visible_text target visible;
  minor = x.minor;
  fields = x.fields;
}

-- the bytes before the end of a target have no CR or LF
word_inner : (h : RequestHead) (target : List ℕ) → IsRequestHead h → All IsVisible target → All IsInner (method_part h ++ target)
word_inner h target x visible =
    All-append IsInner (method_part h) target
    (All-append IsInner h.method (32 ∷ []) (All-weaker (λ b. is_token_byte b ≡ true) IsInner token_inner h.method x.method.1)
    (All-cons IsInner 32 [] (λ e. omega (arith, e), λ e. omega (arith, e)) (All-nil IsInner)))
    (All-weaker IsVisible IsInner visible_inner target visible)

-- what begins with a token begins with no pair
no_pair_of : (m x : List ℕ) → 0 < length m → AllPass is_token_byte m → take 2 (m ++ x) ≢ pair
no_pair_of [] x some pass e = omega (arith, some)
no_pair_of (b ∷ m) x some pass e =
    let first : b ≡ 13 = ap (λ v. get_or v 0 0) e in
    (token_inner b (All-head (λ v. is_token_byte v ≡ true) b m pass)).0 first

-- a head around another target
framed_head : (h : RequestHead) (p : HeadParts) (target rest : List ℕ) → IsRequestHead h → h.blank ≡ [] → parts_of h ≡ p
    → IsTail (rest_part h) → length p.fields ≤ 64 → 0 < length target → All IsVisible target
    → length (framed (method_part h) (rest_part h) target) ≤ LIMIT → IsFramed (method_part h) (rest_part h) p target rest
framed_head h p target rest x none parts tail few some visible fits =
    let b = framed (method_part h) (rest_part h) target in
    let same : (method_part h ++ target) ++ rest_part h ≡ b = append_assoc (method_part h) target (rest_part h) in
    let whole : IsTail b = subst IsTail same (ahead (method_part h ++ target) (rest_part h) (word_inner h target x visible) tail) in
    record {
      begins = record {
        skipped = 0;
        front = whole.cut.front;
        cut = refl;
        no_pair = λ e. no_pair_of h.method (32 ∷ (target ++ rest_part h)) x.method.0 x.method.1
            (ap (take 2) (sym (append_assoc h.method (32 ∷ []) (target ++ rest_part h))) ∙ e);
        ends = whole.cut.ends;
        first = whole.cut.first;
        fits = omega (arith, fits);
      };
      head = record {
        head = retargeted h target;
        reads = (retarget_valid h target x some visible, sym (printed (retargeted h target) none));
        parts = ap (λ (q : HeadParts). with_target q target) parts;
        paired = whole.paired;
        visible = visible;
        few = few;
      };
    }

-- where the parts around the target stand in a block
part_before : (h : RequestHead) (n : ℕ) → length h.method + 1 ≡ n
    → take n (framed (method_part h) (rest_part h) h.target) ≡ method_part h
part_before h n e =
    let size : n ≡ length (method_part h) = omega (arith, e, length-append h.method (32 ∷ [])) in
    ap (λ k. take k (framed (method_part h) (rest_part h) h.target)) size ∙ take-append_seam (method_part h) (h.target ++ rest_part h)

part_after : (h : RequestHead) (n : ℕ) → length h.method + 1 + length h.target ≡ n
    → drop n (framed (method_part h) (rest_part h) h.target) ≡ rest_part h
part_after h n e =
    let w = method_part h ++ h.target in
    let size : n ≡ length w = omega (arith, e, length-append h.method (32 ∷ []), length-append (method_part h) h.target) in
    ap (λ k. drop k (framed (method_part h) (rest_part h) h.target)) size
    ∙ ap (drop (length w)) (sym (append_assoc (method_part h) h.target (rest_part h)))
    ∙ drop-append_seam w (rest_part h)

-- what a head of a block is by the parts around its target
record HasShape (block : List ℕ) (p : HeadParts) (h : RequestHead) : Type 0 where
  none : h.blank ≡ []
  shape : block ≡ framed (method_part h) (rest_part h) h.target
  before : before_target block p ≡ method_part h
  after : after_target block p ≡ rest_part h
  target : h.target ≡ p.target
  method : h.method ≡ p.method

shape_of : (t block rest : List ℕ) (p : HeadParts) → Begins t block rest → (y : IsHead block p) → HasShape block p y.head
shape_of t block rest p begins y =
    let h = y.head in
    let method : h.method ≡ p.method = ap (λ (q : HeadParts). q.method) y.parts in
    let target : h.target ≡ p.target = ap (λ (q : HeadParts). q.target) y.parts in
    let blank_front : block ≡ print_blank h.blank ++ (h.method ++ 32 ∷ (h.target ++ rest_part h)) = y.reads.1 ∙ print_request-append h [] in
    let none : h.blank ≡ [] =
    no_blank h.blank (h.method ++ 32 ∷ (h.target ++ rest_part h))
    (λ e. begins.no_pair (ap (take 2) blank_front ∙ e))
    (λ e. y.paired.first (ap (λ v. get_or v 0 0) blank_front ∙ e)) in
    let shape : block ≡ framed (method_part h) (rest_part h) h.target = y.reads.1 ∙ printed h none in
    record {
      none = none;
      shape = shape;
      before = ap (take (target_start p)) shape ∙ part_before h (target_start p) (ap (λ v. length v + 1) method);
      after = ap (drop (target_start p + length p.target)) shape
          ∙ part_after h (target_start p + length p.target) (omega (arith, ap length method, ap length target));
      target = target;
      method = method;
    }

-- a head of a block stands around its own target
pub record StandsAround (block : List ℕ) (p : HeadParts) : Type 0 where
  pub shape : block ≡ framed (before_target block p) (after_target block p) p.target
  pub start : length (before_target block p) ≡ target_start p

pub stands_around : (t block rest : List ℕ) (p : HeadParts) → Begins t block rest → IsHead block p → StandsAround block p
stands_around t block rest p begins y =
    let s = shape_of t block rest p begins y in
    let h = y.head in
    record {
      shape = s.shape
          ∙ ap (λ v. framed v (rest_part h) h.target) (sym s.before)
          ∙ ap (λ v. framed (before_target block p) v h.target) (sym s.after)
          ∙ ap (framed (before_target block p) (after_target block p)) s.target;
      start = omega (arith, ap length s.before, length-append h.method (32 ∷ []), ap length s.method);
    }

-- what stands around the target of a head is a head around any other
pub takes_any_target_law : TakesAnyTarget
takes_any_target_law t block rest p begins y =
    let h = y.head in
    let s = shape_of t block rest p begins y in
    let visible : All IsVisible h.target = subst (All IsVisible) (sym s.target) y.visible in
    let whole : IsTail block =
    record { cut = record { front = begins.front; ends = begins.ends; first = begins.first }; paired = y.paired } in
    let cut : block ≡ (method_part h ++ h.target) ++ rest_part h =
    s.shape ∙ sym (append_assoc (method_part h) h.target (rest_part h)) in
    let tail : IsTail (rest_part h) =
    behind (method_part h ++ h.target) (rest_part h) (word_inner h h.target y.reads.0 visible) (subst IsTail cut whole) in
    subst (λ (v : List ℕ). IsFrame v (after_target block p) p) (sym s.before)
    (subst (λ (v : List ℕ). IsFrame (method_part h) v p) (sym s.after)
    (λ another more some seen fits.
    framed_head h p another more y.reads.0 s.none y.parts tail y.few some seen fits))
