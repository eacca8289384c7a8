-- A block is at most one head, and a text looks one way only.
use Rattle.std.proofs.Common.{◌≡◌, ℕ, Bool, List, [], refl, sym, ◌∙◌, ap, subst, arith, Some, None}
use Rattle.httparse.proofs.GrammarLemmas.{request_unique}
use Rattle.peer_head.specs.declared.fault.HeadFault.{HeadFault}
use Rattle.peer_head.specs.declared.look.Look.TheVariants.{Need, Head, Fault}
use Rattle.peer_head.specs.Blocks.{Begins, IsUnfinished}
use Rattle.peer_head.specs.Heads.{HeadParts, IsHead, HasNoHead, parts_of}
use Rattle.peer_head.specs.Faults.{head_fault, is_bare}
use Rattle.peer_head.specs.Looks.{ShowsHead, IsFault, too_long, no_head, of_head}
use Rattle.peer_head.specs.Laws.{IsOneHead, LooksOneWay}
use Rattle.peer_head.proofs.BlockLaws.{begins_once_law}

-- a block is at most one head
pub is_one_head_law : IsOneHead
is_one_head_law block p q x y = sym x.parts ∙ ap parts_of (request_unique block x.head y.head [] [] x.reads y.reads).0 ∙ y.parts

-- heads of one text are one
heads_same : (t b r b' r' : List ℕ) (p q : HeadParts) → Begins t b r → Begins t b' r' → IsHead b p → IsHead b' q → p ≡ q
heads_same t b r b' r' p q x y h k = is_one_head_law b' p q (subst (λ (v : List ℕ). IsHead v p) (begins_once_law t b b' r r' x y).0 h) k

-- a head of one text isn't none
not_none : (t b r b' r' : List ℕ) (p : HeadParts) → Begins t b r → Begins t b' r' → IsHead b p → HasNoHead b' → ⊥
not_none t b r b' r' p x y h none = none p (subst (λ (v : List ℕ). IsHead v p) (begins_once_law t b b' r r' x y).0 h)

-- a text that begins with a head has no fault
no_fault : (t : List ℕ) (p : HeadParts) (f : HeadFault) (bare : Bool) → ShowsHead t p → IsFault t f bare → ⊥
no_fault t p f bare h (too_long long) = long.none h.block h.rest h.begins
no_fault t p f bare h (no_head b r begins none) = not_none t h.block h.rest b r p h.begins begins h.head none
no_fault t p f bare h (of_head b r begins q head fault is) =
    let same = heads_same t h.block h.rest b r p q h.begins begins h.head head in
    let none : None ≡ Some fault = sym h.fine ∙ ap head_fault same ∙ is in
    cc

-- an unfinished text has no fault
not_faulty : (t : List ℕ) (f : HeadFault) (bare : Bool) → IsUnfinished t → IsFault t f bare → ⊥
not_faulty t f bare h (too_long long) = omega (arith, h.short, long.long)
not_faulty t f bare h (no_head b r begins none) = h.none b r begins
not_faulty t f bare h (of_head b r begins q head fault is) = h.none b r begins

-- faults of one text are one
faults_same : (t : List ℕ) (f g : HeadFault) (a b : Bool) → IsFault t f a → IsFault t g b → Fault f a ≡ Fault g b
faults_same t f g a b (too_long x) (too_long y) = refl
faults_same t f g a b (too_long x) (no_head c r begins none) = absurd (x.none c r begins)
faults_same t f g a b (too_long x) (of_head c r begins q head fault is) = absurd (x.none c r begins)
faults_same t f g a b (no_head c r begins none) (too_long y) = absurd (y.none c r begins)
faults_same t f g a b (no_head c r begins none) (no_head c' r' begins' none') = refl
faults_same t f g a b (no_head c r begins none) (of_head c' r' begins' q head fault is) =
    absurd (not_none t c' r' c r q begins' begins head none)
faults_same t f g a b (of_head c r begins p head fault is) (too_long y) = absurd (y.none c r begins)
faults_same t f g a b (of_head c r begins p head fault is) (no_head c' r' begins' none') =
    absurd (not_none t c r c' r' p begins begins' head none')
faults_same t f g a b (of_head c r begins p head fault is) (of_head c' r' begins' q head' fault' is') =
    let same = heads_same t c r c' r' p q begins begins' head head' in
    let one : Some fault ≡ Some fault' = sym is ∙ ap head_fault same ∙ is' in
    let faults : fault ≡ fault' = cc in
    ap (λ (v : HeadFault). Fault v (is_bare p)) faults ∙ ap (λ (v : HeadParts). Fault fault' (is_bare v)) same

-- a text looks one way only
pub looks_one_way_law : LooksOneWay
looks_one_way_law t Need Need x y = refl
looks_one_way_law t Need (Head q) x y = absurd (x.none y.block y.rest y.begins)
looks_one_way_law t Need (Fault g b) x y = absurd (not_faulty t g b x y)
looks_one_way_law t (Head p) Need x y = absurd (y.none x.block x.rest x.begins)
looks_one_way_law t (Head p) (Head q) x y =
    ap (λ (v : HeadParts). Head v) (heads_same t x.block x.rest y.block y.rest p q x.begins y.begins x.head y.head)
looks_one_way_law t (Head p) (Fault g b) x y = absurd (no_fault t p g b x y)
looks_one_way_law t (Fault f a) Need x y = absurd (not_faulty t f a y x)
looks_one_way_law t (Fault f a) (Head q) x y = absurd (no_fault t q f a y x)
looks_one_way_law t (Fault f a) (Fault g b) x y = faults_same t f g a b x y
