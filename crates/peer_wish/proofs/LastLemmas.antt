-- A head that is remembered asks for any key around which it stands again.
use Rattle.std.proofs.Common.{◌≡◌, ℕ, zero, suc, ◌+◌, ◌-◌, ◌<◌, ◌≤◌, Bool, true, false, List, [], ◌∷◌, ◌++◌, length, take, drop, All, Option, Some, None}
use Rattle.std.proofs.Common.{sym, ap, subst, ◌∙◌, arith, append_assoc, length-append, length-drop, drop-cons, get_or, nat_eq, codes, if◌then◌else◌}
use Rattle.std.proofs.Math.Seq.{take-append_seam, drop-append_seam}
use Rattle.std.proofs.lemmas.List.{take-append-drop, drop-take, drop-drop, length-take-le}
use Rattle.std.proofs.lemmas.Slice.Eq.{bytes_eq-Decides}
use Rattle.std.specs.Cmp.Lexicographic.{pointwise}
use Rattle.std.proofs.lemmas.List.Elements.{All-append, All-take, All-weaker}
use Rattle.std.specs.List.{starts_with}
use Rattle.std.proofs.lemmas.Bool.{false≢true}
use Rattle.peer_head.specs.Blocks.{Begins, IsFrontLength, LIMIT, pairs}
use Rattle.peer_head.specs.Looks.{ShowsHead}
use Rattle.peer_head.specs.Heads.{HeadParts, IsHead, IsVisible}
use Rattle.peer_head.specs.Faults.{head_fault, is_closing, is_bare}
use Rattle.peer_head.specs.Frames.{framed, with_target, target_start, before_target, after_target}
use Rattle.peer_head.proofs.BlockLaws.{begins_once_law}
use Rattle.peer_head.proofs.FrameLemmas.{takes_any_target_law, StandsAround, stands_around}
use Rattle.peer_path.specs.Places.{base_path, slash}
use Rattle.peer_path.specs.Plains.{IsPlain, IsPlainInName, plain_target}
use Rattle.peer_path.proofs.PlainLemmas.{plain_place}
use Rattle.peer_source.specs.declared.group.GroupId.{GroupId}
use Rattle.peer_reply.specs.declared.wish.Wish.{Wish}
use Rattle.peer_reply.specs.declared.fault.Fault.TheVariants as fault
use Rattle.peer_reply.specs.declared.wish.WishBody.{WishBody}
use Rattle.peer_reply.specs.declared.wish.WishBody.TheVariants as body
use Rattle.peer_wish.specs.Wishes.{Asks, IsWish, asked, head_wish, head_body, target_body, placed_body, in_group, is_served, get_wish}
use Rattle.peer_wish.specs.Nexts.{IsNextWish, first}
use Rattle.peer_wish.specs.Lasts.{IsKeyByte, around, LastParts, KnowsGroup, AsksAround, IsLast, last_parts, IsPlainNameOf, IsLastAt}

-- what stands before a key in a target of plain bytes
abbrev pub lead : List ℕ → List ℕ
lead name = base_path ++ (name ++ slash ∷ [])

lead-append : (name key : List ℕ) → lead name ++ key ≡ plain_target name key
lead-append name key =
    append_assoc base_path (name ++ slash ∷ []) key ∙ ap (λ v. base_path ++ v) (append_assoc name (slash ∷ []) key)

-- the wish of a head with a target of plain bytes
wish_is : (numbers : List ℕ → Option ℕ) (p : HeadParts) (name key : List ℕ) (group : GroupId) → is_closing p ≡ false
    → is_served p.method ≡ true → All IsPlainInName name → All IsPlain key → numbers name ≡ Some group.number
    → head_wish numbers (with_target p (plain_target name key)) ≡ get_wish group key false (is_bare p)
wish_is numbers p name key group stays served in_name in_key known =
    let target = plain_target name key in
    let B : WishBody → Wish = λ b. record { body = b; closing = is_closing p; bare = is_bare p } in
    let by_method : head_body numbers (with_target p target) ≡ target_body numbers target =
    ap (λ (s : Bool). if s then target_body numbers target else body.Fault fault.Method) served in
    let by_place : target_body numbers target ≡ in_group (numbers name) name key =
    ap (placed_body numbers) (plain_place name key in_name in_key) in
    let by_name : in_group (numbers name) name key ≡ body.Get group key = ap (λ n. in_group n name key) known in
    ap B (by_method ∙ by_place ∙ by_name) ∙ ap (λ (c : Bool). get_wish group key c (is_bare p)) stays

-- the parts of a head around its key
abbrev pub parts_around : List ℕ → HeadParts → List ℕ → GroupId → LastParts
parts_around block p name group = record {
  before = before_target block p ++ lead name;
  after = after_target block p;
  name = name;
  group = group;
  bare = is_bare p;
}

-- a head with a target of plain bytes asks for any other key in its place
pub asks_around : (t block rest : List ℕ) (p : HeadParts) (name left : List ℕ) (group : GroupId) → Begins t block rest → IsHead block p
    → head_fault p ≡ None → is_closing p ≡ false → is_served p.method ≡ true → All IsPlainInName name
    → p.target ≡ plain_target name left → (numbers : List ℕ → Option ℕ) → KnowsGroup numbers (parts_around block p name group)
    → AsksAround numbers (parts_around block p name group)
asks_around t block rest p name left group begins head fine stays served in_name is numbers known key more plain fits =
    let b = before_target block p in
    let a = after_target block p in
    let target = plain_target name key in
    let w = get_wish group key false (is_bare p) in
    let same : framed b a target ≡ around (b ++ lead name) a key =
    ap (λ v. b ++ (v ++ a)) (sym (lead-append name key)) ∙ ap (λ v. b ++ v) (append_assoc (lead name) key a)
    ∙ sym (append_assoc b (lead name) (key ++ a)) in
    let front : take (length (lead name)) p.target ≡ lead name =
    ap (take (length (lead name))) (is ∙ sym (lead-append name left)) ∙ take-append_seam (lead name) left in
    let lead_visible : All IsVisible (lead name) =
    subst (All IsVisible) front (All-take IsVisible (length (lead name)) p.target head.visible) in
    let visible : All IsVisible target =
    subst (All IsVisible) (lead-append name key)
    (All-append IsVisible (lead name) key lead_visible (All-weaker IsKeyByte IsVisible (λ c h. h.0) key plain)) in
    let in_key : All IsPlain key = All-weaker IsKeyByte IsPlain (λ c h. h.1) key plain in
    let frame = takes_any_target_law t block rest p begins head target more (omega arith) visible (omega (arith, ap length same, fits)) in
    let asks : Asks numbers (framed b a target ++ more) w more = record {
      block = framed b a target;
      begins = frame.begins;
      wish = subst (IsWish numbers (framed b a target)) (wish_is numbers p name key group stays served in_name in_key known)
          (asked (with_target p target) frame.head fine);
    } in
    subst (λ (v : List ℕ). Asks numbers (v ++ more) w more) same asks

-- the next wish of a text that stands around a key
pub next_around : (numbers : List ℕ → Option ℕ) (last : LastParts) (t key more : List ℕ) (n : ℕ) → AsksAround numbers last
    → t ≡ around last.before last.after key ++ more → All IsKeyByte key → length (around last.before last.after key) ≡ n → n ≤ LIMIT
    → IsNextWish numbers t (get_wish last.group key false last.bare) × IsFrontLength t n
next_around numbers last t key more n asks cut plain size fits =
    let b = around last.before last.after key in
    let w = get_wish last.group key false last.bare in
    let here : Asks numbers t w more =
    subst (λ (v : List ℕ). Asks numbers v w more) (sym cut) (asks key more plain (omega (arith, size, fits))) in
    let front : IsFrontLength t n = λ block rest begins. (
      omega (arith, ap length cut, length-append b more, size),
      (begins_once_law t block here.block rest more begins here.begins).1
          ∙ sym (drop-append_seam b more)
          ∙ ap (λ k. drop k (b ++ more)) size
          ∙ ap (drop n) (sym cut),
    ) in
    (first w more here, front)

-- a text that begins with what was remembered around the bytes that were scanned
pub same_next : (numbers : List ℕ → Option ℕ) (last : LastParts) (held behind prefix suffix : List ℕ) (len n : ℕ)
    → AsksAround numbers last → prefix ≡ last.before → suffix ≡ last.after
    → pointwise nat_eq (take (length prefix) held) prefix ≡ true → behind ≡ drop (length prefix) held
    → All IsKeyByte (take len behind) → len ≤ length behind
    → pointwise nat_eq suffix (take (length suffix) (drop len behind)) ≡ true
    → n ≡ length prefix + len + length suffix → n ≤ LIMIT
    → IsNextWish numbers held (get_wish last.group (take len behind) false last.bare) × IsFrontLength held n
same_next numbers last held behind prefix suffix len n asks first_is last_is begins behind_is plain inside ends size fits =
    let key = take len behind in
    let more = drop (length suffix) (drop len behind) in
    let front : take (length prefix) held ≡ prefix = (bytes_eq-Decides (take (length prefix) held) prefix).0 begins in
    let back : suffix ≡ take (length suffix) (drop len behind) =
    (bytes_eq-Decides suffix (take (length suffix) (drop len behind))).0 ends in
    let tail : drop len behind ≡ suffix ++ more =
    sym (take-append-drop (length suffix) (drop len behind)) ∙ ap (λ v. v ++ more) (sym back) in
    let cut : held ≡ around prefix suffix key ++ more =
    sym (take-append-drop (length prefix) held)
    ∙ ap (λ v. v ++ drop (length prefix) held) front
    ∙ ap (λ v. prefix ++ v) (sym behind_is ∙ sym (take-append-drop len behind) ∙ ap (λ v. key ++ v) tail
    ∙ sym (append_assoc key suffix more))
    ∙ sym (append_assoc prefix (key ++ suffix) more) in
    let shape : around prefix suffix key ≡ around last.before last.after key =
    ap (λ v. around v suffix key) first_is ∙ ap (λ v. around last.before v key) last_is in
    let long : length (around last.before last.after key) ≡ n =
    omega (
      arith,
      ap length shape,
      length-append prefix (key ++ suffix),
      length-append key suffix,
      length-take-le len behind inside,
      size,
    ) in
    next_around numbers last held key more n asks (cut ∙ ap (λ v. v ++ more) shape) plain long fits

-- the key of a place that was cut at the `/` behind its group
pub key_of : (held : List ℕ) (target key len : ℕ) → target < key
    → drop (key - target - 1 + 1) (take (key + len - target) (drop target held)) ≡ take len (drop key held)
key_of held target key len lt =
    let d = key - target in
    let a : key - target - 1 + 1 ≡ d = omega arith in
    let b : key + len - target ≡ d + len = omega arith in
    let e : target + d ≡ key = omega arith in
    ap (λ n. drop n (take (key + len - target) (drop target held))) a ∙ ap (λ n. drop d (take n (drop target held))) b
    ∙ drop-take d len (drop target held) ∙ ap (take len) (drop-drop d target held ∙ ap (λ n. drop n held) e)

-- a block that begins a text lies at its front, where no pair stands before it
record IsAtFront (t block : List ℕ) (n : ℕ) : Type 0 where
  block_is : block ≡ take n t
  within : n ≤ length t
  long : length block ≡ n

no_pairs : (t block rest : List ℕ) (skipped : ℕ) → starts_with nat_eq t (codes "\r") ≡ false → t ≡ pairs skipped ++ (block ++ rest)
    → t ≡ block ++ rest
no_pairs t block rest zero no_cr cut = cut
no_pairs t block rest (suc n) no_cr cut =
    absurd (false≢true (sym no_cr ∙ ap (λ v. starts_with nat_eq v (codes "\r")) cut))

at_front : (t block rest : List ℕ) (n : ℕ) → starts_with nat_eq t (codes "\r") ≡ false → Begins t block rest → IsFrontLength t n
    → IsAtFront t block n
at_front t block rest n no_cr begins front =
    let cut : t ≡ block ++ rest = no_pairs t block rest begins.skipped no_cr begins.cut in
    let said = front block rest begins in
    let long : length block ≡ n =
    omega (arith, said.0, ap length cut, length-append block rest, ap length said.1, length-drop n t) in
    record {
      block_is = sym (take-append_seam block rest) ∙ ap (λ k. take k (block ++ rest)) long ∙ ap (take n) (sym cut);
      within = said.0;
      long = long;
    }

-- the places of a head with a target of plain bytes
pub record ArePlaced (p : HeadParts) (name : List ℕ) (n : ℕ) : Type 0 where
  pub named : length p.method + 1 + 13 + length name + 1 ≤ length p.method + 1 + length p.target
  pub within : length p.method + 1 + length p.target ≤ n

pub are_placed : (t : List ℕ) (p : HeadParts) (name : List ℕ) (n : ℕ) → starts_with nat_eq t (codes "\r") ≡ false → ShowsHead t p
    → IsFrontLength t n → IsPlainNameOf p.target name → ArePlaced p name n
are_placed t p name n no_cr h front plain =
    let f = at_front t h.block h.rest n no_cr h.begins front in
    let s = stands_around t h.block h.rest p h.begins h.head in
    let b = before_target h.block p in
    let a = after_target h.block p in
    record {
      named = omega (
        arith,
        ap length plain.is,
        length-append base_path (name ++ slash ∷ plain.left),
        length-append name (slash ∷ plain.left),
      );
      within = omega (arith, f.long, ap length s.shape, length-append b (p.target ++ a), length-append p.target a, s.start);
    }

-- the parts by these places are those around the key
parts_same : (block : List ℕ) (p : HeadParts) (name left : List ℕ) (group : GroupId) → StandsAround block p
    → p.target ≡ plain_target name left
    → last_parts block (target_start p) (target_start p + 13 + length name + 1) (target_start p + length p.target) group (is_bare p)
    ≡ parts_around block p name group
parts_same block p name left group s is =
    let b = before_target block p in
    let a = after_target block p in
    let key = target_start p + 13 + length name + 1 in
    let behind = left ++ a in
    let by_key : block ≡ (b ++ lead name) ++ behind =
    s.shape ∙ ap (λ v. b ++ (v ++ a)) (is ∙ sym (lead-append name left)) ∙ ap (λ v. b ++ v) (append_assoc (lead name) left a)
    ∙ sym (append_assoc b (lead name) behind) in
    let by_name : block ≡ (b ++ base_path) ++ (name ++ slash ∷ behind) =
    s.shape ∙ ap (λ v. b ++ (v ++ a)) is
    ∙ ap (λ v. b ++ v) (append_assoc base_path (name ++ slash ∷ left) a ∙ ap (λ v. base_path ++ v) (append_assoc name (slash ∷ left) a))
    ∙ sym (append_assoc b base_path (name ++ slash ∷ behind)) in
    let key_size : key ≡ length (b ++ lead name) =
    omega (
      arith,
      s.start,
      length-append b (lead name),
      length-append base_path (name ++ slash ∷ []),
      length-append name (slash ∷ []),
    ) in
    let name_size : target_start p + 13 ≡ length (b ++ base_path) = omega (arith, s.start, length-append b base_path) in
    let left_size : key - 1 - (target_start p + 13) ≡ length name = omega arith in
    let before_is : take key block ≡ b ++ lead name =
    ap (take key) by_key ∙ ap (λ n. take n ((b ++ lead name) ++ behind)) key_size ∙ take-append_seam (b ++ lead name) behind in
    let drop_is : drop (target_start p + 13) block ≡ name ++ slash ∷ behind =
    ap (drop (target_start p + 13)) by_name ∙ ap (λ n. drop n ((b ++ base_path) ++ (name ++ slash ∷ behind))) name_size
    ∙ drop-append_seam (b ++ base_path) (name ++ slash ∷ behind) in
    let name_is : take (key - 1 - (target_start p + 13)) (drop (target_start p + 13) block) ≡ name =
    ap (take (key - 1 - (target_start p + 13))) drop_is ∙ ap (λ n. take n (name ++ slash ∷ behind)) left_size
    ∙ take-append_seam name (slash ∷ behind) in
    let F : List ℕ → List ℕ → LastParts = λ x y. record { before = x; after = a; name = y; group = group; bare = is_bare p } in
    ap (λ x. F x (take (key - 1 - (target_start p + 13)) (drop (target_start p + 13) block))) before_is ∙ ap (F (b ++ lead name)) name_is

-- what is remembered of a head at the front of a text
pub kept_last : (t bytes : List ℕ) (p : HeadParts) (name : List ℕ) (group : GroupId) (bare : Bool) (n : ℕ)
    → starts_with nat_eq t (codes "\r") ≡ false → ShowsHead t p → IsFrontLength t n → IsPlainNameOf p.target name
    → is_closing p ≡ false → is_served p.method ≡ true → bytes ≡ take n t → bare ≡ is_bare p
    → IsLastAt bytes (target_start p) (target_start p + 13 + length name + 1) (target_start p + length p.target) group bare
    × (take (target_start p + 13 + length name + 1 - 1 - (target_start p + 13)) (drop (target_start p + 13) bytes) ≡ name)
kept_last t bytes p name group bare n no_cr h front plain stays served bytes_is bare_is =
    let f = at_front t h.block h.rest n no_cr h.begins front in
    let s = stands_around t h.block h.rest p h.begins h.head in
    let placed = are_placed t p name n no_cr h front plain in
    let key = target_start p + 13 + length name + 1 in
    let rest = target_start p + length p.target in
    let same : h.block ≡ bytes = f.block_is ∙ sym bytes_is in
    let parts = parts_same h.block p name plain.left group s plain.is in
    let asks : IsLast (parts_around h.block p name group) =
    asks_around t h.block h.rest p name plain.left group h.begins h.head h.fine stays served plain.plain plain.is in
    let last : IsLast (last_parts h.block (target_start p) key rest group (is_bare p)) = subst IsLast (sym parts) asks in
    let at : IsLastAt h.block (target_start p) key rest group (is_bare p) = record {
      named = omega arith;
      ordered = placed.named;
      within = omega (arith, f.long, placed.within);
      last = last;
    } in (
      subst (λ (v : List ℕ). IsLastAt v (target_start p) key rest group bare) same
          (subst (λ (c : Bool). IsLastAt h.block (target_start p) key rest group c) (sym bare_is) at),
      ap (λ (v : List ℕ). take (key - 1 - (target_start p + 13)) (drop (target_start p + 13) v)) (sym same)
          ∙ ap (λ (l : LastParts). l.name) parts,
    )

-- the name that a scan found behind the base path
pub named_by : (target below : List ℕ) (len : ℕ) → pointwise nat_eq (take 13 target) base_path ≡ true → below ≡ drop 13 target
    → All IsPlainInName (take len below) → len < length below → get_or below len 0 ≡ slash → IsPlainNameOf target (take len below)
named_by target below len begins behind plain lt here =
    let front : take 13 target ≡ base_path = (bytes_eq-Decides (take 13 target) base_path).0 begins in
    let left = drop (suc len) below in
    let tail : drop len below ≡ slash ∷ left = drop-cons below len 0 lt ∙ ap (λ b. b ∷ left) here in
    record {
      plain = plain;
      left = left;
      is = sym (take-append-drop 13 target) ∙ ap (λ v. v ++ drop 13 target) front
          ∙ ap (λ v. base_path ++ v) (sym behind ∙ sym (take-append-drop len below) ∙ ap (λ v. take len below ++ v) tail);
    }
