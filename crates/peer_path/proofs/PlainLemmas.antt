-- A target of plain bytes names the group and the key that stand in it.
use Rattle.std.proofs.Common.{◌≡◌, ◌≢◌, ℕ, ◌+◌, Bool, true, List, ◌∷◌, ◌++◌, length, drop, get_or, nat_eq}
use Rattle.std.proofs.Common.{eqb, not, ◌&&◌, All, Some, None, Result, Ok, codes, sym, refl, ap, ◌∙◌, arith, length-append}
use Rattle.std.proofs.Math.Seq.{take-append_seam, drop-append-add, get_or-append_seam}
use Rattle.std.specs.List.{starts_with}
use Rattle.std.proofs.lemmas.Bool.{false≢true, eqb-true, eq-eqb}
use Rattle.std.proofs.Math.ListN.{get_or-append}
use Rattle.std.proofs.lemmas.List.Sums.{AllPass-from_list_all}
use Rattle.std.proofs.lemmas.List.Elements.{All-cons, All-append, All-weaker, All-get_or}
use Rattle.memchr.specs.Find.{IsFirstByte, is_byte}
use Rattle.percent_encoding.specs.Percent.{percent_sign}
use Rattle.peer_path.specs.Places.{PlaceParts, Refusal, question_mark, slash, base_path, place_of, place_below_base}
use Rattle.peer_path.specs.Plains.{IsPlain, IsPlainInName, plain_target}
use Rattle.peer_path.proofs.Searches.{All-absent, before_first-absent}
use Rattle.peer_path.proofs.EscapeLemmas.{percent_decode-plain, has_good_escapes-plain}
use Rattle.peer_path.proofs.PlaceLemmas.{place_below_base-base, split_key-found}

-- a byte that stands nowhere is not found
absent : (a : ℕ) (xs : List ℕ) → All (λ b. b ≢ a) xs → IsFirstByte (is_byte a) xs None
absent a xs all = λ k low high is. All-get_or (λ b. b ≢ a) xs k 0 high all (eqb-true (get_or xs k 0) a is)

-- the base path is plain
is_plain : ℕ → Bool
is_plain b = not (eqb b question_mark) && not (eqb b percent_sign)

plain_by_test : (b : ℕ) → is_plain b ≡ true → IsPlain b
unfolding is_plain
plain_by_test b h = (
  λ e. false≢true (ap is_plain (sym e) ∙ h),
  λ e. false≢true (ap is_plain (sym e) ∙ h),
)

base_plain : All IsPlain base_path
unfolding is_plain
base_plain = All-weaker (λ b. is_plain b ≡ true) IsPlain plain_by_test base_path (AllPass-from_list_all is_plain base_path refl)

-- the `/` behind a name is the first
slash_found : (name key : List ℕ) → All (λ b. b ≢ slash) name → IsFirstByte (is_byte slash) (name ++ slash ∷ key) (Some (length name))
slash_found name key all = (
  record {
    low = omega arith;
    high = omega (arith, length-append name (slash ∷ key));
    before = λ k low high is.
        All-get_or (λ b. b ≢ slash) name k 0 high all
        (sym (get_or-append name (slash ∷ key) 0 k high) ∙ eqb-true (get_or (name ++ slash ∷ key) k 0) slash is);
  },
  eq-eqb (get_or (name ++ slash ∷ key) (length name) 0) slash (get_or-append_seam name slash key 0),
)

-- a target with neither a query nor an escape leads where it leads as a path
as_path : (target : List ℕ) → starts_with nat_eq target (codes "/") ≡ true → IsFirstByte (is_byte question_mark) target None
    → IsFirstByte (is_byte percent_sign) target None → place_of target ≡ place_below_base target
as_path target starts no_query no_escape =
    rw (
      before_first-absent (is_byte question_mark) target no_query,
      starts,
      has_good_escapes-plain target no_escape,
      percent_decode-plain target (All-absent (is_byte percent_sign) target no_escape),
    )
    refl

-- the place that it names
pub plain_place : (name key : List ℕ) → All IsPlainInName name → All IsPlain key
    → place_of (plain_target name key) ≡ Ok (record { group = name; key = key })
plain_place name key in_name in_key =
    let target = plain_target name key in
    let rest = name ++ slash ∷ key in
    let plain : All IsPlain target =
    All-append IsPlain base_path rest base_plain (All-append IsPlain name (slash ∷ key)
    (All-weaker IsPlainInName IsPlain (λ b h. h.0) name in_name)
    (All-cons IsPlain slash key (λ e. omega (arith, e), λ e. omega (arith, e)) in_key)) in
    let no_query = absent question_mark target (All-weaker IsPlain (λ b. b ≢ question_mark) (λ b h. h.0) target plain) in
    let no_escape = absent percent_sign target (All-weaker IsPlain (λ b. b ≢ percent_sign) (λ b h. h.1) target plain) in
    let found = slash_found name key (All-weaker IsPlainInName (λ b. b ≢ slash) (λ b h. h.1) name in_name) in
    let parts : List ℕ → List ℕ → Result PlaceParts Refusal = λ g k. Ok (record { group = g; key = k }) in
    let key_is : drop (length name + 1) rest ≡ key = drop-append-add name (slash ∷ key) 1 in
    as_path target refl no_query no_escape ∙ place_below_base-base target rest refl refl ∙ split_key-found rest (length name) found
    ∙ ap (λ g. parts g (drop (length name + 1) rest)) (take-append_seam name (slash ∷ key))
    ∙ ap (parts name) key_is
