-- Laws of bodies: what begins with one begins with no other.
use Rattle.std.proofs.Common.{◌≡◌, ℕ, ◌<◌, ◌≤◌, List, [], ◌∷◌, ◌++◌, length, drop, refl, sym, ◌∙◌, ap, subst}
use Rattle.std.proofs.Common.{arith, append_assoc, append-nil, length-append}
use Rattle.peer_view.specs.Sinks.{MAX_VALUE}
use Rattle.peer_reply.specs.Bodies.{varint}
use Rattle.peer_reply.specs.Responses.{IsBody, IsCutShort, HasOtherTag, HasBadLength, GoesOn}
use Rattle.peer_reply.specs.Laws.{BodiesDiffer, HasOneFault, BodyHasNoFault}
use Rattle.peer_reply.specs.declared.response.PbFault.TheVariants as fault
use Rattle.peer_reply.proofs.VarintLemmas.{HasForm, one, two, three, form_of}

-- where two varints begin the same bytes, they are one, and the same follows
pub varints_same : (n m : ℕ) (x y : List ℕ) → n ≤ MAX_VALUE → m ≤ MAX_VALUE → varint n ++ x ≡ varint m ++ y → (n ≡ m) × (x ≡ y)
varints_same n m x y n_small m_small e = by_forms (form_of n n_small) (form_of m m_small)
  where
    by_forms : HasForm n → HasForm m → (n ≡ m) × (x ≡ y)
    by_forms (one lt is) (one lt' is') =
        let same : n ∷ x ≡ m ∷ y = sym (ap (λ v. v ++ x) is) ∙ e ∙ ap (λ v. v ++ y) is' in (cc, cc)
    by_forms (one lt is) (two a b a_low b_low b_high value is') =
        let same : n ∷ x ≡ a ∷ (b ∷ y) = sym (ap (λ v. v ++ x) is) ∙ e ∙ ap (λ v. v ++ y) is' in let f : n ≡ a = cc in absurd (omega arith)
    by_forms (one lt is) (three a b c a_low b_low c_low c_high value is') =
        let same : n ∷ x ≡ a ∷ (b ∷ (c ∷ y)) = sym (ap (λ v. v ++ x) is) ∙ e ∙ ap (λ v. v ++ y) is' in let f : n ≡ a = cc in
        absurd (omega arith)
    by_forms (two a b a_low b_low b_high value is) (one lt' is') =
        let same : a ∷ (b ∷ x) ≡ m ∷ y = sym (ap (λ v. v ++ x) is) ∙ e ∙ ap (λ v. v ++ y) is' in let f : a ≡ m = cc in absurd (omega arith)
    by_forms (two a b a_low b_low b_high value is) (two a' b' a_low' b_low' b_high' value' is') =
        let same : a ∷ (b ∷ x) ≡ a' ∷ (b' ∷ y) = sym (ap (λ v. v ++ x) is) ∙ e ∙ ap (λ v. v ++ y) is' in
        let f : a ≡ a' = cc in let g : b ≡ b' = cc in let rest : x ≡ y = cc in (omega arith, rest)
    by_forms (two a b a_low b_low b_high value is) (three a' b' c' a_low' b_low' c_low' c_high' value' is') =
        let same : a ∷ (b ∷ x) ≡ a' ∷ (b' ∷ (c' ∷ y)) = sym (ap (λ v. v ++ x) is) ∙ e ∙ ap (λ v. v ++ y) is' in let g : b ≡ b' = cc in
        absurd (omega arith)
    by_forms (three a b c a_low b_low c_low c_high value is) (one lt' is') =
        let same : a ∷ (b ∷ (c ∷ x)) ≡ m ∷ y = sym (ap (λ v. v ++ x) is) ∙ e ∙ ap (λ v. v ++ y) is' in let f : a ≡ m = cc in
        absurd (omega arith)
    by_forms (three a b c a_low b_low c_low c_high value is) (two a' b' a_low' b_low' b_high' value' is') =
        let same : a ∷ (b ∷ (c ∷ x)) ≡ a' ∷ (b' ∷ y) = sym (ap (λ v. v ++ x) is) ∙ e ∙ ap (λ v. v ++ y) is' in let g : b ≡ b' = cc in
        absurd (omega arith)
    by_forms (three a b c a_low b_low c_low c_high value is) (three a' b' c' a_low' b_low' c_low' c_high' value' is') =
        let same : a ∷ (b ∷ (c ∷ x)) ≡ a' ∷ (b' ∷ (c' ∷ y)) = sym (ap (λ v. v ++ x) is) ∙ e ∙ ap (λ v. v ++ y) is' in
        let f : a ≡ a' = cc in let g : b ≡ b' = cc in let h : c ≡ c' = cc in let rest : x ≡ y = cc in (omega arith, rest)

no_more : (value other more : List ℕ) → length value ≡ length other → value ++ more ≡ other → more ≡ []
no_more value other [] e d = refl
no_more value other (b ∷ more) e d = absurd (omega (arith, e, ap length d, length-append value (b ∷ more)))

pub bodies_differ_law : BodiesDiffer
bodies_differ_law value other more small small' e =
    let same = varints_same (length value) (length other) (value ++ more) other small small'
    (sym (append_assoc (varint (length value)) value more) ∙ ap (drop 1) e) in
    let none = no_more value other more same.0 same.1 in
    (none, sym (append-nil value) ∙ ap (λ v. value ++ v) (sym none) ∙ same.1)

-- a body that goes on is no front of a body, nor one
not_both : (front value more behind : List ℕ) (other : List ℕ) → IsBody front value → 0 < length more
    → IsBody ((front ++ more) ++ behind) other → ⊥
not_both front value more behind other b some d =
    let none = bodies_differ_law value other (more ++ behind) b.small d.small
    (ap (λ v. v ++ (more ++ behind)) (sym b.body) ∙ sym (append_assoc front more behind) ∙ d.body) in
    omega (arith, some, ap length none.0, length-append more behind)

other_tag : (input value more : List ℕ) → HasOtherTag input → IsBody (input ++ more) value → ⊥
other_tag input value more h b = h.other (first h.first 10 (h.rest ++ more) _ (ap (λ v. v ++ more) (sym h.begins) ∙ b.body))
  where
    first : (x y : ℕ) (xs ys : List ℕ) → x ∷ xs ≡ y ∷ ys → x ≡ y
    first x y xs ys e = cc

heads : (x y : ℕ) (xs ys : List ℕ) → x ∷ xs ≡ y ∷ ys → x ≡ y
heads x y xs ys e = cc

tag_varint : (input : List ℕ) → HasOtherTag input → HasBadLength input → ⊥
tag_varint input h k = h.other (heads h.first 10 h.rest k.rest (sym h.begins ∙ k.begins))

tag_extra : (input : List ℕ) → HasOtherTag input → GoesOn input → ⊥
tag_extra input h k = h.other (heads h.first 10 h.rest _ (sym h.begins ∙ k.begins ∙ ap (λ v. v ++ k.more) k.body.body))

cut_extra : (input : List ℕ) → IsCutShort input → GoesOn input → ⊥
cut_extra input h k =
    not_both k.front k.value k.more h.more h.value k.body k.some (subst (λ v. IsBody (v ++ h.more) h.value) k.begins h.body)

pub has_one_fault_law : HasOneFault
has_one_fault_law input fault.Truncated fault.Truncated h k = refl
has_one_fault_law input fault.Truncated fault.Tag h k = absurd (other_tag input h.value h.more k h.body)
has_one_fault_law input fault.Truncated fault.Varint h k = absurd (k.not_cut h.value h.more h.body)
has_one_fault_law input fault.Truncated fault.Extra h k = absurd (cut_extra input h k)
has_one_fault_law input fault.Tag fault.Truncated h k = absurd (other_tag input k.value k.more h k.body)
has_one_fault_law input fault.Tag fault.Tag h k = refl
has_one_fault_law input fault.Tag fault.Varint h k = absurd (tag_varint input h k)
has_one_fault_law input fault.Tag fault.Extra h k = absurd (tag_extra input h k)
has_one_fault_law input fault.Varint fault.Truncated h k = absurd (h.not_cut k.value k.more k.body)
has_one_fault_law input fault.Varint fault.Tag h k = absurd (tag_varint input k h)
has_one_fault_law input fault.Varint fault.Varint h k = refl
has_one_fault_law input fault.Varint fault.Extra h k = absurd (h.not_body k.front k.value k.more k.body k.begins)
has_one_fault_law input fault.Extra fault.Truncated h k = absurd (cut_extra input k h)
has_one_fault_law input fault.Extra fault.Tag h k = absurd (tag_extra input k h)
has_one_fault_law input fault.Extra fault.Varint h k = absurd (k.not_body h.front h.value h.more h.body h.begins)
has_one_fault_law input fault.Extra fault.Extra h k = refl

pub body_has_no_fault_law : BodyHasNoFault
body_has_no_fault_law input value fault.Truncated h k =
    let none = bodies_differ_law value.now k.value k.more h.small k.body.small (ap (λ v. v ++ k.more) (sym h.body) ∙ k.body.body) in
    omega (arith, k.some, ap length none.0)
body_has_no_fault_law input value fault.Tag h k =
    other_tag input value.now [] k (subst (λ v. IsBody v value.now) (sym (append-nil input)) h)
body_has_no_fault_law input value fault.Varint h k = k.not_cut value.now [] (subst (λ v. IsBody v value.now) (sym (append-nil input)) h)
body_has_no_fault_law input value fault.Extra h k =
    let none = bodies_differ_law k.value value.now k.more k.body.small h.small
    (ap (λ v. v ++ k.more) (sym k.body.body) ∙ sym k.begins ∙ h.body) in omega (arith, k.some, ap length none.0)
