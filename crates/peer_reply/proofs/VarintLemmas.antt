-- Laws of varints and of the bodies that they begin.
use Rattle.std.proofs.Common.{◌≡◌, ℕ, zero, ◌+◌, ◌-◌, ◌*◌, ◌/◌, ◌%◌, ◌<◌, ◌≤◌, true, false, cond, List, [], ◌∷◌, ◌++◌, length, ◌⊎◌, inl}
use Rattle.std.proofs.Common.{inr, refl, sym, ◌∙◌, ap, subst, arith, append_assoc, append-nil, length-append, take, drop, replicate}
use Rattle.std.proofs.lemmas.List.{length-replicate, length-drop, length-take-le, take-append-drop}
use Rattle.std.specs.Prelude.{nat_lt}
use Rattle.std.proofs.lemmas.Bool.{cases_lt}
use Rattle.peer_view.specs.Sinks.{MAX_VALUE}
use Rattle.peer_reply.specs.Bodies.{varint, body_of}
use Rattle.peer_reply.specs.Lengths.{IsCutLength, HasNoLength, BeginsWithLength, HoldsExactly, ReadsLength}
use Rattle.peer_reply.specs.Responses.{IsBody, IsCutShort, HasBadLength, GoesOn, ReadsAs}
use Rattle.peer_reply.specs.declared.response.PbFault.{PbFault}
use Rattle.peer_reply.specs.declared.response.PbFault.TheVariants as fault
use Rattle.std.specs.Borrow.{Bor}
use Rattle.std.specs.Prelude.{Result, Ok, Err}

below : (a b : ℕ) → a < b → nat_lt a b ≡ true
below a b h = grind (arith, h)

at_least : (a b : ℕ) → b ≤ a → nat_lt a b ≡ false
at_least a b h = grind (arith, h)

-- the varint of a length below 128 ..
pub varint_one : (n : ℕ) → n < 128 → varint n ≡ n ∷ []
varint_one n h =
    ap (λ b. cond b (n ∷ []) (cond (nat_lt n 16384) ((128 + n % 128) ∷ (n / 128) ∷ [])
    ((128 + n % 128) ∷ (128 + (n / 128) % 128) ∷ (n / 16384) ∷ []))) (below n 128 h)

-- .. of one below 16,384 ..
pub varint_two : (n : ℕ) → 128 ≤ n → n < 16384 → varint n ≡ (128 + n % 128) ∷ (n / 128) ∷ []
varint_two n low high =
    ap (λ b. cond b (n ∷ []) (cond (nat_lt n 16384) ((128 + n % 128) ∷ (n / 128) ∷ [])
    ((128 + n % 128) ∷ (128 + (n / 128) % 128) ∷ (n / 16384) ∷ []))) (at_least n 128 low)
    ∙ ap (λ b. cond b ((128 + n % 128) ∷ (n / 128) ∷ []) ((128 + n % 128) ∷ (128 + (n / 128) % 128) ∷ (n / 16384) ∷ []))
    (below n 16384 high)

-- .. and of any other
pub varint_three : (n : ℕ) → 16384 ≤ n → varint n ≡ (128 + n % 128) ∷ (128 + (n / 128) % 128) ∷ (n / 16384) ∷ []
varint_three n low =
    ap (λ b. cond b (n ∷ []) (cond (nat_lt n 16384) ((128 + n % 128) ∷ (n / 128) ∷ [])
    ((128 + n % 128) ∷ (128 + (n / 128) % 128) ∷ (n / 16384) ∷ []))) (at_least n 128 (omega arith))
    ∙ ap (λ b. cond b ((128 + n % 128) ∷ (n / 128) ∷ []) ((128 + n % 128) ∷ (128 + (n / 128) % 128) ∷ (n / 16384) ∷ []))
    (at_least n 16384 low)

pub two_of : (a b : ℕ) → 128 ≤ a → a < 256 → 0 < b → b < 128 → varint ((a - 128) + 128 * b) ≡ a ∷ b ∷ []
two_of a b a_low a_high b_low b_high =
    let n = (a - 128) + 128 * b in
    let first : 128 + n % 128 ≡ a = omega arith in
    let second : n / 128 ≡ b = omega arith in
    varint_two n (omega arith) (omega arith) ∙ ap (λ x. x ∷ (n / 128) ∷ []) first ∙ ap (λ y. a ∷ y ∷ []) second

pub three_of : (a b c : ℕ) → 128 ≤ a → a < 256 → 128 ≤ b → b < 256 → 0 < c
    → varint ((a - 128) + 128 * (b - 128) + 16384 * c) ≡ a ∷ b ∷ c ∷ []
three_of a b c a_low a_high b_low b_high c_low =
    let n = (a - 128) + 128 * (b - 128) + 16384 * c in
    let first : 128 + n % 128 ≡ a = omega arith in
    let half : n / 128 ≡ (b - 128) + 128 * c = omega arith in
    let second : 128 + (n / 128) % 128 ≡ b = omega arith in
    let third : n / 16384 ≡ c = omega arith in
    varint_three n (omega arith) ∙ ap (λ x. x ∷ (128 + (n / 128) % 128) ∷ (n / 16384) ∷ []) first
    ∙ ap (λ y. a ∷ y ∷ (n / 16384) ∷ []) second ∙ ap (λ z. a ∷ b ∷ z ∷ []) third

-- the bytes of a varint
pub data HasForm (n : ℕ) : Type 0 where
  one : n < 128 → varint n ≡ n ∷ [] → HasForm n
  two : (a b : ℕ) → 128 ≤ a → 0 < b → b < 128 → n ≡ (a - 128) + 128 * b → varint n ≡ a ∷ b ∷ [] → HasForm n
  three : (a b c : ℕ) → 128 ≤ a → 128 ≤ b → 0 < c → c < 128 → n ≡ (a - 128) + 128 * (b - 128) + 16384 * c → varint n ≡ a ∷ b ∷ c ∷ []
      → HasForm n

pub form_of : (n : ℕ) → n ≤ MAX_VALUE → HasForm n
form_of n small =
    elim (cases_lt n 128) as (λ _. HasForm n) [
      | inl lt ↦ one lt (varint_one n lt)
      | inr ge ↦ elim (cases_lt n 16384) as (λ _. HasForm n) [
        | inl lt ↦ two (128 + n % 128) (n / 128) (omega arith) (omega arith) (omega arith) (omega arith) (varint_two n ge lt)
        | inr more ↦
            let split : n / 128 ≡ 128 * (n / 16384) + (n / 128) % 128 = omega arith in
            three (128 + n % 128) (128 + (n / 128) % 128) (n / 16384) (omega arith) (omega arith) (omega arith) (omega arith) (omega arith)
            (varint_three n more)
      ]
    ]

-- bytes that agree with a varint in two places
pub not_second : (n a : ℕ) (rest more behind : List ℕ) → n ≤ MAX_VALUE → 128 ≤ a → (a ∷ zero ∷ rest) ++ more ≡ varint n ++ behind → ⊥
not_second n a rest more behind small high e = by_form (form_of n small)
  where
    by_form : HasForm n → ⊥
    by_form (one lt is) = let same : a ∷ (zero ∷ (rest ++ more)) ≡ n ∷ behind = e ∙ ap (λ v. v ++ behind) is in let f : a ≡ n = cc in
        omega arith
    by_form (two x y x_low y_low y_high value is) = let same : a ∷ (zero ∷ (rest ++ more)) ≡ x ∷ (y ∷ behind) =
        e ∙ ap (λ v. v ++ behind) is in let f : zero ≡ y = cc in omega arith
    by_form (three x y z x_low y_low z_low z_high value is) = let same : a ∷ (zero ∷ (rest ++ more)) ≡ x ∷ (y ∷ (z ∷ behind)) =
        e ∙ ap (λ v. v ++ behind) is in let f : zero ≡ y = cc in omega arith

pub not_third : (n a b c : ℕ) (rest more behind : List ℕ) → n ≤ MAX_VALUE → 128 ≤ a → 128 ≤ b
    → (c ≡ zero) ⊎ ((128 ≤ c) ⊎ (MAX_VALUE < (a - 128) + 128 * (b - 128) + 16384 * c)) → (a ∷ b ∷ c ∷ rest) ++ more ≡ varint n ++ behind → ⊥
not_third n a b c rest more behind small a_low b_low bad e = by_form (form_of n small)
  where
    by_form : HasForm n → ⊥
    by_form (one lt is) = let same : a ∷ (b ∷ (c ∷ (rest ++ more))) ≡ n ∷ behind = e ∙ ap (λ v. v ++ behind) is in let f : a ≡ n = cc in
        omega arith
    by_form (two x y x_low y_low y_high value is) = let same : a ∷ (b ∷ (c ∷ (rest ++ more))) ≡ x ∷ (y ∷ behind) =
        e ∙ ap (λ v. v ++ behind) is in let f : b ≡ y = cc in omega arith
    by_form (three x y z x_low y_low z_low z_high value is) =
        let same : a ∷ (b ∷ (c ∷ (rest ++ more))) ≡ x ∷ (y ∷ (z ∷ behind)) = e ∙ ap (λ v. v ++ behind) is in
        let f : a ≡ x = cc in
        let g : b ≡ y = cc in
        let h : c ≡ z = cc in
        elim bad as (λ _. ⊥) [
          | inl none ↦ omega arith
          | inr other ↦
              elim other as (λ _. ⊥) [ inl high ↦ omega arith | inr much ↦ omega arith ]
        ]

-- a list that has no element
pub nothing : (xs : List ℕ) → length xs < 1 → xs ≡ []
nothing [] h = refl
nothing (x ∷ xs) h = absurd (omega (arith, h))

-- a varint may go on with one byte more
pub cut_none : IsCutLength []
cut_none = record { value = 0; more = 0 ∷ []; some = omega arith; small = omega arith; whole = refl }

pub cut_one : (a : ℕ) → 128 ≤ a → a < 256 → IsCutLength (a ∷ [])
cut_one a low high =
    record {
      value = (a - 128) + 128 * 1;
      more = 1 ∷ [];
      some = omega arith;
      small = omega arith;
      whole =
          sym (two_of a 1 low high (omega arith) (omega arith));
    }

pub cut_two : (a b : ℕ) → 128 ≤ a → a < 256 → 128 ≤ b → b < 256 → IsCutLength (a ∷ b ∷ [])
cut_two a b a_low a_high b_low b_high =
    record {
      value = (a - 128) + 128 * (b - 128) + 16384 * 1;
      more = 1 ∷ [];
      some = omega arith;
      small = omega arith;
      whole =
          sym (three_of a b 1 a_low a_high b_low b_high (omega arith));
    }

-- a length that is cut short begins a body ..
pub cut_body : (bytes : List ℕ) → IsCutLength bytes → IsCutShort (10 ∷ bytes)
cut_body bytes h =
    let value = replicate h.value 120 in
    let size : length value ≡ h.value = length-replicate {A = ℕ} h.value 120 in
    record {
      value = value;
      more = h.more ++ value;
      some = omega (arith, h.some, length-append h.more value);
      body = record {
        small = omega (arith, size, h.small);
        body = ap (λ v. 10 ∷ v) (sym (append_assoc bytes h.more value) ∙ ap (λ v. v ++ value) (h.whole ∙ ap varint (sym size)));
      };
    }

-- .. and so does a value
pub cut_value : (bytes rest : List ℕ) (n : ℕ) → BeginsWithLength bytes n rest → length rest < n → IsCutShort (10 ∷ bytes)
cut_value bytes rest n h short =
    let more = replicate (n - length rest) 120 in
    let size : length (rest ++ more) ≡ n = omega (arith, length-append rest more, length-replicate {A = ℕ} (n - length rest) 120, short) in
    record {
      value = rest ++ more;
      more = more;
      some = omega (arith, length-replicate {A = ℕ} (n - length rest) 120, short);
      body = record {
        small = omega (arith, size, h.small);
        body = ap (λ v. 10 ∷ v) (ap (λ v. v ++ more) h.begins ∙ append_assoc (varint n) rest more
            ∙ ap (λ k. varint k ++ (rest ++ more)) (sym size));
      };
    }

-- a length that agrees with none begins no body
pub bad_length : (bytes : List ℕ) → HasNoLength bytes → HasBadLength (10 ∷ bytes)
bad_length bytes h = record {
  rest = bytes;
  begins = refl;
  not_cut = λ value more b. h (length value) more value b.small (ap (drop 1) b.body);
  not_body = λ front value more b e. h (length value) [] (value ++ more) b.small
      (append-nil bytes ∙ ap (drop 1) (e ∙ ap (λ v. v ++ more) b.body) ∙ append_assoc (varint (length value)) value more);
}

-- the value is all that follows
pub whole_body : (bytes rest : List ℕ) (n : ℕ) → BeginsWithLength bytes n rest → length rest ≡ n → IsBody (10 ∷ bytes) rest
whole_body bytes rest n h e =
    record { small = omega (arith, h.small, e); body = ap (λ v. 10 ∷ v) (h.begins ∙ ap (λ k. varint k ++ rest) (sym e)) }

-- more follows
pub more_than_body : (bytes rest : List ℕ) (n : ℕ) → BeginsWithLength bytes n rest → n < length rest → GoesOn (10 ∷ bytes)
more_than_body bytes rest n h lt =
    let value = take n rest in
    let size : length value ≡ n = length-take-le n rest (omega (arith, lt)) in
    record {
      value = value;
      front = body_of value;
      more = drop n rest;
      some = omega (arith, length-drop n rest, lt);
      body = record { small = omega (arith, size, h.small); body = refl };
      begins = ap (λ v. 10 ∷ v) (h.begins ∙ ap (λ k. varint k ++ rest) (sym size)
          ∙ ap (λ v. varint (length value) ++ v) (sym (take-append-drop n rest))
          ∙ sym (append_assoc (varint (length value)) value (drop n rest)));
    }

-- what follows a length is the value, fewer bytes or more
pub after_length : (bytes rest : List ℕ) (n : ℕ) (r : Result (Bor (List ℕ)) PbFault) → BeginsWithLength bytes n rest → HoldsExactly n rest r
    → ReadsAs (10 ∷ bytes) r
after_length bytes rest n (Ok value) h k = subst (IsBody (10 ∷ bytes)) (sym k.0) (whole_body bytes rest n h k.1)
after_length bytes rest n (Err fault.Truncated) h k = cut_value bytes rest n h k
after_length bytes rest n (Err fault.Tag) h k = absurd k
after_length bytes rest n (Err fault.Varint) h k = absurd k
after_length bytes rest n (Err fault.Extra) h k = more_than_body bytes rest n h k

-- where there is no length, the fault is that of the bytes behind the tag
pub without_length : (bytes : List ℕ) (f : PbFault) → ReadsLength bytes (Err f) → ReadsAs (10 ∷ bytes) (Err f)
without_length bytes fault.Truncated h = cut_body bytes h
without_length bytes fault.Tag h = absurd h
without_length bytes fault.Varint h = bad_length bytes h
without_length bytes fault.Extra h = absurd h

-- nothing begins the body of nothing
pub cut_nothing : IsCutShort []
cut_nothing = record { value = []; more = 10 ∷ 0 ∷ []; some = omega arith; body = record { small = omega arith; body = refl } }
