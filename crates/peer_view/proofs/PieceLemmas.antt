-- Laws of pieces that are given one after another.
use Rattle.std.proofs.Common.{◌≡◌, ◌≢◌, min, ℕ, zero, suc, ◌+◌, ◌<◌, ◌≤◌, List, [], ◌∷◌, ◌++◌, length, take, drop, get_or, Vec}
use Rattle.std.proofs.Common.{refl, sym, ◌∙◌, ap, arith, append_assoc, append-nil, take-add}
use Rattle.std.proofs.lemmas.List.{take_all, drop_all, drop-drop, length-drop}
use Rattle.std.proofs.lemmas.Grind.{common_steps}
use Rattle.std.specs.declared.alloc.Global.{Global}
use Rattle.peer_view.specs.Pieces.{given_of, left_of, piece_at, pieces_of, put_piece, after_read, first_piece}

-- at the beginning nothing was given ..
pub nothing_given : (ps : List (Vec ℕ Global)) → given_of ps 0 0 ≡ []
nothing_given [] = refl
nothing_given (p ∷ ps) = refl

-- .. and every piece is left
pub all_left : (ps : List (Vec ℕ Global)) → left_of ps 0 0 ≡ pieces_of ps
all_left [] = refl
all_left (p ∷ ps) = refl

-- behind the last piece nothing is left
pub none_left : (ps : List (Vec ℕ Global)) (i o : ℕ) → length ps ≤ i → left_of ps i o ≡ []
none_left [] i o le = refl
none_left (p ∷ ps) zero o le = absurd (omega (arith, le))
none_left (p ∷ ps) (suc i) o le = none_left ps i o (omega arith)

-- the element at an index, as the piece there
pub piece_get : (ps : List (Vec ℕ Global)) (i : ℕ) (p : Vec ℕ Global) → i < length ps → p ≡ get_or ps i p → p.items ≡ piece_at ps i
piece_get [] i p lt e = absurd (omega (arith, lt))
piece_get (q ∷ ps) zero p lt e = ap (λ v. v.items) e
piece_get (q ∷ ps) (suc i) p lt e = piece_get ps i p (omega arith) e

-- a used piece and the beginning of the next are one place, by what was given ..
pub used_up : (ps : List (Vec ℕ Global)) (i o : ℕ) → i < length ps → length (piece_at ps i) ≤ o → given_of ps (suc i) 0 ≡ given_of ps i o
used_up [] i o lt le = absurd (omega (arith, lt))
used_up (q ∷ ps) zero o lt le = ap (λ v. q.items ++ v) (nothing_given ps) ∙ append-nil q.items ∙ sym (take_all o q.items le)
used_up (q ∷ ps) (suc i) o lt le = ap (λ v. q.items ++ v) (used_up ps i o (omega arith) le)

-- .. and by what is left
pub used_up_left : (ps : List (Vec ℕ Global)) (i o : ℕ) → i < length ps → length (piece_at ps i) ≤ o → left_of ps (suc i) 0 ≡ left_of ps i o
used_up_left [] i o lt le = absurd (omega (arith, lt))
used_up_left (q ∷ ps) zero o lt le = all_left ps ∙ ap (λ v. put_piece v (pieces_of ps)) (sym (drop_all o q.items le))
used_up_left (q ∷ ps) (suc i) o lt le = used_up_left ps i o (omega arith) le

-- n bytes more of a piece were given ..
pub given_more : (ps : List (Vec ℕ Global)) (i o n : ℕ) → i < length ps
    → given_of ps i (o + n) ≡ given_of ps i o ++ take n (drop o (piece_at ps i))
given_more [] i o n lt = absurd (omega (arith, lt))
given_more (q ∷ ps) zero o n lt = take-add o n q.items
given_more (q ∷ ps) (suc i) o n lt =
    ap (λ v. q.items ++ v) (given_more ps i o n (omega arith))
    ∙ sym (append_assoc q.items (given_of ps i o) (take n (drop o (piece_at ps i))))

-- a piece that is not empty stands before the others
put_some : (xs : List ℕ) (ps : List (List ℕ)) → 0 < length xs → put_piece xs ps ≡ xs ∷ ps
put_some [] ps lt = absurd (omega (arith, lt))
put_some (b ∷ xs) ps lt = refl

-- the rest of a piece that was not given whole
pub some_left : (xs : List ℕ) (o : ℕ) → o < length xs → 0 < length (drop o xs)
some_left xs o lt = omega (arith, length-drop o xs, lt)

-- the place has the rest of a piece as its first piece
pub first_left : (ps : List (Vec ℕ Global)) (i o : ℕ) → i < length ps → o < length (piece_at ps i)
    → first_piece (left_of ps i o) ≡ drop o (piece_at ps i)
first_left [] i o lt le = absurd (omega (arith, lt))
first_left (p ∷ ps) zero o lt le = ap first_piece (put_some (drop o p.items) (pieces_of ps) (some_left p.items o le))
first_left (p ∷ ps) (suc i) o lt le = first_left ps i o (omega arith) le

-- .. and are not left
pub left_more : (ps : List (Vec ℕ Global)) (i o n : ℕ) → i < length ps → o < length (piece_at ps i)
    → left_of ps i (o + n) ≡ after_read n (left_of ps i o)
left_more [] i o n lt le = absurd (omega (arith, lt))
left_more (p ∷ ps) zero o n lt le =
    ap (λ v. put_piece v (pieces_of ps)) (sym (drop-drop n o p.items))
    ∙ ap (after_read n) (sym (put_some (drop o p.items) (pieces_of ps) (some_left p.items o le)))
left_more (p ∷ ps) (suc i) o n lt le = left_more ps i o n (omega arith) le

-- what a room for m bytes takes of a list, and what it leaves
pub take_room : (m : ℕ) (xs : List ℕ) → take (min m (length xs)) xs ≡ take m xs
take_room m xs = grind (arith, common_steps)

pub drop_room : (m : ℕ) (xs : List ℕ) → drop (min m (length xs)) xs ≡ drop m xs
drop_room m xs = grind (arith, common_steps)

-- where a piece is left there is something left
pub some_piece : (ps : List (List ℕ)) (xs : List ℕ) → first_piece ps ≡ xs → 0 < length xs → ps ≢ []
some_piece [] xs e lt h = absurd (omega (arith, ap length e, lt))
some_piece (p ∷ ps) xs e lt h = cc

-- a read into room for m bytes leaves what is behind them
pub give_left : (ps : List (Vec ℕ Global)) (i o m : ℕ) → i < length ps → o < length (piece_at ps i)
    → left_of ps i (o + min m (length (drop o (piece_at ps i)))) ≡ after_read m (left_of ps i o)
give_left [] i o m lt le = absurd (omega (arith, lt))
give_left (p ∷ ps) zero o m lt le =
    ap (λ v. put_piece v (pieces_of ps)) (sym (drop-drop (min m (length (drop o p.items))) o p.items) ∙ drop_room m (drop o p.items))
    ∙ ap (after_read m) (sym (put_some (drop o p.items) (pieces_of ps) (some_left p.items o le)))
give_left (p ∷ ps) (suc i) o m lt le = give_left ps i o m (omega arith) le
