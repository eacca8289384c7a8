-- Laws of bytes that move.
use Rattle.std.proofs.Common.{◌≡◌, ℕ, ◌+◌, List, [], ◌++◌, take, drop, Option, sym, ◌∙◌, ap, subst, append_assoc}
use Rattle.std.proofs.Common.{append-nil, take-add, refl, Result, Ok, Err}
use Rattle.std.proofs.lemmas.List.{take-append-drop}
use Rattle.std.proofs.KnownBytes.{Appends-nil, Appends-trans}
use Rattle.std.specs.Io.KnownBytes.{Appends}
use Rattle.std.specs.Prelude.{OnOk, IfErr}
use Rattle.peer_view.specs.declared.writer.WriteFault.{WriteFault}
use Rattle.peer_view.specs.Moves.{Moves, Sends}

pub Appends-along : (a b : Option (List ℕ)) (xs ys : List ℕ) → xs ≡ ys → Appends a b xs → Appends a b ys
Appends-along a b xs ys e h = let P : List ℕ → Type 0 = λ v. Appends a b v in subst P e h

pub Appends-take-add : (a b c : Option (List ℕ)) (xs ys : List ℕ) (i n : ℕ) → ys ≡ drop i xs → Appends a b (take i xs)
    → Appends b c (take n ys) → Appends a c (take (i + n) xs)
Appends-take-add a b c xs ys i n e h k =
    Appends-along a c _ _ (ap (λ v. take i xs ++ take n v) e ∙ sym (take-add i n xs)) (Appends-trans a b c (take i xs) (take n ys) h k)

pub Moves-none : (a : Option (List ℕ)) (x : List ℕ) → Moves a a x x
Moves-none a x = ([], Appends-nil a, refl)

pub Moves-all : (a b : Option (List ℕ)) (x : List ℕ) → Appends a b x → Moves a b x []
Moves-all a b x h = (x, h, append-nil x)

pub Moves-front : (a b : Option (List ℕ)) (n : ℕ) (x : List ℕ) → Appends a b (take n x) → Moves a b x (drop n x)
Moves-front a b n x h = (take n x, h, take-append-drop n x)

pub Moves-along : (a b : Option (List ℕ)) (x x' y y' : List ℕ) → x ≡ x' → y ≡ y' → Moves a b x y → Moves a b x' y'
Moves-along a b x x' y y' e f h =
    (h.0, h.1, ap (λ v. h.0 ++ v) (sym f) ∙ h.2 ∙ e)

pub Moves-more : (a b : Option (List ℕ)) (x y z : List ℕ) → Moves a b x y → Moves a b (x ++ z) (y ++ z)
Moves-more a b x y z h = (h.0, h.1, sym (append_assoc h.0 y z) ∙ ap (λ v. v ++ z) h.2)

pub Moves-trans : (a b c : Option (List ℕ)) (x y z : List ℕ) → Moves a b x y → Moves b c y z → Moves a c x z
Moves-trans a b c x y z h k =
    (h.0 ++ k.0, Appends-trans a b c h.0 k.0 h.1 k.1, append_assoc h.0 k.0 z ∙ ap (λ v. h.0 ++ v) k.2 ∙ h.2)

-- a call that sends a part more, after one that went well
pub Sends-after : {E : Type 0} (r : Result Unit E) (f f1 f2 : ℕ) (a b c : Option (List ℕ)) (x y z : List ℕ) → Moves a b x y → f1 ≡ f
    → Sends r f1 f2 b c y z → Sends r f f2 a c x z
Sends-after (Ok done) f f1 f2 a b c x y z h e k = (Moves-trans a b c x y z h k.0, k.1 ∙ e)
Sends-after (Err fault) f f1 f2 a b c x y z h e k = ((k.0.0, Moves-trans a b c x y k.0.0 h k.0.1), k.1 ∙ ap (λ v. v + 1) e)

-- a call that fails, seen with more behind
pub fails-more : (f f' : ℕ) (a b : Option (List ℕ)) (x z : List ℕ) → ((q : List ℕ) × Moves a b x q) × (f' ≡ f + 1)
    → ((q : List ℕ) × Moves a b (x ++ z) q) × (f' ≡ f + 1)
fails-more f f' a b x z h = ((h.0.0 ++ z, Moves-more a b x h.0.0 z h.0.1), h.1)

-- a call of `write_all`, as what it sends
pub sends_all : (r : Result Unit WriteFault) (f f' : ℕ) (a b : Option (List ℕ)) (x y : List ℕ) → x ≡ y → OnOk r (Appends a b x)
    → OnOk r (f' ≡ f) → IfErr r (λ e. Appends a b (take e.written x)) → IfErr r (λ e. f' ≡ f + 1) → Sends r f f' a b y []
sends_all (Ok done) f f' a b x y same h e i j = (Moves-all a b y (Appends-along a b x y same h), e)
sends_all (Err fault) f f' a b x y same h e i j =
    ((drop fault.written y, Moves-along a b x y _ _ same (ap (drop fault.written) same) (Moves-front a b fault.written x i)), j)

-- two parts, one after the other
pub Sends-then : {E : Type 0} (r : Result Unit E) (f f1 f2 : ℕ) (a b c : Option (List ℕ)) (x p q w y z : List ℕ) → p ++ q ≡ w
    → Moves a b (x ++ p) y × (f1 ≡ f) → Sends r f1 f2 b c (y ++ q) z → Sends r f f2 a c (x ++ w) z
Sends-then r f f1 f2 a b c x p q w y z e h k =
    Sends-after r f f1 f2 a b c (x ++ w) (y ++ q) z
    (Moves-along a b _ _ _ _ (append_assoc x p q ∙ ap (λ v. x ++ v) e) refl (Moves-more a b (x ++ p) y q h.0)) h.1 k

pub fails-then : (f f' : ℕ) (a b : Option (List ℕ)) (x p q w : List ℕ) → p ++ q ≡ w → ((r : List ℕ) × Moves a b (x ++ p) r) × (f' ≡ f + 1)
    → ((r : List ℕ) × Moves a b (x ++ w) r) × (f' ≡ f + 1)
fails-then f f' a b x p q w e h =
    ((h.0.0 ++ q, Moves-along a b _ _ _ _ (append_assoc x p q ∙ ap (λ v. x ++ v) e) refl (Moves-more a b (x ++ p) h.0.0 q h.0.1)), h.1)
