-- What the moving of held bytes to the front, and a loan of the part behind them, leave in a buffer.
use Rattle.std.proofs.Common.{ap, sym, ◌∙◌, ◌≡◌, ◌+◌, ◌-◌, ◌≤◌, ◌++◌, ℕ, List, take, drop, length, arith}
use Rattle.std.proofs.Common.{append_assoc, length-append, length-drop}
use Rattle.std.proofs.Math.Seq.{take-append-add, take-append_seam, drop-append_seam}
use Rattle.std.proofs.lemmas.List.{take-append-le, length-take-le, drop-take, drop-drop}
use Rattle.peer_head.specs.Lending.{fitted}

-- a list whose part from i on was lent
pub lent : (xs w z : List ℕ) (i n : ℕ) → i ≤ length xs → n ≡ length xs
    → take n ((take i xs ++ (w ++ drop (length w) (drop i xs))) ++ z) ≡ take i xs ++ fitted (drop i xs) w
lent xs w z i n h e =
    let y = w ++ drop (length w) (drop i xs) in
    let m = length (drop i xs) in
    let front : length (take i xs) ≡ i = length-take-le i xs h in
    let whole : n ≡ length (take i xs) + m = omega (arith, length-drop i xs, front, e, h) in
    let long : m ≤ length y = omega (arith, length-append w (drop (length w) (drop i xs)), length-drop (length w) (drop i xs)) in
    ap (λ v. take n v) (append_assoc (take i xs) y z)
    ∙ ap (λ k. take k (take i xs ++ (y ++ z))) whole
    ∙ take-append-add (take i xs) (y ++ z) m
    ∙ ap (λ v. take i xs ++ v) (take-append-le m y z long)

-- the front of a list of known length
pub front_part : (xs h f : List ℕ) (i : ℕ) → xs ≡ h ++ f → i ≡ length h → take i xs ≡ h
front_part xs h f i e n = ap (take i) e ∙ ap (λ k. take k (h ++ f)) n ∙ take-append_seam h f

-- what is behind it
pub back_part : (xs h f : List ℕ) (i : ℕ) → xs ≡ h ++ f → i ≡ length h → drop i xs ≡ f
back_part xs h f i e n = ap (drop i) e ∙ ap (λ k. drop k (h ++ f)) n ∙ drop-append_seam h f

-- how many bytes a piece has
pub piece_length : (xs : List ℕ) (s i : ℕ) → s + i ≤ length xs → i ≡ length (take i (drop s xs))
piece_length xs s i le = sym (length-take-le i (drop s xs) (omega (arith, length-drop s xs)))

-- a front of a piece is no longer than the piece
pub piece_within : (xs piece : List ℕ) (s i e : ℕ) → s + i ≤ length xs → take i (drop s xs) ≡ piece → e ≤ length piece → e ≤ i
piece_within xs piece s i e fits is le = omega (arith, piece_length xs s i fits, ap length is, le)

-- the parts of a buffer after the loan of what is behind its first i bytes
pub lent_parts : (xs ys h f w : List ℕ) (i : ℕ) → i ≡ length h → xs ≡ h ++ f → ys ≡ take i xs ++ fitted (drop i xs) w
    → (take (i - 0) ys ≡ h) × (drop (i - 0) ys ≡ fitted f w)
lent_parts xs ys h f w i n e same =
    let whole : ys ≡ h ++ fitted f w =
    same ∙ ap (λ v. v ++ fitted (drop i xs) w) (front_part xs h f i e n) ∙ ap (λ v. h ++ fitted v w) (back_part xs h f i e n) in
    let less : i - 0 ≡ length h = omega (arith, n) in
    (front_part ys h (fitted f w) (i - 0) whole less, back_part ys h (fitted f w) (i - 0) whole less)

-- what is left of a piece without its first e bytes
pub piece_rest : (xs : List ℕ) (s i e n : ℕ) → e ≤ i → n ≡ i - e → drop e (take i (drop s xs)) ≡ take n (drop (s + e) xs)
piece_rest xs s i e n le less =
    let more : i ≡ e + n = omega (arith, le, less) in
    ap (λ k. drop e (take k (drop s xs))) more ∙ drop-take e n (drop s xs) ∙ ap (take n) (drop-drop e s xs)

-- a list as long as the free part fits as it is
pub fitted-same : (xs ws : List ℕ) → length ws ≡ length xs → fitted xs ws ≡ ws
fitted-same xs ws e =
    ap (λ k. take k (ws ++ drop (length ws) xs)) (sym e) ∙ take-append_seam ws (drop (length ws) xs)
