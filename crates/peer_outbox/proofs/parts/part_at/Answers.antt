use Rattle.std.proofs.Common.{◌≡◌, ℕ, zero, suc, ◌<◌, List, [], ◌∷◌, ◌++◌, length, take, drop, get_or, refl, sym, ◌∙◌, ap, arith, append_assoc, append-nil, add-one}
use Rattle.std.specs.Borrow.{Bor}
use Rattle.peer_reply.specs.Texts.{joined}
use Rattle.peer_outbox.proofs.parts.part_at.Goals as goal

-- the parts up to a place and the part there
joined_suc : (parts : List (Bor (List ℕ))) (i : ℕ) (other : Bor (List ℕ)) → i < length parts → joined (take i parts) ++ (get_or parts i other).now ≡ joined (take (suc i) parts)
joined_suc [] i other lt = absurd (omega (arith, lt))
joined_suc (p ∷ parts) zero other lt = sym (append-nil p.now)
joined_suc (p ∷ parts) (suc i) other lt = append_assoc p.now (joined (take i parts)) (get_or parts i other).now ∙ ap (λ v. p.now ++ v) (joined_suc parts i other (omega arith))

-- the parts up to a place, the part there, and those behind it
joined_cut : (parts : List (Bor (List ℕ))) (i : ℕ) (other : Bor (List ℕ)) → i < length parts → joined (take i parts) ++ ((get_or parts i other).now ++ joined (drop (suc i) parts)) ≡ joined parts
joined_cut [] i other lt = absurd (omega (arith, lt))
joined_cut (p ∷ parts) zero other lt = refl
joined_cut (p ∷ parts) (suc i) other lt = append_assoc p.now (joined (take i parts)) ((get_or parts i other).now ++ joined (drop (suc i) parts)) ∙ ap (λ v. p.now ++ v) (joined_cut parts i other (omega arith))

pub returns-clause-behind : goal.returns-clause-behind
returns-clause-behind c = rw (add-one c.args.i) (joined_suc c.args.parts.now c.args.i _ c.requires)

pub returns-clause-all : goal.returns-clause-all
returns-clause-all c = rw (add-one c.args.i) (joined_cut c.args.parts.now c.args.i _ c.requires)
