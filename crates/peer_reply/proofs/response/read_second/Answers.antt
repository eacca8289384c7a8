use Rattle.std.proofs.lemmas.Grind.{common_steps}
use Rattle.std.proofs.Common.{◌∷◌, List, arith, subst, sym, ℕ}
use Rattle.peer_reply.specs.Lengths.{IsCutLength}
use Rattle.peer_reply.proofs.VarintLemmas.{nothing, cut_one}
use Rattle.peer_reply.proofs.response.read_second.Goals as goal

pub returns-in-empty : goal.returns-in-empty
returns-in-empty c =
    let P : List ℕ → Type 0 = λ v. IsCutLength (c.args.low ∷ v) in
    subst P (sym (nothing c.args.bytes.now c.in-empty.len_below)) (cut_one c.args.low c.requires (omega arith))

pub returns-then-middle-lt128 : goal.returns-then-middle-lt128
returns-then-middle-lt128 c = grind (arith, common_steps)
