use Rattle.std.proofs.Common.{List, ℕ, ◌∷◌, subst, sym, arith}
use Rattle.peer_reply.specs.Lengths.{IsCutLength}
use Rattle.peer_reply.proofs.VarintLemmas.{nothing, cut_two}
use Rattle.peer_reply.proofs.response.read_third.Goals as goal

pub returns-in-empty : goal.returns-in-empty
returns-in-empty c =
    let P : List ℕ → Type 0 = λ v. IsCutLength (c.args.low ∷ c.args.middle ∷ v) in
    subst P (sym (nothing c.args.bytes.now c.in-empty.len_below))
    (cut_two c.args.low c.args.middle c.requires.low (omega arith) c.requires.middle (omega arith))
