use Rattle.std.proofs.Common.{◌≡◌, ◌≢◌, ℕ, List, [], ◌++◌, length, take, drop, sym, ◌∙◌, ap, arith, append-nil}
use Rattle.std.proofs.lemmas.List.{drop_all, length-drop}
use Rattle.std.proofs.lemmas.Grind.{common_steps}
use Rattle.peer_head.specs.Blocks.{pairs, pair, IsPastPairs}
use Rattle.peer_head.specs.Pairs.{ArePairs}
use Rattle.peer_head.proofs.BlockLemmas.{pairs_same}
use Rattle.peer_head.proofs.idle.are_pairs.Goals as goal

-- where the pairs before the first block are all, there is nothing else
only_pairs : (t : List ℕ) (at : ℕ) → IsPastPairs t at → at ≡ length t → ArePairs t
only_pairs t at h e =
    let nothing : drop at t ≡ [] = drop_all at t (omega arith) in
    (h.count, h.cut ∙ ap (λ v. pairs h.count ++ v) nothing ∙ append-nil (pairs h.count))

no_pair_in_nothing : take 2 [] ≢ pair
no_pair_in_nothing e = cc

-- where there is nothing else, they are all
all_past : (t : List ℕ) (at : ℕ) → IsPastPairs t at → ArePairs t → at ≡ length t
all_past t at h p =
    let same = pairs_same p.0 h.count [] (drop at t) no_pair_in_nothing h.no_pair (append-nil (pairs p.0) ∙ sym p.1 ∙ h.cut) in
    let rest : 0 ≡ length (drop at t) = ap length same.1 in
    omega (arith, length-drop at t, rest, h.within)

pub returns : goal.returns
returns c = (
  λ same. let e : c.skip_pairs.result ≡ length c.args.text.now = grind (arith, common_steps, same) in
      only_pairs c.args.text.now c.skip_pairs.result c.skip_pairs.ensures e,
  λ p. let e = all_past c.args.text.now c.skip_pairs.result c.skip_pairs.ensures p in grind (arith, common_steps, e),
)
