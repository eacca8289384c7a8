use Rattle.std.proofs.Common.{ap, sym, ◌∙◌, ◌≡◌, ◌+◌, ◌-◌, ◌≤◌, List, ℕ, length, take, drop, subst, arith}
use Rattle.peer_head.specs.Blocks.{Begins, HasBlock, IsFrontLength}
use Rattle.peer_head.proofs.BufferLemmas.{piece_rest, piece_within}
use Rattle.peer_head.proofs.buffer.HeadBuf.drop_front.Goals as goal

-- the first block and the pairs before it are within the piece that is held
front_within : (xs held : List ℕ) (s i n : ℕ) → s + i ≤ length xs → take i (drop s xs) ≡ held → HasBlock held → IsFrontLength held n → n ≤ i
front_within xs held s i n fits is has takes = piece_within xs held s i n fits is (takes has.0 has.1.0 has.1.1).0

pub overflow_add-self : goal.overflow_add-self
overflow_add-self c =
    omega (
      arith,
      front_within _ _ c.self.inside.start (c.self.inside.end - c.self.inside.start) c.args.len (omega (arith, c.self.invariant))
          (ap (λ v. v.held) c.self.view_is) c.requires.block c.requires.len,
      c.self.invariant,
    )

pub invariant_of-self : goal.invariant_of-self
invariant_of-self c = record {
  ordered = omega (
    arith,
    front_within _ _ c.self.inside.start (c.self.inside.end - c.self.inside.start) c.args.len
        (omega (arith, c.self.invariant)) (ap (λ v. v.held) c.self.view_is) c.requires.block c.requires.len,
    c.self.invariant,
  );
  within = c.self.invariant.within;
  room_is = c.self.invariant.room_is;
}

pub returns-clause-rest : goal.returns-clause-rest
returns-clause-rest c =
    let xs = c.self.inside.bytes.items in
    let s = c.self.inside.start in
    let e = c.args.len in
    let i = c.self.inside.end - s in
    let n = c.self.inside.end - (s + e) in
    let block = c.requires.block.0 in
    let rest = c.requires.block.1.0 in
    let front = c.requires.len block rest c.requires.block.1.1 in
    let held : take i (drop s xs) ≡ c.args.self.now.held = ap (λ v. v.held) c.self.view_is in
    let within = piece_within xs c.args.self.now.held s i e (omega (arith, c.self.invariant)) held front.0 in
    let left : rest ≡ take n (drop (s + e) xs) = front.1 ∙ ap (drop e) (sym held) ∙ piece_rest xs s i e n within (omega arith) in
    (block, subst (λ (v : List ℕ). Begins c.args.self.now.held block v) left c.requires.block.1.1)
