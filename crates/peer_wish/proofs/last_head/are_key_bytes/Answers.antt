use Rattle.std.proofs.Common.{◌≡◌, ℕ, Bool, true, false, ◌&&◌, List, All, take_all, refl, subst, arith}
use Rattle.std.proofs.lemmas.Bool.{false≢true}
use Rattle.std.proofs.lemmas.List.Elements.{All-more}
use Rattle.peer_wish.specs.Lasts.{IsKeyByte}
use Rattle.peer_wish.proofs.last_head.are_key_bytes.Goals as goal

-- both of two tests
both : (a b : Bool) → (a && b) ≡ true → (a ≡ true) × (b ≡ true)
both true b e = (refl, e)
both false b e = absurd (false≢true e)

pub loop-b-preserved : goal.loop-b-preserved
loop-b-preserved c = λ e.
    let two = both c.loop-b.plain c.is_key_byte-plain.result e in
    All-more IsKeyByte c.args.bytes.now c.loop-b.b-index 0 (omega arith) (c.loop-b.invariant two.0) (c.is_key_byte-plain.ensures.0 two.1)

pub returns : goal.returns
returns c = λ e.
    subst (λ (v : List ℕ). All IsKeyByte v) (take_all c.loop-b.b-index c.args.bytes.now (omega arith)) (c.loop-b.invariant e)
