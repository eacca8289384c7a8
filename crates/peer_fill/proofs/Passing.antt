-- What a pass has once it has pushed or popped a job.
use Rattle.std.proofs.Common.{◌≡◌, ℕ, ◌+◌, length, Option, None, Some, ap, sym, subst, arith}
use Rattle.std.proofs.lemmas.List.{length_push}
use Rattle.std.specs.Prelude.{MatchOption}
use Rattle.peer_fill.specs.declared.jobs.PassLog.{PassLog}
use Rattle.peer_fill.specs.Jobs.{ranked_at, left_count, Pushed, Popped, Rises}
use Rattle.peer_fill.proofs.Ordering.{pushed_rises}

-- it pushed a job, or got it back
abbrev PushedOrBack : PassLog → ℕ → PassLog → Option ℕ → Type 0
PushedOrBack v x w back = MatchOption back (Pushed v x w) (λ b. (b ≡ x) × (w ≡ v))

pub push_parts : (v w : PassLog) (x : ℕ) (back : Option ℕ) → PushedOrBack v x w back → w.parts ≡ v.parts
push_parts v w x None p = ap (λ (u : PassLog). u.parts) p.new
push_parts v w x (Some b) p = ap (λ (u : PassLog). u.parts) p.1

pub push_popped : (v w : PassLog) (x : ℕ) (back : Option ℕ) → PushedOrBack v x w back → w.popped ≡ v.popped
push_popped v w x None p = ap (λ (u : PassLog). u.popped) p.new
push_popped v w x (Some b) p = ap (λ (u : PassLog). u.popped) p.1

pub push_count : (v w : PassLog) (x : ℕ) (back : Option ℕ) → PushedOrBack v x w back → length w.pushed + left_count back ≡ length v.pushed + 1
push_count v w x None p =
    let one = ranked_at p.rank x in
    omega (arith, ap (λ (u : PassLog). length u.pushed) p.new, length_push v.pushed one)
push_count v w x (Some b) p = omega (arith, ap (λ (u : PassLog). length u.pushed) p.1)

pub push_rises : (v w : PassLog) (x : ℕ) (back : Option ℕ) → PushedOrBack v x w back → Rises v.pushed → Rises w.pushed
push_rises v w x None p up = pushed_rises v w x p up
push_rises v w x (Some b) p up = subst (λ (u : PassLog). Rises u.pushed) (sym p.1) up

pub pop_parts : (v w : PassLog) (x : ℕ) → Popped v x w → w.parts ≡ v.parts
pop_parts v w x p = ap (λ (u : PassLog). u.parts) p.new

pub pop_pushed : (v w : PassLog) (x : ℕ) → Popped v x w → w.pushed ≡ v.pushed
pop_pushed v w x p = ap (λ (u : PassLog). u.pushed) p.new

pub pop_count : (v w : PassLog) (x : ℕ) → Popped v x w → length w.popped ≡ length v.popped + 1
pop_count v w x p =
    let one = ranked_at p.rank x in
    omega (arith, ap (λ (u : PassLog). length u.popped) p.new, length_push v.popped one)
