-- How a connection's writer stands, and what leads from one state to another.
use Rattle.std.specs.Prelude.{◌≡◌, ℕ, Bool, true, false, List, [], ◌++◌, Option, Some, None}
use Rattle.peer_source.specs.Answers.{Answer}
use Rattle.peer_reply.specs.declared.wish.Wish.{Wish}
use Rattle.peer_conn.specs.Sending.{Sending, Sent, Broke, Answered}
use Rattle.peer_conn.specs.declared.end.WriterState.{WriterState}
use Rattle.peer_conn.specs.declared.end.WriterState.TheVariants as state

-- 1 where a call of the writer may fail yet
abbrev pub failures_left : WriterState → ℕ
failures_left state.Active = 1
failures_left state.Memory = 1
failures_left state.WriteFault = 0

abbrev pub is_active : WriterState → Bool
is_active state.Active = true
is_active _ = false

-- nothing was taken or failed
abbrev pub Still : Sending → Type 0
Still s = (s.taken' ≡ s.taken) × (s.failures' ≡ s.failures)

-- one reply of this text
abbrev pub PutsText : List ℕ → Sending → WriterState → Type 0
PutsText r s state.Active = Sent s r
PutsText r s state.Memory = ⊥
PutsText r s state.WriteFault = Broke s r

-- a reply of this text, none where there was no memory for it, which is put where all went well so far
abbrev pub PutsFrom : WriterState → Option (List ℕ) → Sending → WriterState → Type 0
PutsFrom state.Active (Some r) s q = PutsText r s q
PutsFrom state.Active None s state.Active = ⊥
PutsFrom state.Active None s state.Memory = Sent s []
PutsFrom state.Active None s state.WriteFault = ⊥
PutsFrom state.Memory r s state.Active = ⊥
PutsFrom state.Memory r s state.Memory = Sent s []
PutsFrom state.Memory r s state.WriteFault = ⊥
PutsFrom state.WriteFault r s state.Active = ⊥
PutsFrom state.WriteFault r s state.Memory = ⊥
PutsFrom state.WriteFault r s state.WriteFault = Still s

-- this is true of the first of the wishes
pub record IsOfFirst (Fact : List Wish → Type 0) (ws : List Wish) : Type 0 where
  pub front : List Wish
  pub left : List Wish
  pub cut : front ++ left ≡ ws
  pub fact : Fact front

-- from one state to another, with the tickets of these wishes taken
abbrev pub RepliesFrom : (ℕ → List ℕ → Answer → Type 0) → WriterState → List Wish → Sending → WriterState → Type 0
RepliesFrom answers state.Active ws s state.Active = Answered answers (Sent s) ws
RepliesFrom answers state.Active ws s state.Memory = IsOfFirst (Answered answers (Sent s)) ws
RepliesFrom answers state.Active ws s state.WriteFault = IsOfFirst (Answered answers (Broke s)) ws
RepliesFrom answers state.Memory ws s state.Active = ⊥
RepliesFrom answers state.Memory ws s state.Memory = Sent s []
RepliesFrom answers state.Memory ws s state.WriteFault = Broke s []
RepliesFrom answers state.WriteFault ws s state.Active = ⊥
RepliesFrom answers state.WriteFault ws s state.Memory = ⊥
RepliesFrom answers state.WriteFault ws s state.WriteFault = Still s

-- what a flush did
abbrev pub FlushesFrom : WriterState → Sending → WriterState → Type 0
FlushesFrom state.Active s state.Active = Sent s []
FlushesFrom state.Active s state.Memory = ⊥
FlushesFrom state.Active s state.WriteFault = Broke s []
FlushesFrom state.Memory s state.Active = ⊥
FlushesFrom state.Memory s state.Memory = Sent s []
FlushesFrom state.Memory s state.WriteFault = Broke s []
FlushesFrom state.WriteFault s state.Active = ⊥
FlushesFrom state.WriteFault s state.Memory = ⊥
FlushesFrom state.WriteFault s state.WriteFault = Still s
