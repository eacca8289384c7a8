-- Laws of what a connection's responses did.
use Rattle.std.proofs.Common.{◌≡◌, ℕ, Bool, false, List, [], ◌∷◌, ◌++◌, refl, subst, append-nil, Option, Some, None, IfSome, option_map}
use Rattle.peer_source.specs.Answers.{Answer}
use Rattle.peer_source.specs.declared.group.GroupId.{GroupId}
use Rattle.peer_view.specs.declared.writer.PeerWrite.{Ghosts}
use Rattle.peer_reply.specs.Texts.{fault_reply, answer_reply}
use Rattle.peer_reply.specs.declared.fault.Fault.{Fault}
use Rattle.peer_reply.specs.declared.wish.Wish.{Wish}
use Rattle.peer_wish.specs.Wishes.{refusal, get_wish}
use Rattle.peer_wish.specs.Replies.{IsReply}
use Rattle.peer_conn.specs.Sending.{Sending, Sent, Broke}
use Rattle.peer_conn.specs.WriterStates.{PutsFrom, RepliesFrom, is_active}
use Rattle.peer_conn.specs.Responses.{sending_of, PutsReply, IsFlushed, PutsReplies}
use Rattle.peer_conn.specs.declared.responses.Responses.{Responses}
use Rattle.peer_conn.specs.declared.end.WriterState.{WriterState}
use Rattle.peer_conn.specs.declared.end.WriterState.TheVariants.{Active, Memory, WriteFault}
use Rattle.peer_conn.proofs.SendLemmas.{answered_none, answered_one, steps_none, steps_then, flush_steps}

-- an answer that is one of those allowed, as one of those that some source may give
pub some_allowed : (allowed : Answer → Type 0) (answer : Option Answer) → ∥ IfSome answer allowed ∥₁ → IfSome answer (λ a. ∥ allowed a ∥₁)
some_allowed allowed None h = tt
some_allowed allowed (Some answer) h = h

module _ (answers : ℕ → List ℕ → Answer → Type 0) (s : Sending) (w : Wish) where
  -- a reply of this text, as a step of the writer
  reply_steps : (r : List ℕ) (p q : WriterState) → IsReply answers w r → PutsFrom p (Some r) s q → RepliesFrom answers p (w ∷ []) s q
  reply_steps r Active Active reply h = answered_one answers (Sent s) w r reply h
  reply_steps r Active WriteFault reply h = record { front = w ∷ []; left = []; cut = refl; fact = answered_one answers (Broke s) w r reply h }
  reply_steps r Memory Memory reply h = h
  reply_steps r WriteFault WriteFault reply h = h
  reply_steps r _ _ reply h = absurd h

  -- no memory for a reply
  none_steps : (p q : WriterState) → PutsFrom p None s q → RepliesFrom answers p (w ∷ []) s q
  none_steps Active Memory h = record { front = []; left = w ∷ []; cut = refl; fact = answered_none answers (Sent s) h }
  none_steps Memory Memory h = h
  none_steps WriteFault WriteFault h = h
  none_steps _ _ h = absurd h

module _ {W : Type 0} {G : Ghosts W} {answers : ℕ → List ℕ → Answer → Type 0} where
  pub replies_none : (a : Responses W G) → PutsReplies answers a a []
  replies_none a = record { step = steps_none answers (G.failures a.out.writer) (G.taken a.out.writer) a.out.buffered.items a.state }

  -- where it does not stand fine, nothing is put
  pub replies_no_more : {a : Responses W G} (ws : List Wish) → is_active a.state ≡ false → PutsReplies answers a a ws
  replies_no_more {a} ws e = record { step = still a.state e }
    where
      still : (st : WriterState) → is_active st ≡ false → RepliesFrom answers st ws (sending_of a a) st
      still Active e = cc
      still Memory e = steps_none answers (G.failures a.out.writer) (G.taken a.out.writer) a.out.buffered.items Memory
      still WriteFault e = (refl, refl)

  module _ {a b : Responses W G} where
    pub replies_flushed : IsFlushed a b → PutsReplies answers a b []
    replies_flushed h = record { step = flush_steps answers (sending_of a b) a.state b.state h.flushes }

    pub replies_fault : (fault : Fault) (closing bare : Bool) → PutsReply a b (Some (fault_reply closing bare fault)) → PutsReplies answers a b (refusal fault closing bare ∷ [])
    replies_fault fault closing bare h =
        record { step = reply_steps answers (sending_of a b) (refusal fault closing bare) (fault_reply closing bare fault) a.state b.state refl h.puts }

    pub replies_fill : (group : GroupId) (key : List ℕ) (closing bare : Bool) (answer : Option Answer) → IfSome answer (answers group.number key) → PutsReply a b (option_map (answer_reply closing bare) answer) → PutsReplies answers a b (get_wish group key closing bare ∷ [])
    replies_fill group key closing bare None given h = record { step = none_steps answers (sending_of a b) (get_wish group key closing bare) a.state b.state h.puts }
    replies_fill group key closing bare (Some answer) given h =
        record { step = reply_steps answers (sending_of a b) (get_wish group key closing bare) (answer_reply closing bare answer) a.state b.state (answer, given, refl) h.puts }

  pub replies_then : {a b c : Responses W G} {ws vs : List Wish} → PutsReplies answers a b ws → PutsReplies answers b c vs → PutsReplies answers a c (ws ++ vs)
  replies_then {a} {b} {c} {ws} {vs} h k =
      record {
        step = steps_then answers (G.failures a.out.writer) (G.failures b.out.writer) (G.failures c.out.writer) (G.taken a.out.writer) (G.taken b.out.writer) (G.taken c.out.writer)
            a.out.buffered.items b.out.buffered.items c.out.buffered.items ws vs a.state b.state c.state h.step k.step;
      }

  -- no reply more
  pub replies_on : {a b c : Responses W G} {ws : List Wish} → PutsReplies answers a b ws → PutsReplies answers b c [] → PutsReplies answers a c ws
  replies_on {a} {b} {c} {ws} h k = subst (PutsReplies answers a c) (append-nil ws) (replies_then h k)
