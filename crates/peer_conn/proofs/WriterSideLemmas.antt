-- Laws of what the writer's side of a connection did, and of the strangers that it counted.
use Rattle.std.proofs.Common.{◌≡◌, ◌∙◌, ℕ, ◌+◌, List, [], ◌∷◌, ◌++◌, length, refl, sym, ap, subst, arith, append-nil, append_assoc}
use Rattle.peer_source.specs.Answers.{Answer}
use Rattle.peer_source.specs.declared.source.Source as Source
use Rattle.peer_view.specs.declared.writer.PeerWrite as Write
use Rattle.peer_lane.specs.Lanes.{IsSameOut, tickets_taken, tickets_known}
use Rattle.peer_lane.specs.declared.lane_out.LaneOut.{LaneOut}
use Rattle.peer_wish.specs.declared.ticket.Ticket.{Ticket}
use Rattle.peer_reply.specs.declared.wish.Wish.{Wish}
use Rattle.peer_wish.specs.Tickets.{wish_by, wishes_by}
use Rattle.peer_wish.proofs.TicketLemmas.{wishes-append}
use Rattle.peer_wish.specs.Strangers.{flights_in_body}
use Rattle.peer_conn.specs.LaneWishes.{wishes_taken}
use Rattle.peer_conn.specs.Responses.{PutsReplies}
use Rattle.peer_conn.specs.Strangers.{Rises}
use Rattle.peer_conn.specs.WriterSides.{AnswersTickets}
use Rattle.peer_conn.specs.declared.writer_side.WriterSide.{WriterSide}
use Rattle.peer_conn.proofs.StrangerLemmas.{counts_same, counts_then, counts_one}
use Rattle.peer_conn.proofs.ResponseLemmas.{replies_none, replies_on, replies_then}

-- the end of a lane stays that end
same_out : {S : Type 0} {G : Source.Ghosts S} (a b c : LaneOut S G) → IsSameOut a b → IsSameOut b c → IsSameOut a c
same_out a b c h k = ((k.0.0 ∙ h.0.0, k.0.1 ∙ h.0.1, k.0.2 ∙ h.0.2, k.0.3 ∙ h.0.3), k.1 ∙ h.1)

module _ {S W : Type 0} {g : Source.Ghosts S} {k : Write.Ghosts W} {answers : ℕ → List ℕ → Answer → Type 0} where
  pub tickets_none : {a : WriterSide S W g k} → AnswersTickets answers a a
  tickets_none {a} = record {
    same = ((refl, refl, refl, refl), refl);
    wishes = [];
    taken = sym (append-nil (wishes_taken a.lane));
    replies = replies_none a.responses;
    strangers = counts_same refl refl;
  }

  -- no ticket more
  pub tickets_still : {a b c : WriterSide S W g k} → AnswersTickets answers a b → IsSameOut b.lane c.lane → tickets_taken c.lane ≡ tickets_taken b.lane → PutsReplies answers b.responses c.responses [] → c.strangers ≡ b.strangers → AnswersTickets answers a c
  tickets_still {a} {b} {c} h same kept replies strangers = record {
    same = same_out a.lane b.lane c.lane h.same same;
    wishes = h.wishes;
    taken = ap wishes_by kept ∙ h.taken;
    replies = replies_on h.replies replies;
    strangers = counts_then h.strangers (counts_same kept strangers);
  }

  -- one ticket more
  pub tickets_more : {a b d : WriterSide S W g k} (c : WriterSide S W g k) (t : Ticket S) → AnswersTickets answers a b → IsSameOut b.lane c.lane → tickets_taken c.lane ≡ tickets_taken b.lane ++ t ∷ [] → PutsReplies answers b.responses c.responses [] → c.strangers ≡ b.strangers →
      d.lane ≡ c.lane → PutsReplies answers c.responses d.responses (wish_by t ∷ []) → Rises (flights_in_body t.body) c.strangers d.strangers → AnswersTickets answers a d
  tickets_more {a} {b} {d} c t h same taken flushed strangers lane replies rises = record {
    same = subst (λ l. IsSameOut a.lane l) (sym lane) (same_out a.lane b.lane c.lane h.same same);
    wishes = h.wishes ++ wish_by t ∷ [];
    taken = ap wishes_taken lane ∙ ap wishes_by taken ∙ wishes-append (tickets_taken b.lane) (t ∷ []) ∙ ap (λ v. v ++ wish_by t ∷ []) h.taken ∙ append_assoc (wishes_taken a.lane) h.wishes (wish_by t ∷ []);
    replies = replies_then h.replies (replies_then flushed replies);
    strangers = counts_then h.strangers (counts_one t (ap tickets_taken lane ∙ taken) (subst (λ n. Rises (flights_in_body t.body) n d.strangers) strangers rises));
  }

-- a lane that was emptied
pub none_left : {T : Type 0} (xs left put : List T) (n m : ℕ) → length left + n ≡ m → n ≡ m → xs ++ left ≡ put → xs ≡ put
none_left xs [] put n m e f h = sym (append-nil xs) ∙ h
none_left xs (y ∷ left) put n m e f h = absurd (omega arith)

pub one_less : {T : Type 0} (xs xs' left left' put : List T) (x : T) → xs' ≡ xs ++ x ∷ [] → left ≡ x ∷ left' → xs ++ left ≡ put → xs' ++ left' ≡ put
one_less xs xs' left left' put x e f h = ap (λ v. v ++ left') e ∙ append_assoc xs (x ∷ []) left' ∙ ap (λ v. xs ++ v) (sym f) ∙ h

-- so many of the tickets that were put are left, and these wishes were taken from a lane
pub record Drains {S : Type 0} {g : Source.Ghosts S} (old new : LaneOut S g) (put : List (Ticket S)) (ws : List Wish) (done all : ℕ) : Type 0 where
  pub taken : wishes_taken new ≡ wishes_taken old ++ ws
  pub left : tickets_taken new ++ tickets_known new ≡ put
  pub count : length (tickets_known new) + done ≡ all

pub drains_more : {S : Type 0} {g : Source.Ghosts S} {a b d : LaneOut S g} {put : List (Ticket S)} {ws : List Wish} {done left : ℕ} (c : LaneOut S g) (t : Ticket S) → Drains a b put ws done left →
    tickets_taken c ≡ tickets_taken b ++ t ∷ [] → tickets_known b ≡ t ∷ tickets_known c → d ≡ c → Drains a d put (ws ++ wish_by t ∷ []) (done + 1) left
drains_more {S} {g} {a} {b} {d} {put} {ws} {done} {left} c t h taken known same =
    subst (λ l. Drains a l put (ws ++ wish_by t ∷ []) (done + 1) left) (sym same) (record {
      taken = ap wishes_by taken ∙ wishes-append (tickets_taken b) (t ∷ []) ∙ ap (λ v. v ++ wish_by t ∷ []) h.taken ∙ append_assoc (wishes_taken a) ws (wish_by t ∷ []);
      left = one_less (tickets_taken b) (tickets_taken c) (tickets_known b) (tickets_known c) put t taken known h.left;
      count = let n = ap length known in omega (arith, h.count);
    })
