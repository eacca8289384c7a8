-- How a connection ends, by what stopped its requests and how its responses stand.
use Rattle.std.proofs.Common.{◌≡◌, ◌∙◌, ℕ, ◌+◌, List, [], ◌++◌, inl, inr, sym, ap, subst, arith, append-nil, Option}
use Rattle.std.proofs.KnownBytes.{Appends-nil}
use Rattle.std.specs.Io.KnownBytes.{Appends}
use Rattle.peer_source.specs.Answers.{Answer}
use Rattle.peer_view.specs.declared.reader.PeerRead as Read
use Rattle.peer_view.specs.declared.writer.PeerWrite as Write
use Rattle.peer_reply.specs.declared.wish.Wish.{Wish}
use Rattle.peer_wish.specs.Wishes.{AreFirst}
use Rattle.peer_wish.specs.Replies.{AreReplies, AreFrontOfReplies}
use Rattle.peer_wish.specs.Tickets.{wishes_by, asks_in}
use Rattle.peer_wish.specs.declared.end.End.{End}
use Rattle.peer_wish.specs.declared.end.End.TheVariants as end
use Rattle.peer_wish.proofs.WishLemmas.{Open-none, first_of}
use Rattle.peer_conn.specs.Sending.{Sent, Broke, Answered}
use Rattle.peer_conn.specs.Stops.{StopsAs, IsRead}
use Rattle.peer_conn.specs.WriterStates.{RepliesFrom}
use Rattle.peer_conn.specs.Ends.{Reading, Writing, reading, writing, EndsAs, Serves}
use Rattle.peer_conn.specs.Connects.{end_for, AreAsked, Connects}
use Rattle.peer_conn.specs.LaneWishes.{wishes_taken, wishes_put}
use Rattle.peer_conn.specs.Sides.{ServesSides}
use Rattle.peer_conn.specs.ReaderSides.{TakesRequests}
use Rattle.peer_conn.specs.WriterSides.{AnswersTickets, AnswersLeft}
use Rattle.peer_conn.specs.declared.reader_side.ReaderSide.{ReaderSide}
use Rattle.peer_conn.specs.declared.writer_side.WriterSide.{WriterSide}
use Rattle.peer_conn.specs.declared.end.Served.{Served}
use Rattle.peer_source.specs.declared.source.Source as Source
use Rattle.std.specs.declared.sync.ledger.Ledger as Ledger
use Rattle.peer_fill.specs.declared.pool.Pool.{Pool}
use Rattle.peer_fill.specs.Seats.{asks_of}
use Rattle.peer_flight.specs.declared.table.AskFault.TheVariants as ask
use Rattle.peer_lane.specs.Lanes.{tickets_put, tickets_taken}
use Rattle.peer_conn.specs.Requests.{AreNewRequests, Stops}
use Rattle.peer_conn.specs.Responses.{AreNewResponses, IsFlushed, PutsReplies}
use Rattle.peer_conn.specs.Exchanges.{Exchanges}
use Rattle.peer_conn.specs.declared.requests.Requests.{Requests}
use Rattle.peer_conn.specs.declared.responses.Responses.{Responses}
use Rattle.peer_conn.specs.declared.end.ReaderStop.{ReaderStop}
use Rattle.peer_conn.specs.declared.end.ReaderStop.TheVariants as stop
use Rattle.peer_conn.specs.declared.end.WriterState.{WriterState}
use Rattle.peer_conn.specs.declared.end.WriterState.TheVariants as state
use Rattle.peer_conn.proofs.SendLemmas.{sending_by, sent_none, answered_none}
use Rattle.peer_conn.proofs.RequestLemmas.{firsts}
use Rattle.peer_conn.proofs.ResponseLemmas.{replies_on, replies_then, replies_flushed}

-- a writer, before and after
abbrev pub writing_by : Option (List ℕ) → Option (List ℕ) → ℕ → ℕ → Writing
writing_by a a' k k' = record { taken = a; taken' = a'; failures = k; failures' = k' }

module _ (answers : ℕ → List ℕ → Answer → Type 0) (f f' : ℕ) (b b' : Option (List ℕ)) where
  -- what went out, where nothing is buffered
  pub all_out : (ws : List Wish) (h : Answered answers (Sent (sending_by f f' b b' [] [])) ws) → AreReplies answers ws h.out.0.0
  all_out ws h = record { replies = h.replies; each = h.each; all = sym (append-nil h.out.0.0) ∙ h.out.0.2 }

  -- and what went out before a write failed
  pub front_out : (ws : List Wish) (h : Answered answers (Broke (sending_by f f' b b' [] [])) ws) → AreFrontOfReplies answers ws h.out.0.1.0
  front_out ws h = record { replies = h.replies; each = h.each; rest = h.out.0.0; front = h.out.0.1.2 }

module _ (numbers : List ℕ → Option ℕ) (answers : ℕ → List ℕ → Answer → Type 0) (reads : ℕ) (r : Reading) (f f' : ℕ) (b b' : Option (List ℕ)) (ws : List Wish) where
  -- what went out
  output_of : (st : WriterState) → RepliesFrom answers state.Active ws (sending_by f f' b b' [] []) st → (o : List ℕ) × Appends b b' o
  output_of state.Active k = (k.out.0.0, k.out.0.1)
  output_of state.Memory k = (k.fact.out.0.0, k.fact.out.0.1)
  output_of state.WriteFault k = (k.fact.out.0.1.0, k.fact.out.0.1.1)

  front_first : (t : List ℕ) (c : ReaderStop) (front left : List Wish) → front ++ left ≡ ws → StopsAs numbers 0 reads r t ws c → AreFirst numbers 0 t front
  front_first t c front left cut h = first_of numbers front left 0 t (subst (λ v. AreFirst numbers 0 t v) (sym cut) (firsts numbers 0 reads r t ws c h))

  ends : (t : List ℕ) (c : ReaderStop) (st : WriterState) → StopsAs numbers 0 reads r t ws c → (k : RepliesFrom answers state.Active ws (sending_by f f' b b' [] []) st) → EndsAs numbers answers reads r (writing_by b b' f f') t (output_of st k).0 (end_for st c)
  unfolding output_of
  ends t c state.WriteFault h k = record { wishes = k.front; replies = front_out answers f f' b b' k.front k.fact; first = front_first t c k.front k.left k.cut h; failed = omega (arith, k.fact.out.1) }
  ends t c state.Memory h k = record { answered = record { wishes = k.front; are = front_first t c k.front k.left k.cut h; replies = all_out answers f f' b b' k.front k.fact }; wrote = k.fact.out.1 }
  ends t stop.Closed state.Active h k = record { answered = record { wishes = ws; are = inl h; replies = all_out answers f f' b b' ws k }; wrote = k.out.1 }
  ends t stop.Ended state.Active h k = record { answered = record { wishes = ws; are = inr h; replies = all_out answers f f' b b' ws k }; wrote = k.out.1 }
  ends t (stop.Refused ask.Memory) state.Active h k = record { answered = record { wishes = ws; are = h; replies = all_out answers f f' b b' ws k }; wrote = k.out.1 }
  ends t _ state.Active h k = record { answered = record { wishes = ws; are = h; replies = all_out answers f f' b b' ws k }; wrote = k.out.1 }

  pub serves : (c : ReaderStop) (st : WriterState) → IsRead numbers reads r ws c → RepliesFrom answers state.Active ws (sending_by f f' b b' [] []) st → Serves numbers answers reads r (writing_by b b' f f') (end_for st c)
  serves c st h k = record { text = h.text; output = (output_of st k).0; gave = h.gave; took = (output_of st k).1; calls = h.calls; ends = ends h.text c st h.stops k }

  asks : (t : List ℕ) (c : ReaderStop) (st : WriterState) → StopsAs numbers 0 reads r t ws c → AreAsked numbers (end_for st c) t ws
  asks t stop.Closed state.Active h = inl h.0
  asks t stop.Ended state.Active h = inr (h.0.0, h.0.1)
  asks t stop.Cut state.Active h = inr (h.0.0, h.0.1)
  asks t stop.ReadFault state.Active h = inr (h.0, h.1)
  asks t stop.Spent state.Active h = inr (h.0, h.1)
  asks t (stop.Refused ask.Memory) state.Active h = h
  asks t c state.Active h = firsts numbers 0 reads r t ws c h
  asks t c state.Memory h = firsts numbers 0 reads r t ws c h
  asks t c state.WriteFault h = firsts numbers 0 reads r t ws c h

  pub connects : (a a' : ℕ) (c : ReaderStop) (st : WriterState) → a' ≡ a + asks_in ws → IsRead numbers reads r ws c → RepliesFrom answers state.Active ws (sending_by f f' b b' [] []) st → Connects numbers answers reads r (writing_by b b' f f') a a' (end_for st c)
  unfolding serves
  connects a a' c st counted h k = record { serves = serves c st h k; wishes = ws; asks = asks h.text c st h.stops; counted = counted }

-- what requests did that were new
pub read_whole : {R : Type 0} {G : Read.Ghosts R} (numbers : List ℕ → Option ℕ) (reads : ℕ) (r : R) (q q' : Requests R G) (ws : List Wish) (c : ReaderStop) → AreNewRequests r reads q → Stops numbers q q' ws c →
    IsRead numbers reads (reading G r q'.reader) ws c
read_whole {R} {G} numbers reads r q q' ws c n h =
    let P : R → ℕ → ℕ → List ℕ → Type 0 = λ x k m t. StopsAs numbers k m (reading G x q'.reader) (t ++ h.text) ws c in
    let e = ap G.calls n.reader in
    record {
      text = h.text;
      gave = subst (λ x. Appends (G.given x) (G.given q'.reader) h.text) n.reader h.gave;
      calls = omega (arith, e, n.left, h.calls);
      stops = subst (λ x. P x 0 reads []) n.reader (subst (λ k. P q.reader k reads []) n.count (subst (λ m. P q.reader q.count m []) n.left (subst (λ t. P q.reader q.count q.left t) n.held h.stops)));
    }

-- what responses did that were fresh, with nothing buffered at the end
pub written_whole : {W : Type 0} {G : Write.Ghosts W} (answers : ℕ → List ℕ → Answer → Type 0) (w : W) (p p' : Responses W G) (ws : List Wish) → AreNewResponses w p → p'.out.buffered.items ≡ [] → PutsReplies answers p p' ws →
    RepliesFrom answers state.Active ws (sending_by (G.failures w) (G.failures p'.out.writer) (G.taken w) (G.taken p'.out.writer) [] []) p'.state
written_whole {W} {G} answers w p p' ws n empty h =
    let P : W → List ℕ → List ℕ → WriterState → Type 0 = λ x y z st. RepliesFrom answers st ws (sending_by (G.failures x) (G.failures p'.out.writer) (G.taken x) (G.taken p'.out.writer) y z) p'.state in
    subst (λ x. P x [] [] state.Active) n.writer (subst (λ y. P p.out.writer y [] state.Active) n.empty (subst (λ z. P p.out.writer p.out.buffered.items z state.Active) empty (subst (λ st. P p.out.writer p.out.buffered.items p'.out.buffered.items st) n.fine h.step)))

-- a connection on one thread
pub serves_exchanges : {R W : Type 0} {G : Read.Ghosts R} {H : Write.Ghosts W} {numbers : List ℕ → Option ℕ} {answers : ℕ → List ℕ → Answer → Type 0} {reads : ℕ} {r : R} {w : W} {q q' : Requests R G} {p p1 p2 : Responses W H} {c : ReaderStop} {e : End} →
    AreNewRequests r reads q → AreNewResponses w p → Exchanges numbers answers q q' p p1 c → IsFlushed p1 p2 → p2.out.buffered.items ≡ [] → e ≡ end_for p2.state c →
    Serves numbers answers reads (reading G r q'.reader) (writing H w p2.out.writer) e
serves_exchanges {R} {W} {G} {H} {numbers} {answers} {reads} {r} {w} {q} {q'} {p} {p1} {p2} {c} {e} new fresh h flushed empty is =
    let r2 = reading G r q'.reader in
    let w2 = writing H w p2.out.writer in
    let all = replies_on h.replies (replies_flushed flushed) in
    subst (λ x. Serves numbers answers reads r2 w2 x) (sym is)
    (serves numbers answers reads r2 (H.failures w) (H.failures p2.out.writer) (H.taken w) (H.taken p2.out.writer) h.wishes c p2.state (read_whole numbers reads r q q' h.wishes c new h.stops) (written_whole answers w p p2 h.wishes fresh empty all))

-- the writer's part, in its thread and then with both ends at hand
pub answers_all : {S L R W : Type 0} {g : Source.Ghosts S} {h : Ledger.Ghosts L} {k : Read.Ghosts R} {m : Write.Ghosts W} {numbers : List ℕ → Option ℕ} {answers : ℕ → List ℕ → Answer → Type 0} {pool : Pool S L g h} {a b : ReaderSide S L R g k} {x y z : WriterSide S W g m} {c : ReaderStop} →
    (t : TakesRequests numbers pool a b c) → AnswersTickets answers x y → AnswersLeft answers b.lane y z → tickets_put a.lane ≡ [] → tickets_taken x.lane ≡ [] → PutsReplies answers x.responses z.responses t.wishes
answers_all {S} {L} {R} {W} {g} {h} {k} {m} {numbers} {answers} {pool} {a} {b} {x} {y} {z} {c} t w l none_put none_taken =
    let taken : wishes_taken y.lane ≡ w.wishes = w.taken ∙ ap (λ v. wishes_by v ++ w.wishes) none_taken in
    let put : wishes_put b.lane ≡ t.wishes = t.puts.put ∙ ap (λ v. wishes_by v ++ t.wishes) none_put in
    subst (λ v. PutsReplies answers x.responses z.responses v) (ap (λ v. v ++ l.wishes) (sym taken) ∙ l.all ∙ put) (replies_then w.replies l.replies)

-- a connection in threads
pub connects_sides : {S L R W : Type 0} {g : Source.Ghosts S} {k : Read.Ghosts R} {m : Write.Ghosts W} {numbers : List ℕ → Option ℕ} {answers : ℕ → List ℕ → Answer → Type 0} {q : ReaderSide S L R g k} {p : WriterSide S W g m} {served : Served R W} {asked reads : ℕ} {r : R} {w : W} →
    AreNewRequests r reads q.requests → AreNewResponses w p.responses → ServesSides numbers answers q p served asked →
    Connects numbers answers reads (reading k r served.reader) (writing m w served.writer) (asks_of q.seat).asked asked served.end
connects_sides {S} {L} {R} {W} {g} {k} {m} {numbers} {answers} {q} {p} {served} {asked} {reads} {r} {w} new fresh h =
    let P : R → W → End → Type 0 = λ x y e. Connects numbers answers reads (reading k r x) (writing m w y) (asks_of q.seat).asked asked e in
    let all = connects numbers answers reads (reading k r h.requests.reader) (m.failures w) (m.failures h.responses.out.writer) (m.taken w) (m.taken h.responses.out.writer) h.wishes (asks_of q.seat).asked asked h.stop h.responses.state h.counted
    (read_whole numbers reads r q.requests h.requests h.wishes h.stop new h.stops) (written_whole answers w p.responses h.responses h.wishes fresh h.empty h.replies) in
    subst (λ x. P x served.writer served.end) (sym h.gave) (subst (λ y. P h.requests.reader y served.end) (sym h.took) (subst (λ e. P h.requests.reader h.responses.out.writer e) (sym h.end) all))

-- where memory was refused before the first read
pub connects_refused : {R W : Type 0} (G : Read.Ghosts R) (H : Write.Ghosts W) {numbers : List ℕ → Option ℕ} {answers : ℕ → List ℕ → Answer → Type 0} {reads a : ℕ} {r r' : R} {w w' : W} {e : End} →
    r' ≡ r → w' ≡ w → e ≡ end.Memory → Connects numbers answers reads (reading G r r') (writing H w w') a a e
connects_refused {R} {W} G H {numbers} {answers} {reads} {a} {r} {r'} {w} {w'} {e} same_reader same_writer is =
    let Q : R → W → End → Type 0 = λ x y z. Connects numbers answers reads (reading G r x) (writing H w y) a a z in
    let nothing : IsRead numbers reads (reading G r r) [] (stop.Refused ask.Memory) =
    record { text = []; gave = Appends-nil (G.given r); calls = omega arith; stops = inl ([], Open-none numbers 0 [] (omega arith)) } in
    subst (λ x. Q x w' e) (sym same_reader) (subst (λ y. Q r y e) (sym same_writer) (subst (Q r w) (sym is)
    (connects numbers answers reads (reading G r r) (H.failures w) (H.failures w) (H.taken w) (H.taken w) [] a a (stop.Refused ask.Memory) state.Active (omega arith) nothing (answered_none answers (Sent (sending_by (H.failures w) (H.failures w) (H.taken w) (H.taken w) [] [])) (sent_none (H.failures w) (H.taken w) [])))))
