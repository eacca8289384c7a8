-- Laws of what a connection's requests did.
use Rattle.std.proofs.Common.{◌≡◌, ℕ, ◌+◌, true, false, List, [], ◌∷◌, ◌++◌, inl, inr, refl, sym, ◌∙◌, ap, subst, arith, append_assoc, append-nil, length-append, Option}
use Rattle.std.specs.Io.KnownBytes.{Appends}
use Rattle.std.proofs.KnownBytes.{Appends-nil, Appends-trans}
use Rattle.peer_head.specs.Blocks.{Begins}
use Rattle.peer_view.specs.declared.reader.PeerRead.{Ghosts}
use Rattle.peer_reply.specs.declared.wish.Wish.{Wish}
use Rattle.peer_wish.specs.Wishes.{closes_after, OpenWishes, ClosedWishes, AreFirst, AreAll}
use Rattle.peer_wish.specs.Nexts.{IsNextWish}
use Rattle.peer_wish.proofs.WishLemmas.{Open-none, Open-extend, Open-one, Open-append, Closed-one, Closed-append, First-append, next_closes, next_stays}
use Rattle.peer_conn.specs.Stops.{StopsAs}
use Rattle.peer_conn.specs.Ends.{Reading}
use Rattle.peer_conn.specs.Requests.{Receives, Stops, reading_of}
use Rattle.peer_conn.specs.declared.requests.Requests.{Requests}
use Rattle.peer_conn.specs.declared.end.ReaderStop.{ReaderStop}
use Rattle.peer_conn.specs.declared.end.ReaderStop.TheVariants as stop

-- what a reader gave before it stopped are first wishes
pub firsts : (numbers : List ℕ → Option ℕ) (n reads : ℕ) (r : Reading) (t : List ℕ) (ws : List Wish) (c : ReaderStop) → StopsAs numbers n reads r t ws c → AreFirst numbers n t ws
firsts numbers n reads r t ws stop.Closed h = inr h.0
firsts numbers n reads r t ws (stop.Refused fault) h = h
firsts numbers n reads r t ws stop.Stopped h = h
firsts numbers n reads r t ws stop.Ended h = inl (h.0.0, h.0.1.opens)
firsts numbers n reads r t ws stop.Cut h = inl (h.0.0, h.0.1.opens)
firsts numbers n reads r t ws _ h = inl (h.0, h.1.opens)

module _ {R : Type 0} {G : Ghosts R} (numbers : List ℕ → Option ℕ) (a b : Requests R G) where
  -- the next wish, where it does not close ..
  pub given_open : (w : Wish) → IsNextWish numbers a.held.held w → closes_after a.count w.closing ≡ false → (block : List ℕ) × Begins a.held.held block b.held.held → b.reader ≡ a.reader → b.left ≡ a.left → b.count ≡ a.count + 1 → Receives numbers a b (w ∷ [])
  given_open w next stays begins reader left count =
      let h = next_stays numbers a.count a.held.held w b.held.held next stays a.open begins in
      record {
        text = [];
        gave = subst (λ r. Appends (G.given a.reader) (G.given r) []) (sym reader) (Appends-nil (G.given a.reader));
        opens = subst (λ t. OpenWishes numbers a.count t (w ∷ []) b.held.held) (sym (append-nil a.held.held)) (Open-one numbers a.count a.held.held b.held.held w h);
        counted = count;
        calls = let e = ap G.calls reader in omega (arith, e, left);
        told = ap G.ends reader;
        failed = ap G.failures reader;
      }

  -- .. and where it does
  pub given_last : (w : Wish) → IsNextWish numbers a.held.held w → closes_after a.count w.closing ≡ true → b.reader ≡ a.reader → Stops numbers a b (record w { closing = true } ∷ []) stop.Closed
  given_last w next closes reader = record {
    text = [];
    gave = subst (λ r. Appends (G.given a.reader) (G.given r) []) (sym reader) (Appends-nil (G.given a.reader));
    calls = let e = ap G.calls reader in omega (arith, e);
    stops = (
      subst (λ t. ClosedWishes numbers a.count t (record w { closing = true } ∷ [])) (sym (append-nil a.held.held))
          (Closed-one numbers a.count a.held.held (record w { closing = true }) a.open (next_closes numbers a.count a.held.held w next closes)),
      ap G.failures reader,
    );
  }

module _ {R : Type 0} {G : Ghosts R} {numbers : List ℕ → Option ℕ} where
  -- nothing came yet
  pub receives_none : (a : Requests R G) → Receives numbers a a []
  receives_none a = record {
    text = [];
    gave = Appends-nil (G.given a.reader);
    opens = subst (λ t. OpenWishes numbers a.count t [] a.held.held) (sym (append-nil a.held.held)) (Open-none numbers a.count a.held.held a.open);
    counted = omega arith;
    calls = refl;
    told = refl;
    failed = refl;
  }

  module _ {a b : Requests R G} {ws : List Wish} (h : Receives numbers a b ws) where
    -- what was held at first, and both texts
    longer : (more : List ℕ) → OpenWishes numbers a.count (a.held.held ++ (h.text ++ more)) ws (b.held.held ++ more)
    longer more = subst (λ t. OpenWishes numbers a.count t ws (b.held.held ++ more)) (append_assoc a.held.held h.text more) (Open-extend numbers a.count (a.held.held ++ h.text) ws b.held.held more h.opens)

    all_then : (vs : List Wish) (more rest : List ℕ) → AreAll numbers b.count (b.held.held ++ more) vs rest → AreAll numbers a.count (a.held.held ++ (h.text ++ more)) (ws ++ vs) rest
    all_then vs more rest k = record {
      opens = Open-append numbers a.count b.count (a.held.held ++ (h.text ++ more)) (b.held.held ++ more) rest ws vs (longer more) h.counted k.opens;
      unfinished = k.unfinished;
    }

    ended : (c : Requests R G) (vs : List Wish) (more : List ℕ) (stop : ReaderStop) → StopsAs numbers b.count b.left (reading_of b c) (b.held.held ++ more) vs stop → StopsAs numbers a.count a.left (reading_of a c) (a.held.held ++ (h.text ++ more)) (ws ++ vs) stop
    ended c vs more stop.Closed k = (Closed-append numbers a.count b.count (a.held.held ++ (h.text ++ more)) (b.held.held ++ more) ws vs (longer more) h.counted k.0, k.1 ∙ h.failed)
    ended c vs more stop.Ended k = ((k.0.0, all_then vs more k.0.0 k.0.1, k.0.2), omega (arith, h.told, k.1), k.2 ∙ h.failed)
    ended c vs more stop.Cut k = ((k.0.0, all_then vs more k.0.0 k.0.1, k.0.2), omega (arith, h.told, k.1), k.2 ∙ h.failed)
    ended c vs more stop.ReadFault k = (k.0, all_then vs more k.0 k.1, omega (arith, h.failed, k.2))
    ended c vs more stop.Spent k = (k.0, all_then vs more k.0 k.1, omega (arith, h.calls, k.2), k.3 ∙ h.told, k.4 ∙ h.failed)
    ended c vs more _ k = First-append numbers a.count b.count (a.held.held ++ (h.text ++ more)) (b.held.held ++ more) ws vs (longer more) h.counted k

    -- two spans are one ..
    pub receives_then : {c : Requests R G} {vs : List Wish} → Receives numbers b c vs → Receives numbers a c (ws ++ vs)
    receives_then {c} {vs} k = record {
      text = h.text ++ k.text;
      gave = Appends-trans (G.given a.reader) (G.given b.reader) (G.given c.reader) h.text k.text h.gave k.gave;
      opens = Open-append numbers a.count b.count (a.held.held ++ (h.text ++ k.text)) (b.held.held ++ k.text) c.held.held ws vs (longer k.text) h.counted k.opens;
      counted = omega (arith, h.counted, k.counted, length-append ws vs);
      calls = omega (arith, h.calls, k.calls);
      told = k.told ∙ h.told;
      failed = k.failed ∙ h.failed;
    }

    -- .. and the last of them stops
    pub stops_then : {c : Requests R G} {vs : List Wish} {stop : ReaderStop} → Stops numbers b c vs stop → Stops numbers a c (ws ++ vs) stop
    stops_then {c} {vs} {stop} k = record {
      text = h.text ++ k.text;
      gave = Appends-trans (G.given a.reader) (G.given b.reader) (G.given c.reader) h.text k.text h.gave k.gave;
      calls = omega (arith, h.calls, k.calls);
      stops = ended c vs k.text stop k.stops;
    }

  -- no wish more
  pub receives_on : {a b c : Requests R G} {ws : List Wish} → Receives numbers a b ws → Receives numbers b c [] → Receives numbers a c ws
  receives_on {a} {b} {c} {ws} h k = subst (Receives numbers a c) (append-nil ws) (receives_then h k)

  pub stops_on : {a b c : Requests R G} {ws : List Wish} {x : ReaderStop} → Receives numbers a b ws → Stops numbers b c [] x → Stops numbers a c ws x
  stops_on {a} {b} {c} {ws} {x} h k = subst (λ v. Stops numbers a c v x) (append-nil ws) (stops_then h k)

  -- what came so far, where the rest is given up
  pub halts : {a b : Requests R G} {ws : List Wish} → Receives numbers a b ws → Stops numbers a b ws stop.Stopped
  halts {a} {b} {ws} h = record { text = h.text; gave = h.gave; calls = omega (arith, h.calls); stops = inl (b.held.held, h.opens) }

  pub receives_same : {a b b' : Requests R G} {ws : List Wish} → b' ≡ b → Receives numbers a b ws → Receives numbers a b' ws
  receives_same {a} {b} {b'} {ws} e h = subst (λ q. Receives numbers a q ws) (sym e) h

  pub stops_same : {a b b' : Requests R G} {ws : List Wish} {c : ReaderStop} → b' ≡ b → Stops numbers a b ws c → Stops numbers a b' ws c
  stops_same {a} {b} {b'} {ws} {c} e h = subst (λ q. Stops numbers a q ws c) (sym e) h
