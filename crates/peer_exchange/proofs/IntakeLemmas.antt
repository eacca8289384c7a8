-- Laws of what was judged of the bytes that came to a connection.
use Rattle.std.proofs.Common.{◌≡◌, ◌∙◌, Bool, ℕ, ◌+◌, ◌≤◌, true, false, List, [], ◌∷◌, ◌++◌, length, drop, inl, inr, refl, sym, subst, arith, rules, length-append, Option}
use Rattle.peer_head.specs.Blocks.{Begins, IsFrontLength, IsUnfinished}
use Rattle.peer_reply.specs.declared.wish.Wish.{Wish}
use Rattle.peer_wish.specs.Wishes.{closes_after, OpenWishes, ClosedWishes, AreFirst}
use Rattle.peer_wish.specs.Nexts.{IsNextWish}
use Rattle.peer_wish.proofs.WishLemmas.{next_block, Open-extend, Open-one, Open-append, Closed-one, Closed-append, next_closes, next_stays}
use Rattle.peer_exchange.specs.Intakes.{IsNewIntake, is_open, is_judging, is_given_up, told, giving, needing, AreOpen, AreJudged, Judged, JudgesOn, JudgesOne}
use Rattle.peer_exchange.specs.declared.intake.Intake.{Intake}
use Rattle.peer_exchange.specs.declared.intake.Stage.{Stage}
use Rattle.peer_exchange.specs.declared.intake.Stage.TheVariants as stage

-- what does not close after n others does not close
not_closing : (n : ℕ) (closing : Bool) → closes_after n closing ≡ false → closing ≡ false
not_closing n true e = e
not_closing n false e = refl

module _ (numbers : List ℕ → Option ℕ) where
  -- judged wishes are first wishes
  pub judged_first : (st : Stage) (came : List ℕ) (ws : List Wish) (count : ℕ) (held : List ℕ) → AreJudged numbers st came ws count held → AreFirst numbers 0 came ws
  judged_first stage.Open came ws count held h = inl (held, h.opens)
  judged_first stage.Told came ws count held h = inl (held, h.opens)
  judged_first stage.Ended came ws count held h = inl (held, h.opens)
  judged_first stage.Closed came ws count held h = inr h
  judged_first (stage.GivenUp why) came ws count held h = h

  -- where what is held is judged, no wish closes
  pub open_of : (st : Stage) (came : List ℕ) (ws : List Wish) (count : ℕ) (held : List ℕ) → is_judging st ≡ true → AreJudged numbers st came ws count held → AreOpen numbers came ws count held
  open_of stage.Open came ws count held e h = h
  open_of stage.Told came ws count held e h = h
  open_of _ came ws count held e h = cc

  pub of_open : (st : Stage) (came : List ℕ) (ws : List Wish) (count : ℕ) (held : List ℕ) → is_judging st ≡ true → AreOpen numbers came ws count held → AreJudged numbers st came ws count held
  of_open stage.Open came ws count held e h = h
  of_open stage.Told came ws count held e h = h
  of_open _ came ws count held e h = cc

  pub judging_of_open : (st : Stage) → is_open st ≡ true → is_judging st ≡ true
  judging_of_open stage.Open e = e
  judging_of_open _ e = cc

  -- an intake with the same bytes held is judged as far as its stage says
  pub judged_as : (a b : Intake) (st : Stage) (came : List ℕ) (ws : List Wish) → b.stage ≡ st → b.count ≡ a.count → b.held ≡ a.held → AreJudged numbers st came ws a.count a.held → Judged numbers came ws b
  judged_as a b st came ws stage_is count_is held_is h =
      let by_held = subst (λ v. AreJudged numbers st came ws a.count v) (sym held_is) h in
      let by_count = subst (λ v. AreJudged numbers st came ws v b.held) (sym count_is) by_held in
      record { judged = subst (λ v. AreJudged numbers v came ws b.count b.held) (sym stage_is) by_count }

  -- no byte came
  pub judged_new : (q : Intake) → IsNewIntake q → Judged numbers [] [] q
  judged_new q h =
      let none : AreOpen numbers [] [] q.count q.held = record { opens = record { asks = sym h.held; count = search rules }; counted = h.count } in
      record { judged = subst (λ v. AreJudged numbers v [] [] q.count q.held) (sym h.stage) none }

  -- the client told its end ..
  pub judged_told : (st : Stage) (came : List ℕ) (ws : List Wish) (count : ℕ) (held : List ℕ) → AreJudged numbers st came ws count held → AreJudged numbers (told st) came ws count held
  judged_told stage.Open came ws count held h = h
  judged_told stage.Told came ws count held h = h
  judged_told stage.Ended came ws count held h = h
  judged_told stage.Closed came ws count held h = h
  judged_told (stage.GivenUp why) came ws count held h = h

  -- .. and what is held is unfinished
  pub judged_needing : (st : Stage) (came : List ℕ) (ws : List Wish) (count : ℕ) (held : List ℕ) → IsUnfinished held → AreJudged numbers st came ws count held → AreJudged numbers (needing st) came ws count held
  judged_needing stage.Open came ws count held short h = h
  judged_needing stage.Told came ws count held short h = record { opens = h.opens; unfinished = short }
  judged_needing stage.Ended came ws count held short h = h
  judged_needing stage.Closed came ws count held short h = h
  judged_needing (stage.GivenUp why) came ws count held short h = h

  -- more bytes came
  pub more_open : (came more : List ℕ) (ws : List Wish) (count : ℕ) (held held' : List ℕ) → held' ≡ held ++ more → AreOpen numbers came ws count held → AreOpen numbers (came ++ more) ws count held'
  more_open came more ws count held held' e h =
      record { opens = subst (OpenWishes numbers 0 (came ++ more) ws) (sym e) (Open-extend numbers 0 came ws held more h.opens); counted = h.counted }

  pub judged_more : (st : Stage) (came more : List ℕ) (ws : List Wish) (count : ℕ) (held held' : List ℕ) → is_open st ≡ true → held' ≡ held ++ more → AreJudged numbers st came ws count held → AreJudged numbers st (came ++ more) ws count held'
  judged_more stage.Open came more ws count held held' opened e h = more_open came more ws count held held' e h
  judged_more _ came more ws count held held' opened e h = cc

  -- the front of what is held that the next wish takes
  pub next_front : (t : List ℕ) (n len : ℕ) (w : Wish) → IsNextWish numbers t w → closes_after n w.closing ≡ false → IsFrontLength t len → (len ≤ length t) × ((block : List ℕ) × Begins t block (drop len t))
  next_front t n len w next stays front =
      let has = next_block numbers n t w next stays in
      let at = front has.0 has.1.0 has.1.1 in
      let P : List ℕ → Type 0 = λ rest. Begins t has.0 rest in
      (at.0, (has.0, subst P at.1 has.1.1))

  -- a wish that does not close was given ..
  pub judges_open : (a b : Intake) (w : Wish) → is_judging a.stage ≡ true → IsNextWish numbers a.held w → closes_after a.count w.closing ≡ false → (block : List ℕ) × Begins a.held block b.held → b.stage ≡ a.stage → b.count ≡ a.count + 1 → JudgesOne numbers a b w
  judges_open a b w judging next stays begins same counted came ws h =
      let opens = open_of a.stage came ws a.count a.held judging h.judged in
      let asks = next_stays numbers a.count a.held w b.held next stays a.open begins in
      let one : AreOpen numbers came (ws ++ w ∷ []) b.count b.held = record {
        opens = Open-append numbers 0 a.count came a.held b.held ws (w ∷ []) opens.opens (omega (arith, opens.counted)) (Open-one numbers a.count a.held b.held w asks);
        counted = omega (arith, counted, opens.counted, length-append ws (w ∷ []));
      } in
      record { judged = of_open b.stage came (ws ++ w ∷ []) b.count b.held (subst (λ st. is_judging st ≡ true) (sym same) judging) one }

  -- .. or one that does
  pub judges_last : (a b : Intake) (w : Wish) → is_judging a.stage ≡ true → IsNextWish numbers a.held w → closes_after a.count w.closing ≡ true → b.stage ≡ stage.Closed → JudgesOne numbers a b (record w { closing = true })
  judges_last a b w judging next closes closed came ws h =
      let last : Wish = record w { closing = true } in
      let opens = open_of a.stage came ws a.count a.held judging h.judged in
      let all : ClosedWishes numbers 0 came (ws ++ last ∷ []) =
      Closed-append numbers 0 a.count came a.held ws (last ∷ []) opens.opens (omega (arith, opens.counted))
      (Closed-one numbers a.count a.held last a.open (next_closes numbers a.count a.held w next closes)) in
      record { judged = subst (λ st. AreJudged numbers st came (ws ++ last ∷ []) b.count b.held) (sym closed) all }

  -- a wish that was given closes ..
  pub judges_closing : (a b : Intake) (w : Wish) (closing : Bool) → is_judging a.stage ≡ true → IsNextWish numbers a.held w → closing ≡ closes_after a.count w.closing → closing ≡ true → b.stage ≡ stage.Closed → JudgesOne numbers a b (record w { closing = closing })
  judges_closing a b w closing judging next same closes closed =
      subst (λ v. JudgesOne numbers a b (record w { closing = v })) (sym closes) (judges_last a b w judging next (sym same ∙ closes) closed)

  -- .. or it does not
  pub judges_staying : (a b : Intake) (w : Wish) (closing : Bool) (len : ℕ) → is_judging a.stage ≡ true → IsNextWish numbers a.held w → IsFrontLength a.held len → closing ≡ closes_after a.count w.closing → closing ≡ false → b.held ≡ drop len a.held → b.stage ≡ a.stage → b.count ≡ a.count + 1 → JudgesOne numbers a b (record w { closing = closing })
  judges_staying a b w closing len judging next front same stays rest stage_is count_is =
      let stay = sym same ∙ stays in
      let P : List ℕ → Type 0 = λ u. (block : List ℕ) × Begins a.held block u in
      let behind : P b.held = subst P (sym rest) (next_front a.held a.count len w next stay front).1 in
      subst (λ v. JudgesOne numbers a b (record w { closing = v })) (not_closing a.count w.closing stay ∙ sym stays) (judges_open a b w judging next stay behind stage_is count_is)

-- a stage where what is held is unfinished is judged on only where more bytes may come, and was not given up
pub needing_open : (st : Stage) → is_judging (needing st) ≡ true → is_open (needing st) ≡ true
needing_open stage.Open e = refl
needing_open _ e = cc

pub needing_goes_on : (st : Stage) → is_given_up (needing st) ≡ is_given_up st
needing_goes_on stage.Open = refl
needing_goes_on stage.Told = refl
needing_goes_on stage.Ended = refl
needing_goes_on stage.Closed = refl
needing_goes_on (stage.GivenUp why) = refl

pub judging_goes_on : (st : Stage) → is_judging st ≡ true → is_given_up st ≡ false
judging_goes_on stage.Open e = refl
judging_goes_on stage.Told e = refl
judging_goes_on _ e = cc

-- what is judged behind a request that was given, or where what is held is unfinished ..
pub judges_on_giving : (closing : Bool) (st : Stage) → is_judging st ≡ true → JudgesOn st (giving closing st)
judges_on_giving true st judging = inr (inl (judging, refl))
judges_on_giving false st judging = inl refl

pub judges_on_needing : (st : Stage) → JudgesOn st (needing st)
judges_on_needing stage.Open = inl refl
judges_on_needing stage.Told = inr (inr (refl, refl))
judges_on_needing stage.Ended = inl refl
judges_on_needing stage.Closed = inl refl
judges_on_needing (stage.GivenUp why) = inl refl

-- .. and behind both: nothing more, once a request closed or all was judged
closed_stays : {a : Stage} → JudgesOn stage.Closed a → a ≡ stage.Closed
closed_stays (inl e) = e
closed_stays (inr (inl h)) = h.1
closed_stays (inr (inr h)) = cc

ended_stays : {a : Stage} → JudgesOn stage.Ended a → a ≡ stage.Ended
ended_stays (inl e) = e
ended_stays (inr (inl h)) = cc
ended_stays (inr (inr h)) = h.1

pub judges_on_then : {a b c : Stage} → JudgesOn a b → JudgesOn b c → JudgesOn a c
judges_on_then {c = c} (inl e) h = subst (λ st. JudgesOn st c) e h
judges_on_then {c = c} (inr (inl g)) h = inr (inl (g.0, closed_stays (subst (λ st. JudgesOn st c) g.1 h)))
judges_on_then {c = c} (inr (inr g)) h = inr (inr (g.0, ended_stays (subst (λ st. JudgesOn st c) g.1 h)))
