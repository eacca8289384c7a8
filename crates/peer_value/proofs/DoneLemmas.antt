-- What a job that is done answers.
use Rattle.std.proofs.Common.{◌≡◌, ℕ, Bool, List, Option, Some, None, Result, Ok, Err, IfOk, IfErr, IfSome, IsSomeAnd, ◌++◌, ◌∙◌, false, inl, inr, refl, sym, subst, Vec}
use Rattle.std.specs.declared.alloc.Global.{Global}
use mathlib.Core.Logic.{∥∥₁_map}
use Rattle.std.proofs.lemmas.List.{take_all}
use Rattle.std.specs.Prelude.{cond}
use Rattle.peer_source.specs.Answers.{Answer, Found, Failed}
use Rattle.peer_http.specs.Replies.{IsReply}
use Rattle.peer_origin.specs.Fetched.{IfStatus, IsFetchedAnswer, IsStatusTold}
use Rattle.peer_origin.specs.Texts.{text_of}
use Rattle.peer_origin.specs.declared.fault.FetchFault.{FetchFault}
use Rattle.peer_origin.specs.declared.fault.FetchFault.TheVariants as fault
use Rattle.peer_value.specs.Values.{AnswersBy, IsCarried, IsToldBy, IsValueOf}
use Rattle.peer_value.specs.declared.fetching.Fetching.{Fetching}

-- an answer by which something is answered, if anything is
by_answer : (P : Answer → Type 0) (a : Answer) (o : Option Answer) → P a → AnswersBy a o → IfSome o P
by_answer P a o p = elim [ inl is ↦ subst (λ x. IfSome x P) (sym is) p | inr none ↦ subst (λ x. IfSome x P) (sym none) tt ]

untold : (ended : Bool) → ended ≡ false → ◌≡◌ {A = Option ℕ} (Some (cond ended 1 0)) (Some 0)
untold ended e = subst (λ b. ◌≡◌ {A = Option ℕ} (Some (cond b 1 0)) (Some 0)) (sym e) refl

module _ (carried : List ℕ → List ℕ → Bool → Type 0) where
  -- the value of a fetch was fetched by its request, on the connection that carried it
  fetched_by : (f : Fetching) (v : Vec ℕ Global) → IsCarried carried f → IsValueOf f v → IsFetchedAnswer carried f.request.items (Found v.items)
  fetched_by f v on h = (
    h.0,
    ∥∥₁_map h.1 (λ found. let by = found.1 in record {
      came = f.receiving.came.bytes;
      ended = f.ended;
      told = subst (λ xs. ∥ carried xs f.receiving.came.bytes f.ended ∥₁) by.sent on;
      reply = subst (λ xs. ∥ IsReply xs 200 v.items ∥₁) (sym by.came) by.reply;
      stands = λ e later. subst (λ xs. ∥ IsReply (xs ++ later) 200 v.items ∥₁) (sym by.came) (by.stands (untold f.ended e) later);
    }),
  )

  -- a status that is told of a fetch came on the connection that carried its request
  status_by : (request : List ℕ) (by : Option Fetching) (why : FetchFault) → IfSome by (λ f. f.request.items ≡ request) → ∥ IsToldBy by why ∥₁
      → IfStatus why (λ s. IsSomeAnd by (IsCarried carried)) → IfStatus why (λ s. ∥ IsStatusTold carried request s ∥₁)
  status_by request by fault.Unreached asked told on = tt
  status_by request by fault.Late asked told on = tt
  status_by request by fault.Lost asked told on = tt
  status_by request by fault.Malformed asked told on = tt
  status_by request None (fault.Status s) asked told on = absurd on
  status_by request (Some f) (fault.Status s) asked told on = ∥∥₁_map told (λ t. record {
    came = f.receiving.came.bytes;
    ended = f.ended;
    told = subst (λ xs. ∥ carried xs f.receiving.came.bytes f.ended ∥₁) (take_all f.sent f.request.items t.sent ∙ asked) on;
    head = t.head;
    other = t.other;
  })
  status_by request by fault.TooLong asked told on = tt
  status_by request by fault.Memory asked told on = tt

  pub settled : (request : List ℕ) (got : Result (Vec ℕ Global) FetchFault) (by : Option Fetching) (o : Option Answer) → IfSome by (λ f. f.request.items ≡ request)
      → IfOk got (λ v. IsSomeAnd by (λ f. IsValueOf f v)) → ∥ IfErr got (IsToldBy by) ∥₁
      → IfOk got (λ v. IsSomeAnd by (IsCarried carried)) → IfErr got (λ why. IfStatus why (λ s. IsSomeAnd by (IsCarried carried)))
      → IfOk got (λ v. AnswersBy (Found v.items) o) → IfErr got (λ why. AnswersBy (Failed (text_of why)) o)
      → IfSome o (IsFetchedAnswer carried request)
  settled request (Ok v) None o asked found told on status ok err = absurd found
  settled request (Ok v) (Some f) o asked found told on status ok err =
      by_answer (IsFetchedAnswer carried request) (Found v.items) o (subst (λ r. IsFetchedAnswer carried r (Found v.items)) asked (fetched_by f v on found)) ok
  settled request (Err why) by o asked found told on status ok err =
      by_answer (IsFetchedAnswer carried request) (Failed (text_of why)) o (why, refl, status_by request by why asked told status) err
