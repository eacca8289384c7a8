use Rattle.std.proofs.Common.{◌≤◌, IsTrue, length, subst, sym}
use Rattle.peer_http.specs.Receivings.{MayAskAgain}
use Rattle.peer_http.specs.Replies.{IsReply}
use Rattle.peer_value.proofs.FetchingLemmas.{answers_at_end, status_of, told_of}
use Rattle.peer_value.proofs.fetching.Fetching.end.Goals as goal

pub returns-in-Ok-clause-answer : goal.returns-in-Ok-clause-answer
returns-in-Ok-clause-answer c =
    let f = c.args.self.now in
    let new = c.end.new.self in
    let r = c.in-Ok.reply in
    record {
      sent = c.requires.whole;
      keeps = λ keeps. (r, subst (λ t. MayAskAgain t new.client r) (sym c.in-Ok.ensures.came) (c.in-Ok.ensures.keeps (subst IsTrue c.answer_of.ensures.keeps keeps)));
      value = answers_at_end f.request.items f.sent new.came.bytes f.first r.status r.value.items
          c.requires.whole (subst (λ m. length r.value.items ≤ m) f.most c.in-Ok.ensures.within) c.answer_of.result.value c.answer_of.ensures.value
          (subst (λ t. ∥ IsReply t r.status r.value.items ∥₁) (sym c.in-Ok.ensures.came) c.in-Ok.ensures.reply);
      status = status_of new.came.bytes r.status r.value.items c.answer_of.result.value c.answer_of.ensures.status
          (subst (λ t. ∥ IsReply t r.status r.value.items ∥₁) (sym c.in-Ok.ensures.came) c.in-Ok.ensures.reply);
      told = told_of _ r.status r.value.items c.answer_of.result.value c.requires.whole c.answer_of.ensures.status
          (subst (λ t. ∥ IsReply t r.status r.value.items ∥₁) (sym c.in-Ok.ensures.came) c.in-Ok.ensures.reply);
    }
