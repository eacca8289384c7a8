use Rattle.std.proofs.Common.{◌≤◌, ◌∙◌, IfSome, IsTrue, length, rules, subst}
use Rattle.peer_http.specs.Receivings.{IsStanding, MayAskAgain}
use Rattle.peer_value.proofs.FetchingLemmas.{answers_standing, reply_of, status_of, told_of}
use Rattle.peer_value.proofs.fetching.Fetching.receive.Goals as goal

pub returns-in-Ok-Some-clause-answer : goal.returns-in-Ok-Some-clause-answer
returns-in-Ok-Some-clause-answer c =
    let f = c.args.self.now in
    let new = c.receive.new.self in
    let given = c.in-Ok-Some in
    let within = subst (λ x. IfSome x (λ r. length r.value.items ≤ new.most)) given.field-0-is given.ensures.within in
    let reply = subst (λ x. IfSome x (λ r. ∥ IsStanding new.came.bytes r.status r.value.items ∥₁)) given.field-0-is given.ensures.reply in
    let asks = subst (λ x. IfSome x (λ r. IsTrue r.keeps → MayAskAgain new.came.bytes new.client r)) given.field-0-is given.ensures.keeps in
    record {
      sent = c.requires.whole;
      keeps = λ keeps. (given.reply, asks (subst IsTrue c.answer_of.ensures.keeps keeps));
      value = answers_standing f.request.items f.sent new.came.bytes f.first given.reply.status given.reply.value.items
          c.requires.whole (subst (λ m. length given.reply.value.items ≤ m) (given.ensures.most ∙ f.most) within) f.ended c.answer_of.result.value c.answer_of.ensures.value reply;
      status = status_of new.came.bytes given.reply.status given.reply.value.items c.answer_of.result.value c.answer_of.ensures.status
          (reply_of new.came.bytes given.reply.status given.reply.value.items reply);
      told = told_of _ given.reply.status given.reply.value.items c.answer_of.result.value c.requires.whole c.answer_of.ensures.status
          (reply_of new.came.bytes given.reply.status given.reply.value.items reply);
    }

pub returns-in-Ok-None-clause-silent : goal.returns-in-Ok-None-clause-silent
returns-in-Ok-None-clause-silent c = search rules

pub returns-in-Ok-None-clause-ended : goal.returns-in-Ok-None-clause-ended
returns-in-Ok-None-clause-ended c = search rules
