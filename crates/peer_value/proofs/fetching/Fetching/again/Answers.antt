use Rattle.std.proofs.Common.{◌≡◌, None, [], rules}
use Rattle.peer_value.proofs.FetchingLemmas.{anew}
use Rattle.peer_value.proofs.fetching.Fetching.again.Goals as goal

pub returns-clause-uses : goal.returns-clause-uses
returns-clause-uses c = λ _.
    let f = c.args.self.now in
    let silent : f.receiving.came.bytes ≡ [] = search rules in
    let none : f.first ≡ None = search rules in
    anew f.request.items f.sent f.receiving.came.bytes f.ended f.first c.receiving.result.came.bytes silent none c.receiving.ensures.came

pub returns-then-is_some-clause-kept : goal.returns-then-is_some-clause-kept
returns-then-is_some-clause-kept c = search rules
