use Rattle.std.proofs.Common.{rules, ◌≡◌, ◌∙◌, None, codes, sym, subst}
use Rattle.http1.specs.declared.conn.BodySize.TheVariants.{Empty}
use Rattle.http1.specs.Client.{after_end, new_client, request_refusal}
use Rattle.peer_http.specs.Requests.{LIMITS, IsOneRequest, head_for}
use Rattle.peer_http.proofs.OneRequestLemmas.{one_request}
use Rattle.peer_http.proofs.RequestLemmas.{asking, awaits_reply, headers_for, written_for, written_is}
use Rattle.peer_http.proofs.request.Request.get.Goals as goal

pub returns-in-Ok : goal.returns-in-Ok
returns-in-Ok c =
    let host = c.args.host.now in
    let target = c.args.target.now in
    let next : c.write_request.new.self ≡ asking host = search rules in
    let done : c.write_end.new.self ≡ after_end (asking host) = search rules in
    let written : c.write_end.new.output.items ≡ written_for host target = search rules in
    let valid : request_refusal (new_client LIMITS) (codes "GET") target Empty (headers_for host) ≡ None = search rules in
    let text = c.in-Ok.ensures (head_for host target) (written ∙ written_is host target) in
    record {
      text = text;
      one = ∣ subst IsOneRequest (sym text) (one_request host target c.args.fields.now valid) ∣₁;
      awaits = awaits_reply host c.write_end.new.self done;
    }
