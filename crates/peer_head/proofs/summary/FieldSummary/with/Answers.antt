use Rattle.std.proofs.Common.{sym, ◌∙◌, ap, subst, nat_lt, length, ◌+◌, ◌≡◌, ◌++◌, ◌∷◌, [], ℕ, List, codes, length-append}
use Rattle.std.specs.List.{list_any}
use Rattle.peer_head.specs.Fields.{asks_close}
use Rattle.peer_head.specs.Heads.{HeadField}
use Rattle.peer_head.specs.Faults.{lengths, hosts}
use Rattle.peer_head.specs.Summaries.{IsLengthsOf, IsHostsOf}
use Rattle.peer_head.proofs.SummaryLemmas.{values-snoc_yes, values-snoc_no}
use Rattle.peer_head.proofs.summary.FieldSummary.with.Goals as goal

pub returns-in-Host : goal.returns-in-Host
returns-in-Host c = λ fields h.
    let f : HeadField = record { name = c.args.name.now; value = c.args.value.now } in
    let kind = c.in-Host.ensures in
    let more : length (hosts (fields ++ f ∷ [])) ≡ length (hosts fields) + 1 =
    ap length (values-snoc_yes (codes "Host") fields f kind.host) ∙ length-append (hosts fields) (f.value ∷ []) in
    record {
      coding = h.coding ∙ ap (λ vs. nat_lt 0 (length vs))
          (sym (values-snoc_no (codes "Transfer-Encoding") fields f kind.transfer_encoding));
      lengths_are =
          subst (λ (vs : List (List ℕ)). IsLengthsOf vs c.args.self.lengths)
          (sym (values-snoc_no (codes "Content-Length") fields f kind.content_length)) h.lengths_are;
      hosts_are = subst (λ (n : ℕ). IsHostsOf n c.with_one.result) (sym more) (c.with_one.ensures (length (hosts fields)) h.hosts_are);
      closes = h.closes ∙ ap (list_any asks_close) (sym (values-snoc_no (codes "Connection") fields f kind.connection));
    }

pub returns-in-ContentLength : goal.returns-in-ContentLength
returns-in-ContentLength c = λ fields h.
    let f : HeadField = record { name = c.args.name.now; value = c.args.value.now } in
    let kind = c.in-ContentLength.ensures in
    record {
      coding = h.coding ∙ ap (λ vs. nat_lt 0 (length vs))
          (sym (values-snoc_no (codes "Transfer-Encoding") fields f kind.transfer_encoding));
      lengths_are =
          subst (λ (vs : List (List ℕ)). IsLengthsOf vs c.with.result)
          (sym (values-snoc_yes (codes "Content-Length") fields f kind.content_length)) (c.with.ensures (lengths fields) h.lengths_are);
      hosts_are = subst (λ (n : ℕ). IsHostsOf n c.args.self.hosts) (ap length (sym (values-snoc_no (codes "Host") fields f kind.host)))
          h.hosts_are;
      closes = h.closes ∙ ap (list_any asks_close) (sym (values-snoc_no (codes "Connection") fields f kind.connection));
    }
