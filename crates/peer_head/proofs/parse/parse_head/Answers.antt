use Rattle.std.proofs.Common.{sym, subst, List, ℕ, arith, All, refl, length, ◌≡◌, ◌≤◌}
use Rattle.std.proofs.lemmas.Bool.{false≢true}
use Rattle.httparse.specs.Grammar.{RequestHead, ReadsRequest}
use Rattle.httparse.specs.Spans.{IsRequestAt}
use Rattle.peer_head.specs.Heads.{IsVisible, MAX_FIELDS}
use Rattle.peer_head.proofs.ParseLemmas.{head_found, not_whole, not_visible}
use Rattle.peer_head.proofs.parse.parse_head.Goals.{else-spans-block-via-then-spans-block+else-is_visible}
use Rattle.peer_head.proofs.parse.parse_head.Goals.{else-spans-block-via-else-spans-block}
use Rattle.peer_head.proofs.parse.parse_head.Goals as goal

pub returns-then-is_visible : goal.returns-then-is_visible
returns-then-is_visible c =
    let block = c.args.block.now in
    let spans = c.in-Ok-Complete.spans in
    let said = rw c.in-Ok-Complete.field-0-is at c.in-Ok-Complete.ensures in
    let visible = subst (λ (v : List ℕ). All IsVisible v) c.of.ensures (c.if-is_visible.ensures.0 refl) in
    let room : length c.parse_request.new.headers ≡ MAX_FIELDS = omega arith in
    head_found block c.parse_request.new.headers spans room said.within said.complete c.if-spans-block.true
    (c.if-not-is_paired.ensures.0 refl) visible

pub returns-else-spans-block : goal.returns-else-spans-block
returns-else-spans-block c =
    let block = c.args.block.now in
    let fields = c.parse_request.new.headers in
    let spans = c.in-Ok-Complete.spans in
    let said = rw c.in-Ok-Complete.field-0-is at c.in-Ok-Complete.ensures in
    let finds : (h : RequestHead) (rest : List ℕ) → ReadsRequest block h rest → length h.fields ≤ MAX_FIELDS
    → IsRequestAt block fields spans h = λ h rest reads few. said.found h rest reads (omega (arith, few)) in
    elim c.else-spans-block.branch [
      | else-spans-block-via-then-spans-block+else-is_visible w ↦
          not_visible block fields spans finds (λ v. false≢true
          (w.if-is_visible.ensures.1 (subst (λ (bytes : List ℕ). All IsVisible bytes) (sym w.of.ensures) v)))
      | else-spans-block-via-else-spans-block w ↦ not_whole block fields spans finds w.if-spans-block.false
    ]
