use Rattle.std.proofs.Common.{◌≡◌, subst, Ok}
use Rattle.http1.specs.declared.conn.Reading.TheVariants as Reads
use Rattle.http1.specs.declared.decode.Decoder.{Decoder}
use Rattle.peer_http.specs.Replies.{TakesAs}
use Rattle.peer_http.specs.declared.content.Taken.TheVariants as take
use Rattle.peer_http.proofs.ReceivingLemmas.{goes, ends, drains}
use Rattle.peer_http.proofs.content.take_content.Goals as goal

pub loop-piece-init : goal.loop-piece-init
loop-piece-init c = record { within = c.requires; reads = λ d is. (d, is); keeps = λ came status h. h }

pub loop-piece-preserved : goal.loop-piece-preserved
loop-piece-preserved c =
    let l = c.loop-piece in
    let taken : (d : Decoder) → l.client.reading ≡ Reads.Body d
    → TakesAs c.take_next.new.client l.client.keep_alive d l.intake c.take_next.new.intake l.value.items c.take_next.new.value.items (Ok take.Piece) =
    λ d is. subst (λ x. TakesAs c.take_next.new.client l.client.keep_alive d l.intake c.take_next.new.intake l.value.items c.take_next.new.value.items (Ok x))
    c.in-Ok-Piece.field-0-is (c.in-Ok-Piece.ensures.taken d is) in
    record {
      within = c.in-Ok-Piece.ensures.within;
      reads = λ d is. let i = l.invariant.reads d is in let t = taken i.0 i.1 in (t.new, t.reading);
      keeps = λ came status h. let i = l.invariant.keeps came status h in goes came status _ i.0 _ _ _ _ _ i.2 (taken i.0 i.1);
    }

pub returns-in-Ok-End-clause-taken : goal.returns-in-Ok-End-clause-taken
returns-in-Ok-End-clause-taken c =
    let l = c.loop-piece in
    λ came status h.
    let i = l.invariant.keeps came status h in
    let taken = subst (λ x. TakesAs c.take_next.new.client l.client.keep_alive i.0 l.intake c.take_next.new.intake l.value.items c.take_next.new.value.items (Ok x))
    c.in-Ok-End.field-0-is (c.in-Ok-End.ensures.taken i.0 i.1) in
    ends came status _ i.0 _ _ _ _ _ i.2 taken

pub returns-in-Ok-Nothing-clause-taken : goal.returns-in-Ok-Nothing-clause-taken
returns-in-Ok-Nothing-clause-taken c =
    let l = c.loop-piece in
    let taken : (d : Decoder) → l.client.reading ≡ Reads.Body d
    → TakesAs c.take_next.new.client l.client.keep_alive d l.intake c.take_next.new.intake l.value.items c.take_next.new.value.items (Ok take.Nothing) =
    λ d is. subst (λ x. TakesAs c.take_next.new.client l.client.keep_alive d l.intake c.take_next.new.intake l.value.items c.take_next.new.value.items (Ok x))
    c.in-Ok-Nothing.field-0-is (c.in-Ok-Nothing.ensures.taken d is) in (
      λ came status h. let i = l.invariant.keeps came status h in goes came status _ i.0 _ _ _ _ _ i.2 (taken i.0 i.1).taken,
      λ d is. let i = l.invariant.reads d is in drains _ i.0 _ _ _ _ _ (taken i.0 i.1),
    )
