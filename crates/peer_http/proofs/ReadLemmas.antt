-- A reply, read piece by piece.
use Rattle.std.proofs.Common.{◌≡◌, ℕ, Bool, true, false, true≢false, ◌&&◌, if◌then◌else◌, List, [], ◌++◌, length, drop, sym, refl, ap, ◌∙◌, subst, arith, append-nil}
use Rattle.httparse.specs.Grammar.{ResponseHead}
use Rattle.httparse.proofs.GrammarLemmas.{ReadsResponse-append}
use Rattle.http1.specs.declared.framing.Framing.{Framing}
use Rattle.http1.specs.declared.framing.MethodKind.TheVariants.{Other}
use Rattle.http1.specs.declared.decode.Decoder.{Decoder}
use Rattle.http1.specs.declared.conn.Reading.{Reading}
use Rattle.http1.specs.declared.conn.Reading.TheVariants as Reads
use Rattle.http1.specs.Message.{AcceptsResponse}
use Rattle.peer_http.specs.Requests.{LIMITS}
use Rattle.peer_http.specs.Replies.{Interims, none, more, TakesEnd, TakesNothing}
use Rattle.http1.specs.declared.client.Client.{Client}
use Rattle.http1.specs.declared.conn.Event.TheVariants as Event
use Rattle.http1.specs.declared.conn.Progress.{Progress}
use Rattle.http1.specs.Client.{ClientReads, IsIdle, ReadsAt, ReadsInBody, after_piece, closed_client, is_written, new_client}
use Rattle.http1.specs.Conn.{ReadsPiece, awaits_head}
use Rattle.http1.specs.Decoder.{AwaitsTrailers}
use Rattle.httparse.specs.declared.spans.HeaderSpan.{HeaderSpan}
use Rattle.httparse.specs.declared.spans.ResponseSpans.{ResponseSpans}
use Rattle.std.proofs.Common.{inl, inr}
use Rattle.std.proofs.lemmas.List.{drop_all}

-- a head stays one, whatever follows
pub accepts_append : (text : List ℕ) (head : ResponseHead) (framing : Framing) (rest later : List ℕ) → AcceptsResponse LIMITS Other text head framing rest → AcceptsResponse LIMITS Other (text ++ later) head framing (rest ++ later)
accepts_append text head framing rest later a = record {
  reads = ReadsResponse-append text head rest later a.reads;
  strict = a.strict;
  status = a.status;
  framed = a.framed;
}

-- and so do interim responses
pub interims_append : (text rest later : List ℕ) → Interims text rest → Interims (text ++ later) (rest ++ later)
interims_append text rest later none = none
interims_append text rest later (more before head framing after is a low) =
    more (before ++ later) head framing (after ++ later) (interims_append text before later is) (accepts_append before head framing after later a) low

drop_whole : (xs : List ℕ) (n : ℕ) → n ≡ length xs → drop n xs ≡ []
drop_whole xs n e = drop_all n xs (omega (arith, e))

pub same_body : {d e : Decoder} → Reads.Body d ≡ Reads.Body e → d ≡ e
same_body {d} {e} h = ap (λ r. body_or d r) h
  where
    body_or : Decoder → Reading → Decoder
    body_or other (Reads.Body x) = x
    body_or other Reads.Head = other
    body_or other Reads.Done = other
    body_or other Reads.Upgraded = other
    body_or other Reads.Closed = other
    body_or other (Reads.Failed e) = other

-- behind a body a client takes another request only where it keeps the connection
idle_after : (c c' : Client) → c' ≡ after_piece c Reads.Done → IsIdle c' → c.keep_alive ≡ true
idle_after c c' is idle = by c.keep_alive refl
  where
    by : (b : Bool) → c.keep_alive ≡ b → c.keep_alive ≡ true
    by true e = e
    by false e =
        let closed = subst (λ b. c'.writing ≡ (if b && is_written c.writing then new_client c.limits else closed_client (record c { reading = Reads.Done })).writing)
        e (ap (λ x. x.writing) is) in
        absurd (true≢false (ap awaits_head (sym idle ∙ closed)))

module _ (c c' : Client) (input : List ℕ) (spans : List HeaderSpan) (read : Progress ResponseSpans) (d : Decoder) (is : c.reading ≡ Reads.Body d) (found : ClientReads c input spans c' read) where
  within : ReadsInBody d c input spans c' read
  within = subst (λ r. ReadsAt r c input spans c' read) is found

  -- a read that asks for more
  reads_nothing : (value : List ℕ) → read.event ≡ Event.NeedMore → TakesNothing c.keep_alive d c' input (drop read.consumed input) value value
  reads_nothing value ev =
      let p : ReadsPiece {H = ResponseSpans} d input spans within.0 read.consumed Event.NeedMore = subst (ReadsPiece {H = ResponseSpans} d input spans within.0 read.consumed) ev within.1 in
      record {
        taken = record {
          new = p.0;
          len = read.consumed;
          piece = [];
          reading = ap (λ x. x.reading) (within.2 ∙ ap (after_piece c) p.1);
          still = ap (λ x. x.keep_alive) (within.2 ∙ ap (after_piece c) p.1);
          continues = p.2.continues;
          rest = refl;
          grown = sym (append-nil value);
        };
        drained = λ until. elim p.2.drained [
          | inl e ↦ drop_whole input read.consumed e
          | inr a ↦ absurd (subst (λ x. AwaitsTrailers x (length (drop read.consumed input))) until a)
        ];
      }

  -- a read that finds the end
  reads_end : (value : List ℕ) (count : ℕ) → read.event ≡ Event.End count → TakesEnd c.keep_alive d c' input (drop read.consumed input) value value
  reads_end value count ev =
      let p : ReadsPiece {H = ResponseSpans} d input spans within.0 read.consumed (Event.End count) = subst (ReadsPiece {H = ResponseSpans} d input spans within.0 read.consumed) ev within.1 in
      record {
        trailers = p.1.trailers;
        len = read.consumed;
        completes = p.1.completes;
        rest = refl;
        same = refl;
        idle = idle_after c c' (within.2 ∙ ap (after_piece c) p.0);
      }

-- the same, of what an intake held and holds
module _ (c c' : Client) (input unread unread' : List ℕ) (spans : List HeaderSpan) (read : Progress ResponseSpans) (d : Decoder) (is : c.reading ≡ Reads.Body d) (found : ClientReads c input spans c' read) (held : input ≡ unread) (left : unread' ≡ drop read.consumed unread) (value : List ℕ) where
  pub takes_nothing : read.event ≡ Event.NeedMore → TakesNothing c.keep_alive d c' unread unread' value value
  takes_nothing ev =
      subst (λ u. TakesNothing c.keep_alive d c' unread u value value) (sym left)
      (subst (λ u. TakesNothing c.keep_alive d c' u (drop read.consumed u) value value) held (reads_nothing c c' input spans read d is found value ev))

  pub takes_end : (count : ℕ) → read.event ≡ Event.End count → TakesEnd c.keep_alive d c' unread unread' value value
  takes_end count ev =
      subst (λ u. TakesEnd c.keep_alive d c' unread u value value) (sym left)
      (subst (λ u. TakesEnd c.keep_alive d c' u (drop read.consumed u) value value) held (reads_end c c' input spans read d is found value count ev))
