-- Laws of the bytes that wait to be sent, in pieces.
use Rattle.std.proofs.Common.{◌≡◌, ◌∙◌, ℕ, ◌+◌, ◌≤◌, ◌<◌, List, [], ◌∷◌, ◌++◌, length, take, drop, sym, ap, arith, append_assoc, append-nil, length-append}
use Rattle.std.proofs.lemmas.List.{take-append-le, drop-append-le}
use Rattle.std.specs.Prelude.{Bool, false, codes, decimal, Option, None, Some, option_map}
use Rattle.peer_source.specs.Answers.{Answer, Found}
use Rattle.peer_reply.specs.Bodies.{body_of, tag_and_length}
use Rattle.peer_reply.specs.Texts.{crlf, field, connection_field, value_start, value_reply, answer_reply}
use Rattle.peer_reply.specs.Joins.{join}
use Rattle.peer_outbox.specs.Outboxes.{EachHasByte, StartsIn, BeginsWithBoth, EndsIn}
use Rattle.peer_reply.proofs.JoinLemmas.{join-append}

-- what is sent of the first piece is no more than there is
starts_le : (ps : List (List ℕ)) (start : ℕ) → StartsIn ps start → start ≤ length (join ps)
starts_le [] start h = omega (arith, h)
starts_le (p ∷ ps) start h = omega (arith, h.0, length-append p (join ps))

-- so many of the first bytes, and of those behind them, are so many of all
pub take_both : (n : ℕ) (front second bytes : List ℕ) → BeginsWithBoth front second bytes → n ≤ length front + length second → take n (front ++ second) ≡ take n bytes
take_both n front second bytes h le =
    sym (ap (take n) (h.all ∙ sym (append_assoc front second h.behind)) ∙ take-append-le n (front ++ second) h.behind (omega (arith, le, length-append front second)))

-- all bytes of pieces, two of which are the last
join_two : (ps : List (List ℕ)) (p q : List ℕ) → join (ps ++ p ∷ q ∷ []) ++ [] ≡ join ps ++ (p ++ q)
join_two ps p q = append-nil (join (ps ++ p ∷ q ∷ [])) ∙ sym (join-append ps (p ∷ q ∷ [])) ∙ ap (λ v. join ps ++ (p ++ v)) (append-nil q)

-- bytes come behind those of pieces
pub put_behind : (ps : List (List ℕ)) (start : ℕ) (last more : List ℕ) → StartsIn ps start → drop start (join ps ++ (last ++ more)) ≡ drop start (join ps ++ last) ++ more
put_behind ps start last more h =
    ap (drop start) (sym (append_assoc (join ps) last more)) ∙ drop-append-le start (join ps ++ last) more (omega (arith, starts_le ps start h, length-append (join ps) last))

-- two pieces come: the last bytes with a head behind them, and a value
pub lend_two : (ps : List (List ℕ)) (start : ℕ) (last head value : List ℕ) → StartsIn ps start → drop start (join (ps ++ (last ++ head) ∷ value ∷ []) ++ []) ≡ drop start (join ps ++ last) ++ (head ++ value)
lend_two ps start last head value h =
    ap (drop start) (join_two ps (last ++ head) value ∙ ap (λ v. join ps ++ v) (append_assoc last head value)) ∙ put_behind ps start last (head ++ value) h

-- .. and how long all are
pub lend_length : (ps : List (List ℕ)) (last head value : List ℕ) → length (join (ps ++ (last ++ head) ∷ value ∷ []) ++ []) ≡ length (join ps ++ last) + (length head + length value)
lend_length ps last head value =
    ap length (join_two ps (last ++ head) value)
    ∙ omega (arith, length-append (join ps) ((last ++ head) ++ value), length-append (last ++ head) value, length-append last head, length-append (join ps) last)

each_more : (ps : List (List ℕ)) (p q : List ℕ) → 0 < length p → 0 < length q → EachHasByte ps → EachHasByte (ps ++ p ∷ q ∷ [])
each_more [] p q some more h = (some, (more, tt))
each_more (r ∷ ps) p q some more h = (h.0, each_more ps p q some more h.1)

-- it is still within the first piece
pub starts_more : (ps : List (List ℕ)) (start : ℕ) (p q : List ℕ) → 0 < length p → 0 < length q → StartsIn ps start → StartsIn (ps ++ p ∷ q ∷ []) start
starts_more [] start p q some more h = (omega (arith, some, h), (more, tt))
starts_more (r ∷ ps) start p q some more h = (h.0, each_more ps p q some more h.1)

-- the reply with a value that is not left out ends in it
pub value_ends : (closing : Bool) (value : List ℕ) → EndsIn value (value_reply closing false value)
value_ends closing value =
    let head = value_start ++ field (codes "Content-Length") (decimal (length (body_of value))) ++ connection_field closing ++ crlf in
    let tag = tag_and_length (length value) in
    record { before = head ++ tag; some = omega (arith, length-append head tag); all = sym (append_assoc head tag value) }

-- .. and is that of a fill with this value
pub value_reply_of : (closing bare : Bool) (answer : Option Answer) (value reply : List ℕ) → Some reply ≡ option_map (answer_reply closing bare) answer → bare ≡ false → answer ≡ Some (Found value) → reply ≡ value_reply closing false value
value_reply_of closing bare answer value reply is full found =
    ap (λ o. text_in o reply) (is ∙ ap (λ b. option_map (answer_reply closing b) answer) full ∙ ap (option_map (answer_reply closing false)) found)
  where
    text_in : Option (List ℕ) → List ℕ → List ℕ
    text_in None other = other
    text_in (Some text) other = text
