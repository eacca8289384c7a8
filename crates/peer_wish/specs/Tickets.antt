-- The wishes that tickets stand for.
use Rattle.std.specs.Prelude.{ℕ, ◌+◌, List, [], ◌∷◌}
use Rattle.peer_source.specs.Answers.{Filled}
use Rattle.peer_reply.specs.declared.wish.ReplyForm.{ReplyForm}
use Rattle.peer_reply.specs.declared.wish.Wish.{Wish}
use Rattle.peer_reply.specs.declared.wish.WishBody.{WishBody}
use Rattle.peer_reply.specs.declared.wish.WishBody.TheVariants as wish
use Rattle.peer_flight.specs.Claims.{claim_place}
use Rattle.peer_flight.specs.declared.claim.Claim.{Claim}
use Rattle.peer_wish.specs.Wishes.{get_wish}
use Rattle.peer_wish.specs.declared.ticket.Body.{Body}
use Rattle.peer_wish.specs.declared.ticket.Body.TheVariants as ticket
use Rattle.peer_wish.specs.declared.ticket.Ticket.{Ticket}

-- what a ticket's body answers
abbrev pub body_by : {S : Type 0} → Body S → WishBody
body_by (ticket.Fault f) = wish.Fault f
body_by (ticket.Claim c) = wish.Get (record { number = (claim_place c).group }) (claim_place c).key

-- the wish of a claim, and that of a fill
abbrev pub claim_wish : {S : Type 0} → Claim S → ReplyForm → Wish
claim_wish c form = get_wish (record { number = (claim_place c).group }) (claim_place c).key form.closing form.bare

abbrev pub fill_wish : Filled → ReplyForm → Wish
fill_wish f form = get_wish (record { number = f.group }) f.key form.closing form.bare

-- the wish that a ticket answers
abbrev pub wish_by : {S : Type 0} → Ticket S → Wish
wish_by t = record { body = body_by t.body; closing = t.closing; bare = t.bare }

abbrev pub wishes_by : {S : Type 0} → List (Ticket S) → List Wish
wishes_by [] = []
wishes_by (t ∷ ts) = wish_by t ∷ wishes_by ts

-- 1 for a wish with group and key
abbrev pub asks_in_body : WishBody → ℕ
asks_in_body (wish.Fault f) = 0
asks_in_body (wish.Get group key) = 1

-- how many of the wishes have group and key
abbrev pub asks_in : List Wish → ℕ
asks_in [] = 0
asks_in (w ∷ ws) = asks_in_body w.body + asks_in ws
