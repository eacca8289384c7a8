-- What a wish is whose key is lent.
use Rattle.peer_reply.specs.declared.wish.WishBody.{WishBody}
use Rattle.peer_reply.specs.declared.wish.WishBody.TheVariants as body
use Rattle.peer_wish.specs.declared.wish.LentBody.{LentBody}
use Rattle.peer_wish.specs.declared.wish.LentBody.TheVariants as lent

-- the body with the key that is lent
abbrev pub lent_body : LentBody → WishBody
lent_body (lent.Fault fault) = body.Fault fault
lent_body (lent.Get group place) = body.Get group place.key
