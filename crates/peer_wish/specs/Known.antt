-- Wishes for groups that a source has.
use Rattle.std.specs.Prelude.{◌<◌, ℕ}
use Rattle.peer_reply.specs.declared.wish.WishBody.{WishBody}
use Rattle.peer_reply.specs.declared.wish.WishBody.TheVariants.{Fault, Get}

-- a group that is asked for is one of so many
abbrev pub IsKnown : ℕ → WishBody → Type 0
IsKnown count (Fault fault) = Unit {0}
IsKnown count (Get group key) = group.number < count
