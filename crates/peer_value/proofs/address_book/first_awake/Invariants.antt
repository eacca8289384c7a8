use Rattle.std.specs.List.{AllWithin}
use Rattle.peer_value.specs.Listings.{RestsAt}
use Rattle.peer_value.proofs.address_book.first_awake.Given as goal

abbrev pub invariant-loop-index : goal.invariant-loop-index
invariant-loop-index l = AllWithin (RestsAt l.now) l.each 0 l.index
