use Rattle.std.specs.Prelude.{◌≢◌}
use Rattle.std.specs.List.{AllWithin}
use Rattle.peer_value.proofs.address_book.first_at.Given as goal

abbrev pub invariant-loop-index : goal.invariant-loop-index
invariant-loop-index l = AllWithin (λ a. a.address ≢ l.address) l.each 0 l.index
