use Rattle.std.specs.Prelude.{◌≡◌, ◌-◌, ◌^◌, count_by, is_some, min, take}
use Rattle.peer_value.proofs.address_book.AddressBook.rested.Given as goal

abbrev pub invariant-loop-listed : goal.invariant-loop-listed
invariant-loop-listed l = l.count ≡ min (count_by (λ a. is_some a.until) (take l.listed-index l.self.each.items)) (2 ^ 64 - 1)
