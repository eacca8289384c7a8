use Rattle.std.proofs.lemmas.Grind.{common_steps}
use Rattle.std.proofs.Common.{arith}
use Rattle.peer_value.proofs.address_book.AddressBook.rested.Goals as goal

pub loop-listed-preserved : goal.loop-listed-preserved
loop-listed-preserved c = grind (arith, common_steps)
