use Rattle.peer_value.proofs.done.Done.fetched.Goals as goal

pub invariant_of-result : goal.invariant_of-result
invariant_of-result g c = record {
  asked = c.requires.asked;
  found = c.requires.found;
  told = ∣ c.requires.told ∣₁;
}
