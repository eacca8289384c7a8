-- Laws of how many bytes came for tickets.
use Rattle.std.proofs.Common.{◌≡◌, ℕ, zero, suc, ◌+◌, ◌<◌, ◌≤◌, List, [], ◌∷◌, length, take, get_or, refl, ap, subst, arith}
use Rattle.std.proofs.lemmas.List.{take_all}
use Rattle.peer_wish.specs.declared.ticket.Ticket.{Ticket}
use Rattle.peer_exchange.specs.Holdings.{CameFor, CameForAll}

module _ {S : Type 0} where
  -- so many came for one ticket more
  pub came_next : (ts : List (Ticket S)) (i : ℕ) (t : Ticket S) (n k : ℕ) → i < length ts → t ≡ get_or ts i t → CameForAll (take i ts) n → CameFor t.body k → CameForAll (take (suc i) ts) (n + k)
  came_next [] i t n k lt at h come = absurd (omega (arith, lt))
  came_next (u ∷ us) zero t n k lt at h come = (k, 0, subst (λ v. CameFor v k) (ap (λ v. v.body) at) come, refl, omega (arith, h))
  came_next (u ∷ us) (suc i) t n k lt at h come = (h.0, h.1 + k, h.2, came_next us i t h.1 k (omega (arith, lt)) at h.3 come, omega (arith, h.4))

  -- those are all tickets
  pub came_all : (ts : List (Ticket S)) (i n : ℕ) → length ts ≤ i → CameForAll (take i ts) n → CameForAll ts n
  came_all ts i n le h = subst (λ v. CameForAll v n) (take_all i ts le) h
