-- Laws of the seat that an exchange is lent.
use Rattle.std.proofs.Common.{refl, ◌∙◌}
use Rattle.std.specs.declared.sync.ledger.Ledger as Ledger
use Rattle.peer_source.specs.declared.source.Source as Source
use Rattle.peer_fill.specs.Claiming.{KeepsSeat}
use Rattle.peer_fill.specs.Pools.{IsConnSeatOf}
use Rattle.peer_fill.specs.declared.pool.Pool.{Pool}
use Rattle.peer_fill.specs.declared.seats.ConnSeat.{ConnSeat}

module _ {S L : Type 0} {g : Source.Ghosts S} {h : Ledger.Ghosts L} {pool : Pool S L g h} where
  pub seat_kept : {a : ConnSeat S L g} → IsConnSeatOf pool a → KeepsSeat pool a a
  seat_kept own = record { own = own; parts = refl }

  pub seat_then : {a b c : ConnSeat S L g} → KeepsSeat pool a b → KeepsSeat pool b c → KeepsSeat pool a c
  seat_then h k = record { own = k.own; parts = k.parts ∙ h.parts }
