-- What a seat keeps in one step and the next.
use Rattle.std.proofs.Common.{refl, ◌∙◌, arith}
use Rattle.peer_source.specs.declared.source.Source as Source
use Rattle.std.specs.declared.sync.ledger.Ledger as Ledger
use Rattle.peer_fill.specs.Pools.{IsFillSeatOf}
use Rattle.peer_fill.specs.declared.pool.Pool.{Pool}
use Rattle.peer_fill.specs.declared.seats.FillSeat.{FillSeat}
use Rattle.peer_fetch.specs.Threads.{IsLaterSeat}

module _ {S L : Type 0} {g : Source.Ghosts S} {h : Ledger.Ghosts L} where
  pub same_seat : (pool : Pool S L g h) (seat : FillSeat S L g h) → IsFillSeatOf pool seat → IsLaterSeat pool seat seat
  same_seat pool seat of = record { seat = of; parts = refl; calls = omega arith; rehits = omega arith }

  pub later_still : (pool : Pool S L g h) (one two three : FillSeat S L g h) → IsLaterSeat pool one two → IsLaterSeat pool two three → IsLaterSeat pool one three
  later_still pool one two three a b = record {
    seat = b.seat;
    parts = b.parts ∙ a.parts;
    calls = omega (arith, a.calls, b.calls);
    rehits = omega (arith, a.rehits, b.rehits);
  }
