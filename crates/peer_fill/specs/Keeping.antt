-- What the threads that were handed seats have together.
use Rattle.std.specs.Prelude.{ℕ, List, sum_by}
use Rattle.std.specs.declared.thread.PromisedHandle.{PromisedHandle}
use Rattle.peer_source.specs.declared.source.Source as Source
use Rattle.std.specs.declared.sync.ledger.Ledger as Ledger
use Rattle.peer_fill.specs.declared.keeping.Keeps.{Keeps}

module _ {S L T : Type 0} {g : Source.Ghosts S} {h : Ledger.Ghosts L} where
  -- the parts of the seats that threads were handed
  abbrev pub handed : (T → ℕ) → List (PromisedHandle T (Keeps S L T g h)) → ℕ
  handed parts_of handles = sum_by (λ x. parts_of x.promise.seat.value) handles
