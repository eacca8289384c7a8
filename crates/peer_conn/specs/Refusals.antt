-- A connection that was refused memory before its first read.
use Rattle.std.specs.Prelude.{◌≡◌}
use Rattle.peer_wish.specs.declared.end.End.TheVariants as end
use Rattle.peer_conn.specs.declared.end.Served.{Served}

-- the reader and the writer are as they came
pub record IsRefused {R W : Type 0} (r : R) (w : W) (served : Served R W) : Type 0 where
  pub reader : served.reader ≡ r
  pub writer : served.writer ≡ w
  pub end : served.end ≡ end.Memory
