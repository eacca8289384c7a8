-- What looks at a loop have found.
use Rattle.std.specs.Prelude.{ℕ, ◌+◌, ◌-◌, ◌^◌, ◌==◌, ◌&&◌, not, cond, min}
use Rattle.peer_stats.specs.declared.still.Looks.{Looks}

-- one more, which found this turn: the same one again, if it is not that of a loop that sleeps
abbrev pub looked : Looks → ℕ → Looks
looked l turn = record {
  turn = turn;
  again = cond ((turn == l.turn) && not (turn == 0)) (min (l.again + 1) (2 ^ 32 - 1)) 0;
}
