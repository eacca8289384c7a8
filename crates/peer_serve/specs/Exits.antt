-- How the program ends where one connection ended.
use Rattle.std.specs.Prelude.{◌≡◌, ℕ, List, codes, None, MatchOption}
use Rattle.peer_wish.specs.declared.end.End.{End}
use Rattle.peer_wish.specs.declared.end.End.TheVariants as end
use Rattle.peer_serve.specs.declared.exit.Exit.{Exit}

-- it ends with this status and this line on standard error
abbrev pub Says : Exit → ℕ → List ℕ → Type 0
Says exit status line = (exit.status ≡ status) × MatchOption exit.line ⊥ (λ said. said.now ≡ line)

-- how the program ends
abbrev pub EndsAs : End → Exit → Type 0
EndsAs end.Clean exit = (exit.status ≡ 0) × (exit.line ≡ None)
EndsAs end.Cut exit = Says exit 2 (codes "peer_serve: input ended inside a head")
EndsAs end.ReadFault exit = Says exit 3 (codes "peer_serve: read failed")
EndsAs end.WriteFault exit = Says exit 4 (codes "peer_serve: write failed")
EndsAs end.Memory exit = Says exit 5 (codes "peer_serve: out of memory")
EndsAs end.Worn exit = Says exit 5 (codes "peer_serve: out of memory")
EndsAs end.Spent exit = Says exit 6 (codes "peer_serve: too many reads")
