-- Whether clients are served.
use Rattle.std.specs.Prelude.{ℕ, List, Bool, codes, cond}
use Rattle.peer_stats.specs.declared.state.Stage.{Stage}
use Rattle.peer_stats.specs.declared.state.Stage.TheVariants as stage
use Rattle.peer_stats.specs.declared.state.ServerState.{ServerState}
use Rattle.peer_stats.specs.declared.state.ServerState.TheVariants as state

-- by how far the server is
abbrev pub of_stage : Stage → ServerState
of_stage stage.Starts = state.Starts
of_stage stage.Serves = state.Ready
of_stage stage.Ends = state.Ends

-- and by whether a loop stands still
abbrev pub state_of : Stage → Bool → ServerState
state_of s stands_still = cond stands_still state.StandsStill (of_stage s)

-- the line that says so
abbrev pub state_line : ServerState → List ℕ
state_line state.Ready = codes "ready\n"
state_line state.Starts = codes "it starts\n"
state_line state.Ends = codes "it ends\n"
state_line state.StandsStill = codes "a loop stands still\n"
