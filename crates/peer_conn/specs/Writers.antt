-- What a call did with a writer.
use Rattle.std.specs.Prelude.{ℕ, List, Result}
use Rattle.peer_view.specs.Moves.{Sends}
use Rattle.peer_view.specs.declared.writer.PeerWrite as Write

-- the writer took the front of `before`: all but `after` at `Ok`, some of it at `Err`, with one failure more
abbrev pub SendsBy : {W E : Type 0} → Write.Ghosts W → Result Unit E → W → W → List ℕ → List ℕ → Type 0
SendsBy G result old new before after = Sends result (G.failures old) (G.failures new) (G.taken old) (G.taken new) before after
