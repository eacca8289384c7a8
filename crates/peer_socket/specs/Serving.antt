-- How a server ends: why no pool was opened, and that its report balances.
use Rattle.std.specs.Prelude.{ℕ, ◌↔◌, Result, IfOk, IsErrOf}
use Rattle.peer_fill.specs.Lists.{Balances}
use Rattle.peer_fill.specs.Opens.{IsOutside, IsWithin}
use Rattle.peer_fill.specs.declared.close.Report.{Report}
use Rattle.peer_fill.specs.declared.open.OpenFault.TheVariants as opening
use Rattle.peer_socket.specs.declared.server.ServerFault.{ServerFault}
use Rattle.peer_socket.specs.declared.server.ServerFault.TheVariants as server

-- the faults of the pool as they are, for w workers, c seats of connections and g groups, and where there is a report, it balances
pub record ServesWith (w c g : ℕ) (result : Result Report ServerFault) : Type 0 where
  pub workers : IsErrOf result (server.Open opening.Workers) ↔ IsOutside 16 w
  pub conns : IsErrOf result (server.Open opening.Conns) ↔ (IsWithin 16 w × IsOutside 16 c)
  pub groups : IsErrOf result (server.Open opening.Groups) ↔ (IsWithin 16 w × IsWithin 16 c × IsOutside 64 g)
  pub report : IfOk result Balances
