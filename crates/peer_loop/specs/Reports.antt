-- How a server ends: why no pool was opened, and that its report balances.
use Rattle.std.specs.Prelude.{ℕ, ◌↔◌, Result, IfOk, IsErrOf}
use Rattle.peer_fill.specs.Lists.{Balances}
use Rattle.peer_fill.specs.Opens.{IsOutside, IsWithin}
use Rattle.peer_fill.specs.declared.close.Report.{Report}
use Rattle.peer_fill.specs.declared.open.OpenFault.TheVariants as opening
use Rattle.peer_loop.specs.declared.server.ServerFault.{ServerFault}
use Rattle.peer_loop.specs.declared.server.ServerFault.TheVariants as server

-- the faults of the pool as they are, for f seats that fill, l loops and g groups, and else a report that balances
pub record ServesWith (f l g : ℕ) (result : Result Report ServerFault) : Type 0 where
  pub workers : IsErrOf result (server.Open opening.Workers) ↔ IsOutside 16 f
  pub loops : IsErrOf result (server.Open opening.Conns) ↔ (IsWithin 16 f × IsOutside 16 l)
  pub groups : IsErrOf result (server.Open opening.Groups) ↔ (IsWithin 16 f × IsWithin 16 l × IsOutside 64 g)
  pub report : IfOk result Balances
