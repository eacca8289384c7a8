-- The world that the plain data of the module `world` is.
use Rattle.peer_source.specs.declared.source.Source as Source
use Rattle.peer_flight.specs.World.{World}
use Rattle.peer_flight.specs.Tables.{state_of}
use Rattle.flight_world.specs.declared.world.World.{World as Plain}

abbrev pub world_of : {S : Type 0} {g : Source.Ghosts S} → Plain S g → World
world_of w = record {
  table = state_of w.table;
  flights = w.flights.items;
  jobs = w.jobs.items;
  workers = w.workers.items;
  connections = w.connections.items;
}
