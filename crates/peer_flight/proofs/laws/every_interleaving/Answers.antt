-- Each fact follows of a sound world, and every run ends in one.
use Rattle.peer_flight.specs.Laws.{IsLawful}
use Rattle.peer_flight.proofs.EveryRun.{always, open_flights_differ, tickets_name_their_places, rights_stand_once, tickets_are_served, flights_go_once, replies_follow_outcomes, wishes_keep_order, workers_differ, table_is_exact}
use Rattle.peer_flight.proofs.laws.every_interleaving.Goals as goal

pub returns : goal.returns
returns g c =
    let allowed = g.S.Source.allowed in
    always allowed (IsLawful allowed) (λ w s. record {
      open_flights_differ = open_flights_differ w s;
      tickets_name_their_places = tickets_name_their_places w s;
      rights_stand_once = rights_stand_once w s;
      tickets_are_served = tickets_are_served w s;
      flights_go_once = flights_go_once w s;
      replies_follow_outcomes = replies_follow_outcomes w s;
      wishes_keep_order = wishes_keep_order w s;
      workers_differ = workers_differ w s;
      table_is_exact = table_is_exact w s;
      answers_are_allowed = s.allows;
    })
