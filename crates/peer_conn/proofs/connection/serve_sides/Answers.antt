use Rattle.std.proofs.Common.{◌∙◌, ap, arith, refl}
use Rattle.peer_fill.specs.Seats.{asks_of}
use Rattle.peer_wish.specs.Strangers.{flights_in}
use Rattle.peer_conn.proofs.EndLemmas.{answers_all}
use Rattle.peer_conn.proofs.StrangerLemmas.{counts_then, seat_counts}
use Rattle.peer_conn.proofs.connection.serve_sides.Goals as goal

pub returns-clause-strangers : goal.returns-clause-strangers
returns-clause-strangers g c =
    let sides = c.run_sides-read.ensures in
    let puts = sides.read.puts in
    let none = ap flights_in c.requires.sides.1 in
    seat_counts (asks_of c.args.reader.seat) _ _ c.requires.sides.3 c.requires.sides.2 (counts_then sides.wrote.strangers c.write_left.ensures.left.strangers) puts.strangers
    (omega (arith, puts.flights, none)) c.args.reader.seat.most_strangers c.add_strangers.ensures.counts

pub returns-clause-serves : goal.returns-clause-serves
returns-clause-serves g c =
    let sides = c.run_sides-read.ensures in
    record {
      wishes = sides.read.wishes;
      stop = _;
      requests = _;
      responses = c.write_left.new.self.responses;
      stops = sides.read.stops;
      replies = answers_all sides.read sides.wrote c.write_left.ensures.left c.requires.sides.1 c.requires.sides.2;
      empty = c.write_left.ensures.empty;
      counted = ap (λ a. a.asked) c.add_strangers.ensures.counts ∙ sides.read.puts.asked;
      gave = refl;
      took = refl;
      end = c.end_of.ensures;
    }
