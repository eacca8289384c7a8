use Rattle.std.proofs.Common.{refl, arith, sym, ◌∙◌, ap}
use Rattle.peer_reply.specs.declared.wish.WishBody.TheVariants as wish
use Rattle.peer_flight.specs.SingleFlight.{Place}
use Rattle.peer_reply.specs.declared.wish.WishBody.{WishBody}
use Rattle.peer_wish.specs.Tickets.{body_by, asks_in_body}
use Rattle.peer_wish.specs.Strangers.{flights_in_body}
use Rattle.peer_conn.proofs.ReaderSideLemmas.{puts_one}
use Rattle.peer_conn.proofs.StrangerLemmas.{flights_of_ask}
use Rattle.peer_conn.proofs.reader_side.ReaderSide.put.Goals as goal
use Rattle.peer_conn.proofs.reader_side.ReaderSide.put.Goals.{in-Fault, in-Get+in_ok-ask-in-Get}

pub returns-clause-put : goal.returns-clause-put
returns-clause-put g c =
    let lane = c.put_waiting.ensures in
    elim c.match-body.branch [
      | in-Fault w ↦ puts_one c.args.wish c.match-body.body w.self-is c.requires.seat refl refl (let n = ap flights_in_body w.body-is in omega (arith, n)) (let n = ap asks_in_body w.in-Fault.is in omega (arith, n)) lane.lane lane.put (ap body_by w.body-is ∙ sym w.in-Fault.is)
      | in-Get+in_ok-ask-in-Get w ↦
          let asked = w.in_ok-ask-in-Get.ensures in
          let wish_at : Place → WishBody = λ p. wish.Get (record { number = p.group }) p.key in
          puts_one c.args.wish c.match-body.body w.self-is asked.seat.own asked.seat.parts asked.claim.counted.strangers
          (let n = ap flights_in_body w.body-is in omega (arith, n, flights_of_ask asked.claim.counted)) (let n = ap asks_in_body w.in-Get.is in omega (arith, n, asked.claim.counted.asked)) lane.lane lane.put (ap body_by w.body-is ∙ ap wish_at asked.claim.place ∙ sym w.in-Get.is)
    ]
