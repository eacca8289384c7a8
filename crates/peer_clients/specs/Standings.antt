-- What a client does at the moment.
use Rattle.std.specs.Prelude.{Bool, ◌||◌, cond}
use Rattle.peer_site.specs.declared.standing.Standing.{Standing}
use Rattle.peer_site.specs.declared.standing.Standing.TheVariants as standing
use Rattle.peer_exchange.specs.Rests.{rest_of}
use Rattle.peer_exchange.specs.declared.exchange_state.ExchangeState.{ExchangeState}
use Rattle.peer_exchange.specs.declared.rest.Rest.{Rest}

-- the first of these that holds: its close lingers, output is to be sent, a value or room for a job is to come, it is to have a turn
abbrev pub standing_by : Bool → Bool → Rest → Standing
standing_by lingers ready rest =
    cond lingers standing.Lingers (cond rest.output standing.HasOutput (cond (rest.fill || rest.job) standing.Waits
    (cond ready standing.IsReady standing.Idle)))

-- the same by the state of its connection
abbrev pub standing_of : {S : Type 0} → Bool → Bool → ExchangeState S → Standing
standing_of lingers ready e = standing_by lingers ready (rest_of e)
