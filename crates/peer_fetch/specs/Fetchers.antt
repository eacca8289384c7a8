-- What a thread that fetches has under way, and what waits in it.
use Rattle.std.specs.Prelude.{◌≡◌, ◌<◌}
use Rattle.peer_source.specs.declared.source.Source as Source
use Rattle.peer_value.specs.Waitings.{count_of}
use Rattle.peer_origin.specs.declared.wires.Wires as Wires
use Rattle.peer_fetch.specs.declared.fetcher.Fetcher.{Fetcher}

module _ {S H : Type 0} {g : Source.Ghosts S} {n : Wires.Ghosts H} where
  -- another job may be taken: fewer values are under way than may be, and fewer than 4,096 wait
  abbrev pub MayTakeJob : Fetcher S H g n → Type 0
  MayTakeJob f = (f.shares.total < f.shares.most) × (count_of f.waiting < 4096)

  -- no value is under way, and none waits
  abbrev pub HasNothing : Fetcher S H g n → Type 0
  HasNothing f = (f.shares.total ≡ 0) × (count_of f.waiting ≡ 0)
