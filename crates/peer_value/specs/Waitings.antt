-- The values that wait until another one of their group may be under way.
use Rattle.std.specs.Prelude.{◌≡◌, ℕ, Err, List, [], length, option_map, sum_by, unwrap_or, slice_get}
use Rattle.std.specs.VecDeque.{deque_items}
use Rattle.peer_source.specs.declared.source.Source as Source
use Rattle.peer_origin.specs.declared.fault.FetchFault.TheVariants as fault
use Rattle.peer_value.specs.declared.done.Done.{Done}
use Rattle.peer_value.specs.declared.under_way.UnderWay.{UnderWay}
use Rattle.peer_value.specs.declared.waiting.Waiting.{Waiting}

-- what the line with this number holds, and nothing where there is none
abbrev pub line_in : {D X : Type 0} → (D → List X) → List D → ℕ → List X
line_in items lines n = unwrap_or (option_map items (slice_get lines n)) []

module _ {S : Type 0} {g : Source.Ghosts S} where
  -- those that wait for a group, each behind those that came before it
  abbrev pub line_of : Waiting S g → ℕ → List (UnderWay S g)
  line_of w group = line_in deque_items w.lines.items group

  -- how many wait for all groups
  abbrev pub count_of : Waiting S g → ℕ
  count_of w = sum_by (λ line. length (deque_items line)) w.lines.items

  -- the job is given back, since memory was refused
  abbrev pub IsRefused : UnderWay S g → Done S g → Type 0
  IsRefused u d = (d.job ≡ u.job) × (d.got ≡ Err fault.Memory)
