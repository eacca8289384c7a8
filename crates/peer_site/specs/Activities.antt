-- When a client is given up. All times are those since its loop began.
use Rattle.std.specs.Prelude.{◌<◌, ◌-◌, ◌⊎◌, Bool, IsSomeAnd, IsTrue}
use Rattle.std.specs.Duration.{as_nanos}
use Rattle.std.specs.declared.time.Duration.{Duration}
use Rattle.peer_runtime.specs.declared.limits.Limits.{Limits}
use Rattle.peer_site.specs.declared.activity.Activity.{Activity}
use Rattle.peer_site.specs.declared.standing.Standing.{Standing}
use Rattle.peer_site.specs.declared.standing.Standing.TheVariants as standing

-- from the one time to the other it takes longer than the limit
abbrev pub IsLonger : Duration → Duration → Duration → Type 0
IsLonger limit since until = as_nanos limit < as_nanos until - as_nanos since

-- it neither sends nor takes anything for too long
abbrev pub IsSilent : Limits → Bool → Duration → Activity → Type 0
IsSilent limits full now a = IsLonger limits.silence a.last now ⊎ (IsTrue full × IsLonger limits.silence_when_full a.last now)

-- it sends for too long without a reply being sent, where no more connections can be had
abbrev pub IsSlow : Limits → Bool → Duration → Activity → Type 0
IsSlow limits full now a = IsTrue full × IsSomeAnd a.unanswered (λ since. IsLonger limits.request_when_full since now)

-- it takes nothing of what is to be sent for too long, by when that was last tried
abbrev pub TakesNothing : Limits → Activity → Type 0
TakesNothing limits a = IsSomeAnd a.refused_since (λ since. IsLonger limits.unread since a.refused)

-- it is to be given up
abbrev pub IsOverdue : Limits → Bool → Duration → Activity → Standing → Type 0
IsOverdue limits full now a standing.Lingers = IsLonger limits.linger a.last now
IsOverdue limits full now a standing.HasOutput = TakesNothing limits a
IsOverdue limits full now a standing.Waits = ⊥
IsOverdue limits full now a standing.IsReady = IsSlow limits full now a
IsOverdue limits full now a standing.Idle = IsSilent limits full now a ⊎ IsSlow limits full now a
