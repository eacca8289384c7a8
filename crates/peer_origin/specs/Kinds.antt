-- How the faults of origins are counted.
use Rattle.std.specs.Prelude.{cond, ◌==◌}
use Rattle.peer_origin.specs.declared.fault.FetchFault.{FetchFault}
use Rattle.peer_origin.specs.declared.fault.FetchFault.TheVariants as fault
use Rattle.peer_stats.specs.declared.failure.OriginFailure.{OriginFailure}
use Rattle.peer_stats.specs.declared.failure.OriginFailure.TheVariants as failure

-- each by its own kind, and 404 apart from other statuses
abbrev pub kind_of : FetchFault → OriginFailure
kind_of fault.Unreached = failure.Unreached
kind_of fault.Late = failure.Late
kind_of fault.Lost = failure.Lost
kind_of fault.Malformed = failure.Malformed
kind_of (fault.Status status) = cond (status == 404) failure.NoSuchKey failure.Status
kind_of fault.TooLong = failure.TooLong
kind_of fault.Memory = failure.Memory
