-- Sums of counts, modulo 2^64.
use Rattle.std.specs.Prelude.{ℕ, ◌+◌, ◌^◌, ◌%◌}
use Rattle.peer_stats.specs.declared.counts.LoopCounts.{LoopCounts}
use Rattle.peer_stats.specs.declared.counts.FillerCounts.{FillerCounts}
use Rattle.peer_stats.specs.declared.counts.AskCounts.{AskCounts}
use Rattle.peer_stats.specs.declared.counts.ReplyCounts.{ReplyCounts}
use Rattle.peer_stats.specs.declared.counts.CloseCounts.{CloseCounts}
use Rattle.peer_stats.specs.declared.counts.FailureCounts.{FailureCounts}
use Rattle.peer_stats.specs.declared.counts.TrafficCounts.{TrafficCounts}
use Rattle.peer_stats.specs.declared.failure.OriginFailure.{OriginFailure}
use Rattle.peer_stats.specs.declared.failure.OriginFailure.TheVariants as failure

-- two counts together
abbrev pub sum_of : ℕ → ℕ → ℕ
sum_of a b = (a + b) % 2 ^ 64

-- what two loops have counted together
abbrev pub loop_sum : LoopCounts → LoopCounts → LoopCounts
loop_sum a b = record {
  asked = sum_of a.asked b.asked;
  hits = sum_of a.hits b.hits;
  led = sum_of a.led b.led;
  joined = sum_of a.joined b.joined;
  strangers = sum_of a.strangers b.strangers;
  connections = sum_of a.connections b.connections;
}

-- what two fillers have counted together
abbrev pub filler_sum : FillerCounts → FillerCounts → FillerCounts
filler_sum a b = record { calls = sum_of a.calls b.calls; rehits = sum_of a.rehits b.rehits }

-- what two loops have counted of a group together
abbrev pub ask_sum : AskCounts → AskCounts → AskCounts
ask_sum a b = record {
  hits = sum_of a.hits b.hits;
  led = sum_of a.led b.led;
  joined = sum_of a.joined b.joined;
}

-- the replies of two loops together
abbrev pub reply_sum : ReplyCounts → ReplyCounts → ReplyCounts
reply_sum a b = record {
  ok = sum_of a.ok b.ok;
  bad_request = sum_of a.bad_request b.bad_request;
  not_found = sum_of a.not_found b.not_found;
  not_allowed = sum_of a.not_allowed b.not_allowed;
  content_too_large = sum_of a.content_too_large b.content_too_large;
  head_too_large = sum_of a.head_too_large b.head_too_large;
  failed = sum_of a.failed b.failed;
  not_implemented = sum_of a.not_implemented b.not_implemented;
  unknown_groups = sum_of a.unknown_groups b.unknown_groups;
}

-- the bytes of the clients of two loops together
abbrev pub traffic_sum : TrafficCounts → TrafficCounts → TrafficCounts
traffic_sum a b = record { received = sum_of a.received b.received; sent = sum_of a.sent b.sent }

-- the connections of two loops that ended together
abbrev pub close_sum : CloseCounts → CloseCounts → CloseCounts
close_sum a b = record {
  client = sum_of a.client b.client;
  reply = sum_of a.reply b.reply;
  silent = sum_of a.silent b.silent;
  slow = sum_of a.slow b.slow;
  crowded = sum_of a.crowded b.crowded;
  memory = sum_of a.memory b.memory;
  end = sum_of a.end b.end;
}

-- the failures of two groups together
abbrev pub failure_sum : FailureCounts → FailureCounts → FailureCounts
failure_sum a b = record {
  no_such_key = sum_of a.no_such_key b.no_such_key;
  status = sum_of a.status b.status;
  unreached = sum_of a.unreached b.unreached;
  late = sum_of a.late b.late;
  lost = sum_of a.lost b.lost;
  malformed = sum_of a.malformed b.malformed;
  too_long = sum_of a.too_long b.too_long;
  memory = sum_of a.memory b.memory;
}

-- the failures of one kind
abbrev pub failures_of : OriginFailure → FailureCounts → ℕ
failures_of failure.NoSuchKey c = c.no_such_key
failures_of failure.Status c = c.status
failures_of failure.Unreached c = c.unreached
failures_of failure.Late c = c.late
failures_of failure.Lost c = c.lost
failures_of failure.Malformed c = c.malformed
failures_of failure.TooLong c = c.too_long
failures_of failure.Memory c = c.memory
