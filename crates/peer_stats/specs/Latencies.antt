-- What the page tells of how long things take: histograms, in Prometheus' text format 0.0.4.
use Rattle.std.specs.Prelude.{ℕ, List, [], ◌++◌, codes, decimal, flat_map}
use Rattle.peer_stats.specs.Families.{family_text, number_text, seconds_text}
use Rattle.peer_stats.specs.Labels.{label_text}
use Rattle.peer_stats.specs.Times.{count_in_first}
use Rattle.peer_stats.specs.declared.counts.GroupCounts.{GroupCounts}
use Rattle.peer_stats.specs.declared.latencies.GroupTime.{GroupTime}
use Rattle.peer_stats.specs.declared.latencies.GroupTime.TheVariants as the
use Rattle.peer_stats.specs.declared.latencies.Which.{Which}
use Rattle.peer_stats.specs.declared.latencies.Which.TheVariants as which
use Rattle.peer_stats.specs.declared.times.Bound.{Bound}
use Rattle.peer_stats.specs.declared.times.LoopTurns.{LoopTurns}
use Rattle.peer_stats.specs.declared.times.TimeCounts.{TimeCounts}

-- what stands before the bound of a bucket of all, of a group or of a loop
abbrev pub first_label_text : Which → List ℕ → List ℕ
first_label_text which.All value = []
first_label_text which.Group value = codes "group=\"" ++ label_text value ++ codes "\","
first_label_text which.Loop value = codes "loop=\"" ++ label_text value ++ codes "\","

-- the same of a number without a bound
abbrev pub only_label_text : Which → List ℕ → List ℕ
only_label_text which.All value = codes " "
only_label_text which.Group value = codes "{group=\"" ++ label_text value ++ codes "\"} "
only_label_text which.Loop value = codes "{loop=\"" ++ label_text value ++ codes "\"} "

-- how many were counted that are not above a bound
abbrev pub bucket_text : List ℕ → Which → List ℕ → List ℕ → ℕ → List ℕ
bucket_text name of value bound count =
    name ++ codes "_bucket{" ++ first_label_text of value ++ codes "le=\"" ++ bound ++ codes "\"} " ++ number_text count

-- the same of one of the bounds: those of all places up to its own
abbrev pub bound_bucket_text : List ℕ → Which → List ℕ → List ℕ → Bound → List ℕ
bound_bucket_text name of value places b = bucket_text name of value b.text.now (count_in_first places b.places)

-- all of a histogram: each bucket, the sum, and how many there are, which is the bucket without a bound
abbrev pub times_text : List ℕ → Which → List ℕ → TimeCounts → List ℕ
times_text name of value counts =
    flat_map (bound_bucket_text name of value counts.places) counts.bounds.now
    ++ bucket_text name of value (codes "+Inf") (count_in_first counts.places 16)
    ++ name ++ codes "_sum" ++ only_label_text of value ++ seconds_text counts.micros
    ++ name ++ codes "_count" ++ only_label_text of value ++ number_text (count_in_first counts.places 16)

-- each time of a group
abbrev pub time_of : GroupTime → GroupCounts → TimeCounts
time_of the.Fetches g = g.fetches
time_of the.Waits g = g.waits

-- the histogram of a group
abbrev pub group_times_text : List ℕ → GroupTime → GroupCounts → List ℕ
group_times_text name time g = times_text name which.Group g.name.now (time_of time g)

-- that of each group, in their order
abbrev pub each_times_text : List ℕ → GroupTime → List GroupCounts → List ℕ
each_times_text name time groups = flat_map (group_times_text name time) groups

-- that of a loop
abbrev pub loop_turns_text : LoopTurns → List ℕ
loop_turns_text l = times_text (codes "peer_front_loop_turn_duration_seconds") which.Loop (decimal l.number) l.turns

-- how long values of groups were under way
abbrev pub fetches_text : List GroupCounts → List ℕ
fetches_text groups =
    family_text (codes "peer_front_fetch_duration_seconds") (codes "histogram")
    (codes "Time from when a value of the group was under way until it was there or was given up, second requests included.")
    ++ each_times_text (codes "peer_front_fetch_duration_seconds") the.Fetches groups

-- how long they waited until they were
abbrev pub queue_text : TimeCounts → List ℕ
queue_text counts =
    family_text (codes "peer_front_queue_duration_seconds") (codes "histogram")
    (codes "Time from when a fetcher took a key off the queue until its value was under way, or was given up before.")
    ++ times_text (codes "peer_front_queue_duration_seconds") which.All [] counts

-- how long clients waited for values of groups
abbrev pub waits_text : List GroupCounts → List ℕ
waits_text groups =
    family_text (codes "peer_front_wait_duration_seconds") (codes "histogram")
    (codes "Time for which the first request of a client that had no reply waited for a value of the group, until its reply could be sent.")
    ++ each_times_text (codes "peer_front_wait_duration_seconds") the.Waits groups

-- how long the turns of loops took
abbrev pub turns_text : List LoopTurns → List ℕ
turns_text turns =
    family_text (codes "peer_front_loop_turn_duration_seconds") (codes "histogram")
    (codes "Time of a turn of the loop; of one before a wait for events what is over the longest wait, if that is 10 ms or more.")
    ++ flat_map loop_turns_text turns

-- all of it
abbrev pub latencies_text : TimeCounts → List GroupCounts → List LoopTurns → List ℕ
latencies_text queued groups turns = fetches_text groups ++ queue_text queued ++ waits_text groups ++ turns_text turns
