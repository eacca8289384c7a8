-- The page of numbers, in Prometheus' text format 0.0.4.
use Rattle.std.specs.Prelude.{ℕ, ◌-◌, List, [], ◌∷◌, ◌++◌, Bool, Option, Some, None, codes, cond}
use Rattle.peer_stats.specs.Families.{bound_text, counter_text, family_text, gauge_text, hundredths_text, rows_text}
use Rattle.peer_stats.specs.Groups.{groups_text}
use Rattle.peer_stats.specs.Labels.{label_text}
use Rattle.peer_stats.specs.Latencies.{latencies_text}
use Rattle.peer_stats.specs.Services.{services_text}
use Rattle.peer_stats.specs.declared.counts.LoopCounts.{LoopCounts}
use Rattle.peer_stats.specs.declared.counts.FillerCounts.{FillerCounts}
use Rattle.peer_stats.specs.declared.counts.AcceptCounts.{AcceptCounts}
use Rattle.peer_stats.specs.declared.counts.CloseCounts.{CloseCounts}
use Rattle.peer_stats.specs.declared.counts.ReplyCounts.{ReplyCounts}
use Rattle.peer_stats.specs.declared.counts.FailureCounts.{FailureCounts}
use Rattle.peer_stats.specs.declared.counts.TrafficCounts.{TrafficCounts}
use Rattle.peer_stats.specs.declared.counts.Counts.{Counts}
use Rattle.peer_stats.specs.declared.counts.GroupCounts.{GroupCounts}
use Rattle.peer_stats.specs.declared.numbers.Build.{Build}
use Rattle.peer_stats.specs.declared.numbers.Numbers.{Numbers}
use Rattle.peer_stats.specs.declared.numbers.ProcessCounts.{ProcessCounts}
use Rattle.peer_stats.specs.declared.numbers.ServerBounds.{ServerBounds}
use Rattle.peer_stats.specs.declared.service_counts.ServiceCounts.{ServiceCounts}
use Rattle.peer_stats.specs.declared.times.LoopTurns.{LoopTurns}

-- the version of the program, and the logic of its toolchain
abbrev pub build_text : Build → List ℕ
build_text b =
    family_text (codes "peer_front_build_info") (codes "gauge")
    (codes "Version of the program, and the logic of the toolchain that it is proved with; always 1.")
    ++ codes "peer_front_build_info{version=\"" ++ label_text b.version.now ++ codes "\",toolchain=\"" ++ label_text b.toolchain.now
    ++ codes "\"} 1\n"

-- the keys that were led and that nobody has taken yet
abbrev pub queued : Counts → ℕ
queued c = c.loops.led - c.fillers.calls - c.fillers.rehits

-- what loops have counted
abbrev pub loops_text : LoopCounts → List ℕ
loops_text c =
    counter_text (codes "peer_front_asked_total") c.asked (codes "Values asked for.")
    ++ counter_text (codes "peer_front_hits_total") c.hits (codes "Asks that a cache answered.")
    ++ counter_text (codes "peer_front_led_total") c.led (codes "Asks that began a flight.")
    ++ counter_text (codes "peer_front_joined_total") c.joined (codes "Asks that joined a flight under way.")
    ++ counter_text (codes "peer_front_strangers_total") c.strangers (codes "Fills of another key than was asked for.")

-- what fillers have counted
abbrev pub fillers_text : FillerCounts → List ℕ
fillers_text c =
    counter_text (codes "peer_front_calls_total") c.calls (codes "Flights that were taken for a call of the source.")
    ++ counter_text (codes "peer_front_rehits_total") c.rehits (codes "Flights whose value a cache had by then.")

-- connections: those that are open, and what the thread that accepts has counted
abbrev pub connections_text : ℕ → AcceptCounts → List ℕ
connections_text connected c =
    gauge_text (codes "peer_front_connections") connected (codes "Connections that are open.")
    ++ counter_text (codes "peer_front_connections_accepted_total") c.accepted (codes "Connections accepted.")
    ++ counter_text (codes "peer_front_accept_failures_total") c.failed (codes "Accepts that failed.")

-- the bytes of clients
abbrev pub traffic_text : TrafficCounts → List ℕ
traffic_text c =
    counter_text (codes "peer_front_received_bytes_total") c.received (codes "Bytes that clients sent.")
    ++ counter_text (codes "peer_front_sent_bytes_total") c.sent (codes "Bytes that clients took.")

-- the connections that ended, by why
abbrev pub closes_text : CloseCounts → List ℕ
closes_text c =
    family_text (codes "peer_front_connections_closed_total") (codes "counter")
    (codes "Connections that ended, by why: client, reply, silent, slow, crowded, memory, end.")
    ++ rows_text (codes "peer_front_connections_closed_total")
    ((codes "reason=\"client\"", c.client) ∷
    (codes "reason=\"reply\"", c.reply) ∷
    (codes "reason=\"silent\"", c.silent) ∷
    (codes "reason=\"slow\"", c.slow) ∷
    (codes "reason=\"crowded\"", c.crowded) ∷
    (codes "reason=\"memory\"", c.memory) ∷
    (codes "reason=\"end\"", c.end) ∷ [])

-- the replies, by their status codes
abbrev pub replies_text : ReplyCounts → List ℕ
replies_text c =
    family_text (codes "peer_front_replies_total") (codes "counter") (codes "Replies by their status code.")
    ++ rows_text (codes "peer_front_replies_total")
    ((codes "code=\"200\"", c.ok) ∷
    (codes "code=\"400\"", c.bad_request) ∷
    (codes "code=\"404\"", c.not_found) ∷
    (codes "code=\"405\"", c.not_allowed) ∷
    (codes "code=\"413\"", c.content_too_large) ∷
    (codes "code=\"431\"", c.head_too_large) ∷
    (codes "code=\"500\"", c.failed) ∷
    (codes "code=\"501\"", c.not_implemented) ∷ [])
    ++ counter_text (codes "peer_front_unknown_groups_total") c.unknown_groups (codes "Requests for a group that is not served here.")

-- the failures of origins
abbrev pub failures_text : FailureCounts → List ℕ
failures_text c =
    family_text (codes "peer_front_origin_failures_total") (codes "counter") (codes "Calls for which a service gave no value.")
    ++ rows_text (codes "peer_front_origin_failures_total")
    ((codes "kind=\"no_such_key\"", c.no_such_key) ∷
    (codes "kind=\"status\"", c.status) ∷
    (codes "kind=\"unreached\"", c.unreached) ∷
    (codes "kind=\"late\"", c.late) ∷
    (codes "kind=\"lost\"", c.lost) ∷
    (codes "kind=\"malformed\"", c.malformed) ∷
    (codes "kind=\"too_long\"", c.too_long) ∷
    (codes "kind=\"memory\"", c.memory) ∷ [])

-- how much the server may have at one moment
abbrev pub bounds_text : ServerBounds → List ℕ
bounds_text b =
    gauge_text (codes "peer_front_connections_limit") b.connections (codes "Connections that may be open.")
    ++ gauge_text (codes "peer_front_under_way_limit") b.under_way (codes "Values that may be under way, on all fetchers together.")
    ++ gauge_text (codes "peer_front_untaken_limit_bytes") b.untaken_bytes (codes "Bytes that clients may have that they have not taken.")

-- how many they are
abbrev pub queued_text : Counts → List ℕ
queued_text c = gauge_text (codes "peer_front_jobs_queued") (queued c) (codes "Keys that were led and that nobody has taken yet.")

-- whether clients are served
abbrev pub ready_text : Bool → List ℕ
ready_text is_ready = gauge_text (codes "peer_front_ready") (cond is_ready 1 0) (codes "Whether /readyz is answered by 200.")

-- what the server has at the moment
abbrev pub held_text : Numbers → List ℕ
held_text n =
    queued_text n.counts
    ++ gauge_text (codes "peer_front_untaken_bytes") n.counts.untaken_bytes (codes "Bytes that clients have not taken.")
    ++ gauge_text (codes "peer_front_cache_bytes") n.counts.cache_bytes (codes "Bytes in all caches: keys, values and what holds them.")
    ++ ready_text n.is_ready
    ++ gauge_text (codes "peer_front_uptime_seconds") n.seconds (codes "Seconds since the start.")

-- how long the process has run, of its processors and since when
abbrev pub process_times_text : ProcessCounts → List ℕ
process_times_text p =
    family_text (codes "process_cpu_seconds_total") (codes "counter") (codes "Seconds of processors that the process took.")
    ++ codes "process_cpu_seconds_total "
    ++ hundredths_text p.cpu_hundredths
    ++ family_text (codes "process_start_time_seconds") (codes "gauge") (codes "When the process was started, in seconds since 1970.")
    ++ codes "process_start_time_seconds "
    ++ hundredths_text p.start_hundredths

-- what the system tells of the process
abbrev pub process_text : ProcessCounts → List ℕ
process_text p =
    process_times_text p
    ++ gauge_text (codes "process_resident_memory_bytes") p.resident_bytes (codes "Bytes of memory that the process has.")
    ++ gauge_text (codes "process_virtual_memory_bytes") p.virtual_bytes (codes "Bytes of addresses that the process has.")
    ++ gauge_text (codes "process_threads") p.threads (codes "Threads of the process.")
    ++ gauge_text (codes "process_open_fds") p.open_files (codes "Files that the process has open.")
    ++ family_text (codes "process_max_fds") (codes "gauge") (codes "Files that the process may open; +Inf without such a limit.")
    ++ codes "process_max_fds "
    ++ bound_text p.most_files

-- the same, if it tells it
abbrev pub some_process_text : Option ProcessCounts → List ℕ
some_process_text (Some p) = process_text p
some_process_text None = []

-- what threads have counted
abbrev pub counts_text : Counts → List ℕ
counts_text c =
    loops_text c.loops ++ fillers_text c.fillers ++ connections_text c.loops.connections c.accepts
    ++ traffic_text c.traffic ++ closes_text c.closes ++ replies_text c.replies ++ failures_text c.failures
    ++ counter_text (codes "peer_front_access_log_dropped_total") c.log_dropped (codes "Replies that have no line in the access log.")

-- the whole page
abbrev pub page_text : Numbers → List GroupCounts → List LoopTurns → List ServiceCounts → Build → List ℕ
page_text n groups turns services build =
    build_text build ++ counts_text n.counts ++ groups_text groups ++ latencies_text n.counts.queued groups turns ++ services_text services
    ++ bounds_text n.bounds ++ held_text n ++ some_process_text n.process
