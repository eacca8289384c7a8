-- What the page tells of groups.
use Rattle.std.specs.Prelude.{ℕ, List, [], ◌∷◌, ◌++◌, Option, Some, codes, flat_map}
use Rattle.peer_stats.specs.Families.{bound_text, family_text}
use Rattle.peer_stats.specs.Labels.{label_text}
use Rattle.peer_stats.specs.declared.counts.GroupCounts.{GroupCounts}
use Rattle.peer_stats.specs.declared.group_number.GroupNumber.{GroupNumber}
use Rattle.peer_stats.specs.declared.group_number.GroupNumber.TheVariants as the

-- each number of a group, none if it has no bound
abbrev pub number_of : GroupNumber → GroupCounts → Option ℕ
number_of the.Hits g = Some g.asks.hits
number_of the.Led g = Some g.asks.led
number_of the.Joined g = Some g.asks.joined
number_of the.Calls g = Some g.fills.calls
number_of the.Rehits g = Some g.fills.rehits
number_of the.NoSuchKey g = Some g.failures.no_such_key
number_of the.Status g = Some g.failures.status
number_of the.Unreached g = Some g.failures.unreached
number_of the.Late g = Some g.failures.late
number_of the.Lost g = Some g.failures.lost
number_of the.Malformed g = Some g.failures.malformed
number_of the.TooLong g = Some g.failures.too_long
number_of the.Memory g = Some g.failures.memory
number_of the.Entries g = Some g.cache.entries
number_of the.Bytes g = Some g.cache.bytes
number_of the.LimitEntries g = g.limits.entries
number_of the.LimitBytes g = Some g.limits.bytes
number_of the.EvictedByBytes g = Some g.cache.evicted_by_bytes
number_of the.EvictedByKeys g = Some g.cache.evicted_by_keys
number_of the.TooLarge g = Some g.cache.too_large

-- a number of a group, with its name and the labels that follow the group's
abbrev pub group_text : List ℕ → List ℕ → GroupNumber → GroupCounts → List ℕ
group_text name labels number g =
    name ++ codes "{group=\"" ++ label_text g.name.now ++ codes "\"" ++ labels ++ codes "} " ++ bound_text (number_of number g)

-- that number of each group, in their order
abbrev pub each_text : List ℕ → List ℕ → GroupNumber → List GroupCounts → List ℕ
each_text name labels number groups = flat_map (group_text name labels number) groups

-- such numbers, each with its labels
abbrev pub group_rows_text : List ℕ → List (List ℕ × GroupNumber) → List GroupCounts → List ℕ
group_rows_text name rows groups = flat_map (λ row. each_text name row.0 row.1 groups) rows

-- the requests for values of groups, by what was found
abbrev pub asks_text : List GroupCounts → List ℕ
asks_text groups =
    family_text (codes "peer_front_group_asks_total") (codes "counter")
    (codes "Requests for a value of the group, by what was found: hit, a value; led, nothing; joined, that it is fetched.")
    ++ group_rows_text (codes "peer_front_group_asks_total")
    ((codes ",found=\"hit\"", the.Hits) ∷
    (codes ",found=\"led\"", the.Led) ∷
    (codes ",found=\"joined\"", the.Joined) ∷ []) groups

-- what became of the keys that nobody had
abbrev pub calls_text : List GroupCounts → List ℕ
calls_text groups =
    family_text (codes "peer_front_group_calls_total") (codes "counter") (codes "Keys of the group for which its source was called.")
    ++ each_text (codes "peer_front_group_calls_total") (codes "") the.Calls groups
    ++ family_text (codes "peer_front_group_rehits_total") (codes "counter")
    (codes "Keys of the group whose value its cache had before its source was called.")
    ++ each_text (codes "peer_front_group_rehits_total") (codes "") the.Rehits groups

-- the values that services of groups did not give, by why
abbrev pub group_failures_text : List GroupCounts → List ℕ
group_failures_text groups =
    family_text (codes "peer_front_group_origin_failures_total") (codes "counter")
    (codes "Values of the group that its service did not give, by why.")
    ++ group_rows_text (codes "peer_front_group_origin_failures_total")
    ((codes ",kind=\"no_such_key\"", the.NoSuchKey) ∷
    (codes ",kind=\"status\"", the.Status) ∷
    (codes ",kind=\"unreached\"", the.Unreached) ∷
    (codes ",kind=\"late\"", the.Late) ∷
    (codes ",kind=\"lost\"", the.Lost) ∷
    (codes ",kind=\"malformed\"", the.Malformed) ∷
    (codes ",kind=\"too_long\"", the.TooLong) ∷
    (codes ",kind=\"memory\"", the.Memory) ∷ []) groups

-- what the caches of groups have
abbrev pub kept_text : List GroupCounts → List ℕ
kept_text groups =
    family_text (codes "peer_front_group_cache_entries") (codes "gauge") (codes "Keys in the cache of the group.")
    ++ each_text (codes "peer_front_group_cache_entries") (codes "") the.Entries groups
    ++ family_text (codes "peer_front_group_cache_bytes") (codes "gauge")
    (codes "Bytes in the cache of the group: keys, values and what holds them.")
    ++ each_text (codes "peer_front_group_cache_bytes") (codes "") the.Bytes groups

-- what they may have
abbrev pub limits_text : List GroupCounts → List ℕ
limits_text groups =
    family_text (codes "peer_front_group_cache_limit_entries") (codes "gauge")
    (codes "Keys that the cache of the group may have; +Inf without such a limit.")
    ++ each_text (codes "peer_front_group_cache_limit_entries") (codes "") the.LimitEntries groups
    ++ family_text (codes "peer_front_group_cache_limit_bytes") (codes "gauge")
    (codes "Bytes that the cache of the group may have: keys, values and what holds them.")
    ++ each_text (codes "peer_front_group_cache_limit_bytes") (codes "") the.LimitBytes groups

-- what left them, and what they did not keep
abbrev pub lost_text : List GroupCounts → List ℕ
lost_text groups =
    family_text (codes "peer_front_group_cache_evictions_total") (codes "counter")
    (codes "Entries that left the cache of the group to make room, by the bound that was met: bytes, keys.")
    ++ group_rows_text (codes "peer_front_group_cache_evictions_total")
    ((codes ",reason=\"bytes\"", the.EvictedByBytes) ∷
    (codes ",reason=\"keys\"", the.EvictedByKeys) ∷ []) groups
    ++ family_text (codes "peer_front_group_cache_rejected_total") (codes "counter")
    (codes "Values that the cache of the group did not keep, by why: too_large.")
    ++ each_text (codes "peer_front_group_cache_rejected_total") (codes ",reason=\"too_large\"") the.TooLarge groups

-- all of it
abbrev pub groups_text : List GroupCounts → List ℕ
groups_text groups =
    asks_text groups ++ calls_text groups ++ group_failures_text groups ++ kept_text groups ++ limits_text groups ++ lost_text groups
