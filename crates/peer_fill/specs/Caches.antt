-- What a pool's caches keep, and what they give.
use Rattle.std.specs.Prelude.{◌≡◌, ℕ, List, All, length, set, slice_get, Option, None, Some}
use Rattle.std.specs.Option.{ForSome, option_map_or}
use Rattle.std.specs.NonZero.{non_zero_usize_get}
use Rattle.peer_source.specs.Answers.{Filled}
use Rattle.peer_source.specs.Caches.{Cache, bounded_cache, empty_cache, found_fill, fill_of}
use Rattle.peer_fill.specs.Plans.{group_plan}
use Rattle.peer_fill.specs.declared.plan.CachePlan.{CachePlan}
use Rattle.peer_fill.specs.declared.plan.CachePlan.TheVariants.{Single, Sharded}

-- the cache in each place is that of the group with this number
pub record EachInPlace (caches : List Cache) : Type 0 where
  pub in_place : (i : ℕ) → ForSome (slice_get caches i) (λ c. c.group ≡ i)

-- the cache of a group as its plan says, without an entry
abbrev pub planned_cache : CachePlan → ℕ → Cache
planned_cache (Single limit) group = empty_cache group limit
planned_cache (Sharded shards bounds) group =
    bounded_cache group bounds.limit (non_zero_usize_get bounds.most) bounds.each

-- so many caches without an entry, each as the plan of its own group says
pub record ArePlanned (plan : CachePlan) (own : List CachePlan) (groups : ℕ) (caches : List Cache) : Type 0 where
  pub count : length caches ≡ groups
  pub each : All (λ c. c ≡ planned_cache (group_plan plan own c.group) c.group) caches

-- the same caches, of which that of the group is changed so, where there is one
abbrev pub with_cache : (Cache → Cache) → ℕ → List Cache → List Cache
with_cache f group caches = option_map_or (λ c. set caches group (f c)) (slice_get caches group) caches

-- it is the fill of a value that was found for this group and key
abbrev pub IsFoundFor : ℕ → List ℕ → Filled → Type 0
IsFoundFor group key fill = (value : List ℕ) × (fill ≡ found_fill group key value)

-- the fill of the value that a cache keeps for the key, where there is a cache
abbrev pub fill_in : List ℕ → Option Cache → Option Filled
fill_in key None = None
fill_in key (Some c) = fill_of key c

-- the fill of the value that these caches keep for the group and the key
abbrev pub kept_fill : List Cache → ℕ → List ℕ → Option Filled
kept_fill caches group key = fill_in key (slice_get caches group)
