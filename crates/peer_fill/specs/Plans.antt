-- How the caches of a pool are planned.
use Rattle.std.specs.Prelude.{◌≡◌, ℕ, ◌+◌, ◌*◌, ◌/◌, ◌<◌, ◌≤◌, ◌⊎◌, List, [], ◌∷◌, Contains, Option, None, Some, max, min}
use Rattle.std.specs.Prelude.{slice_get, unwrap_or}
use Rattle.std.specs.NonZero.{non_zero_usize_get}
use Rattle.peer_fill.specs.declared.plan.Bounds.{Bounds}
use Rattle.peer_fill.specs.declared.plan.CachePlan.{CachePlan}
use Rattle.peer_fill.specs.declared.plan.CachePlan.TheVariants.{Single, Sharded}

-- the largest of the powers of two up to 64 that is not above a number, and 1 for 0
pub record IsLargestPower (most power : ℕ) : Type 0 where
  pub one : Contains (1 ∷ 2 ∷ 4 ∷ 8 ∷ 16 ∷ 32 ∷ 64 ∷ []) power
  pub within : (power ≡ 1) ⊎ (power ≤ most)
  pub largest : (power ≡ 64) ⊎ (most < 2 * power)

-- how many keys a cache may keep for which no number is given
abbrev pub keys_of : Option ℕ → ℕ
keys_of None = 18446744073709551615
keys_of (Some keys) = keys

-- so many shards of 16 MiB and 1,024 keys each at least share the bytes and the keys; 144 bytes are counted for an entry
pub record ArePartsOf (bytes keys shards : ℕ) (bounds : Bounds) : Type 0 where
  pub count : IsLargestPower (min (bytes / 16777216) (keys / 1024)) shards
  pub limit : bounds.limit ≡ bytes / shards
  pub most : non_zero_usize_get bounds.most ≡ max 1 (keys / shards)
  pub each : bounds.each ≡ 144

-- a plan of shards that share the bytes and the keys
abbrev pub IsPlanFor : ℕ → Option ℕ → CachePlan → Type 0
IsPlanFor bytes keys (Single limit) = ⊥
IsPlanFor bytes keys (Sharded shards bounds) = ArePartsOf bytes (keys_of keys) (non_zero_usize_get shards) bounds

-- the plan of the group with this number: its own, or the one of all groups that have none
abbrev pub group_plan : CachePlan → List CachePlan → ℕ → CachePlan
group_plan plan own number = unwrap_or (slice_get own number) plan

-- how many shards a group with this plan has
abbrev pub shards_of : CachePlan → ℕ
shards_of (Single limit) = 1
shards_of (Sharded shards bounds) = min (non_zero_usize_get shards) 64

-- so many groups have as many shards as their plans say, by the place of the last shard of each
pub record HaveShards (plan : CachePlan) (own : List CachePlan) (groups : ℕ) (last_places : List ℕ) : Type 0 where
  pub each : (i last : ℕ) → i < groups → slice_get last_places i ≡ Some last → last + 1 ≡ shards_of (group_plan plan own i)
