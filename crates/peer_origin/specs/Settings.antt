-- Which settings become those of which group.
use Rattle.std.specs.Prelude.{◌≡◌, ◌≢◌, ℕ, List, Some, slice_index_or}
use Rattle.peer_origin.specs.Endpoints.{addresses_of, own_of}
use Rattle.peer_origin.specs.Origins.{number_from}
use Rattle.peer_origin.specs.declared.group_settings.GroupSettings.{GroupSettings}
use Rattle.peer_origin.specs.declared.origin.Origin.{Origin}

-- its group has these settings, and nothing else of it changed
pub record IsSetTo (own : GroupSettings) (old new : Origin) : Type 0 where
  pub settings : own_of new.endpoint ≡ own
  pub name : new.name ≡ old.name
  pub addresses : addresses_of new.endpoint ≡ addresses_of old.endpoint
  pub host : new.endpoint.host ≡ old.endpoint.host
  pub prefix : new.endpoint.prefix ≡ old.endpoint.prefix

-- the group with this name has these settings, and no other group changed
pub record SetsGroup (name : List ℕ) (own : GroupSettings) (old new : List Origin) : Type 0 where
  pub named : (n : ℕ) (d : Origin) → number_from 0 old name ≡ Some n → IsSetTo own (slice_index_or old n d) (slice_index_or new n d)
  pub others : (n : ℕ) (d : Origin) → number_from 0 old name ≢ Some n → slice_index_or new n d ≡ slice_index_or old n d
