-- How many instances and components are granted at once, with those that requests on their way may still be granted.
use Rattle.std.specs.Prelude.{ℕ, ◌+◌, ◌≤◌, List, sum_by}
use Rattle.pool_run.specs.Imports.{Stage, asks, admitted, stage_of, grant_instances, grant_components, PoolCore, PlainHeap}
use Rattle.pool_run.specs.Ties.{granted_to}
use Rattle.pool_run.specs.declared.running_party.RunningParty.{RunningParty}

-- A call was admitted for an instance, from where it was counted below the limit until it is granted or refused. A request
-- that is refused, also one at the limit, has counted an instance until it has given back all, but isn't granted it any
-- more.
abbrev pub admitted_at : Stage → ℕ
admitted_at (asks (admitted n)) = 1
admitted_at _ = 0

module _ {P : Type 0} where
  -- How many instances are granted to a party.
  abbrev pub live_instances : RunningParty P → ℕ
  live_instances p = sum_by (granted_to grant_instances) p.live

  -- How many components are granted to a party.
  abbrev pub live_components : RunningParty P → ℕ
  live_components p = sum_by (granted_to grant_components) p.live

  -- a party's live instances, and what its call was admitted for
  abbrev pub admitted_to : RunningParty P → ℕ
  admitted_to p = admitted_at (stage_of p.frame) + live_instances p

  -- At no time are more instances granted than there may be, nor can the requests on their way exceed that; and no more
  -- components. The counters themselves may stand above their limits while a request is refused there.
  pub record IsWithinCounts (c : PoolCore P PlainHeap) (parties : List (RunningParty P)) : Type 0 where
    pub instances : sum_by admitted_to parties ≤ c.settings.max_core_instances
    pub components : sum_by live_components parties ≤ c.settings.max_component_instances
