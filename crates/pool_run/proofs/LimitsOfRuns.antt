-- A run keeps within the limits on instances and components from its start on, whatever its parties do.
use Rattle.std.proofs.Common.{◌≡◌, ℕ, ◌+◌, ◌-◌, ◌<◌, ◌≤◌, List, length, ap, arith, slice_set, slice_index_or, sum_by}
use Rattle.pool_run.proofs.Imports.{sum_by-set, sum_by-le-sum_by, get_or-le-sum_by, IsSameSize, IsUntouched, IsPartitioned, PoolCore, Settings, ModuleAsked, PlainHeap, counted_component, counted_instance, of_counts, only}
use Rattle.pool_run.specs.Limits.{admitted_to, live_instances, live_components, IsWithinCounts}
use Rattle.pool_run.specs.Rooms.{World}
use Rattle.pool_run.specs.Ties.{held_by_party, IsRunning, CanTurn}
use Rattle.pool_run.specs.Turns.{Turned, Turns}
use Rattle.pool_run.specs.Worlds.{AreCallsFor}
use Rattle.pool_run.specs.declared.command.Command.{Command}
use Rattle.pool_run.specs.declared.running_party.RunningParty.{RunningParty}
use Rattle.pool_run.proofs.Limits.{admitted_held, party_within, MayHave, no_more, one_more, party_components}
use Rattle.pool_run.proofs.Running.{can_turn}
use Rattle.pool_run.proofs.Turned.{has_turned}
use Rattle.pool_run.proofs.Weighed.{held_counts, counted_whole}

module _ {P : Type 0} where
  -- All that is admitted is counted, and all components that are live are.
  admitted_is_counted : (c : PoolCore P PlainHeap) (parties : List (RunningParty P)) → IsPartitioned held_by_party c parties → sum_by admitted_to parties ≤ c.counters.core_instances
  admitted_is_counted c parties whole = omega (arith, counted_whole c parties whole (only counted_instance), sum_by-le-sum_by admitted_to (λ p. held_by_party p (of_counts (only counted_instance))) parties admitted_held)

  components_are_counted : (c : PoolCore P PlainHeap) (parties : List (RunningParty P)) → IsPartitioned held_by_party c parties → sum_by live_components parties ≤ c.counters.component_instances
  components_are_counted c parties whole = omega (arith, counted_whole c parties whole (only counted_component), sum_by-le-sum_by live_components (λ p. held_by_party p (of_counts (only counted_component))) parties (λ p. omega (arith, held_counts (only counted_component) p)))

  -- Over a pool that nobody has used yet nothing is admitted.
  pub made_within : (c : PoolCore P PlainHeap) (parties : List (RunningParty P)) → IsUntouched c → IsPartitioned held_by_party c parties → IsWithinCounts c parties
  made_within c parties untouched whole = record {
    instances = omega (arith, untouched.counted (only counted_instance), admitted_is_counted c parties whole);
    components = omega (arith, untouched.counted (only counted_component), components_are_counted c parties whole);
  }

  -- what all have, once a party has no more, or one more where there may be more
  had_by : (c : PoolCore P PlainHeap) (parties : List (RunningParty P)) (i : ℕ) (d : RunningParty P) (t : Turned P) → i < length parties → sum_by live_components parties ≤ c.settings.max_component_instances → sum_by live_components parties ≤ c.counters.component_instances → MayHave c (slice_index_or parties i d) t → sum_by live_components (slice_set parties i t.party) ≤ c.settings.max_component_instances
  had_by c parties i d t below within counted (no_more fewer) = omega (arith, within, fewer, sum_by-set live_components parties i t.party d below)
  had_by c parties i d t below within counted (one_more few room) = omega (arith, counted, few, room, sum_by-set live_components parties i t.party d below)

  -- A turn of one of the parties.
  pub turn_within : (w : World) (modules : List ModuleAsked) (commands : List Command) (c : PoolCore P PlainHeap) (parties : List (RunningParty P)) (i : ℕ) (d : RunningParty P) (t : Turned P) → AreCallsFor w.terms c.settings modules → IsRunning w.maker c parties → i < length parties → length commands ≤ length (slice_index_or parties i d).live → Turns modules commands c (slice_index_or parties i d) t → IsWithinCounts c parties → IsWithinCounts t.core (slice_set parties i t.party)
  turn_within w modules commands c parties i d t calls running below room turns within =
      let p : RunningParty P = slice_index_or parties i d in
      let can : CanTurn w.maker c p = can_turn w.maker c parties i d running below in
      let size : IsSameSize c t.core = (has_turned w modules commands c p t calls can room turns).size in
      let all : ℕ = sum_by admitted_to parties in
      let others : ℕ = all - admitted_to p in
      let both : others + admitted_to p ≡ all = omega (arith, get_or-le-sum_by admitted_to parties i d below) in
      let stays : others + admitted_to t.party ≤ c.settings.max_core_instances =
      party_within others c p (omega (arith, both, within.instances)) (omega (arith, both, admitted_is_counted c parties running.whole)) w modules commands t calls can room turns in
      let most : t.core.settings.max_core_instances ≡ c.settings.max_core_instances = ap (λ (s : Settings). s.max_core_instances) size.settings in
      let most_components : t.core.settings.max_component_instances ≡ c.settings.max_component_instances = ap (λ (s : Settings). s.max_component_instances) size.settings in
      record {
        instances = omega (arith, both, stays, most, sum_by-set admitted_to parties i t.party d below);
        components = omega (arith, most_components, had_by c parties i d t below within.components (components_are_counted c parties running.whole) (party_components c p w modules commands t calls can room turns));
      }

  -- What is admitted has all that is live.
  pub live_within : (c : PoolCore P PlainHeap) (parties : List (RunningParty P)) → IsWithinCounts c parties → sum_by live_instances parties ≤ c.settings.max_core_instances
  live_within c parties within = omega (arith, within.instances, sum_by-le-sum_by live_instances admitted_to parties (λ p. omega arith))
