-- A pool within the rules has so few parts that a hall has room for them and for the counters.
use Rattle.std.proofs.Common.{◌≡◌, ℕ, zero, suc, ◌+◌, ◌-◌, ◌*◌, ◌^◌, ◌<◌, ◌≤◌, length, min, ap, arith}
use Rattle.std.specs.Prelude.{◌/◌, ◌%◌, max}
use Rattle.std.specs.Int.{div_ceil}
use Rattle.std.proofs.Math.Nat.{div-le_self}
use Rattle.pool_types.specs.SettingsRules.{IsWithinRules}
use Rattle.pool_types.specs.declared.config.PoolingAllocationConfig.{PoolingAllocationConfig}
use Rattle.pool_types.specs.declared.module_types.Tunables.{Tunables}
use Rattle.pool_types.specs.declared.offered.Offered.{Offered}
use Rattle.pool_pages.specs.MakerTold.{MakerTold}
use Rattle.pool_index.specs.Layout.{slots_per_shard}
use Rattle.pool_slots.specs.StripedPlans.{shards_for, stripe_slots, stripe_shards, shards_before}
use Rattle.pool_slots.specs.declared.striped_plan.StripedPlanSettings.{StripedPlanSettings}
use Rattle.pool_alloc.specs.BetweenSteps.{IsCore}
use Rattle.pool_alloc.specs.Made.{IsMadeCore, plan_settings}
use Rattle.pool_alloc.specs.declared.pool_core.PoolCore.{PoolCore}
use Rattle.pool_alloc.specs.declared.pool_core.Settings.{Settings}
use Rattle.pool_driver.specs.Counts.{counter_total}

ceil_few : (n q r : ℕ) → q ≤ n → q + min 1 r ≤ n + 1
ceil_few n q r below = omega (arith, below)

count_few : (n q : ℕ) → q ≤ n + 1 → max 1 q ≤ n + 1
count_few n q below = omega (arith, below)

-- an allocator has at most one shard more than slots
shards_few : (n requested : ℕ) → shards_for n requested ≤ n + 1
shards_few n requested =
    let s : ℕ = slots_per_shard n requested in
    count_few n (div_ceil n s) (ceil_few n (n / s) (n % s) (div-le_self n s))

module _ (z : StripedPlanSettings) (few : z.totals.memory ≤ 100000) where
  stripe_few : (s : ℕ) → stripe_shards z s ≤ 100002
  stripe_few s =
      let m : ℕ = z.totals.memory - s in
      let slots : stripe_slots z s ≤ m + 1 = ceil_few m (m / z.num_stripes) (m % z.num_stripes) (div-le_self m z.num_stripes) in
      omega (arith, few, slots, shards_few (stripe_slots z s) z.requested_shards)

  before_few : (n : ℕ) → shards_before z n ≤ n * 100002
  before_few zero = omega arith
  before_few (suc n) = omega (arith, before_few n, stripe_few n)

-- The parts of a pool within the rules, and the counters beside them.
pub few_parts : {P H : Type 0} (maker : MakerTold) (config : PoolingAllocationConfig) (tunables : Tunables) (offered : Offered) (shards : ℕ) (c : PoolCore P H) → IsWithinRules config tunables maker.page shards offered → IsMadeCore maker config tunables offered shards c → IsCore maker c → length c.parts + counter_total < 2 ^ 32
few_parts maker config tunables offered shards c within made core =
    let z : StripedPlanSettings = plan_settings maker.page config tunables offered shards in
    let stripes : c.settings.num_stripes ≡ z.num_stripes = ap (λ (s : Settings). s.num_stripes) made.settings in
    omega (
      arith,
      made.parts.count,
      core.settings.stripes.1,
      stripes,
      before_few z within.limits.memories z.num_stripes,
      within.shards_at_most,
      within.limits.memories,
      within.limits.tables,
      within.limits.stacks,
      within.limits.gc_heaps,
      shards_few config.limits.total_tables shards,
      shards_few config.limits.total_stacks shards,
      shards_few config.limits.total_gc_heaps shards,
    )
