-- What a step changes of a pool that is closed: a part or a counter that counts down, and else it is one of a flush.
use Rattle.std.proofs.Common.{◌≡◌, false, refl}
use Rattle.pool_alloc.specs.Closing.{IsClosingAt}
use Rattle.pool_alloc.specs.Stepping.{is_idle}
use Rattle.pool_alloc.specs.Targets.{next_target}
use Rattle.pool_alloc.specs.declared.counters.CounterName.{CounterName}
use Rattle.pool_alloc.specs.declared.frame.Frame.{Frame}
use Rattle.pool_alloc.specs.declared.frame.Phase.{Phase}
use Rattle.pool_alloc.specs.declared.frame.Phase.TheVariants.{Idle, Flush, UncountInstance}
use Rattle.pool_alloc.specs.declared.pool_core.PoolCore.{PoolCore}
use Rattle.pool_alloc.specs.declared.step.targets.Target.TheVariants.{Up, Alone}
use Rattle.pool_alloc.proofs.NextTargets.{flush_not_up, no_alone, no_up}

module _ {P H : Type 0} where
  pub closing_alone : (phase : Phase P H) (c : PoolCore P H) (f : Frame P H) → IsClosingAt phase → is_idle phase ≡ false → next_target c.settings c.plan phase f ≡ Alone → phase ≡ Flush
  closing_alone Idle c f closing busy there = absurd cc
  closing_alone Flush c f closing busy there = refl
  closing_alone UncountInstance c f closing busy there = no_alone _ refl there
  closing_alone phase c f closing busy there = absurd closing

  pub closing_not_up : (name : CounterName) (phase : Phase P H) (c : PoolCore P H) (f : Frame P H) → IsClosingAt phase → next_target c.settings c.plan phase f ≡ Up name → ⊥
  closing_not_up name Idle c f closing there = no_up _ name refl there
  closing_not_up name Flush c f closing there = flush_not_up name c f there
  closing_not_up name UncountInstance c f closing there = no_up _ name refl there
  closing_not_up name phase c f closing there = absurd closing
