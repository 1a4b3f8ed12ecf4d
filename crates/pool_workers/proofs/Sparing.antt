-- What a give-back leaves in its seat's view.
use Rattle.std.proofs.Common.{◌≡◌, ℕ, ◌+◌, ◌≤◌, arith, refl, sym, ap, subst, ◌∙◌}
use Rattle.pool_hall.specs.declared.unit_name.SlotKind.{SlotKind}
use Rattle.pool_hall.specs.declared.view.View.{View}
use Rattle.pool_slots.specs.declared.plan.Plan.{Plan}
use Rattle.pool_alloc.specs.CallStages.{stage_of}
use Rattle.pool_alloc.specs.declared.frame.Asked.{Asked}
use Rattle.pool_alloc.specs.declared.frame.Frame.{Frame}
use Rattle.pool_alloc.specs.declared.frame.Outcome.{Outcome}
use Rattle.pool_driver.specs.Calling.{CallKind, HasEnded, gives_back, instances_of, kind_at, objects_of, components_of}
use Rattle.pool_driver.specs.Placed.{About}
use Rattle.pool_driver.specs.Spending.{ColdOf}
use Rattle.pool_driver.specs.Telling.{AddsAtMost, component_counter, instance_counter}
use Rattle.pool_threads.specs.Asked.{Scarce, slots, instances, components}
use Rattle.pool_threads.specs.Noted.{Grows, spent}
use Rattle.pool_threads.proofs.Adds.{grows_on, grows_still}
use Rattle.pool_workers.specs.Sparing.{Spares}

module _ {T : Type 0} where
  pub spares_still : (plan : Plan) (v : View T) → Spares plan v v
  spares_still plan v = record { grows = grows_still v; within = λ k. omega arith }

  pub spares_on : (plan : Plan) (u v w : View T) → Spares plan u v → Spares plan v w → Spares plan u w
  spares_on plan u v w one two = record { grows = grows_on u v w one.grows two.grows; within = λ k. omega (arith, one.within k, two.within k) }

  module _ {P H : Type 0} (a : About) (base v : View T) (first f : Frame P H) (o : Outcome P H) (kind : kind_at (stage_of first) ≡ gives_back) (ended : HasEnded a base v first f o) where
    -- A call that gives back uses nothing up.
    back_within : (k : Scarce) → spent a.plan k v ≤ spent a.plan k base
    back_within (slots k) =
        let most : ColdOf base v a.plan k (objects_of gives_back k first.asked) = subst (λ (c : CallKind). ColdOf base v a.plan k (objects_of c k first.asked)) kind (ended.cold k) in
        omega (arith, most)
    back_within instances =
        let most : AddsAtMost base v instance_counter (instances_of gives_back first.asked) = subst (λ (c : CallKind). AddsAtMost base v instance_counter (instances_of c first.asked)) kind ended.instances in
        omega (arith, most.low)
    back_within components =
        let most : AddsAtMost base v component_counter (components_of gives_back) = subst (λ (c : CallKind). AddsAtMost base v component_counter (components_of c)) kind ended.components in
        omega (arith, most.low)

    pub back_spares : Grows base v → Spares a.plan base v
    back_spares grows = record { grows = grows; within = back_within }
