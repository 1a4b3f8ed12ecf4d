-- A call adds on the counter of instances once at most, and only where it asks for a module; and on that of components once at most, and
-- only where it asks for one.
use Rattle.std.proofs.Common.{◌≡◌, ◌⊎◌, ⊎_elim, inl, inr, ℕ, ◌+◌, ◌≤◌, Bool, true, false, List, ◌∷◌, sym, refl, ap, subst, ◌∙◌, arith, true≢false, Option}
use Rattle.std.specs.Prelude.{◌==◌, nat_lt, if◌then◌else◌, slice_index}
use Rattle.pool_limits.specs.Exchanges.{Exchange}
use Rattle.pool_hall.specs.Step.{add_view}
use Rattle.pool_hall.specs.Sum.{one_if, often}
use Rattle.pool_hall.specs.Tally.{additions, low_additions, number}
use Rattle.pool_hall.specs.declared.view.View.{View}
use Rattle.pool_slots.specs.declared.part.PoolPart.{PoolPart}
use Rattle.pool_slots.specs.declared.plan.Plan.{Plan}
use Rattle.pool_alloc.specs.BetweenSteps.{IsShapedAt}
use Rattle.pool_alloc.specs.CallStages.{stage_at, stage_of}
use Rattle.pool_alloc.specs.Objects.{objects_in}
use Rattle.pool_alloc.specs.PartyTold.{PartyTold}
use Rattle.pool_alloc.specs.Purges.{has_turns}
use Rattle.pool_alloc.specs.StepReads.{IsModule}
use Rattle.pool_alloc.specs.StepTable.{flush_step}
use Rattle.pool_alloc.specs.Targets.{next_target, purge_target, release_target}
use Rattle.pool_alloc.specs.declared.frame.Asked.{Asked}
use Rattle.pool_alloc.specs.declared.frame.Asked.TheVariants as asked
use Rattle.pool_alloc.specs.declared.frame.Frame.{Frame}
use Rattle.pool_alloc.specs.declared.frame.Object.TheVariants.{Memory, Table, Stack}
use Rattle.pool_alloc.specs.declared.frame.Outcome.{Outcome}
use Rattle.pool_alloc.specs.declared.frame.Phase.{Phase}
use Rattle.pool_alloc.specs.declared.frame.Phase.TheVariants.{CountInstance, CountObject, Flush, CountComponent, Purge, Release}
use Rattle.pool_alloc.specs.declared.pool_core.Settings.{Settings}
use Rattle.pool_alloc.specs.declared.purge.PurgeCursor.{PurgeCursor}
use Rattle.pool_alloc.specs.declared.purge.PurgeStep.{PurgeStep}
use Rattle.pool_alloc.specs.declared.purge.PurgeStep.TheVariants as purging_step
use Rattle.pool_alloc.specs.declared.release.ReleaseStep.{ReleaseStep}
use Rattle.pool_alloc.specs.declared.release.ReleaseStep.TheVariants as releasing_step
use Rattle.pool_alloc.specs.declared.step.targets.Target.{Target}
use Rattle.pool_alloc.specs.declared.step.targets.Target.TheVariants.{Part, Up, Down, Alone}
use Rattle.pool_driver.specs.Calling.{Becomes, CallKind, GoesOnSince, IsAsking, asks_component, asks_for, components_of, instances_of, is_refused, kind_at, modules_asked}
use Rattle.pool_driver.specs.Driving.{Change, changed, counted as counter_up, uncounted as counter_down, unchanged, counter_number, view_after, IsChangeOf, SeesStep}
use Rattle.pool_driver.specs.Placed.{About}
use Rattle.pool_driver.specs.Telling.{AddsAtMost, NoneCounted, PhaseTold, component_counter, instance_counter}
use Rattle.pool_driver.proofs.CountingSteps.{flush_counts_none, is_up}

-- How often a step adds on a counter, by what it changes.
abbrev pub ups : ℕ → Target → ℕ
ups c (Up name) = one_if (c == counter_number name)
ups c (Part p) = 0
ups c (Down name) = 0
ups c Alone = 0

ups_few : (c : ℕ) (t : Target) → ups c t ≤ 1
ups_few c (Up name) = go (c == counter_number name)
  where
    go : (b : Bool) → one_if b ≤ 1
    go true = omega arith
    go false = omega arith
ups_few c (Part p) = omega arith
ups_few c (Down name) = omega arith
ups_few c Alone = omega arith

-- A flush, a purge and a release add on none.
not_up : (c : ℕ) (t : Target) → is_up t ≡ false → ups c t ≡ 0
not_up c (Up name) never = absurd (true≢false never)
not_up c (Part p) never = refl
not_up c (Down name) never = refl
not_up c Alone never = refl

turn_adds : (c : ℕ) (b : Bool) (p : ℕ) → ups c (if b then Part p else Alone) ≡ 0
turn_adds c true p = refl
turn_adds c false p = refl

purge_adds : {P : Type 0} (c : ℕ) (s : Settings) (plan : Plan) (p : PurgeCursor) (step : PurgeStep P) → ups c (purge_target s plan p step) ≡ 0
purge_adds c s plan p (purging_step.Pick tried) = turn_adds c (has_turns s.max_memories_per_module plan) _
purge_adds c s plan p (purging_step.TakeRegion name) = refl
purge_adds c s plan p (purging_step.Forget taken held) = refl
purge_adds c s plan p (purging_step.PutRegion taken held) = refl
purge_adds c s plan p (purging_step.Free name) = refl

release_adds : {P : Type 0} (c : ℕ) (plan : Plan) (step : ReleaseStep P) → ups c (release_target plan step) ≡ 0
release_adds c plan releasing_step.Reserve = refl
release_adds c plan (releasing_step.TakeWarm r j) = refl
release_adds c plan (releasing_step.TakeRegion r k) = refl
release_adds c plan (releasing_step.Decommit r k taken held) = refl
release_adds c plan (releasing_step.PutRegion r k taken held) = refl
release_adds c plan (releasing_step.Free r x) = refl

module _ {P H : Type 0} (s : Settings) (plan : Plan) (f : Frame P H) where
  flush_adds : (c : ℕ) → ups c (next_target s plan Flush f) ≡ 0
  flush_adds c = not_up c _ (flush_counts_none plan (flush_step f.local f.freed.items) f.local.slots f.freed.items).0

  -- Only the phase that counts an instance adds on their counter, and only the one that counts a component on theirs.
  adds_instance : (p : Phase P H) → (p ≡ CountInstance) ⊎ (ups instance_counter (next_target s plan p f) ≡ 0)
  adds_instance CountInstance = inl refl
  adds_instance (CountObject (Memory lease)) = inr refl
  adds_instance (CountObject (Table lease)) = inr refl
  adds_instance (CountObject (Stack lease)) = inr refl
  adds_instance Flush = inr (flush_adds instance_counter)
  adds_instance (Purge p step) = inr (purge_adds instance_counter s plan p step)
  adds_instance (Release step) = inr (release_adds instance_counter plan step)
  adds_instance p = inr refl

  adds_component : (p : Phase P H) → (p ≡ CountComponent) ⊎ (ups component_counter (next_target s plan p f) ≡ 0)
  adds_component CountComponent = inl refl
  adds_component (CountObject (Memory lease)) = inr refl
  adds_component (CountObject (Table lease)) = inr refl
  adds_component (CountObject (Stack lease)) = inr refl
  adds_component Flush = inr (flush_adds component_counter)
  adds_component (Purge p step) = inr (purge_adds component_counter s plan p step)
  adds_component (Release step) = inr (release_adds component_counter plan step)
  adds_component p = inr refl

-- an addition that may be low
low_on : {T : Type 0} (c n found : ℕ) (v : View T) → number (low_additions c) (add_view n found v) ≤ one_if (c == n) + number (low_additions c) v
low_on {T} c n found v = go (nat_lt found (slice_index v.limits n))
  where
    go : (b : Bool) → often c (if b then n ∷ v.low else v.low) ≤ one_if (c == n) + often c v.low
    go true = omega arith
    go false = omega arith

-- a call that asks was of that kind from the first, and a module was asked for
pub from_asking : (k : CallKind) → Becomes k asks_for → k ≡ asks_for
from_asking k = ⊎_elim (λ (same : asks_for ≡ k). sym same) (λ (other : IsAsking k × (asks_for ≡ is_refused)). absurd (let e = other.1 in cc))

from_component : (k : CallKind) → Becomes k asks_component → k ≡ asks_component
from_component k = ⊎_elim (λ (same : asks_component ≡ k). sym same) (λ (other : IsAsking k × (asks_component ≡ is_refused)). absurd (let e = other.1 in cc))

one_module : (what : Asked) → IsModule what → modules_asked what ≡ 1
one_module (asked.Module m) is = refl
one_module asked.Nothing is = absurd is
one_module (asked.Memory m) is = absurd is
one_module (asked.Table ty) is = absurd is
one_module asked.Stack is = absurd is
one_module (asked.Heap ty) is = absurd is
one_module (asked.HeapOver memory) is = absurd is

-- A call that begins has added nothing.
pub adds_begin : {T : Type 0} (v : View T) (c most : ℕ) → AddsAtMost v v c most
adds_begin v c most = record { added = omega arith; low = omega arith }

module _ {T P H : Type 0} (about : T → About) (inner : T → PoolPart P H) (Passes : List Exchange → Type 0) (old new : PartyTold) (a : About) (base v w : View T) (first f next : Frame P H) (o : Option (Outcome P H)) (goes : GoesOnSince a base v first f) (s : SeesStep about inner Passes old new a v w f next o) where
  abbrev target : Target
  target = next_target a.settings a.plan f.phase f

  -- What a step adds on a counter
  step_adds : (c : ℕ) → (number (additions c) w ≡ ups c target + number (additions c) v) × (number (low_additions c) w ≤ ups c target + number (low_additions c) v)
  step_adds c = go s.change s.of s.view
    where
      same : w.added ≡ v.added → w.low ≡ v.low → ups c target ≡ 0 → (number (additions c) w ≡ ups c target + number (additions c) v) × (number (low_additions c) w ≤ ups c target + number (low_additions c) v)
      same one two none =
          let e : number (additions c) w ≡ number (additions c) v = ap (λ (l : List ℕ). often c l) one in
          let l : number (low_additions c) w ≡ number (low_additions c) v = ap (λ (l : List ℕ). often c l) two in
          (omega (arith, e, none), omega (arith, l, none))

      go : (ch : Change T) → IsChangeOf about inner ch target s.core s.left → w ≡ view_after about inner ch v → (number (additions c) w ≡ ups c target + number (additions c) v) × (number (low_additions c) w ≤ ups c target + number (low_additions c) v)
      go (changed p x y) of is = same (ap (λ (z : View T). z.added) is) (ap (λ (z : View T). z.low) is) (ap (ups c) of.0)
      go (counter_up name found) of is =
          let one : ups c target ≡ one_if (c == counter_number name) = ap (ups c) of.0 in
          let e : number (additions c) w ≡ one_if (c == counter_number name) + number (additions c) v = ap (λ (z : View T). number (additions c) z) is in
          let l : number (low_additions c) w ≡ number (low_additions c) (add_view (counter_number name) found v) = ap (λ (z : View T). number (low_additions c) z) is in
          (omega (arith, one, e), omega (arith, one, l, low_on c (counter_number name) found v))
      go (counter_down name) of is = same (ap (λ (z : View T). z.added) is) (ap (λ (z : View T). z.low) is) (ap (ups c) of.0)
      go unchanged of is = same (ap (λ (z : View T). z.added) is) (ap (λ (z : View T). z.low) is) (ap (ups c) of.0)

  -- is nothing on most,
  adds_still : (c most : ℕ) → ups c target ≡ 0 → AddsAtMost base v c most → AddsAtMost base w c most
  adds_still c most none had = let step = step_adds c in record { added = omega (arith, step.0, none, had.added); low = omega (arith, step.1, none, had.low) }

  -- and one on a counter on which nothing was counted.
  adds_first : (c most : ℕ) → most ≡ 1 → NoneCounted base v c → AddsAtMost base w c most
  adds_first c most one none = let step = step_adds c in let few = ups_few c target in record { added = omega (arith, step.0, few, none.added, one); low = omega (arith, step.1, few, none.low, one) }

  kind_was : (p : Phase P H) → f.phase ≡ p → Becomes (kind_at (stage_of first)) (kind_at (stage_at p f.asked f.ending (objects_in f.objects)))
  kind_was p is = subst (λ (q : Phase P H). Becomes (kind_at (stage_of first)) (kind_at (stage_at q f.asked f.ending (objects_in f.objects)))) is goes.kind

  told_was : (p : Phase P H) → f.phase ≡ p → PhaseTold base v p a.plan f
  told_was p is = subst (λ (q : Phase P H). PhaseTold base v q a.plan f) is goes.tells

  -- So a call counts one instance at most,
  pub instances_step : AddsAtMost base w instance_counter (instances_of (kind_at (stage_of first)) first.asked)
  instances_step = ⊎_elim
      (λ (is : f.phase ≡ CountInstance).
      let shape = subst (λ (q : Phase P H). IsShapedAt a.maker s.core.settings s.core.plan q f) is s.can.frame.shape in
      let one : instances_of (kind_at (stage_of first)) first.asked ≡ 1 = ap (λ (k : CallKind). instances_of k first.asked) (from_asking _ (kind_was CountInstance is)) ∙ one_module first.asked (subst IsModule goes.asked shape.1.asked_for) in
      adds_first instance_counter _ one (told_was CountInstance is).0)
      (λ (none : ups instance_counter target ≡ 0). adds_still instance_counter _ none goes.instances)
      (adds_instance a.settings a.plan f f.phase)

  -- and one component.
  pub components_step : AddsAtMost base w component_counter (components_of (kind_at (stage_of first)))
  components_step = ⊎_elim
      (λ (is : f.phase ≡ CountComponent). adds_first component_counter _ (ap components_of (from_component _ (kind_was CountComponent is))) (told_was CountComponent is))
      (λ (none : ups component_counter target ≡ 0). adds_still component_counter _ none goes.components)
      (adds_component a.settings a.plan f f.phase)
