-- A seat whose frame's next step counts, or is made without any part: the step can be made, and what it leaves is driven.
use Rattle.std.proofs.Common.{◌≡◌, ℕ, ◌-◌, ◌<◌, Bool, true, false, List, [], ◌∷◌, length, map, refl, sym, ap, subst, ◌∙◌, arith, Option, Some, None, true≢false}
use Rattle.pool_hall.specs.Moment.{Moment}
use Rattle.pool_hall.specs.Step.{add_view, subtract_view}
use Rattle.pool_hall.specs.Tally.{additions, subtractions, number}
use Rattle.pool_hall.specs.declared.view.View.{View}
use Rattle.pool_limits.specs.Exchanges.{Exchange, Exchanged}
use Rattle.pool_slots.specs.declared.part.PoolPart.{PoolPart}
use Rattle.pool_slots.specs.declared.plan.Plan.{Plan}
use Rattle.pool_alloc.specs.HeapLeases.{LeasedHeap}
use Rattle.pool_alloc.specs.Leases.{Lease}
use Rattle.pool_alloc.specs.OnCounters.{CanStepCounted, counted_on, heap_found, heap_found_for}
use Rattle.pool_alloc.specs.PartyTold.{PartyTold}
use Rattle.pool_alloc.specs.StepsAlone.{CanStepAlone, StepsAlone}
use Rattle.pool_alloc.specs.Stepping.{CanStep, StepsTo, StepsAsking}
use Rattle.pool_alloc.specs.Targets.{counted_up, counting, next_target, number_at}
use Rattle.pool_alloc.specs.Turns.{After, Left, left_by, resting}
use Rattle.pool_alloc.specs.declared.counters.CounterName.{CounterName}
use Rattle.pool_alloc.specs.declared.counters.CounterName.TheVariants as counter
use Rattle.pool_alloc.specs.declared.frame.Frame.{Frame}
use Rattle.pool_alloc.specs.declared.frame.Object.TheVariants.{Memory, Table, Stack}
use Rattle.pool_alloc.specs.declared.frame.Outcome.{Outcome}
use Rattle.pool_alloc.specs.declared.frame.Phase.{Phase}
use Rattle.pool_alloc.specs.declared.frame.Phase.TheVariants.{Key, CountInstance, CountObject, CountHeap, CountComponent}
use Rattle.pool_alloc.specs.declared.frame.Asked.{Asked}
use Rattle.pool_alloc.specs.declared.frame.Asked.TheVariants.{HeapOver as heap_over_asked}
use Rattle.pool_alloc.specs.declared.pool_core.Counters.{Counters}
use Rattle.pool_alloc.specs.declared.pool_core.PoolCore.{PoolCore}
use Rattle.pool_alloc.specs.declared.pool_core.Settings.{Settings}
use Rattle.pool_alloc.specs.declared.step.targets.Target.{Target}
use Rattle.pool_alloc.specs.declared.step.targets.Target.TheVariants.{Up, Down, Alone}
use Rattle.pool_alloc.proofs.OnCounters.{steps_up, steps_down}
use Rattle.pool_alloc.proofs.StepNeeds.{step_ok}
use Rattle.pool_alloc.proofs.NextTargets.{can_up, can_down, can_alone}
use Rattle.pool_driver.specs.Beside.{StepsBeside, StepsBesideAlike}
use Rattle.pool_driver.specs.Driving.{Given, IsDriven, StandsOn, StandsFor, SeesStep, SeesAlike, Decides, counted, uncounted, unchanged, counted_by, counter_number}
use Rattle.pool_driver.specs.Growing.{AreKept}
use Rattle.pool_driver.specs.Placed.{About, about_made, pool_meaning}
use Rattle.pool_driver.specs.Pools.{IsPool, core_of}
use Rattle.pool_driver.proofs.Conserving.{even_alike, even_up, even_down}
use Rattle.pool_driver.proofs.Counted.{counts_frame}
use Rattle.pool_driver.proofs.CountingSteps.{counted_down}
use Rattle.pool_driver.proofs.Driven.{core_with, can_with, places_with, kept_with, steps_at, recounted, found_by, counts_found, carries_alike, driven_next}
use Rattle.pool_driver.proofs.Hearing.{is_alone, alike}
use Rattle.pool_driver.proofs.HeldParts.{nobody}
use Rattle.pool_driver.proofs.MomentsBeside.{away_beside}

-- the number found at this counter decides
abbrev decides : Target → Bool
decides (Up counter.Key) = true
decides (Up counter.CoreInstances) = true
decides (Up counter.ComponentInstances) = true
decides _ = false

module _ {P H : Type 0} (s : Settings) (plan : Plan) where
  heap_alike : (memories : List Lease) (lease : LeasedHeap H) (n m : ℕ) (f : Frame P H) → left_by (heap_found memories lease n f) ≡ left_by (heap_found memories lease m f)
  heap_alike [] lease n m f = refl
  heap_alike (memory ∷ rest) lease n m f = refl

  heap_for_alike : (what : Asked) (lease : LeasedHeap H) (n m : ℕ) (f : Frame P H) → left_by (heap_found_for what lease n f) ≡ left_by (heap_found_for what lease m f)
  heap_for_alike (heap_over_asked memory) lease n m f = refl
  heap_for_alike what lease n m f = heap_alike f.objects.memories.items lease n m f

  -- elsewhere the step goes on alike, whatever the number
  left_alike : (p : Phase P H) (f e : Frame P H) (n m : ℕ) → decides (next_target s plan p f) ≡ false → left_by (counted_on s plan p n e) ≡ left_by (counted_on s plan p m e)
  left_alike Key f e n m free' = absurd (true≢false free')
  left_alike CountInstance f e n m free' = absurd (true≢false free')
  left_alike CountComponent f e n m free' = absurd (true≢false free')
  left_alike (CountObject (Memory lease)) f e n m free' = refl
  left_alike (CountObject (Table lease)) f e n m free' = refl
  left_alike (CountObject (Stack lease)) f e n m free' = refl
  left_alike (CountHeap lease) f e n m free' = heap_for_alike e.asked lease n m e
  left_alike p f e n m free' = refl

module _ {T P H : Type 0} (about : T → About) (inner : T → PoolPart P H) (made : List T) (limits : List ℕ) (g : Given) (of : about_made about made ≡ Some g.about) (pool : IsPool g.about (length made)) (v : View T) (f : Frame P H) (driven : IsDriven (length made) g v f None) (moment : Moment (pool_meaning about inner) made limits v.units) (name : CounterName) where
  abbrev parts_now : List (PoolPart P H)
  parts_now = map inner moment.now

  abbrev core_now : Counters → PoolCore P H
  core_now n = core_with about inner made limits v.units moment g of pool f driven.frame driven.carries n

  can_now : CanStep g.about.maker (core_now (counted_by f)) f
  can_now = can_with about inner made limits v.units moment g of pool f driven.frame driven.carries (counted_by f) (counts_frame f)

  kept_now : AreKept parts_now
  kept_now = kept_with about inner made limits v.units moment g of pool f driven.frame driven.carries

  long : length parts_now ≡ length made
  long = places_with about inner made limits v.units moment g of pool f driven.frame driven.carries

  module _ (target : next_target g.about.settings g.about.plan f.phase f ≡ Up name) where
    -- A step that counts up can be made,
    pub can_count_up : CanStepCounted g.about.plan f.phase f
    can_count_up = (can_up name (core_now (counted_by f)) f (steps_at g.about.maker (core_now (counted_by f)) f can_now) target).0

    module _ (found : ℕ) (next : Frame P H) (o : Option (Outcome P H)) (row : ◌≡◌ {A = Left P H} (record { frame = next; outcome = o }) (left_by (counted_on g.about.settings g.about.plan f.phase found (resting f)))) where
      abbrev numbers : Counters
      numbers = found_by about inner made limits v.units moment g of pool f driven.frame driven.carries name found

      decided : Decides name found (number_at name numbers)
      decided = by name
        where
          by : (k : CounterName) → Decides k found (number_at k (found_by about inner made limits v.units moment g of pool f driven.frame driven.carries k found))
          by counter.Key = refl
          by counter.CoreInstances = refl
          by counter.ComponentInstances = refl
          by counter.Memories = tt
          by counter.Tables = tt
          by counter.Stacks = tt
          by counter.GcHeaps = tt

      row_found : ◌≡◌ {A = Left P H} (record { frame = next; outcome = o }) (left_by (counted_on g.about.settings g.about.plan f.phase (number_at name numbers) (resting f)))
      row_found = row ∙ by name target decided
        where
          by : (k : CounterName) → next_target g.about.settings g.about.plan f.phase f ≡ Up k → Decides k found (number_at k numbers) → left_by (counted_on g.about.settings g.about.plan f.phase found (resting f)) ≡ left_by (counted_on g.about.settings g.about.plan f.phase (number_at k numbers) (resting f))
          by counter.Key is same = ap (λ (n : ℕ). left_by (counted_on g.about.settings g.about.plan f.phase n (resting f))) (sym same)
          by counter.CoreInstances is same = ap (λ (n : ℕ). left_by (counted_on g.about.settings g.about.plan f.phase n (resting f))) (sym same)
          by counter.ComponentInstances is same = ap (λ (n : ℕ). left_by (counted_on g.about.settings g.about.plan f.phase n (resting f))) (sym same)
          by counter.Memories is same = left_alike g.about.settings g.about.plan f.phase f (resting f) found _ (ap decides is)
          by counter.Tables is same = left_alike g.about.settings g.about.plan f.phase f (resting f) found _ (ap decides is)
          by counter.Stacks is same = left_alike g.about.settings g.about.plan f.phase f (resting f) found _ (ap decides is)
          by counter.GcHeaps is same = left_alike g.about.settings g.about.plan f.phase f (resting f) found _ (ap decides is)

      can_found : CanStep g.about.maker (core_now numbers) f
      can_found = can_with about inner made limits v.units moment g of pool f driven.frame driven.carries numbers (counts_found about inner made limits v.units moment g of pool f driven.frame driven.carries name found target)

      abbrev after_up : After P H
      after_up = record { core = counting name (counted_up name (number_at name numbers)) (core_now numbers); frame = next; outcome = o }

      asking : (party : PartyTold) → StepsAsking (λ passed. passed ≡ []) party party (core_now numbers) f after_up
      asking party = alike (λ passed. Exchanged {R = Unit {0}} (λ a e b. Unit {0}) passed tt tt) (λ passed. passed ≡ []) g.about.settings g.about.plan (core_now numbers) f after_up (ap is_alone target) (λ e. refl) (steps_up {R = Unit {0}} (λ a e b. Unit {0}) tt party name (core_now numbers) f next o target can_count_up row_found)

      steps : StepsTo nobody nobody (core_now numbers) f after_up
      steps = let s = asking nobody in (s.0, s.1.0)

      -- and what it leaves is driven.
      pub driven_up : IsDriven (length made) g (add_view (counter_number name) found v) next o
      driven_up =
          let ok = (step_ok g.about.maker nobody nobody (core_now numbers) f after_up can_found steps).conserves in
          driven_next g (length made) v (add_view (counter_number name) found v) f driven numbers parts_now can_found kept_now nobody nobody after_up.core.counters parts_now next o steps long kept_now
          (carries_alike g.rest v.units (core_now numbers) f after_up ok refl driven.carries)
          (even_up g.counted v (add_view (counter_number name) found v) (core_now numbers) f after_up ok name found refl refl driven.counted)

      pub beside_up : StepsBesideAlike g f next o
      beside_up party = record {
        core = core_now numbers;
        left = after_up.core;
        stands = record { settings = refl; plan = refl; can = can_found; away = away_beside about inner made limits v.units moment g.rest f driven.carries };
        row = asking party;
      }

      pub sees_up : SeesAlike about inner g.about v (add_view (counter_number name) found v) f next o
      sees_up party = record {
        core = core_now numbers;
        left = after_up.core;
        settings = refl;
        plan = refl;
        can = can_found;
        row = asking party;
        change = counted name found;
        of = (target, decided, refl);
        view = refl;
      }

  module _ (target : next_target g.about.settings g.about.plan f.phase f ≡ Down name) where
    can_here : CanStepCounted g.about.plan f.phase f × (0 < number_at name (counted_by f))
    can_here = can_down name (core_now (counted_by f)) f (steps_at g.about.maker (core_now (counted_by f)) f can_now) target

    -- A step that counts down can be made,
    pub can_count_down : CanStepCounted g.about.plan f.phase f
    can_count_down = can_here.0

    module _ (found : ℕ) (next : Frame P H) (o : Option (Outcome P H)) (row : ◌≡◌ {A = Left P H} (record { frame = next; outcome = o }) (left_by (counted_on g.about.settings g.about.plan f.phase found (resting f)))) where
      abbrev after_down : After P H
      after_down = record { core = counting name (number_at name (counted_by f) - 1) (core_now (counted_by f)); frame = next; outcome = o }

      asking_down : (party : PartyTold) → StepsAsking (λ passed. passed ≡ []) party party (core_now (counted_by f)) f after_down
      asking_down party = alike (λ passed. Exchanged {R = Unit {0}} (λ a e b. Unit {0}) passed tt tt) (λ passed. passed ≡ []) g.about.settings g.about.plan (core_now (counted_by f)) f after_down (ap is_alone target) (λ e. refl)
          (steps_down {R = Unit {0}} (λ a e b. Unit {0}) tt party name (core_now (counted_by f)) f next o target can_count_down (row ∙ left_alike g.about.settings g.about.plan f.phase f (resting f) found _ (ap decides target)))

      steps_off : StepsTo nobody nobody (core_now (counted_by f)) f after_down
      steps_off = let s = asking_down nobody in (s.0, s.1.0)

      -- and what it leaves is driven.
      pub driven_down : IsDriven (length made) g (subtract_view (counter_number name) v) next o
      driven_down =
          let ok = (step_ok g.about.maker nobody nobody (core_now (counted_by f)) f after_down can_now steps_off).conserves in
          driven_next g (length made) v (subtract_view (counter_number name) v) f driven (counted_by f) parts_now can_now kept_now nobody nobody after_down.core.counters parts_now next o steps_off long kept_now
          (carries_alike g.rest v.units (core_now (counted_by f)) f after_down ok refl driven.carries)
          (even_down g.counted v (subtract_view (counter_number name) v) (core_now (counted_by f)) f after_down ok name can_here.1 refl refl driven.counted)

      pub beside_down : StepsBesideAlike g f next o
      beside_down party = record {
        core = core_now (counted_by f);
        left = after_down.core;
        stands = record { settings = refl; plan = refl; can = can_now; away = away_beside about inner made limits v.units moment g.rest f driven.carries };
        row = asking_down party;
      }

      pub sees_down : SeesAlike about inner g.about v (subtract_view (counter_number name) v) f next o
      sees_down party = record {
        core = core_now (counted_by f);
        left = after_down.core;
        settings = refl;
        plan = refl;
        can = can_now;
        row = asking_down party;
        change = uncounted name;
        of = (target, refl);
        view = refl;
      }

module _ {T P H : Type 0} (places : ℕ) (g : Given) (v : View T) (f : Frame P H) (driven : IsDriven places g v f None) where
  -- A seat that counts down has counted up before.
  pub counted_more : (name : CounterName) → next_target g.about.settings g.about.plan f.phase f ≡ Down name → number (subtractions (counter_number name)) v < number (additions (counter_number name)) v
  counted_more name target =
      let has = counted_down g.about.settings g.about.plan g.about.maker f f.phase name refl driven.frame.shape target in
      subst (λ (n : CounterName). number (subtractions (counter_number n)) v < number (additions (counter_number n)) v) has.named (omega (arith, has.some, driven.counted has.kind))

  -- A step without part or counter can be made,
  module _ (target : next_target g.about.settings g.about.plan f.phase f ≡ Alone) where
    stands : StandsOn g.about places f
    stands = subst (λ (t : Target). StandsFor t g.about places f) target driven.stands

    abbrev core_left : PoolCore P H
    core_left = core_of g.about stands.counters None stands.parts

    pub can_alone_here : CanStepAlone g.about.settings g.about.plan f.phase f
    can_alone_here = can_alone (recounted g.about.maker core_left f) f (steps_at g.about.maker core_left f stands.can) target

    module _ (Passes : List Exchange → Type 0) (old new : PartyTold) (next : Frame P H) (o : Option (Outcome P H)) (row : StepsAlone Passes old new g.about.settings g.about.plan f next o) where
      steps_alone : StepsAsking Passes old new core_left f (record { core = core_left; frame = next; outcome = o })
      steps_alone = row core_left refl refl

      -- and what it leaves is driven.
      pub driven_alone : IsDriven places g v next o
      driven_alone =
          let steps : StepsTo old new core_left f (record { core = core_left; frame = next; outcome = o }) = (steps_alone.0, steps_alone.1.0) in
          let left : After P H = record { core = core_left; frame = next; outcome = o } in
          let ok = (step_ok g.about.maker old new core_left f left stands.can steps).conserves in
          driven_next g places v v f driven stands.counters stands.parts stands.can stands.kept old new stands.counters stands.parts next o steps stands.long stands.kept
          (carries_alike g.rest v.units core_left f left ok refl driven.carries)
          (even_alike g.counted v v core_left f left ok refl (λ t. refl) (λ t. refl) driven.counted)

      pub beside_alone : StepsBeside Passes old new g f next o
      beside_alone c left = record { core = c; left = c; stands = left; row = row c left.settings left.plan }

      pub sees_alone : (about : T → About) (inner : T → PoolPart P H) → SeesStep about inner Passes old new g.about v v f next o
      sees_alone about inner = record {
        core = core_left;
        left = core_left;
        settings = refl;
        plan = refl;
        can = stands.can;
        row = steps_alone;
        change = unchanged;
        of = (target, refl);
        view = refl;
      }
