-- How a step takes a party's call from one stage to another: what follows of the stages alone.
use Rattle.std.proofs.Common.{◌≡◌, ℕ, ◌+◌, ◌<◌, ◌≤◌, ◌⊎◌, inl, inr, Bool, true, false, Option, Some, None, refl, ap, arith, ◌&&◌, not, is_some, ◌*◌}
use Rattle.pool_run.proofs.Imports.{MakerTold, PartyTold, IfGranted, phase_instances, instances_for, Progress, untested, uncounted, admitted, Stage, no_call, keys, asks, returning, refusing, purging, reserving, releasing, stage_by, stage_of_release, stage_at, Follows, Goes, seeks_stack, tests_heap, seeks_heap, seeks_single, counts_heap, tests_component, counts_component, stage_back, stage_of, is_idle, count_granted, grant_instances, grant_components, objects_wanted, objects_in, IsFrame, IsShapedAt, Plan, PlainHeap, Settings, PoolCore, Asked, stack_asked, memory_asked, table_asked, heap_asked, heap_over_asked, Ending, Frame, instance, component, one_memory, one_table, stack, heap, heap_over, Outcome, Phase, Idle, Key, Validate, CountInstance, CountObject, Purge, Release, TestStack, TestHeap, CountHeap, ValidateComponent, CountComponent, UncountComponent, ReleaseStep, Reserve, only}
use Rattle.pool_alloc.specs.declared.frame.Ending.TheVariants as ending
use Rattle.pool_alloc.specs.declared.frame.Outcome.TheVariants as answer
use Rattle.pool_run.specs.Limits.{admitted_at}
use Rattle.pool_run.specs.RunsMade.{is_drawing}
use Rattle.pool_run.specs.Ties.{is_asking, is_for_instance, is_for_objects}

-- no call is under way
abbrev pub is_none : Stage → Bool
is_none no_call = true
is_none _ = false

-- a call that is no request wants no place
pub settled_place : {X : Type 0} (s : Stage) → s ≡ no_call → is_asking s ≡ true → X
settled_place s settled is = let no : is_asking s ≡ false = ap is_asking settled in absurd cc

pub asking_some : (s : Stage) → is_asking s ≡ true → is_none s ≡ false
asking_some (asks p) is = refl
asking_some (tests_component info) is = refl
asking_some counts_component is = refl
asking_some _ is = absurd cc

-- none is counted where none is
-- a request for an instance is one
pub instance_asks : (s : Stage) → is_for_objects s ≡ true → is_asking s ≡ true
instance_asks (asks p) is = refl
instance_asks _ is = absurd cc

none_by : (asked : Asked) (e : Ending) (n : ℕ) → is_none (stage_by asked e n) ≡ false
none_by asked ending.Granted n = refl
none_by asked ending.Returned n = refl
none_by asked (ending.Refused e) n = refl

none_back : (e : Ending) → is_none (stage_back e) ≡ false
none_back (ending.Refused e) = refl
none_back e = refl

admitted_back : (e : Ending) → admitted_at (stage_back e) ≡ 0
admitted_back (ending.Refused e) = refl
admitted_back e = refl

admitted_by : (asked : Asked) (e : Ending) (n : ℕ) → admitted_at (stage_by asked e n) ≤ instances_for asked
admitted_by (memory_asked m) ending.Granted n = omega arith
admitted_by (table_asked ty) ending.Granted n = omega arith
admitted_by stack_asked ending.Granted n = omega arith
admitted_by (heap_asked ty) ending.Granted n = omega arith
admitted_by (heap_over_asked memory) ending.Granted n = omega arith
admitted_by _ ending.Granted n = omega arith
admitted_by asked ending.Returned n = omega arith
admitted_by asked (ending.Refused e) n = omega arith

seeks_by : (asked : Asked) (e : Ending) (n : ℕ) → stage_by asked e n ≡ asks seeks_stack → asked ≡ stack_asked
seeks_by stack_asked e n is = refl
seeks_by (memory_asked m) ending.Granted n is = absurd cc
seeks_by (table_asked ty) ending.Granted n is = absurd cc
seeks_by (heap_asked ty) ending.Granted n is = absurd cc
seeks_by (heap_over_asked memory) ending.Granted n is = absurd cc
seeks_by _ ending.Granted n is = absurd cc
seeks_by _ ending.Returned n is = absurd cc
seeks_by _ (ending.Refused e) n is = absurd cc

seeks_back : (e : Ending) → stage_back e ≡ asks seeks_stack → ⊥
seeks_back (ending.Refused e) is = absurd cc
seeks_back e is = absurd cc

module _ {P : Type 0} where
  -- a release is under way, and asks for nothing
  none_released : (step : ReleaseStep P) → is_none (stage_of_release step) ≡ false
  none_released Reserve = refl
  none_released _ = refl

  released_none : (step : ReleaseStep P) → admitted_at (stage_of_release step) ≡ 0
  released_none Reserve = refl
  released_none _ = refl

  -- The stage says whether a call is under way,
  pub none_idle : (phase : Phase P PlainHeap) (asked : Asked) (e : Ending) (n : ℕ) → is_none (stage_at phase asked e n) ≡ is_idle phase
  none_idle Idle asked e n = refl
  none_idle Key asked e n = refl
  none_idle Validate asked e n = refl
  none_idle CountInstance asked e n = refl
  none_idle TestStack asked e n = refl
  none_idle TestHeap asked e n = refl
  none_idle (CountHeap lease) asked e n = refl
  none_idle (ValidateComponent info) asked e n = refl
  none_idle CountComponent asked e n = refl
  none_idle UncountComponent asked e n = none_back e
  none_idle (Purge p step) asked e n = refl
  none_idle (Release step) asked e n = none_released step
  none_idle (CountObject object) asked e n = none_by asked e (n + 1)
  none_idle _ asked e n = none_by asked e n

  -- and a call that was admitted has counted its instance.
  pub admitted_counts : (phase : Phase P PlainHeap) (asked : Asked) (e : Ending) (n : ℕ) → admitted_at (stage_at phase asked e n) ≤ phase_instances phase * instances_for asked
  admitted_counts Idle asked e n = omega arith
  admitted_counts Key asked e n = omega arith
  admitted_counts Validate asked e n = omega arith
  admitted_counts CountInstance asked e n = omega arith
  admitted_counts TestStack asked e n = omega arith
  admitted_counts TestHeap asked e n = omega arith
  admitted_counts (CountHeap lease) asked e n = omega arith
  admitted_counts (ValidateComponent info) asked e n = omega arith
  admitted_counts CountComponent asked e n = omega arith
  admitted_counts UncountComponent asked e n = omega (arith, admitted_back e)
  admitted_counts (Purge p step) asked e n = omega arith
  admitted_counts (Release step) asked e n = omega (arith, released_none step)
  admitted_counts (CountObject object) asked e n = omega (arith, admitted_by asked e (n + 1))
  admitted_counts _ asked e n = omega (arith, admitted_by asked e n)

  seeks_released : (step : ReleaseStep P) → stage_of_release step ≡ asks seeks_stack → ⊥
  seeks_released Reserve is = absurd cc
  seeks_released _ is = absurd cc

  -- A call that seeks a stack asks for one.
  seeks_at : (maker : MakerTold) (s : Settings) (plan : Plan) (phase : Phase P PlainHeap) (f : Frame P PlainHeap) → IsShapedAt maker s plan phase f → stage_at phase f.asked f.ending (objects_in f.objects) ≡ asks seeks_stack → f.asked ≡ stack_asked
  seeks_at maker s plan Idle f shape is = absurd cc
  seeks_at maker s plan Key f shape is = absurd cc
  seeks_at maker s plan Validate f shape is = absurd cc
  seeks_at maker s plan TestStack f shape is = shape.1.2
  seeks_at maker s plan CountInstance f shape is = absurd cc
  seeks_at maker s plan TestHeap f shape is = absurd cc
  seeks_at maker s plan (CountHeap lease) f shape is = absurd cc
  seeks_at maker s plan (ValidateComponent info) f shape is = absurd cc
  seeks_at maker s plan CountComponent f shape is = absurd cc
  seeks_at maker s plan UncountComponent f shape is = absurd (seeks_back f.ending is)
  seeks_at maker s plan (Purge p step) f shape is = absurd cc
  seeks_at maker s plan (Release step) f shape is = absurd (seeks_released step is)
  seeks_at maker s plan (CountObject object) f shape is = seeks_by f.asked f.ending (objects_in f.objects + 1) is
  seeks_at maker s plan _ f shape is = seeks_by f.asked f.ending (objects_in f.objects) is

  pub stack_is_asked : (maker : MakerTold) (c : PoolCore P PlainHeap) (f : Frame P PlainHeap) → IsFrame maker c.settings c.plan f → stage_of f ≡ asks seeks_stack → f.asked ≡ stack_asked
  stack_is_asked maker c f frame is = seeks_at maker c.settings c.plan f.phase f frame.shape is

  abbrev pub is_key : Option (Outcome P PlainHeap) → Bool
  is_key (Some answer.Key) = true
  is_key _ = false

  -- what holds where a request is under way holds where one is granted
  pub place_granted : (Q : Type 0) (b : Bool) (o : Option (Outcome P PlainHeap)) → (b ≡ true → Q) → IfGranted (λ g. b ≡ true) o → IfGranted (λ g. Q) o
  place_granted Q b (Some (answer.Granted grant)) place is = place is
  place_granted Q b _ place is = tt

  -- this holds where an instance is granted
  abbrev pub IfInstance : Type 0 → Option (Outcome P PlainHeap) → Type 0
  IfInstance Q (Some (answer.Granted (instance lease))) = Q
  IfInstance Q _ = Unit {0}

  -- A step answers where it ends the call. A request is granted or goes on only where one was under way, and only a call
  -- for the stripe answers with it, which no step leads to.
  pub record IsStagedStep (s t : Stage) (o : Option (Outcome P PlainHeap)) : Type 0 where
    pub answer : is_some o ≡ (not (is_none s) && is_none t)
    pub settled : is_some o ≡ true → t ≡ no_call
    pub asking : is_asking t ≡ true → is_asking s ≡ true
    pub granted : IfGranted (λ g. is_asking s ≡ true) o
    pub for_it : is_for_objects t ≡ true → is_for_objects s ≡ true
    pub instance_granted : IfInstance (is_for_objects s ≡ true) o
    pub drawn : is_drawing t ≡ false
    pub key : is_key o ≡ is_drawing s

  -- A component is granted only where fewer are counted than there may be.
  abbrev pub MayGrant : PoolCore P PlainHeap → Option (Outcome P PlainHeap) → Type 0
  MayGrant c o = (count_granted grant_components o ≡ 0) ⊎ ((count_granted grant_components o ≡ 1) × (c.counters.component_instances < c.settings.max_component_instances))

  -- No more is admitted than others and the limit leave room for.
  pub record Admits (others most : ℕ) (t : Stage) (o : Option (Outcome P PlainHeap)) : Type 0 where
    pub within : others + (admitted_at t + count_granted grant_instances o) ≤ most

module _ {P : Type 0} (maker : MakerTold) (old new : PartyTold) (c : PoolCore P PlainHeap) (f : Frame P PlainHeap) where
  -- a request for an instance stays one, and no other becomes one
  for_instance : (p q : Progress) → Follows old new c f p q → is_for_instance q ≡ true → is_for_instance p ≡ true
  for_instance untested q follows for = refl
  for_instance uncounted q follows for = refl
  for_instance (admitted n) q follows for = refl
  for_instance (seeks_single n) (seeks_single m) follows for = for
  for_instance seeks_stack seeks_stack follows for = for
  for_instance tests_heap (seeks_heap m) follows for = for
  for_instance (seeks_heap n) (seeks_heap m) follows for = for
  for_instance (seeks_heap n) counts_heap follows for = for
  for_instance _ _ follows for = absurd follows

  pub staged : (s t : Stage) (o : Option (Outcome P PlainHeap)) → Goes maker old new c f s t o → IsStagedStep s t o
  staged no_call no_call None goes = record { answer = refl; settled = λ e. refl; asking = λ e. e; granted = tt; for_it = λ e. absurd cc; instance_granted = tt; drawn = refl; key = refl }
  staged keys no_call (Some answer.Key) goes = record { answer = refl; settled = λ e. refl; asking = λ e. absurd cc; granted = tt; for_it = λ e. absurd cc; instance_granted = tt; drawn = refl; key = refl }
  staged (asks p) (asks q) None goes = record { answer = refl; settled = λ e. absurd cc; asking = λ e. refl; granted = tt; for_it = λ e. for_instance p q goes e; instance_granted = tt; drawn = refl; key = refl }
  staged (asks p) (refusing e) None goes = record { answer = refl; settled = λ e. absurd cc; asking = λ e. absurd cc; granted = tt; for_it = λ e. absurd cc; instance_granted = tt; drawn = refl; key = refl }
  staged (asks untested) no_call (Some (answer.Refused e)) goes = record { answer = refl; settled = λ e. refl; asking = λ e. absurd cc; granted = tt; for_it = λ e. absurd cc; instance_granted = tt; drawn = refl; key = refl }
  staged (asks p) no_call (Some (answer.Granted (instance lease))) goes = record { answer = refl; settled = λ e. refl; asking = λ e. absurd cc; granted = refl; for_it = λ e. absurd cc; instance_granted = for_instance p (admitted (objects_wanted f.asked)) goes.0 refl; drawn = refl; key = refl }
  staged (asks p) no_call (Some (answer.Granted (one_memory lease))) goes = record { answer = refl; settled = λ e. refl; asking = λ e. absurd cc; granted = refl; for_it = λ e. absurd cc; instance_granted = tt; drawn = refl; key = refl }
  staged (asks p) no_call (Some (answer.Granted (one_table lease))) goes = record { answer = refl; settled = λ e. refl; asking = λ e. absurd cc; granted = refl; for_it = λ e. absurd cc; instance_granted = tt; drawn = refl; key = refl }
  staged (asks p) no_call (Some (answer.Granted (stack lease))) goes = record { answer = refl; settled = λ e. refl; asking = λ e. absurd cc; granted = refl; for_it = λ e. absurd cc; instance_granted = tt; drawn = refl; key = refl }
  staged (asks seeks_stack) no_call (Some (answer.Refused e)) goes = record { answer = refl; settled = λ e. refl; asking = λ e. absurd cc; granted = tt; for_it = λ e. absurd cc; instance_granted = tt; drawn = refl; key = refl }
  staged (asks tests_heap) no_call (Some (answer.Refused e)) goes = record { answer = refl; settled = λ e. refl; asking = λ e. absurd cc; granted = tt; for_it = λ e. absurd cc; instance_granted = tt; drawn = refl; key = refl }
  staged (asks (seeks_single n)) no_call (Some (answer.Refused e)) goes = record { answer = refl; settled = λ e. refl; asking = λ e. absurd cc; granted = tt; for_it = λ e. absurd cc; instance_granted = tt; drawn = refl; key = refl }
  staged (asks (seeks_heap n)) no_call (Some (answer.Refused e)) goes = record { answer = refl; settled = λ e. refl; asking = λ e. absurd cc; granted = tt; for_it = λ e. absurd cc; instance_granted = tt; drawn = refl; key = refl }
  staged (asks counts_heap) no_call (Some (answer.Granted (heap lease memory))) goes = record { answer = refl; settled = λ e. refl; asking = λ e. absurd cc; granted = refl; for_it = λ e. absurd cc; instance_granted = tt; drawn = refl; key = refl }
  staged (asks counts_heap) no_call (Some (answer.Granted (heap_over lease))) goes = record { answer = refl; settled = λ e. refl; asking = λ e. absurd cc; granted = refl; for_it = λ e. absurd cc; instance_granted = tt; drawn = refl; key = refl }
  staged (tests_component info) counts_component None goes = record { answer = refl; settled = λ e. absurd cc; asking = λ e. refl; granted = tt; for_it = λ e. absurd cc; instance_granted = tt; drawn = refl; key = refl }
  staged (tests_component info) no_call (Some (answer.Refused e)) goes = record { answer = refl; settled = λ e. refl; asking = λ e. absurd cc; granted = tt; for_it = λ e. absurd cc; instance_granted = tt; drawn = refl; key = refl }
  staged counts_component no_call (Some (answer.Granted component)) goes = record { answer = refl; settled = λ e. refl; asking = λ e. absurd cc; granted = refl; for_it = λ e. absurd cc; instance_granted = tt; drawn = refl; key = refl }
  staged counts_component (refusing e) None goes = record { answer = refl; settled = λ e. absurd cc; asking = λ e. absurd cc; granted = tt; for_it = λ e. absurd cc; instance_granted = tt; drawn = refl; key = refl }
  staged returning returning None goes = record { answer = refl; settled = λ e. absurd cc; asking = λ e. absurd cc; granted = tt; for_it = λ e. absurd cc; instance_granted = tt; drawn = refl; key = refl }
  staged returning no_call (Some answer.Returned) goes = record { answer = refl; settled = λ e. refl; asking = λ e. absurd cc; granted = tt; for_it = λ e. absurd cc; instance_granted = tt; drawn = refl; key = refl }
  staged (refusing e) (refusing d) None goes = record { answer = refl; settled = λ e. absurd cc; asking = λ e. absurd cc; granted = tt; for_it = λ e. absurd cc; instance_granted = tt; drawn = refl; key = refl }
  staged (refusing e) no_call (Some (answer.Refused d)) goes = record { answer = refl; settled = λ e. refl; asking = λ e. absurd cc; granted = tt; for_it = λ e. absurd cc; instance_granted = tt; drawn = refl; key = refl }
  staged purging purging None goes = record { answer = refl; settled = λ e. absurd cc; asking = λ e. absurd cc; granted = tt; for_it = λ e. absurd cc; instance_granted = tt; drawn = refl; key = refl }
  staged purging no_call (Some (answer.Purged n)) goes = record { answer = refl; settled = λ e. refl; asking = λ e. absurd cc; granted = tt; for_it = λ e. absurd cc; instance_granted = tt; drawn = refl; key = refl }
  staged reserving releasing None goes = record { answer = refl; settled = λ e. absurd cc; asking = λ e. absurd cc; granted = tt; for_it = λ e. absurd cc; instance_granted = tt; drawn = refl; key = refl }
  staged reserving no_call (Some (answer.Refused e)) goes = record { answer = refl; settled = λ e. refl; asking = λ e. absurd cc; granted = tt; for_it = λ e. absurd cc; instance_granted = tt; drawn = refl; key = refl }
  staged releasing releasing None goes = record { answer = refl; settled = λ e. absurd cc; asking = λ e. absurd cc; granted = tt; for_it = λ e. absurd cc; instance_granted = tt; drawn = refl; key = refl }
  staged releasing no_call (Some (answer.Released n)) goes = record { answer = refl; settled = λ e. refl; asking = λ e. absurd cc; granted = tt; for_it = λ e. absurd cc; instance_granted = tt; drawn = refl; key = refl }
  staged _ _ _ goes = absurd goes

  pub may_grant : (s t : Stage) (o : Option (Outcome P PlainHeap)) → Goes maker old new c f s t o → MayGrant c o
  may_grant no_call no_call None goes = inl refl
  may_grant keys no_call (Some answer.Key) goes = inl refl
  may_grant (asks p) (asks q) None goes = inl refl
  may_grant (asks p) (refusing e) None goes = inl refl
  may_grant (asks untested) no_call (Some (answer.Refused e)) goes = inl refl
  may_grant (asks p) no_call (Some (answer.Granted (instance lease))) goes = inl (omega arith)
  may_grant (asks p) no_call (Some (answer.Granted (one_memory lease))) goes = inl refl
  may_grant (asks p) no_call (Some (answer.Granted (one_table lease))) goes = inl refl
  may_grant (asks p) no_call (Some (answer.Granted (stack lease))) goes = inl refl
  may_grant (asks seeks_stack) no_call (Some (answer.Refused e)) goes = inl refl
  may_grant (asks tests_heap) no_call (Some (answer.Refused e)) goes = inl refl
  may_grant (asks (seeks_single n)) no_call (Some (answer.Refused e)) goes = inl refl
  may_grant (asks (seeks_heap n)) no_call (Some (answer.Refused e)) goes = inl refl
  may_grant (asks counts_heap) no_call (Some (answer.Granted (heap lease memory))) goes = inl refl
  may_grant (asks counts_heap) no_call (Some (answer.Granted (heap_over lease))) goes = inl refl
  may_grant (tests_component info) counts_component None goes = inl refl
  may_grant (tests_component info) no_call (Some (answer.Refused e)) goes = inl refl
  may_grant counts_component no_call (Some (answer.Granted component)) goes = inr (refl, goes)
  may_grant counts_component (refusing e) None goes = inl refl
  may_grant returning returning None goes = inl refl
  may_grant returning no_call (Some answer.Returned) goes = inl refl
  may_grant (refusing e) (refusing d) None goes = inl refl
  may_grant (refusing e) no_call (Some (answer.Refused d)) goes = inl refl
  may_grant purging purging None goes = inl refl
  may_grant purging no_call (Some (answer.Purged n)) goes = inl refl
  may_grant reserving releasing None goes = inl refl
  may_grant reserving no_call (Some (answer.Refused e)) goes = inl refl
  may_grant releasing releasing None goes = inl refl
  may_grant releasing no_call (Some (answer.Released n)) goes = inl refl
  may_grant _ _ _ goes = absurd goes

  granted_within : (others n : ℕ) (p : Progress) → Follows old new c f p (admitted n) → others + admitted_at (asks p) ≤ c.settings.max_core_instances → others ≤ c.counters.core_instances → others + 1 ≤ c.settings.max_core_instances
  granted_within others n untested follows within counted = absurd follows
  granted_within others n uncounted follows within counted = omega (arith, follows.1, counted)
  granted_within others n (seeks_single m) follows within counted = absurd follows
  granted_within others n seeks_stack follows within counted = absurd follows
  granted_within others n tests_heap follows within counted = absurd follows
  granted_within others n (seeks_heap m) follows within counted = absurd follows
  granted_within others n counts_heap follows within counted = absurd follows
  granted_within others n (admitted m) follows within counted = omega (arith, within)

  followed_within : (others : ℕ) (p q : Progress) → Follows old new c f p q → others + admitted_at (asks p) ≤ c.settings.max_core_instances → others ≤ c.counters.core_instances → others + admitted_at (asks q) ≤ c.settings.max_core_instances
  followed_within others p (admitted m) follows within counted = omega (arith, granted_within others m p follows within counted)
  followed_within others p _ follows within counted = omega (arith, within)

  pub admits : (others : ℕ) (s t : Stage) (o : Option (Outcome P PlainHeap)) → Goes maker old new c f s t o → others + admitted_at s ≤ c.settings.max_core_instances → others ≤ c.counters.core_instances → Admits others c.settings.max_core_instances t o
  admits others no_call no_call None goes within counted = record { within = omega (arith, within) }
  admits others keys no_call (Some answer.Key) goes within counted = record { within = omega (arith, within) }
  admits others (asks p) (asks q) None goes within counted = record { within = omega (arith, followed_within others p q goes within counted) }
  admits others (asks p) (refusing e) None goes within counted = record { within = omega (arith, within) }
  admits others (asks untested) no_call (Some (answer.Refused e)) goes within counted = record { within = omega (arith, within) }
  admits others (asks p) no_call (Some (answer.Granted (instance lease))) goes within counted = record { within = omega (arith, granted_within others (objects_wanted f.asked) p goes.0 within counted) }
  admits others (asks p) no_call (Some (answer.Granted (one_memory lease))) goes within counted = record { within = omega (arith, within) }
  admits others (asks p) no_call (Some (answer.Granted (one_table lease))) goes within counted = record { within = omega (arith, within) }
  admits others (asks p) no_call (Some (answer.Granted (stack lease))) goes within counted = record { within = omega (arith, within) }
  admits others (asks seeks_stack) no_call (Some (answer.Refused e)) goes within counted = record { within = omega (arith, within) }
  admits others (asks tests_heap) no_call (Some (answer.Refused e)) goes within counted = record { within = omega (arith, within) }
  admits others (asks (seeks_single n)) no_call (Some (answer.Refused e)) goes within counted = record { within = omega (arith, within) }
  admits others (asks (seeks_heap n)) no_call (Some (answer.Refused e)) goes within counted = record { within = omega (arith, within) }
  admits others (asks counts_heap) no_call (Some (answer.Granted (heap lease memory))) goes within counted = record { within = omega (arith, within) }
  admits others (asks counts_heap) no_call (Some (answer.Granted (heap_over lease))) goes within counted = record { within = omega (arith, within) }
  admits others (tests_component info) counts_component None goes within counted = record { within = omega (arith, within) }
  admits others (tests_component info) no_call (Some (answer.Refused e)) goes within counted = record { within = omega (arith, within) }
  admits others counts_component no_call (Some (answer.Granted component)) goes within counted = record { within = omega (arith, within) }
  admits others counts_component (refusing e) None goes within counted = record { within = omega (arith, within) }
  admits others returning returning None goes within counted = record { within = omega (arith, within) }
  admits others returning no_call (Some answer.Returned) goes within counted = record { within = omega (arith, within) }
  admits others (refusing e) (refusing d) None goes within counted = record { within = omega (arith, within) }
  admits others (refusing e) no_call (Some (answer.Refused d)) goes within counted = record { within = omega (arith, within) }
  admits others purging purging None goes within counted = record { within = omega (arith, within) }
  admits others purging no_call (Some (answer.Purged n)) goes within counted = record { within = omega (arith, within) }
  admits others reserving releasing None goes within counted = record { within = omega (arith, within) }
  admits others reserving no_call (Some (answer.Refused e)) goes within counted = record { within = omega (arith, within) }
  admits others releasing releasing None goes within counted = record { within = omega (arith, within) }
  admits others releasing no_call (Some (answer.Released n)) goes within counted = record { within = omega (arith, within) }
  admits others _ _ _ goes within counted = absurd goes
