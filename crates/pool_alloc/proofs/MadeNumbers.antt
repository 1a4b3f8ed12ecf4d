-- A pool is made with the numbers of its settings: what the making of its parts says of those it says of the settings.
use Rattle.std.proofs.Common.{◌≡◌, ℕ, ◌<◌, ◌^◌, Bool, List, Option, sym, ap, subst, ◌∙◌, IfSome}
use Rattle.pool_alloc.proofs.Imports.{told_weaker, MakerTold, Planned, Told, slab_stripes, PoolingAllocationConfig, Tunables, Offered, RaisesUnlessGivenUp, RaisesBehindUnlessGivenUp, IsListedPoolFault, AreMadeTo, fails_some_slot, lists_some_making, SomeGivenUp, places_planned, divided, IsStripedPlanOf, PoolNewError, PartSettings, PoolPart, Plan, StripedPlanSettings}
use Rattle.pool_alloc.specs.Made.{slots_of, plan_settings, part_settings, lists_making, fails_slots, GivesUpRegion}

-- the numbers and sizes as the code makes them, with a count of stripes that is that of the settings
module _ (page : ℕ) (config : PoolingAllocationConfig) (tunables : Tunables) (offered : Offered) (shards n : ℕ) (y : StripedPlanSettings) (ps : PartSettings) (stripes : n ≡ slab_stripes config tunables page offered) (numbers : y ≡ record { totals = slots_of config; num_stripes = n; requested_shards = shards; queues = shards }) (sizes : ps ≡ part_settings page config offered) where
  numbers_are : y ≡ plan_settings page config tunables offered shards
  numbers_are = numbers ∙ ap (λ (k : ℕ). record (plan_settings page config tunables offered shards) { num_stripes = k }) stripes

  fails_as : (plan : List Planned) → fails_some_slot y ps plan ≡ fails_slots page config tunables offered shards plan
  fails_as plan = ap (λ (z : StripedPlanSettings). fails_some_slot z ps plan) numbers_are ∙ ap (λ (s : PartSettings). fails_some_slot (plan_settings page config tunables offered shards) s plan) sizes

  pub fails_in : (b : Bool) (plan : Option (List Planned)) → IfSome plan (λ p. fails_some_slot y ps p ≡ b) → IfSome plan (λ p. fails_slots page config tunables offered shards p ≡ b)
  fails_in b plan told = told_weaker (λ p. fails_some_slot y ps p ≡ b) (λ p. fails_slots page config tunables offered shards p ≡ b) plan (λ p h. sym (fails_as p) ∙ h) told

  pub fault_in : (e : PoolNewError) (plan : Option (List Planned)) → IfSome plan (λ p. IsListedPoolFault (fails_some_slot y ps p) e) → IfSome plan (λ p. IsListedPoolFault (fails_slots page config tunables offered shards p) e)
  fault_in e plan told = told_weaker (λ p. IsListedPoolFault (fails_some_slot y ps p) e) (λ p. IsListedPoolFault (fails_slots page config tunables offered shards p) e) plan (λ p h. subst (λ b. IsListedPoolFault b e) (fails_as p) h) told

  pub listed_as : (listed : List Planned) → lists_some_making y.totals listed ≡ lists_making config listed
  listed_as listed = ap (λ (z : StripedPlanSettings). lists_some_making z.totals listed) numbers_are

  module _ (maker : MakerTold) (paged : page ≡ maker.page) where
    pub whole : y ≡ plan_settings maker.page config tunables offered shards
    whole = numbers_are ∙ ap (λ (k : ℕ). plan_settings k config tunables offered shards) paged

    pub sizes_are : ps ≡ part_settings maker.page config offered
    sizes_are = sizes ∙ ap (λ (k : ℕ). part_settings k config offered) paged

    given_up_as : {P : Type 0} (told : P → Told) → SomeGivenUp told y ps maker ≡ GivesUpRegion told config tunables offered shards maker
    given_up_as told = ap (λ (z : StripedPlanSettings). SomeGivenUp told z ps maker) whole ∙ ap (λ (s : PartSettings). SomeGivenUp told (plan_settings maker.page config tunables offered shards) s maker) sizes_are

    pub raises_in : {P : Type 0} (told : P → Told) (old new : ℕ) (e : PoolNewError) → RaisesUnlessGivenUp (SomeGivenUp told y ps maker) old new e → RaisesUnlessGivenUp (GivesUpRegion told config tunables offered shards maker) old new e
    raises_in told old new e raises = subst (λ (G : Type 0). RaisesUnlessGivenUp G old new e) (given_up_as told) raises

    pub behind_in : {P : Type 0} (told : P → Told) (listed : List Planned) (old new : ℕ) (e : PoolNewError) → RaisesBehindUnlessGivenUp (SomeGivenUp told y ps maker) (lists_some_making y.totals listed) old new e → RaisesBehindUnlessGivenUp (GivesUpRegion told config tunables offered shards maker) (lists_making config listed) old new e
    behind_in told listed old new e raises =
        subst (λ (G : Type 0). RaisesBehindUnlessGivenUp G (lists_making config listed) old new e) (given_up_as told)
        (subst (λ (b : Bool). RaisesBehindUnlessGivenUp (SomeGivenUp told y ps maker) b old new e) (listed_as listed) raises)

    pub plan_in : (plan : Plan) → IsStripedPlanOf y plan → IsStripedPlanOf (plan_settings maker.page config tunables offered shards) plan
    plan_in plan is = subst (λ (z : StripedPlanSettings). IsStripedPlanOf z plan) whole is

    pub few_in : places_planned (divided y) < 2 ^ 32 → places_planned (divided (plan_settings maker.page config tunables offered shards)) < 2 ^ 32
    few_in few = subst (λ (z : StripedPlanSettings). places_planned (divided z) < 2 ^ 32) whole few

    pub parts_in : {P H : Type 0} (plan : Plan) (list : List (PoolPart P H)) → AreMadeTo plan y.num_stripes maker ps (places_planned (divided y)) list → AreMadeTo plan (plan_settings maker.page config tunables offered shards).num_stripes maker (part_settings maker.page config offered) (places_planned (divided (plan_settings maker.page config tunables offered shards))) list
    parts_in plan list made =
        subst (λ (s : PartSettings). AreMadeTo plan (plan_settings maker.page config tunables offered shards).num_stripes maker s (places_planned (divided (plan_settings maker.page config tunables offered shards))) list) sizes_are
        (subst (λ (z : StripedPlanSettings). AreMadeTo plan z.num_stripes maker ps (places_planned (divided z)) list) whole made)
