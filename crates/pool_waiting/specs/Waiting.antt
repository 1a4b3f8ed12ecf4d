-- What a pool answers to callers who wait, in the words of the trait of allocators.
use Rattle.std.specs.Prelude.{◌≡◌, ◌⊎◌, ℕ, ◌+◌, ◌<◌, Bool, List, [], ◌∷◌, map, Option, Some, None, is_some, option_map, Result, Ok, Err, IfOk, IfErr, IfSome, IsSome}
use Rattle.std.specs.List.{AllByRecursion}
use Rattle.pool_types.specs.declared.module_types.CompiledModuleId.{CompiledModuleId}
use Rattle.pool_types.specs.declared.module_types.DefinedMemoryIndex.{DefinedMemoryIndex}
use Rattle.pool_types.specs.declared.module_types.MemoryType.{MemoryType}
use Rattle.pool_types.specs.declared.table_type.TableType.{TableType}
use Rattle.pool_types.specs.declared.unsupported.Unsupported.{Unsupported}
use Rattle.pool_hall.specs.Seat.{view}
use Rattle.pool_hall.specs.Sum.{total}
use Rattle.pool_hall.specs.Unit.{Beside}
use Rattle.pool_hall.specs.declared.view.View.{View}
use Rattle.pool_index.specs.declared.ids.MemoryInModule.{MemoryInModule}
use Rattle.pool_limits.specs.Exchanges.{Exchange}
use Rattle.pool_limits.specs.LimiterTold.{LimiterTold}
use Rattle.pool_slots.specs.HeapsTold.{HeapsTold}
use Rattle.pool_slots.specs.declared.errors.AllocError.{AllocError}
use Rattle.pool_slots.specs.declared.errors.AllocError.TheVariants as refusal
use Rattle.pool_alloc.specs.Calls.{IsGrant}
use Rattle.pool_alloc.specs.HeapLeases.{LeasedHeap}
use Rattle.pool_alloc.specs.Held.{Held, memory_held, table_held, stack_held, heap_held, instance_held, core_counted, component_counted}
use Rattle.pool_alloc.specs.Leases.{Lease}
use Rattle.pool_alloc.specs.Objects.{no_objects}
use Rattle.pool_alloc.specs.PartyTold.{PartyTold}
use Rattle.pool_alloc.specs.Places.{Counter, Thing, only}
use Rattle.pool_alloc.specs.PlainModules.{MemoryAsked, ModuleAsked}
use Rattle.pool_alloc.specs.Refusals.{module_refused}
use Rattle.pool_alloc.specs.Requests.{image_for, lent}
use Rattle.pool_alloc.specs.StackLeases.{LeasedStack}
use Rattle.pool_alloc.specs.Stepping.{grant_count, grant_counted}
use Rattle.pool_alloc.specs.TableLeases.{LeasedTable}
use Rattle.pool_alloc.specs.declared.frame.Asked.{Asked}
use Rattle.pool_alloc.specs.declared.frame.Asked.TheVariants as wanted
use Rattle.pool_alloc.specs.declared.frame.Grant.{Grant}
use Rattle.pool_alloc.specs.declared.frame.Grant.TheVariants as grant
use Rattle.pool_alloc.specs.declared.instance_allocator.request.InstanceAllocationRequest.{InstanceAllocationRequest}
use Rattle.pool_alloc.specs.declared.leases.instance.InstanceLease.{InstanceLease}
use Rattle.pool_driver.specs.Asking.{AnsweredAfter, HasAsked}
use Rattle.pool_driver.specs.Calling.{draws_key, purges}
use Rattle.pool_driver.specs.Faults.{GrantKeeps}
use Rattle.pool_driver.specs.Placed.{About}
use Rattle.pool_driver.specs.Purging.{HasMissed}
use Rattle.pool_driver.specs.Refusing.{FailsMemory, FailsTable, HeapPasses, HeapRefused, ModuleRefused, StackRefused}
use Rattle.pool_driver.specs.Spending.{ColdWithin}
use Rattle.pool_driver.specs.UnknownPuts.{UnknownCaused}
use Rattle.pool_callers.specs.Callers.{Caller, CountsJust, HasAskedMaker, IsBounded, IsCounted, IsGivenBack, IsGranted, IsKept, IsRefused, IsUncounted, left_counted, outcome_of}
use Rattle.pool_callers.specs.NoHeapsTold.{nobody_told}

-- The stripe in which a request is made: its own, or else the seat's.
abbrev pub stripe_for : Option ℕ → ℕ → ℕ
stripe_for None own = own
stripe_for (Some stripe) own = stripe

-- Which slots a memory may be affine to: those of the memory with this number in this module, where both are known.
abbrev pub affine_for : Option CompiledModuleId → Option DefinedMemoryIndex → Option MemoryInModule
affine_for (Some id) (Some index) = Some (record { 0 = id; 1 = index })
affine_for _ _ = None

module _ {R : Type 0} where
  -- What a request for a memory asks the pool for.
  abbrev pub memory_asked : InstanceAllocationRequest R → MemoryType → Option DefinedMemoryIndex → MemoryAsked
  memory_asked request ty index = record { ty = ty; image = image_for (option_map (λ i. i.now) request.images) index; affine = affine_for request.unique_id index }

  -- What a request for an instance asks it for.
  abbrev pub module_asked : InstanceAllocationRequest R → ModuleAsked
  module_asked request = record { info = request.module.now; images = option_map (λ i. i.now) request.images; id = request.unique_id }

  module _ (told : R → LimiterTold) (leads : R → Exchange → R → Type 0) where
    -- What a limiter tells, and of heaps nobody.
    abbrev pub told_by : R → PartyTold
    told_by limiter = record { limiter = told limiter; heaps = nobody_told }

    module _ {X P H : Type 0} (what : Asked) (of : X → Grant P H) (result : Result X AllocError) where
      -- What the limiter was asked that a request lends, where it lends one: what the pool asks for such a request that ends so. Nobody else
      -- was asked.
      abbrev pub AskedBy : Option R → Option R → Type 0
      AskedBy None after = after ≡ None
      AskedBy (Some old) None = ⊥
      AskedBy (Some old) (Some new) = HasAsked leads ⊥ ⊥ (AnsweredAfter what (outcome_of of result)) old new (told_by old) (told_by new) (outcome_of of result)

      -- The same of a request that breaks this rule, if it breaks one: it is refused for that, and nobody was asked.
      abbrev pub AskedUnless : Option Unsupported → Option R → Option R → Type 0
      AskedUnless (Some rule) before after = (result ≡ Err (refusal.Unsupported rule)) × (after ≡ before)
      AskedUnless None before after = AskedBy before after

module _ {P H : Type 0} where
  -- What a seat has, as a grant of the pool. An instance that it has counted and hasn't got is one of no memory and no table.
  abbrev pub as_grant : Held Lease LeasedTable LeasedStack (LeasedHeap H) (InstanceLease P) → Grant P H
  as_grant (memory_held lease) = grant.Memory lease
  as_grant (table_held lease) = grant.Table lease
  as_grant (stack_held lease) = grant.Stack lease
  as_grant (heap_held lease) = grant.HeapOver lease
  as_grant (instance_held lease) = grant.Instance lease
  as_grant core_counted = grant.Instance no_objects
  as_grant component_counted = grant.Component

  -- A seat with the second view has what one with the first has, which stands beside what it needs, and beside that these grants, and
  -- nothing else: their units, and what is counted of them. Each is a grant of the pool, none of whose regions has fewer faults than its unit
  -- tells. The seat has as many portions.
  pub record HasGrants {T : Type 0} (a : About) (v : View T) (grants : List (Grant P H)) (w : View T) : Type 0 where
    pub are : AllByRecursion (IsGrant a.maker a.settings a.plan) grants
    pub keep : AllByRecursion GrantKeeps grants
    pub beside : Beside v.units
    pub units : (t : Thing) → total t w.units ≡ total (grant_count t) grants + total t v.units
    pub counted : (k : Counter) → left_counted w k ≡ total (grant_counted (only k)) grants + left_counted v k
    pub portions : w.portions ≡ v.portions

  -- The same of what a seat may have.
  abbrev pub HasAll : {T : Type 0} → About → View T → List (Held Lease LeasedTable LeasedStack (LeasedHeap H) (InstanceLease P)) → View T → Type 0
  HasAll a v held w = HasGrants a v (map as_grant held) w

  module _ {T X : Type 0} where
    -- A request is granted as it was asked for, or refused.
    abbrev pub Ends : About → ℕ → ℕ → Asked → (X → Grant P H) → Result X AllocError → View T → View T → Type 0
    Ends a home stripe what of (Ok x) v w = IsGranted a what (of x) v w
    Ends a home stripe what of (Err e) v w = IsRefused a home stripe what e v w

  module _ {R M : Type 0} (told : R → LimiterTold) (leads : R → Exchange → R → Type 0) (a : About) where
    -- What a request for a memory answers: how it ends in the seat, in which stripe the seat is then, and what the limiter was asked that is
    -- lent. It takes no memory but for a share of its image, where it has one.
    pub record AnswersMemory (home : ℕ) (request : InstanceAllocationRequest R) (ty : MemoryType) (index : Option DefinedMemoryIndex) (result : Result Lease AllocError) (seat left : Caller P H M) (after : Option R) : Type 0 where
      pub ends : Ends a home (stripe_for request.stripe seat.frame.stripe) (wanted.Memory (memory_asked request ty index)) grant.Memory result (view seat.seat) (view left.seat)
      pub reason : IfErr result (λ e. FailsMemory e ⊎ ((e ≡ refusal.Memory) × IsSome (image_for (option_map (λ i. i.now) request.images) index)))
      pub asked : AskedBy told leads {P = P} {H = H} (wanted.Memory (memory_asked request ty index)) grant.Memory result (lent request.limiter) after
      pub stripe : left.frame.stripe ≡ stripe_for request.stripe seat.frame.stripe

    -- What a request for a table answers. Its stripe doesn't matter.
    pub record AnswersTable (home : ℕ) (request : InstanceAllocationRequest R) (ty : TableType) (result : Result LeasedTable AllocError) (seat left : Caller P H M) (after : Option R) : Type 0 where
      pub ends : Ends a home seat.frame.stripe (wanted.Table ty) grant.Table result (view seat.seat) (view left.seat)
      pub reason : IfErr result FailsTable
      pub asked : AskedBy told leads {P = P} {H = H} (wanted.Table ty) grant.Table result (lent request.limiter) after
      pub stripe : left.frame.stripe ≡ seat.frame.stripe

    -- What a request for an instance answers. Of a module that breaks a rule nobody is asked.
    pub record AnswersModule (home : ℕ) (request : InstanceAllocationRequest R) (result : Result (InstanceLease P) AllocError) (seat left : Caller P H M) (after : Option R) : Type 0 where
      pub ends : Ends a home (stripe_for request.stripe seat.frame.stripe) (wanted.Module (module_asked request)) grant.Instance result (view seat.seat) (view left.seat)
      pub tested : IfOk result (λ lease. module_refused a.settings a.plan.totals.table request.module.now ≡ None)
      pub reason : IfErr result (ModuleRefused a.settings a.plan request.module.now)
      pub asked : AskedUnless told leads {P = P} {H = H} (wanted.Module (module_asked request)) grant.Instance result (module_refused a.settings a.plan.totals.table request.module.now) (lent request.limiter) after
      pub stripe : left.frame.stripe ≡ stripe_for request.stripe seat.frame.stripe

  module _ {M : Type 0} (a : About) where
    -- What a request for a stack answers.
    pub record AnswersStack (home : ℕ) (result : Result LeasedStack AllocError) (seat left : Caller P H M) : Type 0 where
      pub ends : Ends a home seat.frame.stripe wanted.Stack grant.Stack result (view seat.seat) (view left.seat)
      pub enabled : IfOk result (λ lease. 0 < a.settings.stack_size)
      pub reason : IfErr result (StackRefused a.settings)
      pub cold : IfOk result (λ lease. ColdWithin (view seat.seat) (view left.seat) a.plan 1)
      pub none_cold : IfErr result (λ e. ColdWithin (view seat.seat) (view left.seat) a.plan 0)
      pub stripe : left.frame.stripe ≡ seat.frame.stripe

    -- What a request for a heap over the memory with this index answers.
    pub record AnswersHeap (home memory : ℕ) (result : Result (LeasedHeap H) AllocError) (seat left : Caller P H M) (old new : HeapsTold) : Type 0 where
      pub ends : Ends a home seat.frame.stripe (wanted.HeapOver (record { 0 = memory })) grant.HeapOver result (view seat.seat) (view left.seat)
      pub tested : IfOk result (λ lease. HeapPasses a.settings (wanted.HeapOver (record { 0 = memory })))
      pub reason : IfErr result (HeapRefused a.settings (wanted.HeapOver (record { 0 = memory })))
      pub asked : HasAskedMaker old new (outcome_of {P = P} {H = H} grant.HeapOver result)
      pub stripe : left.frame.stripe ≡ seat.frame.stripe

    -- What a give-back leaves.
    pub record Returns (given : Grant P H) (seat left : Caller P H M) : Type 0 where
      pub returned : IsGivenBack a given (view seat.seat) (view left.seat)
      pub stripe : left.frame.stripe ≡ seat.frame.stripe

    -- What a purge of a module answers, and leaves.
    pub record Purges (slots : ℕ) (seat left : Caller P H M) : Type 0 where
      pub kept : IsKept (view seat.seat) (view left.seat)
      pub stripe : left.frame.stripe ≡ seat.frame.stripe
      pub bounds : IsBounded a.plan purges wanted.Nothing (view seat.seat) (view left.seat)
      pub missed : HasMissed (view seat.seat) (view left.seat) a.plan a.settings.max_memories_per_module slots
      pub unknown : UnknownCaused (view seat.seat) (view left.seat) a.plan

    -- What asking for a stripe answers, where the pool has some or none, and leaves.
    pub record Draws (some' : Bool) (result : Option ℕ) (seat left : Caller P H M) : Type 0 where
      pub kept : IsKept (view seat.seat) (view left.seat)
      pub stripe : IfSome result (λ stripe. (stripe < a.settings.num_stripes) × (stripe ≡ left.frame.stripe))
      pub some : is_some result ≡ some'
      pub bounds : IsBounded a.plan draws_key wanted.Nothing (view seat.seat) (view left.seat)
      pub unknown : UnknownCaused (view seat.seat) (view left.seat) a.plan

  module _ {M : Type 0} where
    -- What counting one more of a kind answers, at the counter with this number, and leaves. A refusal is this one.
    pub record Counts (k : Counter) (counter : ℕ) (full : AllocError) (result : Result (Unit {0}) AllocError) (seat left : Caller P H M) : Type 0 where
      pub frame : left.frame ≡ seat.frame
      pub counted : IfOk result (λ _. IsCounted k (view seat.seat) (view left.seat))
      pub refused : IfErr result (λ e. (e ≡ full) × IsKept (view seat.seat) (view left.seat) × CountsJust (counter ∷ []) [] (counter ∷ []) (view seat.seat) (view left.seat))
      pub parts : (view left.seat).rises ≡ (view seat.seat).rises

    -- What counting one off leaves.
    pub record Uncounts (k : Counter) (seat left : Caller P H M) : Type 0 where
      pub frame : left.frame ≡ seat.frame
      pub uncounted : IsUncounted k (view seat.seat) (view left.seat)
      pub parts : (view left.seat).rises ≡ (view seat.seat).rises
