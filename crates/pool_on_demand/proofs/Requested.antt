-- What was allocated for a request that is the same but for its limiter.
use Rattle.std.proofs.Common.{List, ap, ◌∙◌, subst, Option, Result, option_map}
use Rattle.pool_on_demand.proofs.Imports.{Exchange, LimiterTold, DefinedMemoryIndex, MemoryKind, MemoryType, TableType, AllocError, IsSameRequest, image_for, InstanceAllocationRequest}
use Rattle.pool_on_demand.specs.InTurn.{InTurn, StopsAtOne}
use Rattle.pool_on_demand.specs.Instances.{Stage, Refuses, Designs, IsMemoryTurn, IsTableTurn, TableOf}
use Rattle.pool_on_demand.specs.declared.lease.OnDemandMemory.{OnDemandMemory}
use Rattle.pool_on_demand.specs.declared.lease.OnDemandTable.{OnDemandTable}

module _ {Q : Type 0} (old now : InstanceAllocationRequest Q) (same : IsSameRequest old now) where
  -- it stays the same
  pub same_then : (new : InstanceAllocationRequest Q) → IsSameRequest now new → IsSameRequest old new
  same_then new then = record {
    same = then.same ∙ ap (λ (r : InstanceAllocationRequest Q). record r { limiter = new.limiter }) same.same;
    name = then.name ∙ same.name;
  }

  module _ {R : Type 0} (told : R → LimiterTold) (leads : R → Exchange → R → Type 0) where
    pub same_table : {P : Type 0} (ty : TableType) (result : Result (OnDemandTable P) AllocError) (from to : Stage R) → IsTableTurn told leads now.tunables.now.table_lazy_init ty result from to → IsTableTurn told leads old.tunables.now.table_lazy_init ty result from to
    same_table ty result from to turn = subst (λ (r : InstanceAllocationRequest Q). IsTableTurn told leads r.tunables.now.table_lazy_init ty result from to) same.same turn

    pub same_memory : {M L : Type 0} (refuses : Refuses) (designs : Designs) (kind : MemoryKind) (index : Option DefinedMemoryIndex) (ty : MemoryType) (result : Result (OnDemandMemory M L) AllocError) (from to : Stage R) → IsMemoryTurn told leads refuses designs (record { tunables = now.tunables.now; kind = kind }) (image_for (option_map (λ i. i.now) now.images) index) ty result from to → IsMemoryTurn told leads refuses designs (record { tunables = old.tunables.now; kind = kind }) (image_for (option_map (λ i. i.now) old.images) index) ty result from to
    same_memory refuses designs kind index ty result from to turn = subst (λ (r : InstanceAllocationRequest Q). IsMemoryTurn told leads refuses designs (record { tunables = r.tunables.now; kind = kind }) (image_for (option_map (λ i. i.now) r.images) index) ty result from to) same.same turn

    pub same_tables : {P : Type 0} (tables : List (OnDemandTable P)) (from to : Stage R) → InTurn (TableOf told leads {P = P} now.tunables.now.table_lazy_init) 0 now.module.now.tables tables from to → InTurn (TableOf told leads {P = P} old.tunables.now.table_lazy_init) 0 old.module.now.tables tables from to
    same_tables {P} tables from to turn = subst (λ (r : InstanceAllocationRequest Q). InTurn (TableOf told leads {P = P} r.tunables.now.table_lazy_init) 0 r.module.now.tables tables from to) same.same turn

    pub same_stop : (P : Type 0) (e : AllocError) (from to : Stage R) → StopsAtOne (TableOf told leads {P = P} now.tunables.now.table_lazy_init) 0 now.module.now.tables e from to → StopsAtOne (TableOf told leads {P = P} old.tunables.now.table_lazy_init) 0 old.module.now.tables e from to
    same_stop P e from to stops = subst (λ (r : InstanceAllocationRequest Q). StopsAtOne (TableOf told leads {P = P} r.tunables.now.table_lazy_init) 0 r.module.now.tables e from to) same.same stops
