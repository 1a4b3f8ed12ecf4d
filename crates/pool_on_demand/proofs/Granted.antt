-- An instance is granted, or one of its tables refused, once its memories are made.
use Rattle.std.proofs.Common.{◌≡◌, List, sym, subst, inr, Option, None, Ok, Err}
use Rattle.pool_on_demand.proofs.Imports.{Exchange, LimiterTold, MemoryDecl, MemoryTunables, ModuleInfo, TableType, Unsupported, Image, AllocError}
use Rattle.pool_on_demand.specs.InTurn.{InTurn, StopsAtOne}
use Rattle.pool_on_demand.specs.Instances.{Stage, Refuses, Designs, MemoryOf, TableOf, GrantsInTurn, GrantsUnless, GrantsInstance}
use Rattle.pool_on_demand.specs.Refusals.{module_refused}
use Rattle.pool_on_demand.specs.declared.lease.OnDemandMemory.{OnDemandMemory}
use Rattle.pool_on_demand.specs.declared.lease.OnDemandTable.{OnDemandTable}
use Rattle.pool_on_demand.specs.declared.lease.OnDemandInstance.{OnDemandInstance}

module _ {R M L : Type 0} (told : R → LimiterTold) (leads : R → Exchange → R → Type 0) (refuses : Refuses) (designs : Designs) (tunables : MemoryTunables) (m : ModuleInfo) (images : Option (List (Option Image))) where
  -- the memories of a list that is the module's
  memories_of : (settings : MemoryTunables) (decls : List MemoryDecl) (memories : List (OnDemandMemory M L)) (from to : Stage R) → settings ≡ tunables → decls ≡ m.memories → InTurn (MemoryOf told leads {M = M} {L = L} refuses designs settings images) 0 decls memories from to → InTurn (MemoryOf told leads {M = M} {L = L} refuses designs tunables images) 0 m.memories memories from to
  memories_of settings decls memories from to same own turn =
      subst (λ (ds : List MemoryDecl). InTurn (MemoryOf told leads {M = M} {L = L} refuses designs tunables images) 0 ds memories from to) own
      (subst (λ (t : MemoryTunables). InTurn (MemoryOf told leads {M = M} {L = L} refuses designs t images) 0 decls memories from to) same turn)

  pub all_made : (P : Type 0) (settings : MemoryTunables) (decls : List MemoryDecl) (types : List TableType) (memories : List (OnDemandMemory M L)) (tables : List (OnDemandTable P)) (lease : OnDemandInstance M L P) (from between to : Stage R) → module_refused m ≡ None → settings ≡ tunables → decls ≡ m.memories → types ≡ m.tables → lease.memories ≡ memories → lease.tables ≡ tables → InTurn (MemoryOf told leads {M = M} {L = L} refuses designs settings images) 0 decls memories from between → InTurn (TableOf told leads {P = P} tunables.tunables.table_lazy_init) 0 types tables between to → GrantsInstance told leads refuses designs tunables m images (Ok lease) from to
  all_made P settings decls types memories tables lease from between to fine same own owned is_memories is_tables turn then =
      let first = memories_of settings decls memories from between same own turn in
      let second = subst (λ (ts : List TableType). InTurn (TableOf told leads {P = P} tunables.tunables.table_lazy_init) 0 ts tables between to) owned then in
      let grants : GrantsInTurn told leads refuses designs tunables m images (Ok lease) from to = (
        between,
        (
          subst (λ (l : List (OnDemandMemory M L)). InTurn (MemoryOf told leads {M = M} {L = L} refuses designs tunables images) 0 m.memories l from between) (sym is_memories) first,
          subst (λ (l : List (OnDemandTable P)). InTurn (TableOf told leads {P = P} tunables.tunables.table_lazy_init) 0 m.tables l between to) (sym is_tables) second,
        ),
      ) in
      subst (λ (rule : Option Unsupported). GrantsUnless told leads rule refuses designs tunables m images (Ok lease) from to) (sym fine) grants

  pub table_refused_then : (P : Type 0) (settings : MemoryTunables) (decls : List MemoryDecl) (types : List TableType) (memories : List (OnDemandMemory M L)) (e : AllocError) (from between to : Stage R) → module_refused m ≡ None → settings ≡ tunables → decls ≡ m.memories → types ≡ m.tables → InTurn (MemoryOf told leads {M = M} {L = L} refuses designs settings images) 0 decls memories from between → StopsAtOne (TableOf told leads {P = P} tunables.tunables.table_lazy_init) 0 types e between to → GrantsInstance told leads {M = M} {L = L} {P = P} refuses designs tunables m images (Err e) from to
  table_refused_then P settings decls types memories e from between to fine same own owned turn stops =
      let first = memories_of settings decls memories from between same own turn in
      let second = subst (λ (ts : List TableType). StopsAtOne (TableOf told leads {P = P} tunables.tunables.table_lazy_init) 0 ts e between to) owned stops in
      let grants : GrantsInTurn told leads {M = M} {L = L} {P = P} refuses designs tunables m images (Err e) from to = inr (inr (memories, (between, (first, second)))) in
      subst (λ (rule : Option Unsupported). GrantsUnless told leads {M = M} {L = L} {P = P} rule refuses designs tunables m images (Err e) from to) (sym fine) grants
