-- What is granted on demand.
use Rattle.std.specs.Prelude.{◌≡◌, ℕ, Bool, Option, Result, Ok, Err}
use Rattle.pool_on_demand.specs.Imports.{MakerTold, MemoryTunables, MemoryType, TableType, Image, Design, IsDynamic, state_of, IsNewList, Table, TableError, Memory, MemoryError, AllocError}
use Rattle.pool_on_demand.specs.Answers.{no_slot, memory_refusal, table_refusal}
use Rattle.pool_on_demand.specs.declared.lease.OnDemandMemory.{OnDemandMemory}
use Rattle.pool_on_demand.specs.declared.lease.OnDemandTable.{OnDemandTable}

-- A memory on demand: it is in no slot, and as a creator that may have told of it makes it, with its image where it takes
-- one. The maker told this, and its next number is at `to` then.
pub record IsMemoryMade {M L : Type 0} (ty : MemoryType) (tunables : MemoryTunables) (design : Option Design) (image : Option Image) (to : ℕ) (maker : MakerTold) (lease : OnDemandMemory M L) : Type 0 where
  pub index : lease.index.0 ≡ no_slot
  pub memory : IsDynamic ty tunables design image to maker (state_of lease.memory)

-- A table on demand: it is in no slot, and is a list with its minimum of empty elements.
pub record IsTableMade {P : Type 0} (ty : TableType) (lazy_init : Bool) (lease : OnDemandTable P) : Type 0 where
  pub index : lease.index.0 ≡ no_slot
  pub table : IsNewList ty lazy_init lease.table

-- The memory is leased, in no slot, or the error of its making refuses it.
abbrev pub IsLeased : {M L : Type 0} → Result (Memory M L) MemoryError → Result (OnDemandMemory M L) AllocError → Type 0
IsLeased {M} {L} (Ok memory) result = (lease : OnDemandMemory M L) × ((result ≡ Ok lease) × ((lease.index.0 ≡ no_slot) × (lease.memory ≡ memory)))
IsLeased (Err e) result = result ≡ Err (memory_refusal e)

-- The table is leased, in no slot, or the error of its making refuses it.
abbrev pub IsTableLeased : {P : Type 0} → Result (Table P) TableError → Result (OnDemandTable P) AllocError → Type 0
IsTableLeased {P} (Ok table) result = (lease : OnDemandTable P) × ((result ≡ Ok lease) × ((lease.index.0 ≡ no_slot) × (lease.table ≡ table)))
IsTableLeased (Err e) result = result ≡ Err (table_refusal e)
