-- The tables of a pool: the regions of their slots, in cells, in queues and in hands, and a table that was granted.
use Rattle.std.specs.Prelude.{◌≡◌, ℕ, ◌<◌, None, replicate, option_map}
use Rattle.pool_alloc.specs.Imports.{count, MakerTold, made_region, Told, Slot, IsClean, Cell, unmapped, taken, IsSlotOf, IsPlain, plain_slot, Plan, TableType, empty, kind_of, new_table, in_region}
use Rattle.pool_pages.specs.declared.pages.RegionName.TheVariants.{Table}
use Rattle.pool_alloc.specs.TableLeases.{LeasedTable, LiesInRegion}
use Rattle.pool_alloc.specs.TableSteps.{IsInRegion, table_bytes}
use Rattle.pool_alloc.specs.declared.pool_core.Settings.{Settings}

-- the region of table slot i as it is made, all of which can be reached
abbrev pub table_region : MakerTold → Settings → ℕ → Told
table_region maker s i = made_region (Table i) s.behaviour (count maker.page s.table_slot) (count maker.page s.table_slot) maker

-- table slot i of the pool: the one that is the whole of its region, whatever calls were made on that
abbrev pub IsPoolTable : MakerTold → Settings → ℕ → Slot → Type 0
IsPoolTable maker s i slot = IsSlotOf (table_region maker s i) None s.table_slot slot

-- its region while no table lies there: it holds zeros
pub record IsTableRegion (maker : MakerTold) (s : Settings) (i : ℕ) (region : Told) : Type 0 where
  pub slot : IsPoolTable maker s i (plain_slot 0 region)
  pub plain : IsPlain (plain_slot 0 region)
  pub clean : IsClean (plain_slot 0 region)

-- what its cell may hold
abbrev pub IsInTableCell : MakerTold → Settings → ℕ → Cell → Type 0
IsInTableCell maker s i (unmapped region) = IsTableRegion maker s i region
IsInTableCell maker s i taken = Unit {0}
IsInTableCell maker s i _ = ⊥

-- a lease of the pool: its table lies in the region of its slot
pub record IsTableLease (maker : MakerTold) (s : Settings) (plan : Plan) (l : LeasedTable) : Type 0 where
  pub inside : l.index < plan.totals.table
  pub region : Told
  pub slot : IsPoolTable maker s l.index (plain_slot 0 region)
  pub lies : IsInRegion s.page l region
  pub there : LiesInRegion l.table

-- a table as one of its type begins, with so many elements as that says, which are empty
pub record IsBegunTable (s : Settings) (l : LeasedTable) (ty : TableType) : Type 0 where
  pub region : Told
  pub table : l.table ≡ in_region (new_table ty s.tunables.tunables.table_lazy_init (table_bytes s ty) region)
  pub elements : l.table.elements ≡ option_map (λ c. replicate ty.limits.min (empty (kind_of ty.element s.tunables.tunables.table_lazy_init))) region.contents
