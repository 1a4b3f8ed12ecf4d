-- What a seat's view tells of a call that is refused for a failed page call: the fault came home to the cell of a memory's slot.
use Rattle.std.specs.Prelude.{◌≡◌, ◌⊎◌, ℕ, ◌<◌}
use Rattle.pool_hall.specs.Sum.{often}
use Rattle.pool_hall.specs.declared.unit_name.SlotKind.{SlotKind}
use Rattle.pool_hall.specs.declared.unit_name.SlotKind.TheVariants.{Memory as memory_kind}
use Rattle.pool_hall.specs.declared.view.View.{View}
use Rattle.pool_slots.specs.CellOf.{cell_of}
use Rattle.pool_slots.specs.Plans.{cell_role, role_at}
use Rattle.pool_slots.specs.RegionCells.{faults_in}
use Rattle.pool_slots.specs.declared.errors.AllocError.{AllocError}
use Rattle.pool_slots.specs.declared.errors.AllocError.TheVariants.{PageFault}
use Rattle.pool_slots.specs.declared.plan.Plan.{Plan}
use Rattle.pool_slots.specs.declared.slot_name.SlotName.{SlotName}
use Rattle.pool_alloc.specs.declared.frame.Ending.{Ending}
use Rattle.pool_alloc.specs.declared.frame.Ending.TheVariants.{Refused as refused}
use Rattle.pool_alloc.specs.declared.frame.Phase.{Phase}
use Rattle.pool_alloc.specs.declared.frame.Phase.TheVariants.{Idle, Key, PutBack, ValidateComponent, CountComponent, Purge, Release}
use Rattle.pool_driver.specs.Faults.{HasFaulted}
use Rattle.pool_driver.specs.Telling.{HasMore}

-- The place among a cell's counts of how many faults its region has.
abbrev pub cell_faults : ℕ
cell_faults = 0

-- Of a call that began with the first view, and has the second now
module _ {T : Type 0} (base v : View T) where
  -- A region came back to the cell at a place with more faults, and the cell's count of them has risen; or with as many as can be counted,
  -- and the cell was noted as topped once more.
  abbrev pub HasFaultedAt : ℕ → Type 0
  HasFaultedAt p = HasMore base v p cell_faults ⊎ (often p base.topped < often p v.topped)

  -- So it is at the place of the cell of a slot of such a kind,
  pub record HasFaultedOf (Kind : SlotKind → Type 0) (plan : Plan) : Type 0 where
    pub slot : SlotName
    pub kind : Kind slot.kind
    pub place : ℕ
    pub cell : role_at plan place ≡ cell_role slot
    pub faulted : HasFaultedAt place

  -- of a slot whatever its kind,
  abbrev pub SomeFaulted : Plan → Type 0
  SomeFaulted plan = HasFaultedOf (λ kind. Unit {0}) plan

  -- or of a memory's.
  abbrev pub CellFaulted : Plan → Type 0
  CellFaulted plan = HasFaultedOf (λ kind. kind ≡ memory_kind) plan

-- What is known of a call that is refused for a failed page call,
abbrev pub IfFaulted : Type 0 → AllocError → Type 0
IfFaulted known PageFault = known
IfFaulted known _ = Unit {0}

-- or that is to be.
abbrev pub IfToFault : Type 0 → Ending → Type 0
IfToFault known (refused e) = IfFaulted known e
IfToFault known _ = Unit {0}

module _ {P H : Type 0} where
  -- A memory's region is put back next, which has more faults than its unit tells.
  abbrev pub PutsMemory : Phase P H → Type 0
  PutsMemory (PutBack at held) = (at.name.kind ≡ memory_kind) × HasFaulted at.numbers.faults (faults_in (cell_of held))
  PutsMemory _ = ⊥

  -- What is known before the step of a phase, where the call is to be refused for a failed page call: the same, or else the region is put back
  -- next. Of a call that asks for no objects and gives none back nothing is known.
  abbrev pub PhaseFaulted : Type 0 → Phase P H → Ending → Type 0
  PhaseFaulted known Idle e = Unit {0}
  PhaseFaulted known Key e = Unit {0}
  PhaseFaulted known (PutBack at held) e = IfToFault (known ⊎ PutsMemory (PutBack at held)) e
  PhaseFaulted known (ValidateComponent info) e = Unit {0}
  PhaseFaulted known CountComponent e = Unit {0}
  PhaseFaulted known (Purge p step) e = Unit {0}
  PhaseFaulted known (Release step) e = Unit {0}
  PhaseFaulted known _ e = IfToFault known e
