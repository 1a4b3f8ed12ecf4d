-- What comes back to a cell is the region of its slot, and the cell is empty.
use Rattle.std.proofs.Common.{◌≡◌, ℕ, Bool, true, false, Option, None, Some, refl, sym, ap, ◌∙◌, subst, cond}
use Rattle.pool_alloc.proofs.Imports.{IsAwaited, IsRegionOf, MakerTold, Slot, SlotIdentity, SlotKind, SlotName, memory_kind, table_kind, stack_kind, heap_kind, Cell, is_taken, unmapped, unknown, previously_used, taken, Queued, RegionNumbers, Told, coloured, count, rounded_up, made_region, stripe_colour}
use Rattle.pool_pages.specs.declared.pages.RegionName.TheVariants as of_region
use Rattle.pool_alloc.specs.BetweenSteps.{HasCells, HasRegion, IsCore, IsPoolSlot, IsQueuedOf, MayHold, MayQueue, memory_region}
use Rattle.pool_alloc.specs.StepReads.{cell_named, cell_returned, returned_as}
use Rattle.pool_alloc.specs.declared.pool_core.PoolCore.{PoolCore}
use Rattle.pool_alloc.specs.declared.pool_core.Settings.{Settings}
use Rattle.pool_alloc.proofs.PoolParts.{sound_cell}
use Rattle.pool_alloc.proofs.SlotsOfFrames.{HasGone}

coloured_name : (colour : Option ℕ) (start len : ℕ) (t : Told) → (coloured colour start len t).name ≡ t.name
coloured_name None start len t = refl
coloured_name (Some number) start len t = refl

memory_name : (maker : MakerTold) (s : Settings) (i : ℕ) → (memory_region maker s i).name ≡ of_region.Memory i
memory_name maker s i = coloured_name (stripe_colour s.num_stripes i) 0 (rounded_up maker.page s.max_memory_size) (made_region (of_region.Memory i) s.behaviour (count maker.page 0) (count maker.page (rounded_up maker.page s.max_memory_size)) maker)

slot_name_of : (maker : MakerTold) (s : Settings) (i : ℕ) (held : Slot) → IsPoolSlot maker s i held → held.region.name ≡ of_region.Memory i
slot_name_of maker s i held of = ap (λ (z : SlotIdentity). z.name) of.same ∙ memory_name maker s i

memory_own : (maker : MakerTold) (s : Settings) (i : ℕ) (held : Cell) → is_taken held ≡ false → MayHold maker s memory_kind i held → IsRegionOf (record { kind = memory_kind; slot = i }) held
memory_own maker s i (unmapped region) there holds = ap (λ (t : Told). t.name) holds ∙ memory_name maker s i
memory_own maker s i (unknown slot) there holds = slot_name_of maker s i slot holds
memory_own maker s i (previously_used slot) there holds = slot_name_of maker s i slot holds.0
memory_own maker s i taken there holds = absurd cc

table_own : (maker : MakerTold) (s : Settings) (i : ℕ) (held : Cell) → is_taken held ≡ false → MayHold maker s table_kind i held → IsRegionOf (record { kind = table_kind; slot = i }) held
table_own maker s i (unmapped region) there holds = ap (λ (z : SlotIdentity). z.name) holds.slot.same
table_own maker s i (unknown slot) there holds = absurd holds
table_own maker s i (previously_used slot) there holds = absurd holds
table_own maker s i taken there holds = absurd cc

stack_own : (maker : MakerTold) (s : Settings) (i : ℕ) (held : Cell) → is_taken held ≡ false → MayHold maker s stack_kind i held → IsRegionOf (record { kind = stack_kind; slot = i }) held
stack_own maker s i (unmapped region) there holds = ap (λ (z : SlotIdentity). z.name) holds.slot.same
stack_own maker s i (unknown slot) there holds = absurd holds
stack_own maker s i (previously_used slot) there holds = absurd holds
stack_own maker s i taken there holds = absurd cc

held_own : (maker : MakerTold) (s : Settings) (kind : SlotKind) (i : ℕ) (held : Cell) → HasCells kind → is_taken held ≡ false → MayHold maker s kind i held → IsRegionOf (record { kind = kind; slot = i }) held
held_own maker s memory_kind i held pooled there holds = memory_own maker s i held there holds
held_own maker s table_kind i held pooled there holds = table_own maker s i held there holds
held_own maker s stack_kind i held pooled there holds = stack_own maker s i held there holds
held_own maker s heap_kind i held pooled there holds = absurd pooled

known_own : (known : Bool) (i : ℕ) (slot : Slot) → slot.region.name ≡ of_region.Memory i → IsRegionOf (record { kind = memory_kind; slot = i }) (cond known (previously_used slot) (unknown slot))
known_own true i slot is = is
known_own false i slot is = is

-- a queued slot comes back as its own region
queued_own : (maker : MakerTold) (s : Settings) (kind : SlotKind) (i : ℕ) (m : Queued) → HasCells kind → MayQueue maker s kind i m.slot → IsRegionOf (record { kind = kind; slot = i }) (returned_as kind m)
queued_own maker s memory_kind i m pooled may = known_own m.known i m.slot (slot_name_of maker s i m.slot may)
queued_own maker s table_kind i m pooled may = ap (λ (z : SlotIdentity). z.name) may.same
queued_own maker s stack_kind i m pooled may = ap (λ (z : SlotIdentity). z.name) may.slot_is.same
queued_own maker s heap_kind i m pooled may = absurd pooled

module _ {P H : Type 0} (maker : MakerTold) where
  awaited : (name : SlotName) (n : RegionNumbers) (held : Cell) (c : PoolCore P H) → IsCore maker c → HasGone c name n → IsRegionOf name held → IsAwaited held (cell_named name c)
  awaited name n held c core gone own =
      let named : (cell_named name c).name ≡ name = (sound_cell maker name c core gone.named).named in
      record { empty = gone.away; own = subst (λ (x : SlotName). IsRegionOf x held) (sym named) own }

  -- A region that a step has in hand is awaited by its cell,
  pub region_awaited : (name : SlotName) (n : RegionNumbers) (held : Cell) (c : PoolCore P H) → IsCore maker c → HasGone c name n → HasRegion maker c.settings c.plan name held → IsAwaited held (cell_named name c)
  region_awaited name n held c core gone has = awaited name n held c core gone (held_own maker c.settings name.kind name.slot held has.named.cells has.there has.holds)

  -- and so is that of a queued slot.
  pub queued_awaited : (m : Queued) (n : RegionNumbers) (c : PoolCore P H) → IsCore maker c → HasGone c m.name n → IsQueuedOf maker c.settings m → IsAwaited (cell_returned m) (cell_named m.name c)
  queued_awaited m n c core gone of = awaited m.name n (cell_returned m) c core gone (queued_own maker c.settings m.name.kind m.name.slot m gone.named.cells of.slot)
