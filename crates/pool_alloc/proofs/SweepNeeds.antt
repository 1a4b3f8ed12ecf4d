-- What the code of a step of a purge needs, and of a release.
use Rattle.std.proofs.Common.{◌≡◌, ℕ, ◌+◌, ◌<◌, ◌≤◌, false, length, sym, subst, ap, ◌∙◌, arith, nat_lt}
use Rattle.pool_alloc.proofs.Imports.{RegionNumbers, rounded_same, of_kind, AllByRecursion, ltb-true, and_parts, All-get_or, rounded_up, MakerTold, Slot, SlotIdentity, SlotKind, memory_kind, table_kind, stack_kind, heap_kind, ShardState, Cell, IsCleanOnceUsed, is_taken, unmapped, unknown, previously_used, taken, cell_of, home_of, allocators_of, IsPlacedAllocator, each_weaker, ImageSlot, Unmapped, Unknown, PreviouslyUsed, Taken, Allocator, Plan, SlotName}
use Rattle.pool_alloc.specs.CanStep.{CanPlace, CanTakeOf, CanPutOf, CanFreeOf, CanForget, CanDecommit, CanDrain, CanPurge, CanRelease}
use Rattle.pool_alloc.specs.Places.{right_to, phase_count}
use Rattle.pool_alloc.specs.Purges.{purged_stripe}
use Rattle.pool_alloc.specs.Releases.{released_stripe, nth_taken}
use Rattle.pool_alloc.specs.BetweenSteps.{IsCore, IsPoolPlan, IsStripe, IsSettings, IsSlotName, IsFreedOf, IsPurging, IsReleasing, IsPoolSlot, MayHold, HasRegion}
use Rattle.pool_alloc.specs.StepReads.{shard_at, cell_named}
use Rattle.pool_alloc.specs.declared.frame.Frame.{Frame}
use Rattle.pool_alloc.specs.declared.frame.FreedSlot.{FreedSlot}
use Rattle.pool_alloc.specs.declared.frame.Phase.{Phase}
use Rattle.pool_alloc.specs.declared.frame.Phase.TheVariants.{Purge, Release}
use Rattle.pool_alloc.specs.declared.frame.TakenSlot.{TakenSlot}
use Rattle.pool_alloc.specs.declared.pool_core.PoolCore.{PoolCore}
use Rattle.pool_alloc.specs.declared.pool_core.Settings.{Settings}
use Rattle.pool_alloc.specs.declared.purge.PurgeCursor.{PurgeCursor}
use Rattle.pool_alloc.specs.declared.purge.PurgeStep.{PurgeStep}
use Rattle.pool_alloc.specs.declared.purge.PurgeStep.TheVariants as purging_step
use Rattle.pool_alloc.specs.declared.release.ReleaseCursor.{ReleaseCursor}
use Rattle.pool_alloc.specs.declared.release.ReleaseStep.{ReleaseStep}
use Rattle.pool_alloc.specs.declared.release.ReleaseStep.TheVariants as releasing_step
use Rattle.pool_alloc.proofs.OwnRegions.{region_awaited}
use Rattle.pool_alloc.proofs.SlotsOfFrames.{HasGone, unit_once}
use Rattle.pool_alloc.proofs.PhaseSlots.{phase_out, phase_home, phase_gone}
use Rattle.pool_alloc.proofs.PlanPlaces.{IsShardPlace, cell_inside, home_place, has_home, stripe_is, stripe_role}
use Rattle.pool_alloc.proofs.PoolParts.{cell_part, planned_shard, sound_shard, shard_part}
use Rattle.pool_alloc.proofs.PurgeBounds.{picking_of}
use Rattle.pool_alloc.proofs.QueueCounts.{freed_regions}
use Rattle.pool_alloc.proofs.RowsWithASlot.{some_used}
use Rattle.pool_alloc.proofs.ReleaseBounds.{slots_next}
use Rattle.pool_alloc.proofs.ReleaseRows.{freed_at, no_slot}
use Rattle.pool_alloc.proofs.SlotCounts.{slot_once, slot_regions}
use Rattle.pool_alloc.proofs.SlotIdentity.{region_page}
use Rattle.pool_alloc.proofs.WarmTakes.{warm_few}
use Rattle.pool_alloc.proofs.SharedByRows.{Can}

-- the shards of the allocators of a kind that the pool has
pub placed_of : (plan : Plan) (places : ℕ) (kind : SlotKind) → IsPoolPlan plan places → AllByRecursion IsPlacedAllocator (allocators_of plan kind)
placed_of plan places memory_kind is = each_weaker IsStripe IsPlacedAllocator plan.memories (λ a stripe. stripe.placed) is.shards
placed_of plan places table_kind is = each_weaker IsStripe IsPlacedAllocator plan.tables (λ a shards. shards.placed) is.table_shards
placed_of plan places stack_kind is = each_weaker IsStripe IsPlacedAllocator plan.stacks (λ a shards. shards.placed) is.stack_shards
placed_of plan places heap_kind is = each_weaker IsStripe IsPlacedAllocator plan.heaps (λ a shards. shards.placed) is.heap_shards

-- a slot of a release is a memory
drain_kind : {plan : Plan} (r : ReleaseCursor) (k : ℕ) (at : TakenSlot) → IsReleasing plan r 0 → k < length r.taken.items → (nth_taken r k).name ≡ at.name → at.name.kind ≡ memory_kind
drain_kind r k at is inside named = ap (λ (n : SlotName). n.kind) (sym named) ∙ All-get_or (λ (x : FreedSlot). x.name.kind ≡ memory_kind) r.taken.items k no_slot inside is.memories

-- the whole region of a slot of the pool
can_decommit : (maker : MakerTold) (s : Settings) (i : ℕ) (slot : Slot) → s.page ≡ maker.page → IsSettings s → IsPoolSlot maker s i slot → CanDecommit s slot
can_decommit maker s i slot page sound of =
    let paged : slot.region.page ≡ s.page = ap (λ (z : SlotIdentity). z.page) of.same ∙ region_page maker s i ∙ sym page in
    let sized : slot.static_size ≡ s.max_memory_size = ap (λ (z : SlotIdentity). z.static_size) of.same in
    let up : rounded_up slot.region.page slot.static_size ≡ s.max_memory_size = rw (paged, sized) (rounded_same s.page s.max_memory_size (omega (arith, sound.page.at_least)) sound.whole) in
    record {
      whole = sound.whole;
      bounded = omega (arith, sound.bounded, sound.page.at_least);
      range = record { from_page = sym paged; len_page = sym paged; inside = omega (arith, up) };
    }

module _ {P : Type 0} (maker : MakerTold) where
  clean_by : (s : Settings) (kind : SlotKind) (i : ℕ) (held : ImageSlot P) → kind ≡ memory_kind → MayHold maker s kind i (cell_of held) → IsCleanOnceUsed (cell_of held)
  clean_by s kind i held is holds = by_cell (cell_of held) (subst (λ (k : SlotKind). MayHold maker s k i (cell_of held)) is holds)
    where
      by_cell : (cell : Cell) → MayHold maker s memory_kind i cell → IsCleanOnceUsed cell
      by_cell (unmapped region) holds = tt
      by_cell (unknown slot) holds = tt
      by_cell (previously_used slot) holds = holds.1
      by_cell taken holds = tt

  can_forget : (s : Settings) (name : SlotName) (held : ImageSlot P) → name.kind ≡ memory_kind → MayHold maker s name.kind name.slot (cell_of held) → CanForget held
  can_forget s name (Unmapped region) kind holds = tt
  can_forget s name (Unknown slot) kind holds = tt
  can_forget s name (PreviouslyUsed slot) kind holds = (subst (λ (k : SlotKind). MayHold maker s k name.slot (previously_used slot)) kind holds).1
  can_forget s name Taken kind holds = tt

  can_drain : (s : Settings) (name : SlotName) (held : ImageSlot P) → s.page ≡ maker.page → IsSettings s → name.kind ≡ memory_kind → MayHold maker s name.kind name.slot (cell_of held) → CanDrain s held
  can_drain s name (Unmapped region) page sound kind holds = tt
  can_drain s name (Unknown slot) page sound kind holds = can_decommit maker s name.slot slot page sound (subst (λ (k : SlotKind). MayHold maker s k name.slot (unknown slot)) kind holds)
  can_drain s name (PreviouslyUsed slot) page sound kind holds =
      let is = subst (λ (k : SlotKind). MayHold maker s k name.slot (previously_used slot)) kind holds in
      (can_decommit maker s name.slot slot page sound is.0, is.1)
  can_drain s name Taken page sound kind holds = tt

module _ {P H : Type 0} (maker : MakerTold) where
  can_place_of : (name : SlotName) (c : PoolCore P H) → IsCore maker c → IsSlotName c.plan name → CanPlace c.plan name
  can_place_of name c core named = omega (arith, cell_inside c.plan (length c.parts) name core.plan named, core.plan.small)

  can_take_of : (name : SlotName) (c : PoolCore P H) → IsCore maker c → IsSlotName c.plan name → is_taken (cell_named name c).holds ≡ false → CanTakeOf name c
  can_take_of name c core named there = (can_place_of name c core named, cell_part maker name c core named, there)

  can_put_of : (name : SlotName) (n : RegionNumbers) (held : ImageSlot P) (c : PoolCore P H) → IsCore maker c → HasRegion maker c.settings c.plan name (cell_of held) → HasGone c name n → name.kind ≡ memory_kind → CanPutOf name held c
  can_put_of name n held c core has gone kind = (can_place_of name c core has.named, cell_part maker name c core has.named, clean_by maker c.settings name.kind name.slot held kind has.holds, region_awaited maker name n (cell_of held) c core gone has)

  pub can_free_of : (name : SlotName) (phase : Phase P H) (c : PoolCore P H) (f : Frame P H) → Can maker phase c f → name.slot < of_kind name.kind c.plan.totals → 1 ≤ phase_count (right_to name) phase → CanFreeOf name c
  can_free_of name phase c f can inside some = (
    shard_part maker (home_of c.plan name).place c can.core (home_place c.plan (length c.parts) name can.core.plan inside),
    record {
      home = record { placed = placed_of c.plan (length c.parts) name.kind can.core.plan; has = has_home c.plan (length c.parts) name can.core.plan inside };
      used = some_used _ (phase_out maker phase name c f can.core can.fits some).used;
    },
  )

  pub can_purge : (p : PurgeCursor) (step : PurgeStep P) (c : PoolCore P H) (f : Frame P H) → Can maker (Purge p step) c f → CanPurge p step c
  can_purge p (purging_step.Pick tried) c f can = λ has.
      let slots : 0 < c.plan.totals.memory = ltb-true _ _ (and_parts (nat_lt 0 c.plan.totals.memory) (nat_lt 0 c.settings.max_memories_per_module) has).0 in
      let picking = picking_of c.settings c.plan (length c.parts) can.core.plan slots p tried has can.frame.shape.1 in
      let at = picking.purging in
      let a : Allocator = purged_stripe c.plan p in
      let place : IsShardPlace c.plan (a.first_place + tried) = record { allocator = a; index = tried; role = stripe_role c.plan (length c.parts) p.stripe tried can.core.plan at.stripe picking.tried } in
      record {
        going = record { stripe = at.stripe; few = can.core.plan.few; memory = at.memory; turn = at.turn };
        tried = picking.tried;
        placed = (stripe_is c.plan (length c.parts) p.stripe can.core.plan at.stripe).placed;
        shard = shard_part maker (a.first_place + tried) c can.core place;
      }
  can_purge p (purging_step.TakeRegion name) c f can =
      can_take_of name c can.core can.frame.shape.1.1 (phase_home maker (Purge p (purging_step.TakeRegion name)) name c f can.core can.fits can.frame.shape.1.1.cells (omega (arith, slot_once name)) (slot_regions name name))
  can_purge p (purging_step.Forget at held) c f can = let has = can.frame.shape.1.1 in (can_forget maker c.settings at.name held can.frame.shape.1.2 has.holds, has.there)
  can_purge p (purging_step.PutRegion at held) c f can = can_put_of at.name at.numbers held c can.core can.frame.shape.1.1 (phase_gone maker (Purge p (purging_step.PutRegion at held)) at.name c f can.core can.fits at.numbers can.frame.shape.1.1.named.cells (omega (arith, unit_once at.name at.numbers))) can.frame.shape.1.2
  can_purge p (purging_step.Free name) c f can =
      let at : IsPurging c.settings c.plan p = can.frame.shape.1.0 in (
        record { stripe = at.stripe; few = can.core.plan.few; memory = at.memory; turn = at.turn },
        can_free_of name (Purge p (purging_step.Free name)) c f can can.frame.shape.1.1.inside (omega (arith, slot_once name)),
      )

  pub can_release : (step : ReleaseStep P) (c : PoolCore P H) (f : Frame P H) → Can maker (Release step) c f → CanRelease step c
  can_release releasing_step.Reserve c f can = can.core.plan.few
  can_release (releasing_step.TakeWarm r j) c f can =
      let at = can.frame.shape.1.0 in
      let a : Allocator = released_stripe c.plan r in
      let p : ℕ = a.first_place + j in
      let place : IsShardPlace c.plan p = record { allocator = a; index = j; role = stripe_role c.plan (length c.parts) r.stripe j can.core.plan at.stripe can.frame.shape.1.1 } in
      let shard : ShardState = shard_at p c in
      let fits = slots_next a j (length shard.warm) (omega (arith, warm_few shard (sound_shard maker p c can.core place), (planned_shard maker p c can.core place).capacity)) in
      record {
        going = record { stripe = at.stripe; few = can.core.plan.few };
        inside = can.frame.shape.1.1;
        placed = (stripe_is c.plan (length c.parts) r.stripe can.core.plan at.stripe).placed;
        shard = shard_part maker p c can.core place;
        local = omega (arith, at.room, fits);
        taken = omega (arith, at.room, at.all, at.taken_room, fits);
      }
  can_release (releasing_step.TakeRegion r k) c f can =
      let at : IsReleasing c.plan r 0 = can.frame.shape.1.0 in
      let inside : k < length r.taken.items = can.frame.shape.1.1 in
      let name : SlotName = (nth_taken r k).name in
      let named : IsSlotName c.plan name = (All-get_or (IsFreedOf c.plan) r.taken.items k no_slot inside at.taken).named in
      (inside, can_take_of name c can.core named (phase_home maker (Release (releasing_step.TakeRegion r k)) name c f can.core can.fits named.cells (omega (arith, freed_at (right_to name) r k inside, slot_once name)) (freed_regions name r.taken.items)))
  can_release (releasing_step.Decommit r k at held) c f can =
      let has = can.frame.shape.1 in
      (can_drain maker c.settings at.name held can.core.page can.core.settings (drain_kind r k at has.releasing has.place has.named) has.region.holds, has.region.there)
  can_release (releasing_step.PutRegion r k at held) c f can =
      let has = can.frame.shape.1 in
      (record { stripe = has.releasing.stripe; few = can.core.plan.few }, has.place, can_put_of at.name at.numbers held c can.core has.region (phase_gone maker (Release (releasing_step.PutRegion r k at held)) at.name c f can.core can.fits at.numbers has.region.named.cells (omega (arith, unit_once at.name at.numbers))) (drain_kind r k at has.releasing has.place has.named))
  can_release (releasing_step.Free r x) c f can =
      let at : IsReleasing c.plan r 0 = can.frame.shape.1.0 in
      let of : IsFreedOf c.plan x = can.frame.shape.1.1 in
      (record { stripe = at.stripe; few = can.core.plan.few }, of.bytes, can_free_of x.name (Release (releasing_step.Free r x)) c f can of.named.inside (omega (arith, slot_once x.name)))
