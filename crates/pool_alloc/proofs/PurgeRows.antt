-- The steps of a purge, as they show.
use Rattle.std.proofs.Common.{◌≡◌, ℕ, ◌+◌, ◌*◌, ◌-◌, ◌<◌, ◌≤◌, Bool, true, false, length, refl, sym, ap, subst, ◌∙◌, arith, Option, Some, None, inr, IfSome, nat_lt}
use Rattle.pool_alloc.proofs.Imports.{told_weaker, of_kind, ltb-true, lt-ltb, and_parts, true≢false, MakerTold, PageCall, remapping, Slot, IsClean, forgotten, called, without_mapped, ImageName, same_called, pick_unit, SlotKind, memory_kind, ShardState, affine_answer, after_affine_pick, after_free, slot_number, SlotId, Cell, is_taken, unmapped, unknown, previously_used, taken, cell_of, home_of, CellState, cell_emptied, cell_filled, ImageSlot, Unmapped, Unknown, PreviouslyUsed, Taken, Allocator, Plan, SlotName}
use Rattle.pool_alloc.specs.PartyTold.{PartyTold}
use Rattle.pool_alloc.specs.PageCallAnswers.{Forgets, PurgeTold, RemovesImage}
use Rattle.pool_alloc.specs.StepBounds.{PoolSizes, sizes_of, memories_left, turns_left, purge_left}
use Rattle.pool_alloc.specs.Leases.{memory_slot}
use Rattle.pool_alloc.specs.Places.{Thing, slot_count, region_count}
use Rattle.pool_alloc.specs.Purges.{has_turns, purged_memory, purged_stripe, behind_memory, behind_turn, image_in, after_forgetting, known_after, purge_to, affine_picked, pick_affine_row, take_affine_on, put_affine_on, free_affine_on, purge_row}
use Rattle.pool_alloc.specs.BetweenSteps.{IsAtRest, IsSlotName, IsPurging, IsPicking, MayHold, HasRegion, IsPoolSlot}
use Rattle.pool_alloc.specs.StepReads.{StepGiven, shard_at, cell_named, with_shard, with_cell}
use Rattle.pool_alloc.specs.Turns.{goes, Row, lifted}
use Rattle.pool_alloc.specs.declared.frame.Frame.{Frame}
use Rattle.pool_alloc.specs.declared.frame.Phase.{Phase}
use Rattle.pool_alloc.specs.declared.frame.Phase.TheVariants.{Idle, Purge}
use Rattle.pool_alloc.specs.declared.frame.TakenSlot.{TakenSlot}
use Rattle.pool_alloc.specs.declared.pool_core.PoolCore.{PoolCore}
use Rattle.pool_alloc.specs.declared.pool_core.Settings.{Settings}
use Rattle.pool_alloc.specs.declared.purge.PurgeCursor.{PurgeCursor}
use Rattle.pool_alloc.specs.declared.purge.PurgeStep.{PurgeStep}
use Rattle.pool_alloc.specs.declared.purge.PurgeStep.TheVariants.{Pick, TakeRegion, Forget, PutRegion, Free}
use Rattle.pool_alloc.proofs.AffinePicks.{affine_count, affine_sound, affine_same, affine_inside, affine_counts}
use Rattle.pool_alloc.proofs.BeforeTheTurn.{Hand, in_phase, held_of, one_more, Even, Kept, Ready, IsReadyRow, either_ready}
use Rattle.pool_alloc.proofs.CoreChanges.{core_with_shard, core_with_cell}
use Rattle.pool_alloc.proofs.KeptCounts.{kept_shard, away_shard, region_leaves, region_returns}
use Rattle.pool_alloc.proofs.PhaseSlots.{phase_out, phase_home, phase_gone}
use Rattle.pool_alloc.proofs.PlanPlaces.{IsShardPlace, home_place, stripe_role, stripe_holds, allocator_most}
use Rattle.pool_alloc.proofs.PoolParts.{planned_shard, sound_shard, sound_cell, shard_part, place_of, slot_of_shard}
use Rattle.pool_alloc.proofs.PurgeBounds.{picks_of, picking_of, memory_goes, turn_goes}
use Rattle.pool_alloc.proofs.RowsWithASlot.{emptied_holds, one_emptied, clean_emptied, some_used}
use Rattle.pool_alloc.proofs.ShardFrees.{IsShardOf, freed_shard}
use Rattle.pool_alloc.proofs.ShardsAfterFrees.{freed_one}
use Rattle.pool_alloc.proofs.SharedByRows.{Can, kept_part}
use Rattle.pool_alloc.proofs.SlotCounts.{slot_once, slot_regions}
use Rattle.pool_alloc.proofs.SlotIdentity.{IsOneSlot, one_coloured, slot_of_one}
use Rattle.pool_alloc.proofs.SlotsOfFrames.{unit_once}

-- nothing in hand
abbrev pub nothing_held : Hand
nothing_held w = 0

-- there are turns where there are slots and memories
has_some : (per_module : ℕ) (plan : Plan) → 0 < plan.totals.memory → 0 < per_module → has_turns per_module plan ≡ true
has_some per_module plan slots memories = rw (lt-ltb 0 plan.totals.memory slots, lt-ltb 0 per_module memories) refl

-- A slot without its image is the slot of the same region, and so is one that was forgotten.
one_without : (s : Slot) (image : Option ImageName) → IsOneSlot s (without_mapped image s)
one_without s None = refl
one_without s (Some name) =
    let call : PageCall = remapping (s.base.bytes + name.offset) name.len in
    one_coloured s.colour call.start call.len (called call s) ∙ same_called call s

one_removed : (fault : Bool) (old new : Slot) → RemovesImage fault old new → IsOneSlot old new
one_removed true old new told = told.same
one_removed false old new told = subst (λ (s : Slot). IsOneSlot old s) (sym told.0) (one_without old old.image)

clean_removed : (fault : Bool) (old new : Slot) → RemovesImage fault old new → fault ≡ false → IsClean new
clean_removed true old new told done = absurd cc
clean_removed false old new told done = told.1

module _ (P : Type 0) (maker : MakerTold) (s : Settings) (plan : Plan) where
  -- what a cell holds may be put back into it
  pub held_in : (name : SlotName) (held : Cell) → IsSlotName plan name → MayHold maker s name.kind name.slot held → is_taken held ≡ false → HasRegion maker s plan name (cell_of {P = P} (image_in held))
  held_in name (unmapped region) named holds there = record { named = named; holds = holds; there = refl }
  held_in name (unknown slot) named holds there = record { named = named; holds = holds; there = refl }
  held_in name (previously_used slot) named holds there = record { named = named; holds = holds; there = refl }
  held_in name taken named holds there = absurd cc

  -- a memory that was forgotten may
  known_held : (fault : Bool) (name : SlotName) (slot : Slot) → IsSlotName plan name → name.kind ≡ memory_kind → IsPoolSlot maker s name.slot slot → (fault ≡ false → IsClean slot) → HasRegion maker s plan name (cell_of {P = P} (known_after fault slot))
  known_held true name slot named kind of clean = record { named = named; holds = (let M : SlotKind → Type 0 = λ k. MayHold maker s k name.slot (unknown (forgotten slot)) in subst M (sym kind) (record { same = of.same })); there = refl }
  known_held false name slot named kind of clean = record { named = named; holds = (let M : SlotKind → Type 0 = λ k. MayHold maker s k name.slot (previously_used slot) in subst M (sym kind) (of, clean refl)); there = refl }

  pub forgotten_held : (fault : Bool) (name : SlotName) (held : ImageSlot P) (slot : Slot) → name.kind ≡ memory_kind → HasRegion maker s plan name (cell_of held) → Forgets fault held slot → HasRegion maker s plan name (cell_of (after_forgetting fault held slot))
  forgotten_held fault name (Unmapped region) slot kind has told = has
  forgotten_held fault name (Unknown old) slot kind has told =
      let M : SlotKind → Type 0 = λ k. MayHold maker s k name.slot (unknown old) in
      known_held fault name slot has.named kind (slot_of_one maker s name.slot old slot (one_emptied fault old slot told) (subst M kind has.holds)) (clean_emptied fault old slot told)
  forgotten_held fault name (PreviouslyUsed old) slot kind has told =
      let M : SlotKind → Type 0 = λ k. MayHold maker s k name.slot (previously_used old) in
      known_held fault name slot has.named kind (slot_of_one maker s name.slot old slot (one_removed fault old slot told) (subst M kind has.holds).0) (clean_removed fault old slot told)
  forgotten_held fault name Taken slot kind has told = absurd (true≢false has.there)

-- how much the slot weighs that was found
abbrev pub found_count : Thing → ShardState → Option SlotId → ℕ
found_count t shard (Some k) = slot_count t (memory_slot (slot_number shard k.0))
found_count t shard None = 0

found_as : (t : Thing) (shard : ShardState) (o : Option SlotId) → shard.kind ≡ memory_kind → affine_count t shard o ≡ found_count t shard o
found_as t shard None kind = refl
found_as t shard (Some k) kind = ap (λ (x : SlotKind). t (pick_unit x (slot_number shard k.0))) kind

module _ {P H : Type 0} (maker : MakerTold) (old new : PartyTold) where
  abbrev Shows : PurgeCursor → PurgeStep P → PoolCore P H → Frame P H → Row (PoolCore P H) P H → Type 0
  Shows p step c f r = IsReadyRow maker old new c (in_phase (Purge p step) f) r

  abbrev Left : PurgeCursor → PurgeStep P → PoolCore P H → ℕ
  Left p step c = purge_left (sizes_of c.settings c.plan) p step

  -- The purge goes on where it can pick with fewer steps left, or ends, after a shard was changed.
  to_ready : (p q : PurgeCursor) (step : PurgeStep P) (place : ℕ) (shard : ShardState) (c : PoolCore P H) (f : Frame P H) (o : Option PurgeCursor) (left : ℕ) → Kept maker old new c (in_phase (Purge p step) f) (with_shard place shard c) (in_phase Idle f) → IsAtRest f → Even maker old new c (in_phase (Purge p step) f) nothing_held (with_shard place shard c) (in_phase Idle f) →
      has_turns c.settings.max_memories_per_module c.plan ≡ true → IfSome o (λ n. IsPicking c.settings c.plan n 0 × (picks_of (sizes_of c.settings c.plan) n 0 ≤ left)) → left + 1 ≤ Left p step c → Ready maker old new c (in_phase (Purge p step) f) (with_shard place shard c) (in_phase Idle f) (purge_to q o)
  to_ready p q step place shard c f None left kept rest even has on few = record {
    kept = kept;
    shape = (rest, tt);
    even = λ w. omega (arith, even w);
    fewer = omega (arith, few);
    way = tt;
    searched = λ s. tt;
  }
  to_ready p q step place shard c f (Some n) left kept rest even has on few =
      let number : Left n (Pick 0) c ≡ picks_of (sizes_of c.settings c.plan) n 0 = rw has refl in
      record {
        kept = kept;
        shape = (refl, (rest, inr on.0));
        even = λ w. omega (arith, even w);
        fewer = omega (arith, few, on.1, number);
        way = tt;
        searched = λ s. tt;
      }

  -- A slot is picked by affinity, or none is.
  affine_ready : (p : PurgeCursor) (tried place : ℕ) (next : ShardState) (o : Option SlotId) (shard : ShardState) (c : PoolCore P H) (f : Frame P H) → Can maker (Purge p (Pick tried)) c f → has_turns c.settings.max_memories_per_module c.plan ≡ true → IsPicking c.settings c.plan p tried → Kept maker old new c (in_phase (Purge p (Pick tried)) f) (with_shard place next c) (in_phase Idle f) →
      IfSome o (λ k. IsSlotName c.plan (memory_slot (slot_number shard k.0))) → Even maker old new c (in_phase (Purge p (Pick tried)) f) (λ w. found_count w.unit shard o) (with_shard place next c) (in_phase Idle f) → Ready maker old new c (in_phase (Purge p (Pick tried)) f) (with_shard place next c) (in_phase Idle f) (affine_picked c.settings.max_memories_per_module c.plan p o shard tried)
  affine_ready p tried place next (Some k) shard c f can has picking kept named even =
      let z : PoolSizes = sizes_of c.settings c.plan in
      let now : Left p (Pick tried) c ≡ picks_of z p tried = rw has refl in
      let most = allocator_most c.plan (length c.parts) memory_kind p.stripe can.core.plan picking.purging.stripe in
      let at = picking.purging in
      let cap : ℕ = (purged_stripe c.plan p).capacity in
      let turn : (cap - p.turn) * (z.shards + 4) ≡ (cap - (p.turn + 1)) * (z.shards + 4) + (z.shards + 4) = one_more (cap - p.turn) (cap - (p.turn + 1)) (z.shards + 4) (omega (arith, at.turn)) in
      record {
        kept = kept;
        shape = (refl, (can.frame.shape.0, (record { stripe = at.stripe; memory = at.memory; turn = at.turn; some = at.some }, named, refl)));
        even = λ w. omega (arith, even w);
        fewer = omega (arith, now, turn, most, picking.tried);
        way = tt;
        searched = λ s. tt;
      }
  affine_ready p tried place next None shard c f can has picking kept named even =
      let z : PoolSizes = sizes_of c.settings c.plan in
      let now : Left p (Pick tried) c ≡ picks_of z p tried = rw has refl in
      let most = allocator_most c.plan (length c.parts) memory_kind p.stripe can.core.plan picking.purging.stripe in
      let d : PoolCore P H = with_shard place next c in
      let e : Frame P H = in_phase (Purge p (Pick tried)) f in
      let rest = can.frame.shape.0 in
      let none : Even maker old new c e nothing_held d (in_phase Idle f) = λ w. omega (arith, even w) in
      either_ready maker old new c e d (in_phase Idle f) (nat_lt (tried + 1) (purged_stripe c.plan p).shards) (goes (Purge p (Pick (tried + 1)))) (purge_to p (behind_memory c.settings.max_memories_per_module c.plan p))
      (λ more.
      let later : Left p (Pick (tried + 1)) c ≡ picks_of z p (tried + 1) = rw has refl in
      record {
        kept = kept;
        shape = (refl, (rest, inr (record { purging = picking.purging; tried = ltb-true _ _ more })));
        even = λ w. omega (arith, none w);
        fewer = omega (arith, now, later, most, picking.tried);
        way = tt;
        searched = λ s. tt;
      })
      (λ last. to_ready p p (Pick tried) place next c f (behind_memory c.settings.max_memories_per_module c.plan p) (memories_left z p) kept rest none has (memory_goes c.settings c.plan (length c.parts) can.core.plan picking.purging.some p picking.purging) (omega (arith, now, most, picking.tried)))

  pick_affine_ready : (b : Bool) (p : PurgeCursor) (tried : ℕ) (c : PoolCore P H) (f : Frame P H) → Can maker (Purge p (Pick tried)) c f → has_turns c.settings.max_memories_per_module c.plan ≡ b → Shows p (Pick tried) c f (pick_affine_row b p tried c (in_phase Idle f))
  pick_affine_ready true p tried c f can has =
      let e : Frame P H = in_phase (Purge p (Pick tried)) f in
      let slots : 0 < c.plan.totals.memory = ltb-true _ _ (and_parts (nat_lt 0 c.plan.totals.memory) (nat_lt 0 c.settings.max_memories_per_module) has).0 in
      let picking : IsPicking c.settings c.plan p tried = picking_of c.settings c.plan (length c.parts) can.core.plan slots p tried has can.frame.shape.1 in
      let a : Allocator = purged_stripe c.plan p in
      let j : ℕ = a.first_place + tried in
      let shard : ShardState = shard_at j c in
      let of = purged_memory p in
      let next : ShardState = after_affine_pick of shard in
      let place : IsShardPlace c.plan j = record { allocator = a; index = tried; role = stripe_role c.plan (length c.parts) p.stripe tried can.core.plan picking.purging.stripe picking.tried } in
      let sound = sound_shard maker j c can.core place in
      let kind : shard.kind ≡ memory_kind = (planned_shard maker j c can.core place).kind ∙ (stripe_holds c.plan (length c.parts) p.stripe can.core.plan picking.purging.stripe).kind_is in
      affine_ready p tried j next (affine_answer of shard) shard c f can has picking
      (kept_part maker old new c e (with_shard j next c) (in_phase Idle f) (core_with_shard maker j next c can.core place (affine_sound of shard sound) (affine_same of shard sound)) (held_of maker c.settings c.plan e can.frame) refl refl refl refl)
      (told_weaker (λ (k : SlotId). k.0 < shard.capacity) (λ (k : SlotId). IsSlotName c.plan (memory_slot (slot_number shard k.0))) (affine_answer of shard)
      (λ k within. record { cells = tt; inside = subst (λ (x : SlotKind). slot_number shard k.0 < of_kind x c.plan.totals) kind (slot_of_shard maker j k.0 c can.core place within).inside }) (affine_inside of shard sound))
      (λ w. omega (arith, kept_shard w.unit j next c (shard_part maker j c can.core place), away_shard w.unit j next c (shard_part maker j c can.core place), affine_counts of shard sound w.unit, found_as w.unit shard (affine_answer of shard) kind))
  pick_affine_ready false p tried c f can none =
      let e : Frame P H = in_phase (Purge p (Pick tried)) f in
      let one : Left p (Pick tried) c ≡ 1 = rw none refl in
      record {
        kept = kept_part maker old new c e c (in_phase Idle f) can.core (held_of maker c.settings c.plan e can.frame) refl refl refl refl;
        shape = (can.frame.shape.0, tt);
        even = λ w. omega arith;
        fewer = omega (arith, one);
        way = tt;
        searched = λ s. tt;
      }

  -- Its region leaves the cell.
  take_affine_ready : (p : PurgeCursor) (name : SlotName) (c : PoolCore P H) (f : Frame P H) → Can maker (Purge p (TakeRegion name)) c f → Shows p (TakeRegion name) c f (lifted (λ cell. with_cell name cell c) (take_affine_on p name (cell_named name c) (in_phase Idle f)))
  take_affine_ready p name c f can =
      let phase : Phase P H = Purge p (TakeRegion name) in
      let e : Frame P H = in_phase phase f in
      let named : IsSlotName c.plan name = can.frame.shape.1.1 in
      let cell : CellState = cell_named name c in
      let was = sound_cell maker name c can.core named in
      let there = phase_home maker phase name c f can.core can.fits named.cells (omega (arith, slot_once name)) (slot_regions name name) in
      record {
        kept = kept_part maker old new c e (with_cell name (cell_emptied cell) c) (in_phase Idle f) (core_with_cell maker name (cell_emptied cell) c can.core named (record { named = was.named; holds = emptied_holds maker c.settings name.kind name.slot named.cells })) (held_of maker c.settings c.plan e can.frame) refl refl refl refl;
        shape = (refl, (can.frame.shape.0, (can.frame.shape.1.0, held_in P maker c.settings c.plan name cell.holds named was.holds there, can.frame.shape.1.2)));
        even = λ w. let leaves = region_leaves maker w.unit name c can.core named there in omega (arith, leaves.0, leaves.1);
        fewer = omega arith;
        way = tt;
        searched = λ s. tt;
      }

  -- What it holds is forgotten.
  forget_ready : (g : StepGiven H) (p : PurgeCursor) (at : TakenSlot) (held : ImageSlot P) (c : PoolCore P H) (f : Frame P H) → Can maker (Purge p (Forget at held)) c f → Forgets g.fault held g.slot → Shows p (Forget at held) c f (purge_row g p (Forget at held) c (in_phase Idle f))
  forget_ready g p at held c f can told =
      let e : Frame P H = in_phase (Purge p (Forget at held)) f in
      record {
        kept = kept_part maker old new c e c (in_phase Idle f) can.core (held_of maker c.settings c.plan e can.frame) refl refl refl refl;
        shape = (refl, (can.frame.shape.0, (can.frame.shape.1.0, forgotten_held P maker c.settings c.plan g.fault at.name held g.slot can.frame.shape.1.2 can.frame.shape.1.1 told, can.frame.shape.1.2)));
        even = λ w. omega arith;
        fewer = omega arith;
        way = tt;
        searched = λ s. tt;
      }

  -- The region comes back,
  put_affine_ready : (p : PurgeCursor) (at : TakenSlot) (held : ImageSlot P) (c : PoolCore P H) (f : Frame P H) → Can maker (Purge p (PutRegion at held)) c f → Shows p (PutRegion at held) c f (lifted (λ cell. with_cell at.name cell c) (put_affine_on p at.name (cell_of held) (cell_named at.name c) (in_phase Idle f)))
  put_affine_ready p at held c f can =
      let phase : Phase P H = Purge p (PutRegion at held) in
      let e : Frame P H = in_phase phase f in
      let region = can.frame.shape.1.1 in
      let gone = phase_gone maker phase at.name c f can.core can.fits at.numbers region.named.cells (omega (arith, unit_once at.name at.numbers)) in
      let cell : CellState = cell_filled (cell_of held) (cell_named at.name c) in
      record {
        kept = kept_part maker old new c e (with_cell at.name cell c) (in_phase Idle f) (core_with_cell maker at.name cell c can.core region.named (record { named = (sound_cell maker at.name c can.core region.named).named; holds = region.holds })) (held_of maker c.settings c.plan e can.frame) refl refl refl refl;
        shape = (refl, (can.frame.shape.0, (can.frame.shape.1.0, region.named)));
        even = λ w. let back = region_returns maker w.unit at.name (cell_of held) c can.core region.named gone.away region.there in omega (arith, back.0, back.1, ap (region_count w.unit at.name) gone.out);
        fewer = omega arith;
        way = tt;
        searched = λ s. tt;
      }

  -- and the slot is freed.
  free_affine_ready : (p : PurgeCursor) (name : SlotName) (c : PoolCore P H) (f : Frame P H) → Can maker (Purge p (Free name)) c f → Shows p (Free name) c f (lifted (λ shard. with_shard (home_of c.plan name).place shard c) (free_affine_on c.settings.max_memories_per_module c.plan p name (shard_at (home_of c.plan name).place c) (in_phase Idle f)))
  free_affine_ready p name c f can =
      let phase : Phase P H = Purge p (Free name) in
      let e : Frame P H = in_phase phase f in
      let j : ℕ = (home_of c.plan name).place in
      let shard : ShardState = shard_at j c in
      let at : IsPurging c.settings c.plan p = can.frame.shape.1.0 in
      let named : IsSlotName c.plan name = can.frame.shape.1.1 in
      let place = place_of maker c name can.core named.inside in
      let used = (phase_out maker phase name c f can.core can.fits (omega (arith, slot_once name))).used in
      let freed : ShardState = after_free (home_of c.plan name).local 0 shard in
      let there : IsShardPlace c.plan j = home_place c.plan (length c.parts) name can.core.plan named.inside in
      let next_shard : IsShardOf shard freed = freed_shard (home_of c.plan name).local 0 shard (sound_shard maker j c can.core there) (some_used _ used) (omega arith) in
      let turns : has_turns c.settings.max_memories_per_module c.plan ≡ true = has_some c.settings.max_memories_per_module c.plan at.some (omega (arith, at.memory)) in
      to_ready p p (Free name) j freed c f (behind_turn c.settings.max_memories_per_module c.plan p) (turns_left (sizes_of c.settings c.plan) p)
      (kept_part maker old new c e (with_shard j freed c) (in_phase Idle f) (core_with_shard maker j freed c can.core there next_shard.sound next_shard.same) (held_of maker c.settings c.plan e can.frame) refl refl refl refl)
      can.frame.shape.0
      (λ w. omega (arith, kept_shard w.unit j freed c (shard_part maker j c can.core there), away_shard w.unit j freed c (shard_part maker j c can.core there), freed_one w.unit c.plan shard name 0 place used))
      turns (turn_goes c.settings c.plan (length c.parts) can.core.plan at.some p at) (omega arith)

  pub purge_ready : (g : StepGiven H) (p : PurgeCursor) (step : PurgeStep P) (c : PoolCore P H) (f : Frame P H) → Can maker (Purge p step) c f → PurgeTold g step → Shows p step c f (purge_row g p step c (in_phase Idle f))
  purge_ready g p (Pick tried) c f can told = pick_affine_ready (has_turns c.settings.max_memories_per_module c.plan) p tried c f can refl
  purge_ready g p (TakeRegion name) c f can told = take_affine_ready p name c f can
  purge_ready g p (Forget at held) c f can told = forget_ready g p at held c f can told
  purge_ready g p (PutRegion at held) c f can told = put_affine_ready p at held c f can
  purge_ready g p (Free name) c f can told = free_affine_ready p name c f can
