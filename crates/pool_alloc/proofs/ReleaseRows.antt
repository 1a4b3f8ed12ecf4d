-- The steps of a release, as they show.
use Rattle.std.proofs.Common.{◌≡◌, ℕ, ◌+◌, ◌*◌, ◌<◌, ◌≤◌, Bool, true, false, List, [], ◌∷◌, ◌++◌, length, refl, sym, ap, subst, ◌∙◌, arith, All, Some, None, nat_lt, if◌then◌else◌, drop, remove}
use Rattle.pool_alloc.proofs.Imports.{ltb-true, true≢false, length-append, sum_by-append, sum_by-remove, All-nil, All-append, All-head, All-tail, All-get_or, MakerTold, decommitting, Slot, same_called, same_faulted, SlotKind, memory_kind, ShardState, after_take_warm, after_free, taken_slots, Cell, unknown, previously_used, cell_of, home_of, CellState, cell_emptied, cell_filled, ImageSlot, Unmapped, Unknown, PreviouslyUsed, Taken, Allocator, Plan, SlotName}
use Rattle.pool_alloc.specs.PartyTold.{PartyTold}
use Rattle.pool_alloc.specs.PageCallAnswers.{DecommitsWhole, Drains, ReleaseTold}
use Rattle.pool_alloc.specs.StepBounds.{PoolSizes, sizes_of, stripe_bound, stripes_left, drains_left, release_left}
use Rattle.pool_alloc.specs.Leases.{memory_slot}
use Rattle.pool_alloc.specs.Places.{Thing, right_to, slot_count, region_count, freed_count}
use Rattle.pool_alloc.specs.Releases.{slots_in, release_begun, released_stripe, slots_outside, taking, nth_taken, not_resident, bytes_kept, releasing, behind_stripe, free_first, drain_from, reserve_row, take_warm_on, take_resident_on, after_decommit, put_resident_on, free_taken_on, release_row}
use Rattle.pool_alloc.specs.BetweenSteps.{IsAtRest, IsPoolPlan, IsReleaseAt, IsSlotName, IsFreedOf, IsReleasing, MayHold, HasRegion, IsPoolSlot, slots_left}
use Rattle.pool_alloc.specs.CallStages.{Stage, no_call, stage_of_release, releasing as releasing_stage, Goes}
use Rattle.pool_alloc.specs.StepReads.{StepGiven, no_allocator, shard_at, cell_named, with_shard, with_cell}
use Rattle.pool_alloc.specs.Turns.{goes, ends, Row, lifted}
use Rattle.pool_alloc.specs.declared.frame.Frame.{Frame}
use Rattle.pool_alloc.specs.declared.frame.FreedSlot.{FreedSlot}
use Rattle.pool_alloc.specs.declared.frame.Outcome.TheVariants as answer
use Rattle.pool_alloc.specs.declared.frame.Phase.{Phase}
use Rattle.pool_alloc.specs.declared.frame.Phase.TheVariants.{Idle, Release}
use Rattle.pool_alloc.specs.declared.frame.TakenSlot.{TakenSlot}
use Rattle.pool_alloc.specs.declared.pool_core.PoolCore.{PoolCore}
use Rattle.pool_alloc.specs.declared.pool_core.Settings.{Settings}
use Rattle.pool_alloc.specs.declared.release.ReleaseCursor.{ReleaseCursor}
use Rattle.pool_alloc.specs.declared.release.ReleaseStep.{ReleaseStep}
use Rattle.pool_alloc.specs.declared.release.ReleaseStep.TheVariants.{Reserve, TakeWarm, TakeRegion, Decommit, PutRegion, Free}
use Rattle.pool_alloc.proofs.BeforeTheTurn.{Hand, in_phase, held_of, Even, Kept, Ready, IsReadyRow, either_ready}
use Rattle.pool_alloc.proofs.CoreChanges.{core_with_shard, core_with_cell}
use Rattle.pool_alloc.proofs.KeptCounts.{kept_shard, away_shard, region_leaves, region_returns}
use Rattle.pool_alloc.proofs.PhaseSlots.{phase_out, phase_home, phase_gone}
use Rattle.pool_alloc.proofs.PlanPlaces.{IsShardPlace, home_place, stripe_is, stripe_role, stripe_holds, allocator_most}
use Rattle.pool_alloc.proofs.PoolParts.{planned_shard, sound_shard, sound_cell, shard_part, place_of}
use Rattle.pool_alloc.proofs.PurgeBounds.{drop_sum}
use Rattle.pool_alloc.proofs.PurgeRows.{held_in}
use Rattle.pool_alloc.proofs.QueueCounts.{freed_first, freed_regions}
use Rattle.pool_alloc.proofs.ReleaseBounds.{residents_few, one_drained, slots_next, slots_first}
use Rattle.pool_alloc.proofs.RowsWithASlot.{emptied_holds, some_used}
use Rattle.pool_alloc.proofs.ShardFrees.{IsShardOf, freed_shard}
use Rattle.pool_alloc.proofs.ShardsAfterFrees.{freed_one}
use Rattle.pool_alloc.proofs.SharedByRows.{Can, kept_part}
use Rattle.pool_alloc.proofs.SlotCounts.{slot_once}
use Rattle.pool_alloc.proofs.SlotIdentity.{IsOneSlot, slot_of_one}
use Rattle.pool_alloc.proofs.SlotsOfFrames.{unit_once}
use Rattle.pool_alloc.proofs.WarmTakes.{warm_sound, warm_same, warm_few, outside_long, warm_counts, outside_kinds, warm_of_pool}

-- these slots in hand
abbrev holding : List FreedSlot → Hand
holding slots w = freed_count w.unit slots

freed_appended : (t : Thing) (xs ys : List FreedSlot) → freed_count t (xs ++ ys) ≡ freed_count t xs + freed_count t ys
freed_appended t xs ys = sum_by-append (λ (x : FreedSlot). slot_count t x.name) xs ys

abbrev pub no_slot : FreedSlot
no_slot = record { name = memory_slot 0; bytes = 0 }

-- a slot at a place with the others
pub freed_at : (t : Thing) (r : ReleaseCursor) (k : ℕ) → k < length r.taken.items → freed_count t (remove r.taken.items k) + slot_count t (nth_taken r k).name ≡ freed_count t r.taken.items
freed_at t r k below = sum_by-remove (λ (x : FreedSlot). slot_count t x.name) r.taken.items k (record { name = memory_slot 0; bytes = 0 }) below

-- A slot of which the whole region was decommitted is the same one.
one_drawn : (s : Settings) (fault : Bool) (old new : Slot) → DecommitsWhole s fault old new → IsOneSlot old new
one_drawn s true old new told = same_faulted (decommitting old.base.bytes s.max_memory_size) old new told
one_drawn s false old new told = subst (λ (x : Slot). IsOneSlot old x) (sym told) (same_called (decommitting old.base.bytes s.max_memory_size) old)

module _ (P : Type 0) (maker : MakerTold) (s : Settings) (plan : Plan) where
  drained_held : (fault : Bool) (name : SlotName) (held : ImageSlot P) (slot : Slot) → name.kind ≡ memory_kind → HasRegion maker s plan name (cell_of held) → Drains s fault held slot → HasRegion maker s plan name (cell_of (after_decommit held slot))
  drained_held fault name (Unmapped region) slot kind has told = has
  drained_held fault name (Unknown old) slot kind has told =
      let M : SlotKind → Cell → Type 0 = λ k held. MayHold maker s k name.slot held in
      let was : IsPoolSlot maker s name.slot old = subst (λ (k : SlotKind). M k (unknown old)) kind has.holds in
      record { named = has.named; holds = subst (λ (k : SlotKind). M k (unknown slot)) (sym kind) (slot_of_one maker s name.slot old slot (one_drawn s fault old slot told) was); there = refl }
  drained_held fault name (PreviouslyUsed old) slot kind has told =
      let M : SlotKind → Cell → Type 0 = λ k held. MayHold maker s k name.slot held in
      let was : IsPoolSlot maker s name.slot old = (subst (λ (k : SlotKind). M k (previously_used old)) kind has.holds).0 in
      record { named = has.named; holds = subst (λ (k : SlotKind). M k (previously_used slot)) (sym kind) (slot_of_one maker s name.slot old slot (one_drawn s fault old slot told.0) was, told.1); there = refl }
  drained_held fault name Taken slot kind has told = absurd (true≢false has.there)

kept_few : (b : Bool) (n : ℕ) → (if b then n else 0) ≤ n
kept_few true n = omega arith
kept_few false n = omega arith

-- a release stands at its stripe, with room for what may still come
record Stands (plan : Plan) (r : ReleaseCursor) : Type 0 where
  stripe : r.stripe < length plan.memories
  room : length r.local.items + slots_in (drop (r.stripe + 1) plan.memories) ≤ r.local.room
  same_room : r.taken.room ≡ r.local.room

stands : (plan : Plan) (r : ReleaseCursor) (left : ℕ) → IsReleasing plan r left → Stands plan r
stands plan r left is = record { stripe = is.stripe; room = omega (arith, is.room); same_room = is.taken_room }

module _ {P H : Type 0} (maker : MakerTold) (old new : PartyTold) where
  abbrev Shows : ReleaseStep P → PoolCore P H → Frame P H → Row (PoolCore P H) P H → Type 0
  Shows step c f r = IsReadyRow maker old new c (in_phase (Release step) f) r

  abbrev StepsOf : ReleaseStep P → PoolCore P H → ℕ
  StepsOf step c = release_left (sizes_of c.settings c.plan) step

  -- What is so where a step of a release left the pool d and goes on with these slots in hand, with so many steps left.
  record Going (step : ReleaseStep P) (slots : List FreedSlot) (left : ℕ) (c d : PoolCore P H) (f : Frame P H) : Type 0 where
    kept : Kept maker old new c (in_phase (Release step) f) d (in_phase Idle f)
    rest : IsAtRest f
    even : Even maker old new c (in_phase (Release step) f) (holding slots) d (in_phase Idle f)
    few : left + 1 ≤ StepsOf step c
    stage : stage_of_release step ≡ releasing_stage
    plan : d.plan ≡ c.plan
    sound : IsPoolPlan c.plan (length c.parts)

  -- it goes on so, or ends
  on_way : (step : ReleaseStep P) (c : PoolCore P H) (f : Frame P H) → stage_of_release step ≡ releasing_stage → Goes maker old new c (in_phase (Release step) f) (stage_of_release step) releasing_stage None
  on_way step c f is = subst (λ (x : Stage). Goes maker old new c (in_phase (Release step) f) x releasing_stage None) (sym is) tt

  end_way : (step : ReleaseStep P) (n : ℕ) (c : PoolCore P H) (f : Frame P H) → stage_of_release step ≡ releasing_stage → Goes maker old new c (in_phase (Release step) f) (stage_of_release step) no_call (Some (answer.Released n))
  end_way step n c f is = subst (λ (x : Stage). Goes maker old new c (in_phase (Release step) f) x no_call (Some (answer.Released n))) (sym is) tt

  -- A stripe is done.
  behind_ready : (step : ReleaseStep P) (r : ReleaseCursor) (left : ℕ) (c d : PoolCore P H) (f : Frame P H) → Going step [] left c d f → Stands c.plan r → stripes_left (sizes_of c.settings c.plan) r ≤ left → Ready maker old new c (in_phase (Release step) f) d (in_phase Idle f) (behind_stripe c.plan r)
  behind_ready step r left c d f going at few =
      let z : PoolSizes = sizes_of c.settings c.plan in
      let q : ReleaseCursor = record r { stripe = r.stripe + 1; taken = record r.taken { items = [] }; failed = false } in
      let F : Plan → Type 0 = λ x. IsReleaseAt {P = P} maker d.settings x (TakeWarm q 0) in
      either_ready maker old new c (in_phase (Release step) f) d (in_phase Idle f) (nat_lt (r.stripe + 1) (length c.plan.memories)) (goes (Release (TakeWarm q 0))) (ends (answer.Released r.released))
      (λ more.
      let inside : r.stripe + 1 < length c.plan.memories = ltb-true _ _ more in
      let a : Allocator = released_stripe c.plan q in
      let there : F c.plan = (
        record {
          stripe = inside;
          taken = All-nil (IsFreedOf c.plan);
          memories = All-nil (λ x. x.name.kind ≡ memory_kind);
          few = omega (arith, slots_first a);
          all = omega arith;
          room = omega (arith, at.room, slots_first a, drop_sum (λ (x : Allocator). x.capacity) c.plan.memories (r.stripe + 1) no_allocator inside);
          taken_room = at.same_room;
        },
        (stripe_is c.plan (length c.parts) (r.stripe + 1) going.sound inside).some,
      ) in
      record {
        kept = going.kept;
        shape = (refl, (going.rest, subst F (sym going.plan) there));
        even = λ w. omega (arith, going.even w);
        fewer = omega (arith, going.few, few, drop_sum (stripe_bound z) c.plan.memories (r.stripe + 1) no_allocator inside);
        way = on_way step c f going.stage;
        searched = λ s. tt;
      })
      (λ last. record {
        kept = going.kept;
        shape = (going.rest, tt);
        even = λ w. omega (arith, going.even w);
        fewer = omega (arith, going.few);
        way = end_way step r.released c f going.stage;
        searched = λ s. tt;
      })

  -- These slots are to be freed.
  free_ready : (step : ReleaseStep P) (slots : List FreedSlot) (r : ReleaseCursor) (left : ℕ) (c d : PoolCore P H) (f : Frame P H) → Going step slots left c d f → Stands c.plan r → All (IsFreedOf c.plan) slots → All (λ x. x.name.kind ≡ memory_kind) slots → length slots ≤ (released_stripe c.plan r).capacity → length slots ≤ length r.local.items → length slots + stripes_left (sizes_of c.settings c.plan) r ≤ left → Ready maker old new c (in_phase (Release step) f) d (in_phase Idle f) (free_first c.plan slots r)
  free_ready step [] r left c d f going at of kinds few all steps = behind_ready step r left c d f going at (omega (arith, steps))
  free_ready step (x ∷ rest) r left c d f going at of kinds few all steps =
      let M : FreedSlot → Type 0 = λ x. x.name.kind ≡ memory_kind in
      let q : ReleaseCursor = record r { taken = record r.taken { items = rest } } in
      let F : Plan → Type 0 = λ y. IsReleaseAt {P = P} maker d.settings y (Free q x) in
      let there : F c.plan = (
        record {
          stripe = at.stripe;
          taken = All-tail (IsFreedOf c.plan) x rest of;
          memories = All-tail M x rest kinds;
          few = omega (arith, few);
          all = omega (arith, all);
          room = omega (arith, at.room);
          taken_room = at.same_room;
        },
        All-head (IsFreedOf c.plan) x rest of,
        All-head M x rest kinds,
      ) in
      record {
        kept = going.kept;
        shape = (refl, (going.rest, subst F (sym going.plan) there));
        even = λ w. omega (arith, going.even w, freed_first w.unit x rest);
        fewer = omega (arith, going.few, steps);
        way = on_way step c f going.stage;
        searched = λ s. tt;
      }

  -- Those from a place on may still be decommitted.
  drain_ready : (step : ReleaseStep P) (r : ReleaseCursor) (k left : ℕ) (c d : PoolCore P H) (f : Frame P H) → Going step r.taken.items left c d f → IsReleasing c.plan r 0 → drains_left (sizes_of c.settings c.plan) r k ≤ left → Ready maker old new c (in_phase (Release step) f) d (in_phase Idle f) (drain_from c.plan r k)
  drain_ready step r k left c d f going at steps =
      let n : ℕ = k + not_resident (drop k r.taken.items) in
      let F : Plan → Type 0 = λ y. IsReleaseAt {P = P} maker d.settings y (TakeRegion r n) in
      either_ready maker old new c (in_phase (Release step) f) d (in_phase Idle f) (nat_lt n (length r.taken.items)) (goes (Release (TakeRegion r n))) (free_first c.plan r.taken.items r)
      (λ more.
      let inside : n < length r.taken.items = ltb-true _ _ more in
      let there : F c.plan = (at, inside) in
      record {
        kept = going.kept;
        shape = (refl, (going.rest, subst F (sym going.plan) there));
        even = λ w. omega (arith, going.even w);
        fewer = omega (arith, going.few, steps, one_drained k r.taken.items no_slot inside);
        way = on_way step c f going.stage;
        searched = λ s. tt;
      })
      (λ last. free_ready step r.taken.items r left c d f going (stands c.plan r 0 at) at.taken at.memories (omega (arith, at.few)) at.all (omega (arith, steps)))

  -- Room is reserved.
  reserve_ready : (wants : Bool) (c : PoolCore P H) (f : Frame P H) → Can maker (Release Reserve) c f → Shows Reserve c f (reserve_row wants c (in_phase Idle f))
  reserve_ready true c f can = record {
    kept = kept_part maker old new c (in_phase (Release Reserve) f) c (in_phase Idle f) can.core (held_of maker c.settings c.plan (in_phase (Release Reserve) f) can.frame) refl refl refl refl;
    shape = (can.frame.shape.0, tt);
    even = λ w. omega arith;
    fewer = omega arith;
    way = refl;
    searched = λ s. tt;
  }
  reserve_ready false c f can =
      let z : PoolSizes = sizes_of c.settings c.plan in
      let r : ReleaseCursor = release_begun c.plan in
      let a : Allocator = released_stripe c.plan r in
      record {
        kept = kept_part maker old new c (in_phase (Release Reserve) f) c (in_phase Idle f) can.core (held_of maker c.settings c.plan (in_phase (Release Reserve) f) can.frame) refl refl refl refl;
        shape = (
          refl,
          (
            can.frame.shape.0,
            (
              record {
                stripe = can.core.plan.stripes;
                taken = All-nil (IsFreedOf c.plan);
                memories = All-nil (λ x. x.name.kind ≡ memory_kind);
                few = omega (arith, slots_first a);
                all = omega arith;
                room = omega (arith, slots_first a, drop_sum (λ (x : Allocator). x.capacity) c.plan.memories 0 no_allocator can.core.plan.stripes);
                taken_room = refl;
              },
              (stripe_is c.plan (length c.parts) 0 can.core.plan can.core.plan.stripes).some,
            ),
          ),
        );
        even = λ w. omega arith;
        fewer = omega (arith, drop_sum (stripe_bound z) c.plan.memories 0 no_allocator can.core.plan.stripes);
        way = tt;
        searched = λ s. tt;
      }

  -- A shard's warm slots are taken.
  take_warm_ready : (r : ReleaseCursor) (j : ℕ) (c : PoolCore P H) (f : Frame P H) → Can maker (Release (TakeWarm r j)) c f → Shows (TakeWarm r j) c f (lifted (λ shard. with_shard ((released_stripe c.plan r).first_place + j) shard c) (take_warm_on c.plan r j (shard_at ((released_stripe c.plan r).first_place + j) c) (in_phase Idle f)))
  take_warm_ready r j c f can =
      let e : Frame P H = in_phase (Release (TakeWarm r j)) f in
      let z : PoolSizes = sizes_of c.settings c.plan in
      let a : Allocator = released_stripe c.plan r in
      let at : IsReleasing c.plan r (slots_left a j) = can.frame.shape.1.0 in
      let inside : j < a.shards = can.frame.shape.1.1 in
      let p : ℕ = a.first_place + j in
      let shard : ShardState = shard_at p c in
      let next : ShardState = after_take_warm shard in
      let d : PoolCore P H = with_shard p next c in
      let place : IsShardPlace c.plan p = record { allocator = a; index = j; role = stripe_role c.plan (length c.parts) r.stripe j can.core.plan at.stripe inside } in
      let sound = sound_shard maker p c can.core place in
      let is = planned_shard maker p c can.core place in
      let kind : shard.kind ≡ memory_kind = is.kind ∙ (stripe_holds c.plan (length c.parts) r.stripe can.core.plan at.stripe).kind_is in
      let most = allocator_most c.plan (length c.parts) memory_kind r.stripe can.core.plan at.stripe in
      let q : ReleaseCursor = taking shard r in
      let M : FreedSlot → Type 0 = λ x. x.name.kind ≡ memory_kind in
      let more_taken : length q.taken.items ≡ length r.taken.items + length shard.warm = length-append r.taken.items (slots_outside shard) ∙ ap (λ (n : ℕ). length r.taken.items + n) (outside_long shard).0 in
      let more_local : length q.local.items ≡ length r.local.items + length shard.warm = length-append r.local.items (taken_slots shard) ∙ ap (λ (n : ℕ). length r.local.items + n) (outside_long shard).1 in
      let fits = slots_next a j (length shard.warm) (omega (arith, warm_few shard sound, is.capacity)) in
      let now : IsReleasing c.plan q (slots_left a (j + 1)) = record {
        stripe = at.stripe;
        taken = All-append (IsFreedOf c.plan) r.taken.items (slots_outside shard) at.taken (warm_of_pool maker p c can.core place kind);
        memories = All-append M r.taken.items (slots_outside shard) at.memories (outside_kinds shard shard.warm);
        few = omega (arith, at.few, more_taken, fits);
        all = omega (arith, at.all, more_taken, more_local);
        room = omega (arith, at.room, more_local, fits);
        taken_room = at.taken_room;
      } in
      let kept = kept_part maker old new c e d (in_phase Idle f) (core_with_shard maker p next c can.core place (warm_sound shard sound) (warm_same shard)) (held_of maker c.settings c.plan e can.frame) refl refl refl refl in
      let even : Even maker old new c e (holding q.taken.items) d (in_phase Idle f) = λ w. omega (arith, kept_shard w.unit p next c (shard_part maker p c can.core place), away_shard w.unit p next c (shard_part maker p c can.core place), warm_counts w.unit shard sound kind, freed_appended w.unit r.taken.items (slots_outside shard)) in
      either_ready maker old new c e d (in_phase Idle f) (nat_lt (j + 1) a.shards) (goes (Release (TakeWarm q (j + 1)))) (drain_from c.plan q 0)
      (λ more. record {
        kept = kept;
        shape = (refl, (can.frame.shape.0, (now, ltb-true _ _ more)));
        even = λ w. omega (arith, even w);
        fewer = omega (arith, most, inside);
        way = tt;
        searched = λ s. tt;
      })
      (λ last. drain_ready (TakeWarm r j) q 0 (4 * a.capacity + stripes_left z r) c d f
      (record { kept = kept; rest = can.frame.shape.0; even = even; few = omega (arith, most, inside); stage = refl; plan = refl; sound = can.core.plan })
      (record { stripe = now.stripe; taken = now.taken; memories = now.memories; few = omega (arith, now.few); all = now.all; room = omega (arith, now.room); taken_room = now.taken_room })
      (omega (arith, residents_few q.taken.items, now.few)))

  -- The region of a slot leaves its cell.
  take_resident_ready : (r : ReleaseCursor) (k : ℕ) (c : PoolCore P H) (f : Frame P H) → Can maker (Release (TakeRegion r k)) c f → Shows (TakeRegion r k) c f (lifted (λ cell. with_cell (nth_taken r k).name cell c) (take_resident_on r k (nth_taken r k).name (cell_named (nth_taken r k).name c) (in_phase Idle f)))
  take_resident_ready r k c f can =
      let phase : Phase P H = Release (TakeRegion r k) in
      let e : Frame P H = in_phase phase f in
      let at : IsReleasing c.plan r 0 = can.frame.shape.1.0 in
      let inside : k < length r.taken.items = can.frame.shape.1.1 in
      let name : SlotName = (nth_taken r k).name in
      let named : IsSlotName c.plan name = (All-get_or (IsFreedOf c.plan) r.taken.items k no_slot inside at.taken).named in
      let cell : CellState = cell_named name c in
      let was = sound_cell maker name c can.core named in
      let there = phase_home maker phase name c f can.core can.fits named.cells (omega (arith, freed_at (right_to name) r k inside, slot_once name)) (freed_regions name r.taken.items) in
      record {
        kept = kept_part maker old new c e (with_cell name (cell_emptied cell) c) (in_phase Idle f) (core_with_cell maker name (cell_emptied cell) c can.core named (record { named = was.named; holds = emptied_holds maker c.settings name.kind name.slot named.cells })) (held_of maker c.settings c.plan e can.frame) refl refl refl refl;
        shape = (refl, (can.frame.shape.0, record { releasing = at; place = inside; named = refl; region = held_in P maker c.settings c.plan name cell.holds named was.holds there }));
        even = λ w. let leaves = region_leaves maker w.unit name c can.core named there in omega (arith, leaves.0, leaves.1, freed_at w.unit r k inside);
        fewer = omega arith;
        way = tt;
        searched = λ s. tt;
      }

  -- It is decommitted.
  decommit_ready : (g : StepGiven H) (r : ReleaseCursor) (k : ℕ) (at : TakenSlot) (held : ImageSlot P) (c : PoolCore P H) (f : Frame P H) → Can maker (Release (Decommit r k at held)) c f → Drains c.settings g.fault held g.slot → Shows (Decommit r k at held) c f (release_row g (Decommit r k at held) c (in_phase Idle f))
  decommit_ready g r k at held c f can told =
      let e : Frame P H = in_phase (Release (Decommit r k at held)) f in
      let has = can.frame.shape.1 in
      let was : IsReleasing c.plan r 0 = has.releasing in
      let kind : at.name.kind ≡ memory_kind = ap (λ (n : SlotName). n.kind) (sym has.named) ∙ All-get_or (λ (x : FreedSlot). x.name.kind ≡ memory_kind) r.taken.items k no_slot has.place was.memories in
      record {
        kept = kept_part maker old new c e c (in_phase Idle f) can.core (held_of maker c.settings c.plan e can.frame) refl refl refl refl;
        shape = (
          refl,
          (
            can.frame.shape.0,
            record {
              releasing = record { stripe = was.stripe; taken = was.taken; memories = was.memories; few = was.few; all = was.all; room = was.room; taken_room = was.taken_room };
              place = has.place;
              named = has.named;
              region = drained_held P maker c.settings c.plan g.fault at.name held g.slot kind has.region told;
            },
          ),
        );
        even = λ w. omega arith;
        fewer = omega arith;
        way = tt;
        searched = λ s. tt;
      }

  -- The region comes back,
  put_resident_ready : (r : ReleaseCursor) (k : ℕ) (at : TakenSlot) (held : ImageSlot P) (c : PoolCore P H) (f : Frame P H) → Can maker (Release (PutRegion r k at held)) c f → Shows (PutRegion r k at held) c f (lifted (λ cell. with_cell at.name cell c) (put_resident_on c.plan r k (cell_of held) (cell_named at.name c) (in_phase Idle f)))
  put_resident_ready r k at held c f can =
      let phase : Phase P H = Release (PutRegion r k at held) in
      let e : Frame P H = in_phase phase f in
      let z : PoolSizes = sizes_of c.settings c.plan in
      let has = can.frame.shape.1 in
      let region = has.region in
      let gone = phase_gone maker phase at.name c f can.core can.fits at.numbers region.named.cells (omega (arith, unit_once at.name at.numbers)) in
      let cell : CellState = cell_filled (cell_of held) (cell_named at.name c) in
      drain_ready (PutRegion r k at held) r (k + 1) (drains_left z r (k + 1)) c (with_cell at.name cell c) f
      (record {
        kept = kept_part maker old new c e (with_cell at.name cell c) (in_phase Idle f) (core_with_cell maker at.name cell c can.core region.named (record { named = (sound_cell maker at.name c can.core region.named).named; holds = region.holds })) (held_of maker c.settings c.plan e can.frame) refl refl refl refl;
        rest = can.frame.shape.0;
        even = λ w. let back = region_returns maker w.unit at.name (cell_of held) c can.core region.named gone.away region.there in omega (arith, back.0, back.1, ap (region_count w.unit at.name) gone.out, freed_at w.unit r k has.place, ap (slot_count w.unit) has.named);
        few = omega arith;
        stage = refl;
        plan = refl;
        sound = can.core.plan;
      })
      has.releasing (omega arith)

  -- and in the end each slot is freed.
  free_taken_ready : (r : ReleaseCursor) (x : FreedSlot) (c : PoolCore P H) (f : Frame P H) → Can maker (Release (Free r x)) c f → Shows (Free r x) c f (lifted (λ shard. with_shard (home_of c.plan x.name).place shard c) (free_taken_on c.plan r x (shard_at (home_of c.plan x.name).place c) (in_phase Idle f)))
  free_taken_ready r x c f can =
      let phase : Phase P H = Release (Free r x) in
      let e : Frame P H = in_phase phase f in
      let z : PoolSizes = sizes_of c.settings c.plan in
      let at : IsReleasing c.plan r 0 = can.frame.shape.1.0 in
      let of : IsFreedOf c.plan x = can.frame.shape.1.1 in
      let j : ℕ = (home_of c.plan x.name).place in
      let shard : ShardState = shard_at j c in
      let bytes : ℕ = bytes_kept r x in
      let place = place_of maker c x.name can.core of.named.inside in
      let used = (phase_out maker phase x.name c f can.core can.fits (omega (arith, slot_once x.name))).used in
      let freed : ShardState = after_free (home_of c.plan x.name).local bytes shard in
      let there : IsShardPlace c.plan j = home_place c.plan (length c.parts) x.name can.core.plan of.named.inside in
      let next_shard : IsShardOf shard freed = freed_shard (home_of c.plan x.name).local bytes shard (sound_shard maker j c can.core there) (some_used _ used) (omega (arith, kept_few r.failed x.bytes, of.bytes)) in
      let was = stands c.plan r 0 at in
      free_ready (Free r x) r.taken.items (releasing r x) (length r.taken.items + stripes_left z r) c (with_shard j freed c) f
      (record {
        kept = kept_part maker old new c e (with_shard j freed c) (in_phase Idle f) (core_with_shard maker j freed c can.core there next_shard.sound next_shard.same) (held_of maker c.settings c.plan e can.frame) refl refl refl refl;
        rest = can.frame.shape.0;
        even = λ w. omega (arith, kept_shard w.unit j freed c (shard_part maker j c can.core there), away_shard w.unit j freed c (shard_part maker j c can.core there), freed_one w.unit c.plan shard x.name bytes place used);
        few = omega arith;
        stage = refl;
        plan = refl;
        sound = can.core.plan;
      })
      (record { stripe = was.stripe; room = was.room; same_room = was.same_room }) at.taken at.memories (omega (arith, at.few)) at.all (omega arith)

  pub release_ready : (g : StepGiven H) (step : ReleaseStep P) (c : PoolCore P H) (f : Frame P H) → Can maker (Release step) c f → ReleaseTold c.settings g step → Shows step c f (release_row g step c (in_phase Idle f))
  release_ready g Reserve c f can told = reserve_ready g.wants c f can
  release_ready g (TakeWarm r j) c f can told = take_warm_ready r j c f can
  release_ready g (TakeRegion r k) c f can told = take_resident_ready r k c f can
  release_ready g (Decommit r k at held) c f can told = decommit_ready g r k at held c f can told
  release_ready g (PutRegion r k at held) c f can told = put_resident_ready r k at held c f can
  release_ready g (Free r x) c f can told = free_taken_ready r x c f can
