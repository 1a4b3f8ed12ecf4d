-- A shard whose pick found nothing has no free slot, and a pool that was searched through has none.
use Rattle.std.proofs.Common.{◌≡◌, ℕ, ◌+◌, ◌-◌, ◌*◌, ◌/◌, ◌%◌, ◌<◌, ◌≤◌, Bool, true, false, [], length, Option, Some, None, is_some, refl, ap, ◌∙◌, subst, inl, inr, arith, sym, All, ◌⊎◌, ◌∷◌, List, ◌==◌, nat_lt, if◌then◌else◌, option_map, IsSome}
use Rattle.pool_alloc.proofs.Imports.{none_mapped, Queued, SlotKind, heap_kind, memory_kind, table_kind, stack_kind, All-head, All-tail, inside, total_zero, read_at, kept_parts, part_kept, total, numbered, Plan, Allocator, Role, queue_role, role_at, has_number, home_of, queues_for, option_or, option_map_or, cases_lt, ltb-false, lt-ltb, count_by-le-length, mod-mul-add, div-add-mod', mod-lt, MakerTold, ShardState, warm_at, next_cold, IsShard, choice, affine_choice, warm_choice, cold_choice, slot_and_bytes, pick_answer, one_if, is_used, Choice, use_of, after_choice, after_full, after_pick, MemoryInModule, WarmSlot, of_kind, SlotName, part_at, PoolPart}
use Rattle.pool_alloc.proofs.SlotCounts.{slot_other, region_rights}
use Rattle.pool_alloc.proofs.SumsBelow.{queued_cells}
use Rattle.pool_alloc.proofs.UsedSlots.{used_is_out}
use Rattle.pool_alloc.proofs.PoolParts.{sound_shard, place_of}
use Rattle.pool_alloc.proofs.PlanPlaces.{slot_at, allocator_holds, queue_of_role, queue_tried_at, queues_all, allocator_role, IsQueuePlace, IsSlotAt, home_place}
use Rattle.pool_alloc.specs.BetweenSteps.{IsCore, IsPoolPlan, IsPartFor, HasCells, IsQueuedOf}
use Rattle.pool_alloc.specs.Places.{Thing, right_to, queued_count, kept_count, away_count}
use Rattle.pool_alloc.specs.StepReads.{shard_at, queue_at, queue_in, queues_searched, allocator_for, kind_next, slot_next, queues_next}
use Rattle.pool_alloc.specs.declared.pool_core.PoolCore.{PoolCore}
use Rattle.pool_alloc.specs.declared.frame.Frame.{Frame}
use Rattle.pool_alloc.specs.Searches.{HasNoSlot, AreFull, AreEmpty}
use Rattle.pool_alloc.specs.declared.pool_core.Settings.{Settings}
use Rattle.pool_slots.specs.declared.part.PoolPart.TheVariants as part

-- neither of two choices was there
neither : {X : Type 0} (a b : Option X) → option_or a b ≡ None → (a ≡ None) × (b ≡ None)
neither None b e = (refl, e)
neither (Some x) b e = absurd cc

both_none : {X : Type 0} (b : Bool) (x y : Option X) → (if b then option_or x y else option_or y x) ≡ None → (x ≡ None) × (y ≡ None)
both_none true x y e = neither x y e
both_none false x y e = let two = neither y x e in (two.1, two.0)

if_none : {X : Type 0} (b : Bool) (x : X) → (if b then Some x else None) ≡ None → b ≡ false
if_none true x e = absurd cc
if_none false x e = refl

-- there is no warm slot, and no cold one
pub record HasNone (s : ShardState) : Type 0 where
  pub warm : length s.warm ≡ 0
  pub cold : s.capacity ≤ s.cold

none_chosen : (want : Option MemoryInModule) (s : ShardState) → pick_answer want s ≡ None → HasNone s
none_chosen want s e =
    let rest = (neither (affine_choice want s) _ (none_mapped (slot_and_bytes s) (choice want s) e)).1 in
    let two = both_none (nat_lt (length s.warm) s.budget) (cold_choice s) (warm_choice s) rest in
    record {
      warm = omega (arith, ltb-false 0 (length s.warm) (if_none (nat_lt 0 (length s.warm)) (warm_at 0) two.1));
      cold = ltb-false s.cold s.capacity (if_none (nat_lt s.cold s.capacity) next_cold two.0);
    }

one_true : (b : Bool) → one_if b ≡ 1 → b ≡ true
one_true true e = refl
one_true false e = absurd (omega arith)

-- So each of its slots is used.
pub none_free : (want : Option MemoryInModule) (s : ShardState) → IsShard s → pick_answer want s ≡ None → HasNoSlot s
none_free want s sound e l below =
    let none : HasNone s = none_chosen want s e in
    let cold : one_if (nat_lt l s.cold) ≡ 1 = ap one_if (lt-ltb l s.cold (omega (arith, below, none.cold))) in
    some_used (use_of s l) (one_true (is_used s l) (omega (arith, sound.partition l, cold, count_by-le-length (λ (e : WarmSlot). e.slot.0 == l) s.warm, none.warm)))
  where
    some_used : {X : Type 0} (o : Option X) → is_some o ≡ true → IsSome o
    some_used None e = absurd cc
    some_used (Some x) e = refl

-- and stays so after the pick
full_after : (want : Option MemoryInModule) (s : ShardState) (o : Option Choice) → option_map (slot_and_bytes s) o ≡ None → HasNoSlot s → HasNoSlot (option_map_or (after_choice want s) o (after_full s))
full_after want s None e full = full
full_after want s (Some c) e full = absurd cc

pub still_none : (want : Option MemoryInModule) (s : ShardState) → pick_answer want s ≡ None → HasNoSlot s → HasNoSlot (after_pick want s)
still_none want s e full = full_after want s (choice want s) e full

-- each place is reached from a home by steps around
around : (home i n : ℕ) → i < n → (j : ℕ) × (j < n) × ((home + j) % n ≡ i)
around home i n inside =
    let r : ℕ = home % n in
    let some : 0 < n = omega (arith, inside) in
    let less : r < n = mod-lt home some in
    let split : home / n * n + r ≡ home = div-add-mod' home n in
    elim (cases_lt i r) [
      | inl before ↦
          let there : home + (i + n - r) ≡ (home / n + 1) * n + i = omega (arith, split, less, before) in
          (i + n - r, omega (arith, less, before, inside), ap (λ (m : ℕ). m % n) there ∙ mod-mul-add (home / n + 1) n i inside)
      | inr after ↦
          let there : home + (i - r) ≡ home / n * n + i = omega (arith, split, after) in
          (i - r, omega (arith, inside), ap (λ (m : ℕ). m % n) there ∙ mod-mul-add (home / n) n i inside)
    ]

-- A slot of the allocator of what is allocated is at home in one of its shards.
pub allocator_home : {P H : Type 0} (plan : Plan) (places k : ℕ) (f : Frame P H) → IsPoolPlan plan places → f.stripe < length plan.memories → has_number (allocator_for plan f) k ≡ true → (i : ℕ) × (i < (allocator_for plan f).shards) × IsSlotAt plan ((allocator_for plan f).first_place + i) (slot_next k f)
allocator_home plan places k f is stripe has =
    let a : Allocator = allocator_for plan f in
    let of' = allocator_holds plan places f is stripe in
    let it = numbered a k (kind_next f) (of_kind (kind_next f) plan.totals) of' has in
    let i : ℕ = (k - a.first) / a.step / a.slots_per_shard in
    (i, it.shard, slot_at plan places (a.first_place + i) a i ((k - a.first) / a.step % a.slots_per_shard) (slot_next k f) is (allocator_role plan places (kind_next f) f.stripe i is stripe it.shard) it.inside (sym of'.kind_is) (sym it.number))

-- No queue keeps the slot of a heap.
queue_no_heap : (maker : MakerTold) (s : Settings) (name : SlotName) (ms : List Queued) → name.kind ≡ heap_kind → All (IsQueuedOf maker s) ms → queued_count (right_to name) ms ≡ 0
queue_no_heap maker s name [] is each = refl
queue_no_heap maker s name (m ∷ ms) is each =
    let Q : Queued → Type 0 = IsQueuedOf maker s in
    let other : name ≡ m.name → ⊥ = λ same. (let no : HasCells heap_kind = subst HasCells (sym (ap (λ (n : SlotName). n.kind) same) ∙ is) (queued_cells maker s m (All-head Q m ms each)) in no) in
    omega (arith, slot_other name m.name other, region_rights name m.name m.numbers, queue_no_heap maker s name ms is (All-tail Q m ms each))

-- a search goes through all queues, or is for a heap
queues_or : (plan : Plan) (kind : SlotKind) → (queues_for plan kind ≡ queues_searched plan) ⊎ (kind ≡ heap_kind)
queues_or plan memory_kind = inl refl
queues_or plan table_kind = inl refl
queues_or plan stack_kind = inl refl
queues_or plan heap_kind = inr refl

module _ {P H : Type 0} where
  -- A part keeps nothing where it is no queue, or an empty one.
  part_none : (maker : MakerTold) (s : Settings) (t : Thing) (r : Role) (x : PoolPart P H) → IsPartFor maker s r x → (r ≡ queue_role → (queue_in x).slots ≡ []) → total t (part_kept x) ≡ 0
  part_none maker s t queue_role (part.Queue q) is empty = ap (queued_count t) (empty refl)
  part_none maker s t r (part.Shard shard) is empty = refl
  part_none maker s t r (part.Memory cell) is empty = refl
  part_none maker s t r (part.Table cell) is empty = refl
  part_none maker s t r (part.Stack cell) is empty = refl
  part_none maker s t r (part.Heaps heaps) is empty = refl
  part_none maker s t r x is empty = absurd is

  pub none_kept : (maker : MakerTold) (t : Thing) (c : PoolCore P H) → IsCore maker c → ((p : ℕ) → IsQueuePlace c.plan p → (queue_at p c).slots ≡ []) → kept_count t c ≡ 0
  none_kept maker t c core empty =
      kept_parts t c.parts
      ∙ total_zero (λ (x : PoolPart P H). total t (part_kept x)) c.parts
      (λ p x at.
      let is : part_at p c.parts ≡ x = read_at c.parts p _ x at in
      subst (λ (y : PoolPart P H). total t (part_kept y) ≡ 0) is (part_none maker c.settings t (role_at c.plan p) (part_at p c.parts) (core.parts p (inside c.parts p x at)) (λ role. empty p role)))

  part_no_heap : (maker : MakerTold) (s : Settings) (name : SlotName) (r : Role) (x : PoolPart P H) → name.kind ≡ heap_kind → IsPartFor maker s r x → total (right_to name) (part_kept x) ≡ 0
  part_no_heap maker s name queue_role (part.Queue q) is for = queue_no_heap maker s name q.slots is for.regions
  part_no_heap maker s name r (part.Shard shard) is for = refl
  part_no_heap maker s name r (part.Memory cell) is for = refl
  part_no_heap maker s name r (part.Table cell) is for = refl
  part_no_heap maker s name r (part.Stack cell) is for = refl
  part_no_heap maker s name r (part.Heaps heaps) is for = refl
  part_no_heap maker s name r x is for = absurd for

  pub no_heap_kept : (maker : MakerTold) (name : SlotName) (c : PoolCore P H) → IsCore maker c → name.kind ≡ heap_kind → kept_count (right_to name) c ≡ 0
  no_heap_kept maker name c core is =
      kept_parts (right_to name) c.parts
      ∙ total_zero (λ (x : PoolPart P H). total (right_to name) (part_kept x)) c.parts
      (λ p x at.
      let same : part_at p c.parts ≡ x = read_at c.parts p _ x at in
      subst (λ (y : PoolPart P H). total (right_to name) (part_kept y) ≡ 0) same (part_no_heap maker c.settings name (role_at c.plan p) (part_at p c.parts) is (core.parts p (inside c.parts p x at))))

  -- Where all shards of the allocator were tried, and all queues taken, each of its slots is given out, and in no queue.
  pub nothing_left : (maker : MakerTold) (c : PoolCore P H) (f : Frame P H) → IsCore maker c → f.stripe < length c.plan.memories → AreEmpty (queues_next c.plan f) c f → AreFull (allocator_for c.plan f).shards c f → (k : ℕ) → has_number (allocator_for c.plan f) k ≡ true → (kept_count (right_to (slot_next k f)) c ≡ 0) × (away_count (right_to (slot_next k f)) c ≡ 1)
  nothing_left maker c f core stripe empty full k has =
      let a : Allocator = allocator_for c.plan f in
      let home = allocator_home c.plan (length c.parts) k f core.plan stripe has in
      let tried = around f.home home.0 a.shards home.1 in
      let name : SlotName = slot_next k f in
      let p : ℕ = (home_of c.plan name).place in
      let at_home : HasNoSlot (shard_at p c) = subst (λ (q : ℕ). HasNoSlot (shard_at q c)) (ap (λ (i : ℕ). a.first_place + i) tried.2 ∙ home.2.home) (full tried.0 tried.1) in
      let place = home_place c.plan (length c.parts) name core.plan home.2.inside in
      let its = place_of maker c name core home.2.inside in
      let used : is_used (shard_at p c) (home_of c.plan name).local.0 ≡ true = at_home (home_of c.plan name).local.0 (omega (arith, its.inside, (sound_shard maker p c core place).entries)) in (
        elim (queues_or c.plan (kind_next f)) [
          | inl all ↦
              none_kept maker (right_to name) c core
              (λ q role.
              let i = queue_of_role c.plan (length c.parts) q core.plan role in
              let taken = around f.home i.0 c.plan.queues i.1 in
              let Q : ℕ → Type 0 = λ n. (queue_at n c).slots ≡ [] in
              subst Q (queue_tried_at c.plan taken.0 f ∙ ap (λ (n : ℕ). c.plan.first_queue + n) taken.2 ∙ i.2) (empty taken.0 (omega (arith, taken.1, all, queues_all c.plan))))
          | inr heap ↦ no_heap_kept maker name c core heap
        ],
        used_is_out maker name c core home.2.inside used,
      )
