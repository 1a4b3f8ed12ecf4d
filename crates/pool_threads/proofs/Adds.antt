-- What a seat has noted of commands adds up, command by command.
use Rattle.std.proofs.Common.{◌≡◌, ◌⊎◌, inl, inr, ℕ, ◌+◌, ◌≤◌, Bool, true, false, refl, ap, subst, ◌∙◌, arith, List, [], ◌∷◌}
use Rattle.std.proofs.lemmas.Bool.{cases_lt, eqb-true}
use Rattle.std.specs.Prelude.{if◌then◌else◌, ◌==◌, slice_index}
use Rattle.pool_hall.specs.Sum.{total}
use Rattle.pool_hall.specs.Tally.{counted, number, rise, rise_at}
use Rattle.pool_hall.specs.declared.unit_name.SlotKind.{SlotKind}
use Rattle.pool_hall.specs.declared.unit_name.SlotKind.TheVariants.{Memory as memory_kind}
use Rattle.pool_hall.specs.declared.view.CountRise.{CountRise}
use Rattle.pool_hall.specs.declared.view.View.{View}
use Rattle.pool_index.specs.Part.{full_answers}
use Rattle.pool_slots.specs.Plans.{cell_role, role_at, queue_tried, shard_tried}
use Rattle.pool_slots.specs.SlotQueues.{same_kind}
use Rattle.pool_slots.specs.declared.plan.Plan.{Plan}
use Rattle.pool_slots.specs.declared.slot_name.SlotName.{SlotName}
use Rattle.pool_alloc.specs.StepReads.{allocator_of}
use Rattle.pool_driver.specs.PageFaults.{CellFaulted, cell_faults}
use Rattle.pool_driver.specs.Telling.{component_counter, instance_counter, queue_takes}
use Rattle.pool_threads.specs.Asked.{Scarce, slots, instances, components}
use Rattle.pool_threads.specs.Noted.{Grows, HasNotedCell, Notes, OverTimes, RoomTimes, fault_rise, is_memory_cell, memory_faults, spent}

-- a number is that of two cases, of which the second stands for it
two_ways : (b : Bool) (x y : ℕ) → (b ≡ true → y ≡ x) → y ≡ (if b then 0 else y) + (if b then x else 0)
two_ways true x y same = omega (arith, same refl)
two_ways false x y same = omega arith

module _ (plan : Plan) (place : ℕ) (slot : SlotName) (kind : slot.kind ≡ memory_kind) (cell : role_at plan place ≡ cell_role slot) where
  -- the rises at other places
  abbrev pub elsewhere : CountRise → ℕ
  elsewhere e = if place == e.place then 0 else fault_rise plan e

  at_cell : (e : CountRise) → (place == e.place) ≡ true → fault_rise plan e ≡ rise (slice_index e.before cell_faults) (slice_index e.after cell_faults)
  at_cell e here =
      let same : place ≡ e.place = eqb-true place e.place here in
      let role : role_at plan e.place ≡ cell_role slot = subst (λ (p : ℕ). role_at plan p ≡ cell_role slot) same cell in
      let is : is_memory_cell (role_at plan e.place) ≡ true = ap is_memory_cell role ∙ ap (same_kind memory_kind) kind in
      ap (λ (b : Bool). if b then rise (slice_index e.before cell_faults) (slice_index e.after cell_faults) else 0) is

  pub one_fault : (e : CountRise) → fault_rise plan e ≡ elsewhere e + rise_at place cell_faults e
  one_fault e = two_ways (place == e.place) (rise (slice_index e.before cell_faults) (slice_index e.after cell_faults)) (fault_rise plan e) (at_cell e)

  pub all_faults : (es : List CountRise) → total (fault_rise plan) es ≡ total elsewhere es + total (rise_at place cell_faults) es
  all_faults [] = refl
  all_faults (e ∷ es) = omega (arith, one_fault e, all_faults es)

module _ {T : Type 0} where
  -- Nothing is forgotten as nothing happens,
  pub grows_still : (v : View T) → Grows v v
  grows_still v = record { rises = λ weigh. omega arith; noted = λ q. omega arith; over = λ c. omega arith; counted_off = λ c. omega arith; portions = refl }

  -- nor by one thing after another.
  pub grows_on : (u v w : View T) → Grows u v → Grows v w → Grows u w
  grows_on u v w one two = record {
    rises = λ weigh. omega (arith, one.rises weigh, two.rises weigh);
    noted = λ q. omega (arith, one.noted q, two.noted q);
    over = λ c. omega (arith, one.over c, two.over c);
    counted_off = λ c. omega (arith, one.counted_off c, two.counted_off c);
    portions = two.portions ∙ one.portions;
  }

  counted_more : (v w : View T) → Grows v w → (p i : ℕ) → number (counted p i) v ≤ number (counted p i) w
  counted_more v w grows p i = grows.rises (rise_at p i)

  -- A fault more at the cell of a memory slot is one more of all.
  pub fault_more : (plan : Plan) (v w : View T) (slot : SlotName) (place : ℕ) → slot.kind ≡ memory_kind → role_at plan place ≡ cell_role slot → Grows v w → number (counted place cell_faults) v + 1 ≤ number (counted place cell_faults) w → memory_faults plan v + 1 ≤ memory_faults plan w
  fault_more plan v w slot place kind cell grows more =
      let before = all_faults plan place slot kind cell v.rises in
      let after = all_faults plan place slot kind cell w.rises in
      let others = grows.rises (elsewhere plan place slot kind cell) in
      omega (arith, before, after, others, more)

  pub cell_noted : (plan : Plan) (v w : View T) → Grows v w → HasNotedCell plan v → HasNotedCell plan w
  cell_noted plan v w grows is = record { slot = is.slot; kind = is.kind; place = is.place; cell = is.cell; noted = omega (arith, is.noted, grows.noted is.place) }

  -- What a call that is refused for a failed page call tells.
  pub fault_told : (plan : Plan) (v w : View T) → Grows v w → CellFaulted v w plan → (memory_faults plan v + 1 ≤ memory_faults plan w) ⊎ HasNotedCell plan w
  fault_told plan v w grows told =
      elim told.faulted [
        | inl more ↦ inl (fault_more plan v w told.slot told.place told.kind told.cell grows more)
        | inr noted ↦ inr (record { slot = told.slot; kind = told.kind; place = told.place; cell = told.cell; noted = omega (arith, noted) })
      ]

  room_none : (plan : Plan) (home : ℕ) (kind : SlotKind) (stripe : ℕ) (v w : View T) → Grows v w → RoomTimes v w plan home kind stripe 0
  room_none plan home kind stripe v w grows = record {
    shards = λ j below. let more = counted_more v w grows (shard_tried (allocator_of plan kind stripe) home j) full_answers in omega (arith, more);
    noted = λ some j below. absurd (omega (arith, some));
    queues = λ j below. let more = counted_more v w grows (queue_tried plan home j) queue_takes in omega (arith, more);
  }

  room_add : (plan : Plan) (home : ℕ) (kind : SlotKind) (stripe m n : ℕ) (u v w : View T) → Grows v w → RoomTimes u v plan home kind stripe m → RoomTimes v w plan home kind stripe n → RoomTimes u w plan home kind stripe (m + n)
  room_add plan home kind stripe m n u v w grows one two = record {
    shards = λ j below. omega (arith, one.shards j below, two.shards j below);
    noted = λ some j below.
        elim (cases_lt 0 n) [
          | inl more ↦ two.noted more j below
          | inr none ↦ let was = one.noted (omega (arith, some, none)) j below in omega (arith, was, grows.noted (shard_tried (allocator_of plan kind stripe) home j))
        ];
    queues = λ j below. omega (arith, one.queues j below, two.queues j below);
  }

  over_none : (v w : View T) (c : ℕ) → Grows v w → OverTimes v w c 0
  over_none v w c grows = record { over = omega (arith, grows.over c); counted_off = omega (arith, grows.counted_off c) }

  over_add : (u v w : View T) (c m n : ℕ) → OverTimes u v c m → OverTimes v w c n → OverTimes u w c (m + n)
  over_add u v w c m n one two = record { over = omega (arith, one.over, two.over); counted_off = omega (arith, one.counted_off, two.counted_off) }

  over_less : (u v : View T) (c m n : ℕ) → n ≤ m → OverTimes u v c m → OverTimes u v c n
  over_less u v c m n less one = record { over = omega (arith, less, one.over); counted_off = omega (arith, less, one.counted_off) }

  faults_add : (plan : Plan) (m n : ℕ) (u v w : View T) → Grows v w → (memory_faults plan u + m ≤ memory_faults plan v) ⊎ HasNotedCell plan v → (memory_faults plan v + n ≤ memory_faults plan w) ⊎ HasNotedCell plan w → (memory_faults plan u + (m + n) ≤ memory_faults plan w) ⊎ HasNotedCell plan w
  faults_add plan m n u v w grows (inr one) two = inr (cell_noted plan v w grows one)
  faults_add plan m n u v w grows (inl one) (inr two) = inr two
  faults_add plan m n u v w grows (inl one) (inl two) = inl (omega (arith, one, two))

  -- A seat that only grew has noted this, whatever it may use up.
  pub notes_none : (plan : Plan) (home stripe : ℕ) (most : Scarce → ℕ) (v w : View T) → Grows v w → ((k : Scarce) → spent plan k w ≤ spent plan k v + most k) → Notes plan home stripe most (λ k. 0) 0 v w
  notes_none plan home stripe most v w grows within = record {
    within = within;
    grows = grows;
    room = λ kind. room_none plan home kind stripe v w grows;
    over_instances = over_none v w instance_counter grows;
    over_components = over_none v w component_counter grows;
    faults = inl (omega (arith, grows.rises (fault_rise plan)));
  }

  pub notes_still : (plan : Plan) (home stripe : ℕ) (most : Scarce → ℕ) (v : View T) → Notes plan home stripe most (λ k. 0) 0 v v
  notes_still plan home stripe most v = notes_none plan home stripe most v v (grows_still v) (λ k. omega arith)

  -- What it has noted of one thing, and of the next, it has noted of both.
  pub notes_add : (plan : Plan) (home stripe : ℕ) (a b p q : Scarce → ℕ) (m n : ℕ) (u v w : View T) → Notes plan home stripe a p m u v → Notes plan home stripe b q n v w → Notes plan home stripe (λ k. a k + b k) (λ k. p k + q k) (m + n) u w
  notes_add plan home stripe a b p q m n u v w one two = record {
    within = λ k. omega (arith, one.within k, two.within k);
    grows = grows_on u v w one.grows two.grows;
    room = λ kind. room_add plan home kind stripe (p (slots kind)) (q (slots kind)) u v w two.grows (one.room kind) (two.room kind);
    over_instances = over_add u v w instance_counter (p instances) (q instances) one.over_instances two.over_instances;
    over_components = over_add u v w component_counter (p components) (q components) one.over_components two.over_components;
    faults = faults_add plan m n u v w two.grows one.faults two.faults;
  }

  room_less : (plan : Plan) (home : ℕ) (kind : SlotKind) (stripe m n : ℕ) (u v : View T) → n ≤ m → RoomTimes u v plan home kind stripe m → RoomTimes u v plan home kind stripe n
  room_less plan home kind stripe m n u v less room = record {
    shards = λ j below. omega (arith, less, room.shards j below);
    noted = λ some j below. room.noted (omega (arith, some, less)) j below;
    queues = λ j below. omega (arith, less, room.queues j below);
  }

  faults_less : (plan : Plan) (m n : ℕ) (u v : View T) → n ≤ m → (memory_faults plan u + m ≤ memory_faults plan v) ⊎ HasNotedCell plan v → (memory_faults plan u + n ≤ memory_faults plan v) ⊎ HasNotedCell plan v
  faults_less plan m n u v less (inl one) = inl (omega (arith, less, one))
  faults_less plan m n u v less (inr one) = inr one

  -- It may have used up more, and been refused less often.
  pub notes_less : (plan : Plan) (home stripe : ℕ) (a b p q : Scarce → ℕ) (m n : ℕ) (u v : View T) → ((k : Scarce) → a k ≤ b k) → ((k : Scarce) → q k ≤ p k) → n ≤ m → Notes plan home stripe a p m u v → Notes plan home stripe b q n u v
  notes_less plan home stripe a b p q m n u v more less fault notes = record {
    within = λ k. omega (arith, notes.within k, more k);
    grows = notes.grows;
    room = λ kind. room_less plan home kind stripe (p (slots kind)) (q (slots kind)) u v (less (slots kind)) (notes.room kind);
    over_instances = over_less u v instance_counter (p instances) (q instances) (less instances) notes.over_instances;
    over_components = over_less u v component_counter (p components) (q components) (less components) notes.over_components;
    faults = faults_less plan m n u v fault notes.faults;
  }
