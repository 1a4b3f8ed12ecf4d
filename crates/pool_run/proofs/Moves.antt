-- What a move makes of a memory is what it makes of the private one, and the memory stays in its slot.
use Rattle.std.proofs.Common.{◌≡◌, ℕ, ◌+◌, ◌<◌, ◌≤◌, Bool, true, false, List, length, Option, refl, sym, ap, ◌∙◌, subst, inl, inr, nat_le, nat_lt, if◌then◌else◌, IfSome}
use Rattle.pool_run.proofs.Imports.{static_capacity, maximum_asked, MemoryType, leb-true, leb-false, written, rounded_up, MakerTold, plan_for, memory_region, OnDemand, Slot, SlotIdentity, identity, raising, raised, limited, GrowthRule, GrowError, MemoryOutOfBounds, InPlace, FailsInPlace, grown_size, Storage, in_slot, stored, slot_in, storage_written, Linear, MemoryState, bytes_of, slot_of, state_written, Lease, IsLeaseOf, IsPoolSlot, Plan, Settings, told_same, same_called, same_faulted, IsOneSlot, slot_of_one, memory_slots}
use Rattle.pool_limits.specs.declared.errors.GrowError.TheVariants.{PageFault}
use Rattle.pool_run.specs.Private.{PrivateMemory, Writes, GrowthEnd, as_it_was, could_not, has_grown, growth, left_of, grown_by}
use Rattle.pool_run.specs.Turns.{seen_as, private_memory, MemoryWrites, GrowthLeaves, MemoryGrows, MovesLease}
use Rattle.pool_run.specs.declared.reply.Reply.{Reply}
use Rattle.pool_run.specs.declared.reply.Reply.TheVariants.{Done, Trap}
use Rattle.pool_run.proofs.Bytes.{written_seen}
use Rattle.pool_run.proofs.Growths.{growth_decided}
use Rattle.pool_alloc.proofs.HeldSlots.{held_name, held_plan}

-- The memory is still in the lease's slot, may have as many bytes as before, and is of the same type.
pub record StaysIn (maker : MakerTold) (s : Settings) (l : Lease) (new : MemoryState) : Type 0 where
  pub slot : IsPoolSlot maker s l.index (slot_of new)
  pub capacity : new.linear.capacity ≡ l.memory.linear.capacity
  pub ty : new.ty ≡ l.memory.ty

-- a move leaves the memory so
abbrev pub KeepsSlot : MakerTold → Settings → Plan → (MemoryState → MemoryState → Reply → Type 0) → Type 0
KeepsSlot maker s plan Moves = (l : Lease) (new : MemoryState) (reply : Reply) → IsLeaseOf maker s plan l → Moves l.memory new reply → StaysIn maker s l new

-- and is one of the private memory
abbrev pub IsSeen : MakerTold → Settings → Plan → (MemoryState → MemoryState → Reply → Type 0) → (PrivateMemory → PrivateMemory → Reply → Type 0) → Type 0
IsSeen maker s plan Moves Sees = (l : Lease) (new : MemoryState) (reply : Reply) → IsLeaseOf maker s plan l → Moves l.memory new reply → Sees (private_memory l) (seen_as l.index new) reply

-- A lease that moved stays one of the pool.
pub lease_still : (maker : MakerTold) (s : Settings) (plan : Plan) (Moves : MemoryState → MemoryState → Reply → Type 0) (l new : Lease) (reply : Reply) → KeepsSlot maker s plan Moves → IsLeaseOf maker s plan l → MovesLease Moves l new reply → IsLeaseOf maker s plan new
lease_still maker s plan Moves l new reply keeps of moves =
    let S : ℕ → Type 0 = λ k. IsPoolSlot maker s k (slot_of new.memory) in
    let Inside : ℕ → Type 0 = λ k. k < memory_slots plan in
    let index : new.index ≡ l.index = ap (λ (x : Lease). x.index) moves.same in
    let stays : StaysIn maker s l new.memory = keeps l new.memory reply of moves.move in
    let Room : ℕ → MemoryType → Type 0 = λ n ty. n ≤ static_capacity s.max_memory_size (maximum_asked ty) in
    record {
      inside = subst Inside (sym index) of.inside;
      slot = subst S (sym index) stays.slot;
      memory = moves.memory;
      room = subst (λ (n : ℕ). Room n new.memory.ty) (sym stays.capacity) (subst (Room l.memory.linear.capacity) (sym stays.ty) of.room);
    }

-- a write leaves the slot
written_still : (i : ℕ) (new : List ℕ) (st : Storage) → IsOneSlot (slot_in st) (slot_in (storage_written i new st))
written_still i new (stored len bytes) = refl
written_still i new (in_slot s) = ap (λ (b : Bool). record (identity s) { tells = b }) (told_same (written (s.base.bytes + i) new) s.region.contents)

writes_by : (maker : MakerTold) (settings : Settings) (i : ℕ) (bytes : List ℕ) (l : Lease) (new : MemoryState) (reply : Reply) (b : Bool) → IsPoolSlot maker settings l.index (slot_of l.memory) → nat_le (i + length bytes) l.memory.linear.size ≡ b → ◌≡◌ {A = MemoryState × Reply} (new, reply) (if b then (state_written i bytes l.memory, Done) else (l.memory, Trap MemoryOutOfBounds))
    → StaysIn maker settings l new × Writes i bytes (private_memory l) (seen_as l.index new) reply
writes_by maker settings i bytes l new reply true of fits is =
    let W : MemoryState × Reply → Type 0 = λ p. StaysIn maker settings l p.0 × Writes i bytes (private_memory l) (seen_as l.index p.0) p.1 in
    let within : i + length bytes ≤ l.memory.linear.size = leb-true (i + length bytes) l.memory.linear.size fits in
    subst W (sym is) (
      record { slot = slot_of_one maker settings l.index (slot_of l.memory) (slot_of (state_written i bytes l.memory)) (written_still i bytes l.memory.linear.storage) of; capacity = refl; ty = refl },
      (within, written_seen i bytes l (ap (λ (z : SlotIdentity). z.base.bytes) of.same) within),
    )
writes_by maker settings i bytes l new reply false of past is =
    let W : MemoryState × Reply → Type 0 = λ p. StaysIn maker settings l p.0 × Writes i bytes (private_memory l) (seen_as l.index p.0) p.1 in
    subst W (sym is) (record { slot = of; capacity = refl; ty = refl }, (refl, leb-false (i + length bytes) l.memory.linear.size past, refl))

pub writes_stay : (maker : MakerTold) (s : Settings) (plan : Plan) (i : ℕ) (bytes : List ℕ) → KeepsSlot maker s plan (MemoryWrites i bytes)
writes_stay maker s plan i bytes l new reply of is = (writes_by maker s i bytes l new reply (nat_le (i + length bytes) l.memory.linear.size) of.slot refl is).0

pub writes_seen : (maker : MakerTold) (s : Settings) (plan : Plan) (i : ℕ) (bytes : List ℕ) → IsSeen maker s plan (MemoryWrites i bytes) (Writes i bytes)
writes_seen maker s plan i bytes l new reply of is = (writes_by maker s i bytes l new reply (nat_le (i + length bytes) l.memory.linear.size) of.slot refl is).1

-- a growth in its place
one_raised : (size : ℕ) (s : Slot) → IsOneSlot s (raised size s)
one_raised size s = same_called (raising size s) s

one_limited : (size : ℕ) (s : Slot) (b : Bool) → IsOneSlot s (if b then raised size s else s)
one_limited size s true = one_raised size s
one_limited size s false = refl

module _ (maker : MakerTold) (settings : Settings) (i : ℕ) where
  in_place : (size : ℕ) (st : Storage) (old new : Linear) → IsPoolSlot maker settings i (slot_in st) → InPlace size st old new → IsPoolSlot maker settings i (slot_in new.storage) × (new.capacity ≡ old.capacity)
  in_place size (stored len bytes) old new of is = let wrong : OnDemand 0 ≡ memory_region i = held_name maker settings i (slot_in (stored len bytes)) of in absurd cc
  in_place size (in_slot s) old new of is =
      let S : Linear → Type 0 = λ l. IsPoolSlot maker settings i (slot_in l.storage) × (l.capacity ≡ old.capacity) in
      subst S (sym is) (slot_of_one maker settings i s (limited size s) (one_limited (rounded_up s.region.page size) s (nat_lt s.accessible.bytes (rounded_up s.region.page size))) of, refl)

  -- one that fails does so by a call on the slot's region
  faulted : (e : GrowError) (size : ℕ) (st left : Storage) → IsPoolSlot maker settings i (slot_in st) → FailsInPlace e size st left → IsPoolSlot maker settings i (slot_in left) × IfSome (plan_for (memory_region i) maker) (λ plan. 0 < length plan)
  faulted e size (stored len bytes) left of is = let wrong : OnDemand 0 ≡ memory_region i = held_name maker settings i (slot_in (stored len bytes)) of in absurd cc
  faulted e size (in_slot s) (stored len bytes) of is = absurd is
  faulted e size (in_slot s) (in_slot t) of is =
      let Q : Option (List ℕ) → Type 0 = λ o. IfSome o (λ plan. 0 < length plan) in
      (slot_of_one maker settings i s t (same_faulted (raising (rounded_up s.region.page size) s) s t is.1) of, subst Q (held_plan maker settings i s of) is.1.region.listed)

-- What a growth that ended so leaves of a memory in its slot is what it leaves of the private one.
module _ (maker : MakerTold) (settings : Settings) (size : ℕ) (l : Lease) (of : IsPoolSlot maker settings l.index (slot_of l.memory)) where
  record IsLeftAs (end : GrowthEnd) (new : MemoryState) : Type 0 where
    still : IsPoolSlot maker settings l.index (slot_of new)
    seen : seen_as l.index new ≡ left_of end size (private_memory l)
    may : end ≡ could_not → IfSome (plan_for (memory_region l.index) maker) (λ plan. 0 < length plan)

  place_seen : (st : Storage) (new : Linear) → st ≡ l.memory.linear.storage → IsPoolSlot maker settings l.index (slot_in st) → InPlace size st l.memory.linear new → new.size ≡ size
  place_seen (stored len bytes) new at is place = let wrong : OnDemand 0 ≡ memory_region l.index = held_name maker settings l.index (slot_in (stored len bytes)) is in absurd cc
  place_seen (in_slot s) new at is place = ap (λ (x : Linear). x.size) place

  left_seen : (end : GrowthEnd) (new : MemoryState) → GrowthLeaves end size l.memory new → IsLeftAs end new
  left_seen as_it_was new is =
      let S : MemoryState → Type 0 = λ m. IsPoolSlot maker settings l.index (slot_of m) in
      record { still = subst S (sym is) of; seen = ap (seen_as l.index) is; may = λ wrong. absurd cc }
  left_seen could_not new is =
      let left = faulted maker settings l.index PageFault size l.memory.linear.storage new.linear.storage of is.2 in
      let Parts : Option (List ℕ) → PrivateMemory = λ bytes. record { slot = l.index; ty = l.memory.ty; size = l.memory.linear.size; capacity = l.memory.linear.capacity; bytes = bytes } in
      record { still = left.0; seen = ap (seen_as l.index) is.0 ∙ ap Parts (ap bytes_of (sym is.0) ∙ is.1); may = λ yes. left.1 }
  left_seen has_grown new is =
      let kept = in_place maker settings l.index size l.memory.linear.storage l.memory.linear new.linear of is.2 in
      let Parts : ℕ → ℕ → Option (List ℕ) → PrivateMemory = λ n capacity bytes. record { slot = l.index; ty = l.memory.ty; size = n; capacity = capacity; bytes = bytes } in
      let same : new.linear.size ≡ size = place_seen l.memory.linear.storage new.linear refl of is.2 in
      record {
        still = kept.0;
        seen = ap (seen_as l.index) is.0 ∙ ap (λ (n : ℕ). Parts n new.linear.capacity (bytes_of new)) same ∙ ap (λ (n : ℕ). Parts size n (bytes_of new)) kept.1 ∙ ap (Parts size l.memory.linear.capacity) is.1;
        may = λ wrong. absurd cc;
      }

-- a growth changes neither the capacity nor the type
left_same : (end : GrowthEnd) (size : ℕ) (m : PrivateMemory) → ((left_of end size m).capacity ≡ m.capacity) × ((left_of end size m).ty ≡ m.ty)
left_same as_it_was size m = (refl, refl)
left_same could_not size m = (refl, refl)
left_same has_grown size m = (refl, refl)

pub grows_stay : (maker : MakerTold) (s : Settings) (plan : Plan) (rule : GrowthRule) (pages : ℕ) → KeepsSlot maker s plan (MemoryGrows rule pages)
grows_stay maker s plan rule pages l new reply of is =
    let end : GrowthEnd = (growth rule is.0 pages (seen_as 0 l.memory)).0 in
    let left = left_seen maker s (grown_size pages l.memory) l of.slot end new is.2 in
    let same = left_same end (grown_size pages l.memory) (private_memory l) in
    record {
      slot = left.still;
      capacity = ap (λ (m : PrivateMemory). m.capacity) left.seen ∙ same.0;
      ty = ap (λ (m : PrivateMemory). m.ty) left.seen ∙ same.1;
    }

-- a growth as it is seen, in which a call fails only where the plan of the slot's region lists one
abbrev pub GrowsSeen : MakerTold → GrowthRule → ℕ → PrivateMemory → PrivateMemory → Reply → Type 0
GrowsSeen maker rule pages m new reply = (fault : Bool) × ((new, reply) ≡ grown_by rule fault pages m) × (fault ≡ true → IfSome (plan_for (memory_region m.slot) maker) (λ plan. 0 < length plan))

module _ (maker : MakerTold) (s : Settings) (plan : Plan) (rule : GrowthRule) (pages : ℕ) (l : Lease) (new : MemoryState) (reply : Reply) (of : IsLeaseOf maker s plan l) where
  abbrev ended : Bool → GrowthEnd × Reply
  ended fault = growth rule fault pages (private_memory l)

  -- it is as it ended, with a fault or without
  seen_by : (fault : Bool) (end : GrowthEnd × Reply) → end ≡ ended fault → (fault ≡ true → end.0 ≡ could_not) → reply ≡ end.1 → GrowthLeaves end.0 (grown_size pages l.memory) l.memory new → GrowsSeen maker rule pages (private_memory l) (seen_as l.index new) reply
  seen_by fault end is fails told leaves =
      let left = left_seen maker s (grown_size pages l.memory) l of.slot end.0 new leaves in
      let Seen : GrowthEnd × Reply → PrivateMemory × Reply = λ p. (left_of p.0 (grown_size pages l.memory) (private_memory l), p.1) in
      (fault, ap (λ (m : PrivateMemory). (m, reply)) left.seen ∙ ap (λ (r : Reply). (left_of end.0 (grown_size pages l.memory) (private_memory l), r)) told ∙ ap Seen is, λ yes. left.may (fails yes))

  growth_seen : (fault : Bool) → reply ≡ (ended fault).1 → GrowthLeaves (ended fault).0 (grown_size pages l.memory) l.memory new → GrowsSeen maker rule pages (private_memory l) (seen_as l.index new) reply
  growth_seen false told leaves = seen_by false (ended false) refl (λ wrong. absurd cc) told leaves
  growth_seen true told leaves =
      elim (growth_decided rule pages l.memory) [
        | inl same ↦ seen_by false (ended true) same (λ wrong. absurd cc) told leaves
        | inr decides ↦ seen_by true (ended true) refl (λ yes. decides.0) told leaves
      ]

pub grows_seen : (maker : MakerTold) (s : Settings) (plan : Plan) (rule own : GrowthRule) (pages : ℕ) → rule ≡ own → IsSeen maker s plan (MemoryGrows rule pages) (GrowsSeen maker own pages)
grows_seen maker s plan rule own pages ruled l new reply of is =
    let By : GrowthRule → Type 0 = λ r. MemoryGrows r pages l.memory new reply in
    let grown : MemoryGrows own pages l.memory new reply = subst By ruled is in
    growth_seen maker s plan own pages l new reply of grown.0 grown.1 grown.2
