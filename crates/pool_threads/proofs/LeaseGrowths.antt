-- What an operation on a live memory leaves of the calls on its region: a growth that met a fault made one that the plan lists.
use Rattle.std.proofs.Common.{◌≡◌, ℕ, ◌+◌, ◌<◌, ◌≤◌, ◌⊎◌, inl, inr, ◌==◌, ◌||◌, not, nat_le, nat_lt, if◌then◌else◌, Bool, true, false, List, length, replicate, Option, Some, None, IfSome, refl, sym, ap, ◌∙◌, subst, arith}
use Rattle.std.specs.List.{list_any}
use Rattle.std.proofs.lemmas.Bool.{cases_Bool, ne_eqb}
use Rattle.pool_hall.specs.Sum.{one_if}
use Rattle.pool_types.specs.Count.{rounded_up}
use Rattle.pool_types.specs.Rising.{risen}
use Rattle.pool_limits.specs.Growth.{GrowthRule}
use Rattle.pool_limits.specs.declared.errors.GrowError.TheVariants.{PageFault}
use Rattle.pool_pages.specs.MakerTold.{MakerTold, plan_for}
use Rattle.pool_pages.specs.Told.{Faulted, PageCall, Told}
use Rattle.pool_pages.specs.declared.pages.RegionName.TheVariants.{Memory as memory_region, OnDemand}
use Rattle.pool_images.specs.Slots.{Slot, limited, raised, raising}
use Rattle.pool_memory.specs.Growing.{FailsInPlace, InPlace, IsCallPlanned}
use Rattle.pool_memory.specs.Linear.{Linear, Storage, in_slot, stored, slot_in, storage_written}
use Rattle.pool_memory.specs.Memories.{MemoryState, slot_of}
use Rattle.pool_slots.specs.declared.plan.Plan.{Plan}
use Rattle.pool_alloc.specs.BetweenSteps.{IsLeaseOf, IsPoolSlot}
use Rattle.pool_alloc.specs.Leases.{Lease}
use Rattle.pool_alloc.specs.declared.pool_core.Settings.{Settings}
use Rattle.pool_alloc.proofs.HeldSlots.{held_name, held_plan}
use Rattle.pool_driver.specs.ListedCalls.{AreAtMost}
use Rattle.pool_run.specs.Acts.{MemoryOp, asks_size, fills, grows, reads, writes}
use Rattle.pool_run.specs.GrowthEnds.{GrowthEnd, as_it_was, could_not, has_grown}
use Rattle.pool_run.specs.Private.{growth, size_wanted}
use Rattle.pool_run.specs.Turns.{GrowthLeaves, LeaseMoves, MemoryWrites, private_memory, seen_as}
use Rattle.pool_run.specs.declared.reply.Reply.{Reply}
use Rattle.pool_threads.specs.GrowthFaults.{calls_on, growth_met, listed_of, met_by}
use Rattle.pool_threads.proofs.GrowthEnds.{met_could_not}
use Rattle.pool_threads.proofs.ListedCalls.{listed_after, listed_next, still_most}

-- With so many faults more there are no more than the plan lists still, where so many calls were made before and are now.
abbrev pub AddsTo : ℕ → ℕ → ℕ → List ℕ → Type 0
AddsTo made after more plan = (met : ℕ) → AreAtMost (listed_of (Some made) plan) plan met → AreAtMost (listed_of (Some after) plan) plan (met + more)

none_added : (made after more : ℕ) (o : Option (List ℕ)) → more ≡ 0 → (after ≡ made) ⊎ (after ≡ risen made) → IfSome o (AddsTo made after more)
none_added made after more None none calls = tt
none_added made after more (Some plan) none calls = λ met few. still_most (listed_of (Some made) plan) (listed_of (Some after) plan) plan met (met + more) (listed_after plan made after calls) (omega (arith, none)) few

-- a call that the plan lists
one_added : (made after more : ℕ) (o : Option (List ℕ)) → more ≤ 1 → after ≡ risen made → IfSome o (λ plan. list_any (λ n. n == risen made) plan ≡ true) → IfSome o (AddsTo made after more)
one_added made after more None few is listed = tt
one_added made after more (Some plan) few is listed =
    λ met so_far. subst (λ (n : ℕ). AreAtMost (listed_of (Some n) plan) plan (met + more)) (sym is)
    (still_most (listed_of (Some (risen made)) plan) (listed_of (Some (risen made)) plan) plan (met + 1) (met + more) (omega arith) (omega (arith, few)) (listed_next plan made met listed so_far))

either_way : {X : Type 0} (Q : X → Type 0) (b : Bool) (x y : X) → Q x → Q y → Q (if b then x else y)
either_way Q true x y one other = one
either_way Q false x y one other = other

-- a write calls nothing
stored_written : (at : ℕ) (bytes : List ℕ) (st : Storage) → (slot_in (storage_written at bytes st)).region.made ≡ (slot_in st).region.made
stored_written at bytes (stored len new) = refl
stored_written at bytes (in_slot s) = refl

abbrev MemoryCalls : MemoryState → ℕ
MemoryCalls m = (slot_of m).region.made

writes_calls : (at : ℕ) (bytes : List ℕ) (old new : MemoryState) (reply : Reply) → MemoryWrites at bytes old new reply → MemoryCalls new ≡ MemoryCalls old
writes_calls at bytes old new reply is =
    ap (λ (x : MemoryState × Reply). MemoryCalls x.0) is
    ∙ either_way (λ (x : MemoryState × Reply). MemoryCalls x.0 ≡ MemoryCalls old) (nat_le (at + length bytes) old.linear.size) _ _ (stored_written at bytes old.linear.storage) refl

-- A call that is counted, or has an empty range.
counted_by : (b : Bool) (made : ℕ) → ((if b then made else risen made) ≡ made) ⊎ ((if b then made else risen made) ≡ risen made)
counted_by true made = inl refl
counted_by false made = inr refl

not_empty : (len : ℕ) → 0 < len → (len == 0) ≡ false
not_empty len some' = ne_eqb len 0 (λ none. absurd (omega (arith, some', none)))

turned : (b : Bool) → false ≡ not b → b ≡ true
turned true is = refl
turned false is = absurd cc

listed_if : (len next : ℕ) (o : Option (List ℕ)) → 0 < len → IfSome o (λ plan. false ≡ ((len == 0) || not (list_any (λ n. n == next) plan))) → IfSome o (λ plan. list_any (λ n. n == next) plan ≡ true)
listed_if len next None some' is = tt
listed_if len next (Some plan) some' is =
    let R : Bool → Type 0 = λ b. false ≡ (b || not (list_any (λ n. n == next) plan)) in
    turned (list_any (λ n. n == next) plan) (subst R (not_empty len some') is)

failed_made : (call : PageCall) (s t : Told) → Faulted call s t → t.made ≡ risen s.made
failed_made call s t is =
    let R : Bool → Type 0 = λ b. t.made ≡ (if b then s.made else risen s.made) in
    subst R (not_empty call.len is.nonempty) (ap (λ (x : Told). x.made) is.same)

module _ (maker : MakerTold) (s : Settings) (plan : Plan) (l : Lease) (of : IsLeaseOf maker s plan l) where
  abbrev made : ℕ
  made = calls_on l

  fails_added : (size more : ℕ) (st left : Storage) → st ≡ l.memory.linear.storage → more ≤ 1 → FailsInPlace PageFault size st left → IsCallPlanned false size st → IfSome (plan_for (memory_region l.index) maker) (AddsTo made (slot_in left).region.made more)
  fails_added size more (stored len bytes) left is few fails planned = absurd fails
  fails_added size more (in_slot x) (stored len bytes) is few fails planned = absurd fails
  fails_added size more (in_slot x) (in_slot t) is few fails planned =
      let call : PageCall = raising (rounded_up x.region.page size) x in
      let here : IsPoolSlot maker s l.index x = subst (λ (y : Storage). IsPoolSlot maker s l.index (slot_in y)) (sym is) of.slot in
      let same : x.region.made ≡ made = ap (λ (y : Storage). (slot_in y).region.made) is in
      subst (λ (o : Option (List ℕ)). IfSome o (AddsTo made t.region.made more)) (held_plan maker s l.index x here)
      (subst (λ (n : ℕ). IfSome x.region.plan (AddsTo n t.region.made more)) same
      (one_added x.region.made t.region.made more x.region.plan few (failed_made call x.region t.region fails.1.region) (listed_if call.len (risen x.region.made) x.region.plan fails.1.region.nonempty planned)))

  grown_calls : (size : ℕ) (st : Storage) (new : Linear) → st ≡ l.memory.linear.storage → InPlace size st l.memory.linear new → ((slot_in new.storage).region.made ≡ made) ⊎ ((slot_in new.storage).region.made ≡ risen made)
  grown_calls size (in_slot x) new is place =
      let same : x.region.made ≡ made = ap (λ (y : Storage). (slot_in y).region.made) is in
      let to : ℕ = rounded_up x.region.page size in
      let Rises : ℕ → Slot → Type 0 = λ n y. (y.region.made ≡ n) ⊎ (y.region.made ≡ risen n) in
      subst (λ (y : Linear). Rises made (slot_in y.storage)) (sym place)
      (subst (λ (n : ℕ). Rises n (limited size x)) same
      (either_way (Rises x.region.made) (nat_lt x.accessible.bytes to) (raised to x) x (counted_by ((raising to x).len == 0) x.region.made) (inl refl)))
  grown_calls size (stored len bytes) new is place =
      let wrong : OnDemand 0 ≡ memory_region l.index = held_name maker s l.index (slot_in (stored len bytes)) (subst (λ (y : Storage). IsPoolSlot maker s l.index (slot_in y)) (sym is) of.slot) in
      absurd cc

  ends_added : (end : GrowthEnd) (size more : ℕ) (new : MemoryState) → more ≤ 1 → (more ≡ 0) ⊎ (end ≡ could_not) → GrowthLeaves end size l.memory new → IfSome (plan_for (memory_region l.index) maker) (AddsTo made (MemoryCalls new) more)
  ends_added as_it_was size more new few (inl none) is = none_added made (MemoryCalls new) more (plan_for (memory_region l.index) maker) none (inl (ap MemoryCalls is))
  ends_added as_it_was size more new few (inr wrong) is = absurd cc
  ends_added could_not size more new few met is = fails_added size more l.memory.linear.storage new.linear.storage refl few is.2 is.3
  ends_added has_grown size more new few (inl none) is = none_added made (MemoryCalls new) more (plan_for (memory_region l.index) maker) none (grown_calls size l.memory.linear.storage new.linear refl is.2)
  ends_added has_grown size more new few (inr wrong) is = absurd cc

  at_most_one : (b : Bool) → one_if b ≤ 1
  at_most_one true = omega arith
  at_most_one false = omega arith

  -- So with an operation on a memory its growths that met a fault are no more than the plan lists still.
  pub op_added : (op : MemoryOp) (rule : GrowthRule) (new : Lease) (reply : Reply) → LeaseMoves op rule l new reply → IfSome (plan_for (memory_region l.index) maker) (AddsTo made (calls_on new) (met_by rule op (private_memory l) reply))
  op_added (reads at len) rule new reply is = none_added made (calls_on new) 0 (plan_for (memory_region l.index) maker) refl (inl (ap calls_on is.1))
  op_added (writes at bytes) rule new reply is = none_added made (calls_on new) 0 (plan_for (memory_region l.index) maker) refl (inl (writes_calls at bytes l.memory new.memory reply is.move))
  op_added (fills at len byte) rule new reply is = none_added made (calls_on new) 0 (plan_for (memory_region l.index) maker) refl (inl (writes_calls at (replicate len byte) l.memory new.memory reply is.move))
  op_added (grows pages) rule new reply is =
      ends_added (growth rule is.move.0 pages (seen_as 0 l.memory)).0 (size_wanted pages (seen_as 0 l.memory)) (met_by rule (grows pages) (private_memory l) reply) new.memory (at_most_one (growth_met rule pages (private_memory l) reply))
      (elim (cases_Bool (growth_met rule pages (private_memory l) reply)) [
        | inl met ↦ inr (met_could_not rule is.move.0 pages (private_memory l) reply is.move.1 met)
        | inr none ↦ inl (ap one_if none)
      ]) is.move.2
  op_added asks_size rule new reply is = none_added made (calls_on new) 0 (plan_for (memory_region l.index) maker) refl (inl (ap calls_on is.1))
