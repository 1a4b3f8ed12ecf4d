-- What the seat of a party has noted of a call that has ended.
use Rattle.std.proofs.Common.{◌≡◌, ℕ, ◌+◌, ◌-◌, ◌≤◌, Bool, true, false, refl, sym, ap, subst, arith, Some}
use Rattle.pool_hall.specs.Sum.{one_if}
use Rattle.pool_hall.specs.declared.unit_name.SlotKind.{SlotKind}
use Rattle.pool_hall.specs.declared.unit_name.SlotKind.TheVariants.{Memory as memory_kind, Table as table_kind, Stack as stack_kind, Heap as heap_kind}
use Rattle.pool_hall.specs.declared.view.View.{View}
use Rattle.pool_slots.specs.SlotQueues.{same_kind}
use Rattle.pool_slots.specs.declared.errors.AllocError.{AllocError}
use Rattle.pool_slots.specs.declared.errors.AllocError.TheVariants.{Memory as NoMemory, Unsupported, Limit, StacksDisabled, HeapsDisabled, LimiterDenied, LimiterFault, PageFault, HeapFault}
use Rattle.pool_slots.specs.declared.errors.ConcurrencyKind.{ConcurrencyKind}
use Rattle.pool_slots.specs.declared.errors.ConcurrencyKind.TheVariants.{CoreInstances, ComponentInstances, MemoryStripe, Tables, Fibers, GcHeaps}
use Rattle.pool_slots.specs.declared.listed_heaps.PlainHeap.{PlainHeap}
use Rattle.pool_alloc.specs.CallStages.{stage_of}
use Rattle.pool_alloc.specs.declared.frame.Asked.{Asked}
use Rattle.pool_alloc.specs.declared.frame.Frame.{Frame}
use Rattle.pool_alloc.specs.declared.frame.Grant.TheVariants.{Instance, Component, Memory, Table, Stack, Heap, HeapOver}
use Rattle.pool_alloc.specs.declared.frame.Outcome.{Outcome}
use Rattle.pool_alloc.specs.declared.frame.Outcome.TheVariants as answer
use Rattle.pool_alloc.specs.declared.pool_core.PoolCore.{PoolCore}
use Rattle.pool_driver.specs.Calling.{CallKind, HasEnded, asks_for, asks_component, draws_key, gives_back, is_refused, kind_at, objects_of, purges, releases}
use Rattle.pool_driver.specs.Limits.{IsOfStripe}
use Rattle.pool_driver.specs.Placed.{About}
use Rattle.pool_driver.specs.Spending.{FewerCold, LimitFewer, cold_in}
use Rattle.pool_driver.specs.Telling.{LimitTold, RoomTold, WasOver, component_counter, instance_counter}
use Rattle.pool_run.specs.Turns.{answered}
use Rattle.pool_run.specs.declared.reply.Reply.TheVariants.{Refused as refuses}
use Rattle.pool_run.specs.declared.reply.Refusal.TheVariants.{Alloc}
use Rattle.pool_run.specs.declared.running_party.RunningParty.{RunningParty}
use Rattle.pool_threads.specs.Asked.{Scarce, slots, instances, components, faulted_for, faulted_in, refused_for, refused_in, same_scarce, scarce_of}
use Rattle.pool_threads.specs.Noted.{Grows, Notes, OverTimes, RoomTimes, call_asks, spent}
use Rattle.pool_threads.proofs.Adds.{fault_told, notes_none}

same_kind_is : (k l : SlotKind) → same_kind k l ≡ true → k ≡ l
same_kind_is memory_kind memory_kind is = refl
same_kind_is table_kind table_kind is = refl
same_kind_is stack_kind stack_kind is = refl
same_kind_is heap_kind heap_kind is = refl
same_kind_is _ _ is = absurd cc

same_scarce_is : (k l : Scarce) → same_scarce k l ≡ true → k ≡ l
same_scarce_is (slots k) (slots l) is = ap slots (same_kind_is k l is)
same_scarce_is instances instances is = refl
same_scarce_is components components is = refl
same_scarce_is _ _ is = absurd cc

counter_fewer : (m n k : ℕ) → m ≡ n + 0 → m ≤ n + k
counter_fewer m n k is = omega (arith, is)

module _ {T P : Type 0} (a : About) (base v : View T) (first f : Frame P PlainHeap) where
  -- No more than the call asks for was used up.
  most : (o : Outcome P PlainHeap) → HasEnded a base v first f o → (k : Scarce) → spent a.plan k v ≤ spent a.plan k base + call_asks first k
  most o ended (slots kind) = ended.cold kind
  most o ended instances = ended.instances.low
  most o ended components = ended.components.low

  sparing : (kind : SlotKind) (what : Asked) (call : CallKind) → cold_in a.plan kind v ≤ cold_in a.plan kind base + objects_of call kind what → FewerCold base v a.plan what kind → cold_in a.plan kind v ≤ cold_in a.plan kind base + (objects_of call kind what - 1)
  sparing kind what asks_for all fewer = omega (arith, fewer)
  sparing kind what draws_key all fewer = omega (arith, all)
  sparing kind what asks_component all fewer = omega (arith, all)
  sparing kind what is_refused all fewer = omega (arith, all)
  sparing kind what gives_back all fewer = omega (arith, all)
  sparing kind what purges all fewer = omega (arith, all)
  sparing kind what releases all fewer = omega (arith, all)

  -- what is told of a limit: less was used up of what it is a limit of
  abbrev Told : ConcurrencyKind → Type 0
  Told ck = LimitTold base v (WasOver base v instance_counter) (WasOver base v component_counter) a.plan first.home ck

  fewer_of : (ck : ConcurrencyKind) → ((k : Scarce) → spent a.plan k v ≤ spent a.plan k base + call_asks first k) → LimitFewer base v a.plan first.asked ck → Told ck → spent a.plan (scarce_of ck) v ≤ spent a.plan (scarce_of ck) base + (call_asks first (scarce_of ck) - 1)
  fewer_of (MemoryStripe i) all fewer told = sparing memory_kind first.asked (kind_at (stage_of first)) (all (slots memory_kind)) fewer
  fewer_of Tables all fewer told = sparing table_kind first.asked (kind_at (stage_of first)) (all (slots table_kind)) fewer
  fewer_of Fibers all fewer told = sparing stack_kind first.asked (kind_at (stage_of first)) (all (slots stack_kind)) fewer
  fewer_of GcHeaps all fewer told = sparing heap_kind first.asked (kind_at (stage_of first)) (all (slots heap_kind)) fewer
  fewer_of CoreInstances all fewer told = counter_fewer (spent a.plan instances v) (spent a.plan instances base) (call_asks first instances - 1) told.low
  fewer_of ComponentInstances all fewer told = counter_fewer (spent a.plan components v) (spent a.plan components base) (call_asks first components - 1) told.low

  less_of : (ck : ConcurrencyKind) (k : Scarce) (b : Bool) → same_scarce k (scarce_of ck) ≡ b → spent a.plan k v ≤ spent a.plan k base + call_asks first k → spent a.plan (scarce_of ck) v ≤ spent a.plan (scarce_of ck) base + (call_asks first (scarce_of ck) - 1) → spent a.plan k v ≤ spent a.plan k base + (call_asks first k - one_if b)
  less_of ck k false is all fewer = omega (arith, all)
  less_of ck k true is all fewer =
      let same : k ≡ scarce_of ck = same_scarce_is k (scarce_of ck) is in
      let here : spent a.plan k v ≤ spent a.plan k base + (call_asks first k - 1) = subst (λ (x : Scarce). spent a.plan x v ≤ spent a.plan x base + (call_asks first x - 1)) (sym same) fewer in
      omega (arith, here)

  -- the reason of a refusal for room, once
  room_of : (kind : SlotKind) (stripe : ℕ) → RoomTold base v a.plan first.home kind stripe → RoomTimes base v a.plan first.home kind stripe 1
  room_of kind stripe told = record { shards = λ j below. (told.shards j below).0; noted = λ some j below. (told.shards j below).1; queues = told.queues }

  room_for : (ck : ConcurrencyKind) (stripe : ℕ) (kind : SlotKind) → slots kind ≡ scarce_of ck → IsOfStripe stripe ck → Told ck → RoomTimes base v a.plan first.home kind stripe 1
  room_for (MemoryStripe i) stripe kind is of told = let same : kind ≡ memory_kind = cc in subst (λ (k : SlotKind). RoomTimes base v a.plan first.home k stripe 1) (sym same) (room_of memory_kind stripe (subst (RoomTold base v a.plan first.home memory_kind) of told))
  room_for Tables stripe kind is of told = let same : kind ≡ table_kind = cc in subst (λ (k : SlotKind). RoomTimes base v a.plan first.home k stripe 1) (sym same) (let r = room_of table_kind 0 told in record { shards = r.shards; noted = r.noted; queues = r.queues })
  room_for Fibers stripe kind is of told = let same : kind ≡ stack_kind = cc in subst (λ (k : SlotKind). RoomTimes base v a.plan first.home k stripe 1) (sym same) (let r = room_of stack_kind 0 told in record { shards = r.shards; noted = r.noted; queues = r.queues })
  room_for GcHeaps stripe kind is of told = let same : kind ≡ heap_kind = cc in subst (λ (k : SlotKind). RoomTimes base v a.plan first.home k stripe 1) (sym same) (let r = room_of heap_kind 0 told in record { shards = r.shards; noted = r.noted; queues = r.queues })
  room_for CoreInstances stripe kind is of told = absurd cc
  room_for ComponentInstances stripe kind is of told = absurd cc

  room_by : (ck : ConcurrencyKind) (stripe : ℕ) (kind : SlotKind) (b : Bool) → same_scarce (slots kind) (scarce_of ck) ≡ b → IsOfStripe stripe ck → Told ck → RoomTimes base v a.plan first.home kind stripe 0 → RoomTimes base v a.plan first.home kind stripe (one_if b)
  room_by ck stripe kind true is of told none = room_for ck stripe kind (same_scarce_is (slots kind) (scarce_of ck) is) of told
  room_by ck stripe kind false is of told none = none

  -- that of one by a counter, once
  over_once : (c : ℕ) → WasOver base v c → OverTimes base v c 1
  over_once c told = record { over = omega (arith, told.low, told.added); counted_off = omega (arith, told.subtracted) }

  instances_over : (ck : ConcurrencyKind) → Told ck → OverTimes base v instance_counter 0 → OverTimes base v instance_counter (one_if (same_scarce instances (scarce_of ck)))
  instances_over CoreInstances told none = over_once instance_counter told
  instances_over ComponentInstances told none = none
  instances_over (MemoryStripe i) told none = none
  instances_over Tables told none = none
  instances_over Fibers told none = none
  instances_over GcHeaps told none = none

  components_over : (ck : ConcurrencyKind) → Told ck → OverTimes base v component_counter 0 → OverTimes base v component_counter (one_if (same_scarce components (scarce_of ck)))
  components_over ComponentInstances told none = over_once component_counter told
  components_over CoreInstances told none = none
  components_over (MemoryStripe i) told none = none
  components_over Tables told none = none
  components_over Fibers told none = none
  components_over GcHeaps told none = none

  -- A call that isn't refused, or for none of these reasons.
  plain : (o : Outcome P PlainHeap) → HasEnded a base v first f o → Grows base v → Notes a.plan first.home f.stripe (λ k. call_asks first k - 0) (λ k. 0) 0 base v
  plain o ended grows = notes_none a.plan first.home f.stripe (λ k. call_asks first k - 0) base v grows (λ k. omega (arith, most o ended k))

  by_refusal : (e : AllocError) → HasEnded a base v first f (answer.Refused e) → Grows base v → Notes a.plan first.home f.stripe (λ k. call_asks first k - refused_for k (refuses (Alloc e))) (λ k. refused_for k (refuses (Alloc e))) (faulted_for (refuses (Alloc e))) base v
  by_refusal (Limit l) ended grows =
      let none = plain (answer.Refused (Limit l)) ended grows in
      let all = most (answer.Refused (Limit l)) ended in
      let fewer = fewer_of l.kind all ended.fewer ended.told in
      record {
        within = λ k. less_of l.kind k (same_scarce k (scarce_of l.kind)) refl (all k) fewer;
        grows = grows;
        room = λ kind. room_by l.kind f.stripe kind (same_scarce (slots kind) (scarce_of l.kind)) refl ended.names.1 ended.told (none.room kind);
        over_instances = instances_over l.kind ended.told none.over_instances;
        over_components = components_over l.kind ended.told none.over_components;
        faults = none.faults;
      }
  by_refusal PageFault ended grows =
      let none = plain (answer.Refused PageFault) ended grows in
      record { within = none.within; grows = grows; room = none.room; over_instances = none.over_instances; over_components = none.over_components; faults = fault_told a.plan base v grows ended.parts.fault }
  by_refusal NoMemory ended grows = plain (answer.Refused NoMemory) ended grows
  by_refusal (Unsupported u) ended grows = plain (answer.Refused (Unsupported u)) ended grows
  by_refusal StacksDisabled ended grows = plain (answer.Refused StacksDisabled) ended grows
  by_refusal HeapsDisabled ended grows = plain (answer.Refused HeapsDisabled) ended grows
  by_refusal (LimiterDenied table min) ended grows = plain (answer.Refused (LimiterDenied table min)) ended grows
  by_refusal (LimiterFault e) ended grows = plain (answer.Refused (LimiterFault e)) ended grows
  by_refusal HeapFault ended grows = plain (answer.Refused HeapFault) ended grows

-- What the seat has noted, by the reply to the command that ends with the call.
pub call_notes : {T P : Type 0} (a : About) (base v : View T) (first f : Frame P PlainHeap) (o : Outcome P PlainHeap) (c : PoolCore P PlainHeap) (p : RunningParty P) → HasEnded a base v first f o → Grows base v
    → Notes a.plan first.home f.stripe (λ k. call_asks first k - refused_in k (answered (Some o) c p).reply) (λ k. refused_in k (answered (Some o) c p).reply) (faulted_in (answered (Some o) c p).reply) base v
call_notes a base v first f (answer.Refused e) c p ended grows = by_refusal a base v first f e ended grows
call_notes a base v first f answer.Key c p ended grows = plain a base v first f answer.Key ended grows
call_notes a base v first f answer.Returned c p ended grows = plain a base v first f answer.Returned ended grows
call_notes a base v first f (answer.Purged n) c p ended grows = plain a base v first f (answer.Purged n) ended grows
call_notes a base v first f (answer.Released n) c p ended grows = plain a base v first f (answer.Released n) ended grows
call_notes a base v first f (answer.Granted (Instance lease)) c p ended grows = plain a base v first f (answer.Granted (Instance lease)) ended grows
call_notes a base v first f (answer.Granted Component) c p ended grows = plain a base v first f (answer.Granted Component) ended grows
call_notes a base v first f (answer.Granted (Memory lease)) c p ended grows = plain a base v first f (answer.Granted (Memory lease)) ended grows
call_notes a base v first f (answer.Granted (Table lease)) c p ended grows = plain a base v first f (answer.Granted (Table lease)) ended grows
call_notes a base v first f (answer.Granted (Stack lease)) c p ended grows = plain a base v first f (answer.Granted (Stack lease)) ended grows
call_notes a base v first f (answer.Granted (Heap lease memory)) c p ended grows = plain a base v first f (answer.Granted (Heap lease memory)) ended grows
call_notes a base v first f (answer.Granted (HeapOver lease)) c p ended grows = plain a base v first f (answer.Granted (HeapOver lease)) ended grows
