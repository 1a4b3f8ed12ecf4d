-- What the calls on a shared memory do is what its events do to it as they see it.
use Rattle.std.proofs.Common.{◌≡◌, ℕ, ◌+◌, ◌≤◌, Bool, true, false, List, length, Option, Some, None, Result, Ok, Err, refl, sym, ap, ◌∙◌, subst, arith, ◌==◌, nat_le, if◌then◌else◌, IfSome, IfOk, option_map, slice_range}
use Rattle.pool_run_shared.proofs.Imports.{Width, leb-true, leb-false, same_lists, places, Contents, put, written, TrapCause, MemoryOutOfBounds, Storage, in_slot, stored, slot_in, storage_written, first_bytes, written_at, MemoryState, bytes_of, memory_written, access_answer, Shared, IsCompared, WaitsShared, is_waiting, wait_answer, after_wait, WaitFault, WaitStep, private_written, seen_as}
use Rattle.pool_shared.specs.declared.wait_fault.WaitFault.TheVariants as fault
use Rattle.pool_run_shared.specs.Events.{SharedView, view_of, WaitsOn}
use Rattle.pool_run_shared.specs.Steps.{wait_refusal, IsWaitReply, IsInSlot, IsKept, CountsFault, MakesOf}
use Rattle.pool_run_shared.proofs.Growth.{none_counted}
use Rattle.pool_run.specs.declared.reply.Reply.TheVariants as reply
use Rattle.pool_run_shared.specs.declared.input.SharedEvent.TheVariants as event
use Rattle.pool_run_shared.specs.declared.reply.SharedReply.{SharedReply}
use Rattle.pool_run_shared.specs.declared.reply.SharedReply.TheVariants as answer

-- a word that isn't told can be compared either way
compared : (expect : ℕ) (word : Option ℕ) → (same : Bool) × IsCompared same expect word
compared expect None = (false, tt)
compared expect (Some w) = (w == expect, refl)

refused_by : (waits : Bool) (reply : SharedReply) → (if waits then Some answer.WaiterBusy else None) ≡ Some reply → (waits ≡ true) × (answer.WaiterBusy ≡ reply)
refused_by true reply is = (refl, (let same : Some answer.WaiterBusy ≡ Some reply = is in cc same))
refused_by false reply is = let wrong : None ≡ Some reply = is in absurd (cc wrong)

allowed_by : (waits : Bool) → (if waits then Some answer.WaiterBusy else None) ≡ None → waits ≡ false
allowed_by true is = let wrong : Some answer.WaiterBusy ≡ None = is in absurd (cc wrong)
allowed_by false is = refl

-- A wait that is refused changes nothing.
pub refused_wait : (width : Width) (access : Result ℕ TrapCause) (waiter expect now : ℕ) (deadline : Option ℕ) (v : SharedView) (reply : SharedReply) → wait_refusal access waiter v.spot ≡ Some reply → WaitsOn width access waiter expect deadline now v v reply
refused_wait width (Err trap) waiter expect now deadline v reply is =
    let same : answer.Trap trap ≡ reply = (let given : Some (answer.Trap trap) ≡ Some reply = is in cc given) in
    ap (λ (r : SharedReply). (v, r)) (sym same)
refused_wait width (Ok at) waiter expect now deadline v reply is =
    let by = refused_by (is_waiting waiter v.spot) reply is in
    let word = compared expect _ in
    let R : Bool → Type 0 = λ b. ◌≡◌ {A = SharedView × SharedReply} (v, reply) (if b then (v, answer.WaiterBusy) else (record v { spot = after_wait at waiter word.0 deadline now v.spot }, answer.Wait (wait_answer word.0 deadline now))) in
    (word.0, word.1, subst R (sym by.0) (ap (λ (r : SharedReply). (v, r)) (sym by.1)))

-- A wait that isn't refused.
pub begun : (width : Width) (access : Result ℕ TrapCause) (waiter expect now : ℕ) (deadline : Option ℕ) (old new : Shared) (result : Result WaitStep WaitFault) (reply : SharedReply) → wait_refusal access waiter old.spot ≡ None → WaitsShared width access waiter expect deadline now old new result → IsWaitReply result reply
    → WaitsOn width access waiter expect deadline now (view_of old) (view_of new) reply × (new.memory ≡ old.memory)
begun width (Err trap) waiter expect now deadline old new result reply none waits is = let wrong : Some (answer.Trap trap) ≡ None = none in absurd (cc wrong)
begun width (Ok at) waiter expect now deadline old new (Ok step) reply none waits is =
    let same : Bool = waits.0 in
    let after : Shared = record old { spot = after_wait at waiter same deadline now old.spot } in
    let R : Bool → Type 0 = λ b. ◌≡◌ {A = SharedView × SharedReply} (view_of new, reply) (if b then (view_of old, answer.WaiterBusy) else (view_of after, answer.Wait (wait_answer same deadline now))) in
    let told : reply ≡ answer.Wait (wait_answer same deadline now) = is ∙ ap answer.Wait waits.1.1.0 in (
      (same, waits.1.0, subst R (sym (allowed_by (is_waiting waiter old.spot) none)) (ap (λ (s : Shared). (view_of s, reply)) waits.1.1.1 ∙ ap (λ (r : SharedReply). (view_of after, r)) told)),
      ap (λ (s : Shared). s.memory) waits.1.1.1,
    )
begun width (Ok at) waiter expect now deadline old new (Err fault.Memory) reply none waits is = absurd is
begun width (Ok at) waiter expect now deadline old new (Err (fault.Trap trap)) reply none waits is = absurd waits.1.1

-- a write to a range of a list that is as long as that
put_in_range : (base size i : ℕ) (new xs : List ℕ) → length (slice_range xs base (base + size)) ≡ size → i + length new ≤ size → slice_range (put (base + i) new xs) base (base + size) ≡ put i new (slice_range xs base (base + size))
put_in_range base size i new xs whole within = same_lists _ _ (grind (arith, places, whole)) (λ k d h. grind (arith, places, whole))

written_told : (base size i : ℕ) (new : List ℕ) (o : Option Contents) → IfSome (option_map (λ c. slice_range c.bytes base (base + size)) o) (λ b. length b ≡ size) → i + length new ≤ size → option_map (λ c. slice_range c.bytes base (base + size)) (option_map (written (base + i) new) o) ≡ option_map (put i new) (option_map (λ c. slice_range c.bytes base (base + size)) o)
written_told base size i new None whole within = refl
written_told base size i new (Some c) whole within = ap Some (put_in_range base size i new c.bytes whole within)

written_bytes : (size i : ℕ) (new : List ℕ) (s : Storage) → IsInSlot s → IfSome (first_bytes size s) (λ b. length b ≡ size) → i + length new ≤ size → first_bytes size (storage_written i new s) ≡ option_map (put i new) (first_bytes size s)
written_bytes size i new (in_slot s) held whole within = written_told s.base.bytes size i new s.region.contents whole within
written_bytes size i new (stored len bytes) held whole within = absurd held

written_seen : (i : ℕ) (new : List ℕ) (m : MemoryState) → IsKept m → i + length new ≤ m.linear.size → seen_as 0 (memory_written i new m) ≡ private_written i new (seen_as 0 m)
written_seen i new m kept within = ap (λ (b : Option (List ℕ)). record (seen_as 0 m) { bytes = b }) (written_bytes m.linear.size i new m.linear.storage kept.in_slot kept.bytes within)

-- the answer of an access
abbrev checked : Bool → Result (Unit {0}) TrapCause
checked b = if b then Ok tt else Err MemoryOutOfBounds

made_by : (b : Bool) (u : Unit {0}) → Ok u ≡ checked b → b ≡ true
made_by true u is = refl
made_by false u is = absurd (cc is)

trapped_by : (b : Bool) (trap : TrapCause) → Err trap ≡ checked b → (b ≡ false) × (trap ≡ MemoryOutOfBounds)
trapped_by true trap is = absurd (cc is)
trapped_by false trap is = (refl, cc is)

-- the length of a list that is written
put_length : (i n : ℕ) (new xs : List ℕ) → length xs ≡ n → i + length new ≤ n → length (put i new xs) ≡ n
put_length i n new xs whole within = grind (arith, places, whole)

written_whole : (i n : ℕ) (new : List ℕ) (o : Option (List ℕ)) → i + length new ≤ n → IfSome o (λ b. length b ≡ n) → IfSome (option_map (put i new) o) (λ b. length b ≡ n)
written_whole i n new None within whole = tt
written_whole i n new (Some b) within whole = put_length i n new b whole within

written_in_slot : (i : ℕ) (new : List ℕ) (s : Storage) → IsInSlot s → IsInSlot (storage_written i new s)
written_in_slot i new (in_slot s) held = tt
written_in_slot i new (stored len bytes) held = absurd held

written_kept : (i : ℕ) (new : List ℕ) (m : MemoryState) → IsKept m → i + length new ≤ m.linear.size → IsKept (memory_written i new m)
written_kept i new m kept within =
    let W : Option (List ℕ) → Type 0 = λ o. IfSome o (λ b. length b ≡ m.linear.size) in
    record {
      in_slot = written_in_slot i new m.linear.storage kept.in_slot;
      fixed = kept.fixed;
      room = kept.room;
      bytes = subst W (sym (written_bytes m.linear.size i new m.linear.storage kept.in_slot kept.bytes within)) (written_whole i m.linear.size new (bytes_of m) within kept.bytes);
    }

written_counted : (i : ℕ) (new : List ℕ) (m : MemoryState) (s : Storage) → m.linear.storage ≡ s → IsInSlot s → CountsFault false m (memory_written i new m)
written_counted i new m (stored len bytes) at held = absurd held
written_counted i new m (in_slot s) at held =
    let now : Storage = storage_written i new m.linear.storage in
    let next : now ≡ in_slot (written_at i new s) = ap (storage_written i new) at in
    let made : (slot_in now).region.made ≡ (slot_in m.linear.storage).region.made = ap (λ (x : Storage). (slot_in x).region.made) next ∙ sym (ap (λ (x : Storage). (slot_in x).region.made) at) in
    let plan : (slot_in now).region.plan ≡ (slot_in m.linear.storage).region.plan = ap (λ (x : Storage). (slot_in x).region.plan) next ∙ sym (ap (λ (x : Storage). (slot_in x).region.plan) at) in
    record { plan = plan; least = λ h. omega (arith, made); most = omega (arith, made); listed = λ wrong. absurd (cc wrong) }

-- A write that is made.
pub write_done : (i : ℕ) (new : List ℕ) (old left : Shared) (u : Unit {0}) → IsKept old.memory → Ok u ≡ access_answer (i + length new) old.memory.linear.size → left ≡ record old { memory = memory_written i new old.memory } → MakesOf (event.Write i new) old left answer.Done
write_done i new old left u kept is same =
    let within : i + length new ≤ old.memory.linear.size = leb-true (i + length new) old.memory.linear.size (made_by (nat_le (i + length new) old.memory.linear.size) u is) in
    let M : Shared → Type 0 = λ s. MakesOf (event.Write i new) old s answer.Done in
    subst M (sym same) (record {
      fault = false;
      happens = (seen_as 0 (memory_written i new old.memory), reply.Done, (within, written_seen i new old.memory kept within), refl, refl);
      counts = written_counted i new old.memory old.memory.linear.storage refl kept.in_slot;
      kept = written_kept i new old.memory kept within;
    })

-- One that traps.
pub write_traps : (i : ℕ) (new : List ℕ) (old left : Shared) (trap : TrapCause) → IsKept old.memory → Err trap ≡ access_answer (i + length new) old.memory.linear.size → left ≡ old → MakesOf (event.Write i new) old left (answer.Trap trap)
write_traps i new old left trap kept is same =
    let by = trapped_by (nat_le (i + length new) old.memory.linear.size) trap is in
    let M : Shared → Type 0 = λ s. MakesOf (event.Write i new) old s (answer.Trap trap) in
    subst M (sym same) (record {
      fault = false;
      happens = (seen_as 0 old.memory, reply.Trap trap, (by.1, leb-false (i + length new) old.memory.linear.size by.0, refl), refl, refl);
      counts = none_counted old.memory;
      kept = kept;
    })

-- What holds of a result that is there also holds in another form.
pub if_ok : {X E : Type 0} (r : Result X E) (P Q : X → Type 0) → ((x : X) → P x → Q x) → IfOk r P → IfOk r Q
if_ok (Ok x) P Q step is = step x is
if_ok (Err e) P Q step is = tt
