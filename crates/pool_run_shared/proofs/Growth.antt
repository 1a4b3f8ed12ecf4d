-- A growth of a shared memory is one of its bytes, and counts the call that it makes.
use Rattle.std.proofs.Common.{◌≡◌, ℕ, ◌+◌, ◌-◌, ◌^◌, ◌<◌, ◌≤◌, Bool, true, false, List, length, ◌++◌, replicate, Option, Some, None, Result, Ok, Err, refl, sym, ap, ◌∙◌, subst, arith, ◌==◌, ◌||◌, ◌&&◌, not, nat_lt, if◌then◌else◌, IfSome, option_map}
use Rattle.pool_run_shared.proofs.Imports.{list_any, ltb-false, nat_tests, places, rounded_up, allow_growth_to, page_size, Told, PageCall, Faulted, risen, Slot, raising, raised, always, GrowFault, GrowsTo, InPlace, FailsInPlace, IsCallPlanned, grown_size, exceeds, Storage, in_slot, stored, Linear, linear_bytes, maximum_asked, MemoryState, Shared, GrowsShared, GrowsBy, PagesGrow, PrivateMemory, GrowthEnd, as_it_was, could_not, has_grown, left_of, grown_by, memory_grown, seen_as, Reply, right_of}
use Rattle.pool_limits.specs.declared.errors.GrowError.TheVariants as failed
use Rattle.pool_run_shared.specs.Events.{as_reply}
use Rattle.pool_run_shared.specs.Steps.{IsInSlot, IsKept, CountsFault, MakesOf, calls_made, growth_said, plan_of}
use Rattle.pool_run.specs.declared.reply.Reply.TheVariants as reply
use Rattle.pool_run_shared.specs.declared.input.SharedEvent.TheVariants as event
use Rattle.pool_run_shared.specs.declared.reply.SharedReply.{SharedReply}

abbrev with_linear : MemoryState → Linear → MemoryState
with_linear m l = record m { linear = l }

-- What a growth leaves, where a call on the pages failed in it or didn't.
pub record IsGrownAs (old : MemoryState) (new : Linear) (said : Reply) (outcome : Bool → PrivateMemory × Reply) : Type 0 where
  pub fault : Bool
  pub is : (seen_as 0 (with_linear old new), said) ≡ outcome fault
  pub counts : CountsFault fault old (with_linear old new)
  pub in_slot : IsInSlot new.storage

-- nothing was asked of the region
pub none_counted : (m : MemoryState) → CountsFault false m m
none_counted m = record { plan = refl; least = λ h. omega arith; most = omega arith; listed = λ wrong. absurd (cc wrong) }

-- a call that succeeds is counted
counted_by : (b : Bool) (made : ℕ) → ((if b then made else risen made) ≤ made + 1) × (made < 2 ^ 64 → made ≤ (if b then made else risen made))
counted_by true made = (omega arith, λ h. omega arith)
counted_by false made = (omega arith, λ h. omega (arith, h))

limited_calls : (size : ℕ) (s : Slot) (b : Bool) → ((if b then raised size s else s).region.plan ≡ s.region.plan) × (((if b then raised size s else s).region.made ≤ s.region.made + 1) × (s.region.made < 2 ^ 64 → s.region.made ≤ (if b then raised size s else s).region.made))
limited_calls size s true = (refl, counted_by ((raising size s).len == 0) s.region.made)
limited_calls size s false = (refl, (omega arith, λ h. omega arith))

grown_counted : (size : ℕ) (old : MemoryState) (st : Storage) (new : Linear) → IsInSlot st → old.linear.storage ≡ st → InPlace size st old.linear new → CountsFault false old (with_linear old new) × (IsInSlot new.storage × (new.capacity ≡ old.linear.capacity))
grown_counted size old (stored len bytes) new held at is = absurd held
grown_counted size old (in_slot s) new held at is =
    let P : Linear → Type 0 = λ l. CountsFault false old (with_linear old l) × (IsInSlot l.storage × (l.capacity ≡ old.linear.capacity)) in
    let calls = limited_calls (rounded_up s.region.page size) s (nat_lt s.accessible.bytes (rounded_up s.region.page size)) in
    let before : plan_of old ≡ s.region.plan = ap (λ (x : Storage). plan_of (with_linear old (record old.linear { storage = x }))) at in
    let made : calls_made old ≡ s.region.made = ap (λ (x : Storage). calls_made (with_linear old (record old.linear { storage = x }))) at in
    subst P (sym is) (
      record {
        plan = calls.0 ∙ sym before;
        least = λ h. omega (arith, made, h, calls.1.1);
        most = omega (arith, made, calls.1.0);
        listed = λ wrong. absurd (cc wrong);
      },
      (tt, refl),
    )

-- a call that fails
empty_or : (len : ℕ) → 0 < len → (len == 0) ≡ false
empty_or len positive = grind (arith, nat_tests, positive)

turned : (b : Bool) → false ≡ not b → b ≡ true
turned true is = refl
turned false is = absurd (cc is)

listed_if : (len next : ℕ) (plan : List ℕ) → 0 < len → false ≡ ((len == 0) || not (list_any (λ n. n == next) plan)) → list_any (λ n. n == next) plan ≡ true
listed_if len next plan positive is =
    let R : Bool → Type 0 = λ b. false ≡ (b || not (list_any (λ n. n == next) plan)) in
    turned (list_any (λ n. n == next) plan) (subst R (empty_or len positive) is)

failed_made : (call : PageCall) (s t : Told) → Faulted call s t → (t.made ≡ risen s.made) × (t.plan ≡ s.plan)
failed_made call s t is =
    let R : Bool → Type 0 = λ b. t.made ≡ (if b then s.made else risen s.made) in
    (subst R (empty_or call.len is.nonempty) (ap (λ (x : Told). x.made) is.same), ap (λ (x : Told). x.plan) is.same)

listed_of : (o : Option (List ℕ)) (len next : ℕ) → 0 < len → IfSome o (λ plan. false ≡ ((len == 0) || not (list_any (λ n. n == next) plan))) → IfSome o (λ plan. list_any (λ n. n == next) plan ≡ true)
listed_of None len next positive is = tt
listed_of (Some plan) len next positive is = listed_if len next plan positive is

failed_counted : (size : ℕ) (old : MemoryState) (st left : Storage) (new : Linear) → IsInSlot st → old.linear.storage ≡ st → new.storage ≡ left → FailsInPlace failed.PageFault size st left → IsCallPlanned false size st → CountsFault true old (with_linear old new) × IsInSlot left
failed_counted size old (stored len bytes) left new held at after fails planned = absurd held
failed_counted size old (in_slot s) (stored len bytes) new held at after fails planned = absurd fails
failed_counted size old (in_slot s) (in_slot t) new held at after fails planned =
    let call : PageCall = raising (rounded_up s.region.page size) s in
    let count = failed_made call s.region t.region fails.1.region in
    let before : plan_of old ≡ s.region.plan = ap (λ (x : Storage). plan_of (with_linear old (record old.linear { storage = x }))) at in
    let made : calls_made old ≡ s.region.made = ap (λ (x : Storage). calls_made (with_linear old (record old.linear { storage = x }))) at in
    let plan_now : plan_of (with_linear old new) ≡ t.region.plan = ap (λ (x : Storage). plan_of (with_linear old (record new { storage = x }))) after in
    let made_now : calls_made (with_linear old new) ≡ t.region.made = ap (λ (x : Storage). calls_made (with_linear old (record new { storage = x }))) after in
    let L : ℕ → Option (List ℕ) → Type 0 = λ k o. IfSome o (λ plan. list_any (λ n. n == k) plan ≡ true) in
    let next : risen s.region.made ≡ calls_made (with_linear old new) = sym count.0 ∙ sym made_now in
    let listed : L (risen s.region.made) s.region.plan = listed_of s.region.plan call.len (risen s.region.made) fails.1.region.nonempty planned in (
      record {
        plan = plan_now ∙ count.1 ∙ sym before;
        least = λ h. omega (arith, made, made_now, count.0, h);
        most = omega (arith, made, made_now, count.0);
        listed = λ yes h. (omega (arith, made, made_now, count.0, h), subst (λ (k : ℕ). L k (plan_of old)) next (subst (L (risen s.region.made)) (sym before) listed));
      },
      tt,
    )

-- how a growth ends by what it meets, where nobody forbids it
abbrev ends : ℕ → Bool → Bool → Bool → Bool → GrowthEnd × Reply
ends size nothing by_type past fault =
    if nothing
    then (as_it_was, reply.Grown (Some size))
    else (if by_type then (as_it_was, reply.Grown None) else (if past then (as_it_was, reply.Grown None) else (if fault then (could_not, reply.Grown None) else (has_grown, reply.Grown (Some size)))))

-- what a growth makes of the bytes
module _ (size : ℕ) (old : MemoryState) where
  abbrev seen : PrivateMemory
  seen = seen_as 0 old

  abbrev outcome : Bool → Bool → Bool → Bool → PrivateMemory × Reply
  outcome nothing by_type past fault =
      (left_of (ends seen.size nothing by_type past fault).0 size seen, (ends seen.size nothing by_type past fault).1)

  abbrev with_parts : ℕ → ℕ → Option (List ℕ) → PrivateMemory
  with_parts n capacity bytes = record { slot = 0; ty = old.ty; size = n; capacity = capacity; bytes = bytes }

  unchanged : (new : Linear) (result : Result (Option (ℕ × ℕ)) GrowFault) (said : Reply) (out : Bool → PrivateMemory × Reply) → IsInSlot old.linear.storage → new ≡ old.linear → growth_said result ≡ said → out false ≡ (seen, said) → IsGrownAs old new (growth_said result) out
  unchanged new result said out held same told is =
      let G : Linear → Type 0 = λ l. IsGrownAs old l (growth_said result) out in
      subst G (sym same) (record { fault = false; is = ap (λ (r : Reply). (seen, r)) told ∙ sym is; counts = none_counted old; in_slot = held })

  pages : (new : Linear) (result : Result (Option (ℕ × ℕ)) GrowFault) → IsInSlot old.linear.storage → size ≤ old.linear.capacity → PagesGrow size old.linear new result → IsGrownAs old new (growth_said result) (outcome false false false)
  pages new (Ok (Some sizes)) held within grows =
      let to : GrowsTo size old.linear new = grows.1 in
      let kept = grown_counted size old old.linear.storage new held refl (to.in_place within) in
      let bytes : linear_bytes new ≡ option_map (λ b. b ++ replicate {A = ℕ} (size - old.linear.size) 0) (linear_bytes old.linear) = sym (to.bytes within) in
      let now : seen_as 0 (with_linear old new) ≡ memory_grown size seen =
      ap (λ (n : ℕ). with_parts n new.capacity (linear_bytes new)) to.same_size ∙ ap (λ (n : ℕ). with_parts size n (linear_bytes new)) kept.1.1 ∙ ap (λ (b : Option (List ℕ)). with_parts size old.linear.capacity b) bytes in
      record {
        fault = false;
        is = ap (λ (m : PrivateMemory). (m, reply.Grown (Some sizes.0))) now ∙ ap (λ (p : ℕ × ℕ). (memory_grown size seen, reply.Grown (Some p.0))) grows.0;
        counts = kept.0;
        in_slot = kept.1.0;
      }
  pages new (Ok None) held within fails =
      let kept = failed_counted size old old.linear.storage new.storage new held refl refl (fails.in_place within) (fails.planned within) in
      let now : seen_as 0 (with_linear old new) ≡ seen =
      ap (λ (n : ℕ). with_parts n new.capacity (linear_bytes new)) fails.same_size ∙ ap (λ (n : ℕ). with_parts old.linear.size n (linear_bytes new)) fails.capacity ∙ ap (λ (b : Option (List ℕ)). with_parts old.linear.size old.linear.capacity b) fails.bytes in
      record { fault = true; is = ap (λ (m : PrivateMemory). (m, reply.Grown None)) now; counts = kept.0; in_slot = kept.1 }
  pages new (Err e) held within fails = absurd fails

  grown_as : (nothing by_type past : Bool) (new : Linear) (result : Result (Option (ℕ × ℕ)) GrowFault) → IsInSlot old.linear.storage → (past ≡ false → size ≤ old.linear.capacity) → GrowsBy nothing (by_type || past) size old.linear new result → IsGrownAs old new (growth_said result) (outcome nothing by_type past)
  grown_as true by_type past new result held room grows = unchanged new result (reply.Grown (Some seen.size)) (outcome true by_type past) held grows.1 (ap growth_said grows.0) refl
  grown_as false true past new result held room grows = unchanged new result (reply.Grown None) (outcome false true past) held grows.1 (ap growth_said grows.0) refl
  grown_as false false true new result held room grows = unchanged new result (reply.Grown None) (outcome false false true) held grows.1 (ap growth_said grows.0) refl
  grown_as false false false new result held room grows = pages new result held (room refl) grows

-- A growth of a memory that stays in its slot.
pub growth_seen : (pages : ℕ) (old new : MemoryState) (result : Result (Option (ℕ × ℕ)) GrowFault) → IsInSlot old.linear.storage → old.may_move ≡ false → new ≡ with_linear old new.linear → GrowsShared pages old new result → IsGrownAs old new.linear (growth_said result) (λ fault. grown_by always fault pages (seen_as 0 old))
growth_seen pages old new result held fixed same grows =
    let size : ℕ = grown_size pages old in
    let far : Bool = nat_lt old.linear.capacity size in
    let long : Bool = exceeds (maximum_asked old.ty) size in
    let by_type : Bool = not (allow_growth_to old.ty size) in
    let By : Bool → Type 0 = λ b. GrowsBy (pages == 0) (by_type || (long || (not b && far))) size old.linear new.linear result in
    grown_as size old (pages == 0) by_type (long || far) new.linear result held (λ none. ltb-false old.linear.capacity size (right_of long far none)) (subst By fixed grows)

-- the bytes after a growth are as many as its size
grown_whole : (n size : ℕ) (o : Option (List ℕ)) → n ≤ size → IfSome o (λ b. length b ≡ n) → IfSome (option_map (λ b. b ++ replicate {A = ℕ} (size - n) 0) o) (λ b. length b ≡ size)
grown_whole n size None more whole = tt
grown_whole n size (Some b) more whole = grind (arith, places, more, whole)

abbrev IsWhole : PrivateMemory → Type 0
IsWhole m = IfSome m.bytes (λ b. length b ≡ m.size)

-- as many bytes as it tells, and room for a page more
abbrev IsRoomy : PrivateMemory → Type 0
IsRoomy m = IsWhole m × (m.size + page_size m.ty ≤ 2 ^ 64)

by_whole : (size : ℕ) (old : PrivateMemory) (nothing by_type past fault : Bool) → IsWhole old → old.size ≤ size → old.size + page_size old.ty ≤ 2 ^ 64 → size + page_size old.ty ≤ 2 ^ 64 → IsRoomy (left_of (ends old.size nothing by_type past fault).0 size old)
by_whole size old true by_type past fault whole more room fits = (whole, room)
by_whole size old false true past fault whole more room fits = (whole, room)
by_whole size old false false true fault whole more room fits = (whole, room)
by_whole size old false false false true whole more room fits = (whole, room)
by_whole size old false false false false whole more room fits = (grown_whole old.size size old.bytes more whole, fits)

-- A growth makes of the memory what its event makes of it.
pub growth_moves : (pages : ℕ) (old new : Shared) (result : Result (Option (ℕ × ℕ)) GrowFault) (said : SharedReply) → IsKept old.memory → new ≡ record old { memory = with_linear old.memory new.memory.linear } → GrowsShared pages old.memory new.memory result → as_reply said ≡ Some (growth_said result) → MakesOf (event.Grow pages) old new said
growth_moves pages old new result said kept same grows told =
    let of_memory : new.memory ≡ with_linear old.memory new.memory.linear = ap (λ (s : Shared). s.memory) same in
    let is = growth_seen pages old.memory new.memory result kept.in_slot kept.fixed of_memory grows in
    let m : PrivateMemory = seen_as 0 old.memory in
    let size : ℕ = grown_size pages old.memory in
    let after : Shared = record old { memory = with_linear old.memory new.memory.linear } in
    let M : Shared → Type 0 = λ s. MakesOf (event.Grow pages) old s said in
    let roomy : IsRoomy (grown_by always is.fault pages m).0 = by_whole size m (pages == 0) (not (allow_growth_to m.ty size)) (exceeds (maximum_asked m.ty) size || nat_lt m.capacity size) is.fault kept.bytes (omega (arith, kept.room)) kept.room (omega (arith, kept.room)) in
    let now : IsRoomy (seen_as 0 after.memory) = subst (λ (p : PrivateMemory × Reply). IsRoomy p.0) (sym is.is) roomy in
    subst M (sym same) (record {
      fault = is.fault;
      happens = (seen_as 0 after.memory, growth_said result, is.is, told, refl);
      counts = is.counts;
      kept = record { in_slot = is.in_slot; fixed = kept.fixed; room = now.1; bytes = now.0 };
    })
