-- Local and shared queues stay what they are as ranges and slots come and go.
use Rattle.std.proofs.Common.{◌≡◌, ℕ, ◌+◌, ◌^◌, ◌*◌, ◌<◌, ◌≤◌, Bool, true, false, List, [], ◌∷◌, ◌++◌, length, refl, sym, ap, ◌∙◌, subst, arith, All, None, Option, Some, map, IfSome, inl, inr}
use Rattle.pool_alloc.proofs.Imports.{IsGivenBack, AllByRecursion, by_kind, all_by_kind, long_by_kind, one_by_kind, length-append, length-map, or_left, cases_Bool, All-nil, All-cons, All-append, All-same, length_all_zip, All-head, All-tail, MakerTold, DecommitBehavior, Zero, RestoreOriginalMapping, ByteRange, Slot, IsSlot, IsClean, IsPart, size_of, given_marks, kept_by, left_by, reset_by, decommitted_all, identity, kept_most, SlotName, QueuedRange, Queue, Queued, behind, is_of, empty_queue, AreDistinct, AreApart, LeavesClean, IsReset, IsLeftBy, holds, owner, with_slot, after_take, taken_into, drained, after_append, first_slot, after_run, CanBeZeroed, first_zeroed, is_to_zero, others_of_kind, same_kind, zeroed, zeroed_by, zeroed_slot, leaves_clean, queue_joined, owned_joined, slot_self, faulted_owned, SlotKind, stack_kind, QueueKind, slot_kind, can_zero, queue_popped, queue_zeroed, told_same}
use Rattle.pool_alloc.specs.Leases.{memory_slot}
use Rattle.pool_slots.specs.declared.queued_range.QueueKind.TheVariants.{Memory}
use Rattle.pool_alloc.specs.PageCallAnswers.{Decommits, Resets}
use Rattle.pool_alloc.specs.BetweenSteps.{queue_room, IsSettings, IsShared, IsLocal, IsQueuedOf, MayBeRanged, MustBeByHand}
use Rattle.pool_alloc.specs.RangeRuns.{runs}
use Rattle.pool_alloc.proofs.RangeRuns.{one_run, no_runs, grouped_joined, grouped_decommitted}
use Rattle.pool_alloc.specs.declared.frame.TakenSlot.{TakenSlot}
use Rattle.pool_alloc.specs.declared.pool_core.Settings.{Settings}
use Rattle.pool_alloc.proofs.SlotIdentity.{IsOneSlot, first_ranged, queued_of_one, queued_after_run, length_after_run, queued_faulted}
use Rattle.pool_alloc.proofs.QueueRuns.{run_queue, run_owners}

-- a queue once it gave its ranges and slots away, by a take or without
pub drained_shared : (maker : MakerTold) (s : Settings) (q : Queue) → IsSettings s → q.range_room ≡ queue_room s.batch → q.slot_room ≡ queue_room s.batch → IsShared maker s (drained q)
drained_shared maker s q settings range_room slot_room =
    record {
      owners = tt;
      short = omega (arith, settings.batch.0);
      slots = omega arith;
      range_room = range_room;
      slot_room = slot_room;
      regions = All-nil (IsQueuedOf maker s);
      known = All-nil IsGivenBack;
      ranged = All-nil (MayBeRanged s);
      queue = record { range_room = omega arith; slot_room = omega arith; distinct = tt; each = tt };
      grouped = omega arith;
    }

pub taken_shared : (maker : MakerTold) (s : Settings) (q : Queue) → IsSettings s → q.range_room ≡ queue_room s.batch → q.slot_room ≡ queue_room s.batch → IsShared maker s (after_take q)
taken_shared maker s q settings range_room slot_room = drained_shared maker s (record q { takes = (after_take q).takes }) settings range_room slot_room

pub local_of_shared : (maker : MakerTold) (s : Settings) (q : Queue) → IsShared maker s q → IsLocal maker s q
local_of_shared maker s q shared = record { owners = shared.owners; range_room = shared.range_room; slot_room = shared.slot_room; regions = shared.regions; ranged = shared.ranged; queue = shared.queue; grouped = shared.grouped }

-- a local queue that a queue was taken into
pub taken_local : (maker : MakerTold) (s : Settings) (spare q : Queue) → IsLocal maker s spare → IsLocal maker s q → IsLocal maker s (taken_into spare q)
taken_local maker s spare q had local =
    record {
      owners = local.owners;
      range_room = had.range_room;
      slot_room = had.slot_room;
      regions = local.regions;
      ranged = local.ranged;
      queue = record {
        range_room = omega (arith, local.queue.range_room, local.range_room, had.range_room);
        slot_room = omega (arith, local.queue.slot_room, local.slot_room, had.slot_room);
        distinct = local.queue.distinct;
        each = local.queue.each;
      };
      grouped = local.grouped;
    }

pub drained_local : (maker : MakerTold) (s : Settings) (q : Queue) → q.range_room ≡ queue_room s.batch → q.slot_room ≡ queue_room s.batch → IsLocal maker s (drained q)
drained_local maker s q range_room slot_room =
    record {
      owners = tt;
      range_room = range_room;
      slot_room = slot_room;
      regions = All-nil (IsQueuedOf maker s);
      ranged = All-nil (MayBeRanged s);
      queue = record { range_room = omega arith; slot_room = omega arith; distinct = tt; each = tt };
      grouped = omega arith;
    }

-- A queue that a local one was appended to. The two are apart.
pub joined_local : (maker : MakerTold) (s : Settings) (q more : Queue) → IsShared maker s q → IsLocal maker s more → AreApart q.slots more.slots → length more.slots ≡ 1 → length more.ranges + 1 ≤ s.batch → IsLocal maker s (after_append q more)
joined_local maker s q more shared local apart one short =
    record {
      owners = owned_joined q more shared.owners local.owners;
      range_room = shared.range_room;
      slot_room = shared.slot_room;
      regions = all_by_kind (IsQueuedOf maker s) (q.slots ++ more.slots) (All-append (IsQueuedOf maker s) q.slots more.slots shared.regions local.regions);
      ranged = All-append (MayBeRanged s) q.ranges more.ranges shared.ranged local.ranged;
      queue = queue_joined q more shared.queue local.queue (omega (arith, shared.range_room, shared.short)) (omega (arith, shared.slot_room, shared.short, shared.slots)) shared.owners local.owners apart;
      grouped = grouped_joined q more shared.grouped local.grouped;
    }

pub joined_shared : (maker : MakerTold) (s : Settings) (q more : Queue) → IsShared maker s q → IsLocal maker s (after_append q more) → All IsGivenBack more.slots → length more.slots ≡ 1 → 0 < length more.ranges → length (q.ranges ++ more.ranges) < s.batch → IsShared maker s (after_append q more)
joined_shared maker s q more shared local known one some short =
    record {
      owners = local.owners;
      short = omega (arith, short);
      slots = rw (long_by_kind (q.slots ++ more.slots), length-append q.slots more.slots, length-append q.ranges more.ranges) (omega (arith, shared.slots));
      range_room = local.range_room;
      slot_room = local.slot_room;
      regions = local.regions;
      known = all_by_kind IsGivenBack (q.slots ++ more.slots) (All-append IsGivenBack q.slots more.slots shared.known known);
      ranged = local.ranged;
      queue = local.queue;
      grouped = local.grouped;
    }

-- the local queue once ranges of one slot were decommitted, or a decommit failed: it holds as many slots
pub record IsStillLocal (maker : MakerTold) (s : Settings) (old new : Queue) : Type 0 where
  pub queue : IsLocal maker s new
  pub long : length new.slots ≡ length old.slots

all_behind : (Q : QueuedRange → Type 0) (p : QueuedRange → Bool) (rs : List QueuedRange) → All Q rs → All Q (behind p rs)
all_behind Q p [] each = each
all_behind Q p (r ∷ rs) each =
    elim (cases_Bool (p r)) [
      | inl is ↦ rw is (all_behind Q p rs (All-tail Q r rs each))
      | inr other ↦ rw other each
    ]

pub decommitted_local : (maker : MakerTold) (s : Settings) (fault : Bool) (old new : Queue) → Decommits fault old new → 0 < length old.ranges → IsLocal maker s old → IsStillLocal maker s old new
decommitted_local maker s true old new faulted some local =
    record {
      queue = record {
        owners = faulted_owned old new faulted;
        range_room = faulted.range_room ∙ local.range_room;
        slot_room = faulted.slot_room ∙ local.slot_room;
        regions = queued_faulted maker s (first_slot old.ranges) old.slots new.slots (first_ranged s old.ranges local.ranged some) faulted.slots local.regions;
        ranged = All-same (MayBeRanged s) new.ranges [] faulted.ranges (All-nil (MayBeRanged s));
        queue = faulted.sound;
        grouped = grouped_decommitted true old new faulted local.grouped;
      };
      long = sym (length_all_zip (IsLeftBy (first_slot old.ranges)) old.slots new.slots faulted.slots);
    }
decommitted_local maker s false old new run some local =
    let after : IsStillLocal maker s old (after_run old) =
    record {
      queue = record {
        owners = run_owners old local.queue local.owners;
        range_room = local.range_room;
        slot_room = local.slot_room;
        regions = queued_after_run maker s old some local.ranged local.regions;
        ranged = all_behind (MayBeRanged s) (is_of (first_slot old.ranges)) old.ranges local.ranged;
        queue = run_queue old local.owners local.queue;
        grouped = grouped_decommitted false old (after_run old) refl local.grouped;
      };
      long = length_after_run old;
    } in
    subst (λ (n : Queue). IsStillLocal maker s old n) (sym run) after

-- the others of a kind are as all were
all_others : (Q : Queued → Type 0) (kind : SlotKind) (ms : List Queued) → All Q ms → All Q (others_of_kind kind ms)
all_others Q kind [] each = each
all_others Q kind (m ∷ ms) each =
    elim (cases_Bool (same_kind kind m.name.kind)) [
      | inl is ↦ rw is (All-tail Q m ms each)
      | inr other ↦ rw other (All-cons Q m (others_of_kind kind ms) (All-head Q m ms each) (all_others Q kind ms (All-tail Q m ms each)))
    ]

-- The local queue where it has no range: without the first slot of a kind,
pub rest_local : (maker : MakerTold) (s : Settings) (kind : SlotKind) (q : Queue) → q.ranges ≡ [] → IsLocal maker s q → IsLocal maker s (record q { slots = others_of_kind kind q.slots })
rest_local maker s kind q none local =
    let H : QueuedRange → Type 0 = λ r. holds (owner r) (others_of_kind kind q.slots) ≡ true in
    record {
      owners = subst (λ (rs : List QueuedRange). AllByRecursion H rs) (sym none) tt;
      range_room = local.range_room;
      slot_room = local.slot_room;
      regions = all_others (IsQueuedOf maker s) kind q.slots local.regions;
      ranged = local.ranged;
      queue = queue_popped kind q local.queue;
      grouped = no_runs q.ranges (length (others_of_kind kind q.slots)) none;
    }

-- and with one zeroed by hand.
one_zeroed : (n : ℕ) (s : Slot) → IsOneSlot s (zeroed_slot n s)
one_zeroed n s = ap (λ (b : Bool). record (identity s) { tells = b }) (told_same _ s.region.contents)

zeroed_if : (maker : MakerTold) (s : Settings) (m : Queued) (o : Option ℕ) → m.by_hand ≡ o → IfSome o (λ n. CanBeZeroed n m.slot) → IsQueuedOf maker s m → IsQueuedOf maker s (zeroed_by o m)
zeroed_if maker s m None is can of = of
zeroed_if maker s m (Some n) is can of =
    let hand : m.name.kind ≡ stack_kind → s.stack_zeroing ≡ false → m.by_hand ≡ None = λ kind off. (let H : SlotKind → Type 0 = λ k. MustBeByHand s k m.by_hand in let by : H stack_kind = subst H kind of.by_hand in by.left off) in
    record { slot = queued_of_one maker s m.name.kind m.name.slot m.slot (zeroed_slot n m.slot) (one_zeroed n m.slot) (λ kind off. absurd (cc (sym is ∙ hand kind off))) of.slot; by_hand = of.by_hand }

all_zeroed : (maker : MakerTold) (s : Settings) (kind : SlotKind) (ms : List Queued) → AllByRecursion (λ m. IfSome m.by_hand (λ n. CanBeZeroed n m.slot)) ms → All (IsQueuedOf maker s) ms → All (IsQueuedOf maker s) (first_zeroed kind ms)
all_zeroed maker s kind [] can each = each
all_zeroed maker s kind (m ∷ ms) can each =
    let Q : Queued → Type 0 = IsQueuedOf maker s in
    elim (cases_Bool (is_to_zero kind m)) [
      | inl is ↦ rw is (All-cons Q (zeroed m) ms (zeroed_if maker s m m.by_hand refl can.0 (All-head Q m ms each)) (All-tail Q m ms each))
      | inr other ↦ rw other (All-cons Q m (first_zeroed kind ms) (All-head Q m ms each) (all_zeroed maker s kind ms can.1 (All-tail Q m ms each)))
    ]

pub zeroed_local : (maker : MakerTold) (s : Settings) (kind : SlotKind) (q : Queue) → q.ranges ≡ [] → IsLocal maker s q → IsLocal maker s (record q { slots = first_zeroed kind q.slots })
zeroed_local maker s kind q none local =
    let H : QueuedRange → Type 0 = λ r. holds (owner r) (first_zeroed kind q.slots) ≡ true in
    record {
      owners = subst (λ (rs : List QueuedRange). AllByRecursion H rs) (sym none) tt;
      range_room = local.range_room;
      slot_room = local.slot_room;
      regions = all_zeroed maker s kind q.slots (can_zero q local.queue) local.regions;
      ranged = local.ranged;
      queue = queue_zeroed kind q local.queue none;
      grouped = no_runs q.ranges (length (first_zeroed kind q.slots)) none;
    }

-- The empty local queue with ranges of one slot and then that slot, which leaves clean once they are decommitted.
abbrev ranges_listed : QueueKind → ℕ → List ByteRange → List QueuedRange
ranges_listed kind slot ranges = map (λ r. record { kind = kind; slot = record { 0 = slot }; range = r }) ranges

abbrev name_queued : QueueKind → ℕ → SlotName
name_queued kind slot = record { kind = slot_kind kind; slot = slot }

owned_ranges : (kind : QueueKind) (slot : ℕ) (ranges : List ByteRange) (ms : List Queued) → holds (name_queued kind slot) ms ≡ true → AllByRecursion {X = QueuedRange} (λ r. holds (owner r) ms ≡ true) (ranges_listed kind slot ranges)
owned_ranges kind slot [] ms held = tt
owned_ranges kind slot (r ∷ rs) ms held = (held, owned_ranges kind slot rs ms held)

alone : (name : SlotName) (m : Queued) → m.name ≡ name → holds name (m ∷ []) ≡ true
alone name m is =
    let H : SlotName → Type 0 = λ n. holds n (m ∷ []) ≡ true in
    subst H is (or_left _ _ (slot_self m.name))

one_slot_local : (maker : MakerTold) (s : Settings) (kind : QueueKind) (ranges : List ByteRange) (i : ℕ) (m : Queued) (q : Queue) → m.name ≡ name_queued kind i → q.range_room ≡ queue_room s.batch → q.slot_room ≡ queue_room s.batch → 1 ≤ s.batch → length ranges ≤ 2 * s.batch + 6 → IsQueuedOf maker s m → All (MayBeRanged s) (ranges_listed kind i ranges) → q.ranges ≡ ranges_listed kind i ranges → q.slots ≡ m ∷ [] → LeavesClean q.ranges m → IsLocal maker s q
one_slot_local maker s kind ranges i m q named range_room slot_room some few of ranged is holds_it leaves =
    let H : QueuedRange → Type 0 = λ r. holds (owner r) q.slots ≡ true in
    let held : holds (name_queued kind i) q.slots ≡ true = rw holds_it (alone (name_queued kind i) m named) in
    let long : length q.ranges ≡ length ranges = ap length is ∙ length-map ranges _ in
    let one : length q.slots ≡ 1 = ap length holds_it in
    let A : List Queued → Type 0 = λ ms. All (IsQueuedOf maker s) ms in
    let D : List Queued → Type 0 = λ ms. AreDistinct ms in
    let E : List Queued → Type 0 = λ ms. AllByRecursion (LeavesClean q.ranges) ms in
    record {
      owners = subst (λ (rs : List QueuedRange). AllByRecursion H rs) (sym is) (owned_ranges kind i ranges q.slots held);
      range_room = range_room;
      slot_room = slot_room;
      regions = subst A (sym holds_it) (All-cons (IsQueuedOf maker s) m [] of (All-nil (IsQueuedOf maker s)));
      ranged = All-same (MayBeRanged s) q.ranges (ranges_listed kind i ranges) is ranged;
      queue = record {
        range_room = omega arith;
        slot_room = omega arith;
        distinct = subst D (sym holds_it) (refl, tt);
        each = subst E (sym holds_it) (leaves, tt);
      };
      grouped = omega (arith, ap runs is, one_run kind i ranges, one);
    }

-- ranges of a slot may be queued, unless it is a stack's where those aren't given back zeroed
pub listed_may : (s : Settings) (kind : QueueKind) (slot : ℕ) (ranges : List ByteRange) → (slot_kind kind ≡ stack_kind → s.stack_zeroing ≡ true) → All (MayBeRanged s) (ranges_listed kind slot ranges)
listed_may s kind slot [] may = All-nil (MayBeRanged s)
listed_may s kind slot (r ∷ rs) may = All-cons (MayBeRanged s) (record { kind = kind; slot = record { 0 = slot }; range = r }) (ranges_listed kind slot rs) may (listed_may s kind slot rs may)

-- the local queue once an object was reset into it: it has that slot alone
pub record IsResetLocal (maker : MakerTold) (s : Settings) (q : Queue) : Type 0 where
  pub queue : IsLocal maker s q
  pub one : length q.slots ≡ 1
  pub known : All IsGivenBack q.slots

-- The local queue after a reset of a slot that it is told of: the ranges are few, and all of that slot.
pub reset_local : (maker : MakerTold) (s : Settings) (kind : QueueKind) (ranges : List ByteRange) (i : ℕ) (m : Queued) (q : Queue) → m.name ≡ name_queued kind i → IsSettings s → IsLocal maker s q → q.ranges ≡ [] → q.slots ≡ [] → length ranges ≤ 2 * s.batch + 6 → IsQueuedOf maker s m → All (MayBeRanged s) (ranges_listed kind i ranges) → LeavesClean (ranges_listed kind i ranges) m → IsGivenBack m → IsResetLocal maker s (with_slot m (record q { ranges = q.ranges ++ ranges_listed kind i ranges }))
reset_local maker s kind ranges i m q named settings local none no_slots few of ranged leaves known =
    let listed : List QueuedRange = ranges_listed kind i ranges in
    let q' : Queue = with_slot m (record q { ranges = q.ranges ++ listed }) in
    let first : q.ranges ++ listed ≡ listed = ap (λ (rs : List QueuedRange). rs ++ listed) none in
    let only : by_kind (q.slots ++ m ∷ []) ≡ m ∷ [] = ap (λ (ms : List Queued). by_kind (ms ++ m ∷ [])) no_slots ∙ one_by_kind m in
    let L : List QueuedRange → Type 0 = λ rs. LeavesClean rs m in
    record {
      queue = one_slot_local maker s kind ranges i m q' named local.range_room local.slot_room settings.batch.0 few of ranged first only (subst L (sym first) leaves);
      one = ap length only;
      known = subst (λ (ms : List Queued). All IsGivenBack ms) (sym only) (All-cons IsGivenBack m [] known (All-nil IsGivenBack));
    }

-- A memory's slot that was reset is as a reset leaves it,
abbrev pub memory_queued : ℕ → TakenSlot → Slot → Queued
memory_queued bytes at slot = record { name = memory_slot at.name.slot; slot = slot; known = true; bytes = bytes; by_hand = None; numbers = at.numbers }

pub memory_reset : (keep bytes : ℕ) (at : TakenSlot) (slot : Slot) (ranges : List ByteRange) → keep ≤ 2 ^ 32 → bytes ≤ keep → IsSlot slot → All (IsPart slot.region.page (size_of slot)) ranges → IsClean (decommitted_all ranges slot) → IsReset ranges (memory_queued bytes at slot)
memory_reset keep bytes at slot ranges small kept fits parts clean =
    record { fits = fits; parts = parts; clean = λ known. clean; zeroed = tt; by_hand = refl; bytes = omega (arith, small, kept) }

-- and is what the step may be told.
pub reset_told : (offered : Bool) (keep bytes : ℕ) (at : TakenSlot) (slot new : Slot) (ranges : List ByteRange) → keep ≤ 2 ^ 32 → new ≡ reset_by (given_marks offered slot) slot.region.behaviour keep slot → bytes ≡ kept_by (given_marks offered slot) slot.region.behaviour keep slot → ranges ≡ left_by (given_marks offered slot) slot.region.behaviour keep slot → IsSlot new → All (IsPart new.region.page (size_of new)) ranges → IsClean (decommitted_all ranges new) → Resets false offered keep at slot new
reset_told offered keep bytes at slot new ranges small is kept left fits parts clean =
    let b : DecommitBehavior = slot.region.behaviour in
    let marks : Option (List Bool) = given_marks offered slot in
    let most : bytes ≤ keep = omega (arith, kept, kept_most marks b keep slot) in
    let L : List ByteRange → Slot → ℕ → Type 0 = λ rs s n. LeavesClean (ranges_listed Memory at.name.slot rs) (memory_queued n at s) in
    let leaves : L ranges new bytes = leaves_clean Memory (memory_queued bytes at new) ranges (empty_queue 0 0) refl tt refl (memory_reset keep bytes at new ranges small most fits parts clean) in
    (is, subst (λ (n : ℕ). L (left_by marks b keep slot) (reset_by marks b keep slot) n) kept (subst (λ (s : Slot). L (left_by marks b keep slot) s bytes) is (subst (λ (rs : List ByteRange). L rs new bytes) left leaves)))

-- A reset fails only where pages go back to zeros.
pub zeros_of : (b : DecommitBehavior) (ok : Bool) → (b ≡ RestoreOriginalMapping → ok ≡ true) → ok ≡ false → b ≡ Zero
zeros_of RestoreOriginalMapping ok restores failed = let e : true ≡ false = sym (restores refl) ∙ failed in absurd cc
zeros_of Zero ok restores failed = refl
