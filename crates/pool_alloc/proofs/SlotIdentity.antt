-- A slot stays that of its region, whatever calls were made on it.
use Rattle.std.proofs.Common.{◌≡◌, ℕ, ◌+◌, ◌/◌, ◌%◌, ◌^◌, ◌<◌, ◌≤◌, Bool, true, false, List, [], ◌∷◌, length, refl, ap, ◌∙◌, sym, subst, arith, Option, Some, None, All, replicate, map, if◌then◌else◌}
use Rattle.pool_alloc.proofs.Imports.{AllZip, zero-div, length-map, length-replicate, All-nil, All-cons, All-head, All-tail, rounded_is_whole, count, rounded_up, IsShaped, put_all, recoloured, Told, PageCall, TellsShaped, erasing, recolouring, decommitting, MakerTold, fresh, made_region, DecommitBehavior, Zero, RestoreOriginalMapping, fresh_shaped, length-put, ByteRange, Slot, IsFresh, IsClean, identity, size_of, called, coloured, wiped, like_restored, pages_by_hand, reset_by, decommitted_all, told_same, same_called, fresh_clean, identity_made, stripe_colour, regions_fresh, SlotKind, SlotName, IsSlotLeft, same_slot, front, Queue, Queued, IsLeftBy, forgotten_slot, is_of, first_slot, change_at, after_run, IsPlain, QueuedRange, slot_is}
use Rattle.pool_pages.specs.declared.pages.RegionName.TheVariants as of_region
use Rattle.pool_hall.specs.declared.unit_name.SlotKind.TheVariants.{Memory, Table, Stack, Heap}
use Rattle.pool_alloc.specs.CanStep.{CanBeImage}
use Rattle.pool_alloc.specs.MemorySteps.{image_made}
use Rattle.pool_alloc.specs.BetweenSteps.{IsPoolSlot, IsSettings, MayQueue, MayBeRanged, IsQueuedOf, memory_region}
use Rattle.pool_alloc.specs.PoolTables.{IsPoolTable}
use Rattle.pool_alloc.specs.declared.pool_core.Settings.{Settings}

-- it is the slot of the same region
abbrev pub IsOneSlot : Slot → Slot → Type 0
IsOneSlot old new = identity new ≡ identity old

pub one_coloured : (colour : Option ℕ) (start len : ℕ) (s : Slot) → IsOneSlot s (record s { region = coloured colour start len s.region })
one_coloured None start len s = refl
one_coloured (Some number) start len s = same_called (recolouring start len number) s

pub one_wiped : (s : Slot) → IsOneSlot s (wiped s)
one_wiped s =
    let call : PageCall = erasing s.base.bytes (size_of s) in
    one_coloured s.colour s.base.bytes (size_of s) (called call s) ∙ same_called call s

one_decommitted : (s : Slot) (ranges : List ByteRange) → IsOneSlot s (decommitted_all ranges s)
one_decommitted s [] = refl
one_decommitted s (r ∷ rs) =
    let call : PageCall = decommitting (s.base.bytes + r.start) r.len in
    one_decommitted (called call s) rs ∙ same_called call s

pub one_reset : (marks : Option (List Bool)) (b : DecommitBehavior) (keep : ℕ) (s : Slot) → IsOneSlot s (reset_by marks b keep s)
one_reset None RestoreOriginalMapping keep s = ap (λ (b : Bool). record (identity s) { tells = b }) (told_same _ s.region.contents)
one_reset (Some marks) RestoreOriginalMapping keep s = (like_restored s.base.bytes (pages_by_hand s.region.page keep marks) false s).same
one_reset None Zero keep s = one_wiped s
one_reset (Some marks) Zero keep s = one_wiped s

-- the slot of one region stays that
pub slot_of_one : (maker : MakerTold) (s : Settings) (i : ℕ) (old new : Slot) → IsOneSlot old new → IsPoolSlot maker s i old → IsPoolSlot maker s i new
slot_of_one maker s i old new one of = record { same = one ∙ of.same }

-- A region in its colour keeps its page.
coloured_page : (colour : Option ℕ) (start len : ℕ) (t : Told) → (coloured colour start len t).page ≡ t.page
coloured_page None start len t = refl
coloured_page (Some number) start len t = refl

pub region_page : (maker : MakerTold) (s : Settings) (i : ℕ) → (memory_region maker s i).page ≡ maker.page
region_page maker s i = coloured_page (stripe_colour s.num_stripes i) 0 (rounded_up maker.page s.max_memory_size) (made_region (of_region.Memory i) s.behaviour (count maker.page 0) (count maker.page (rounded_up maker.page s.max_memory_size)) maker)

-- A region as it was made, and the image slot that is made of it: it can be made, and is clean.
pub slot_made : (maker : MakerTold) (s : Settings) (i : ℕ) (region : Told) → s.page ≡ maker.page → region ≡ memory_region maker s i → IsPoolSlot maker s i (image_made s i region)
slot_made maker s i region paged is =
    let t : Told = memory_region maker s i in
    let colour : Option ℕ = stripe_colour s.num_stripes i in
    let made : IsPoolSlot maker s i (image_made s i t) = record { same = ap (λ (n : ℕ). record (identity_made t colour s.max_memory_size) { base = count n 0 }) (paged ∙ sym (region_page maker s i)) } in
    subst (λ (r : Told). IsPoolSlot maker s i (image_made s i r)) (sym is) made

pub fresh_made : (maker : MakerTold) (s : Settings) (i : ℕ) (region : Told) → s.page ≡ maker.page → IsSettings s → region ≡ memory_region maker s i → CanBeImage s i region
fresh_made maker s i region paged sound is =
    let F : ℕ → Told → Type 0 = λ n r. IsFresh (count n 0) (count n 0) s.max_memory_size (stripe_colour s.num_stripes i) r in
    let B : ℕ → Type 0 = λ n. s.max_memory_size + n ≤ 2 ^ 64 in
    let some : 0 < maker.page = omega (arith, paged, sound.page.at_least) in
    let made : F maker.page (memory_region maker s i) = regions_fresh s.num_stripes i maker s.behaviour maker.page s.max_memory_size some (subst B paged sound.bounded) in
    record { stripes = sound.stripes; fresh = subst (λ (n : ℕ). F n region) (sym paged) (subst (F maker.page) (sym is) made) }

made_shaped : (page len : ℕ) (tells : Bool) (colour : Option ℕ) (behaviour : DecommitBehavior) (i : ℕ) (maker : MakerTold) → len % page ≡ 0 → maker.tells ≡ tells → TellsShaped (coloured colour 0 len (made_region (of_region.Memory i) behaviour (count page 0) (count page len) maker))
made_shaped page len true None behaviour i maker whole is = rw is (fresh_shaped page 0 len (omega (arith, zero-div page)) whole)
made_shaped page len true (Some number) behaviour i maker whole is =
    let made = fresh_shaped page 0 len (omega (arith, zero-div page)) whole in
    let room : 0 / page + len / page ≤ len / page = omega (arith, zero-div page) in
    let long : length (put_all (0 / page) (len / page) number (replicate {A = ℕ} (len / page) 0)) ≡ len / page =
    length-put (0 / page) (replicate (len / page) number) (replicate {A = ℕ} (len / page) 0) (omega (arith, room, length-replicate {A = ℕ} (len / page) number, length-replicate {A = ℕ} (len / page) 0)) ∙ length-replicate {A = ℕ} (len / page) 0 in
    let all : IsShaped page len (recoloured 0 len number (fresh page 0 len)) = record {
      same_page = made.same_page;
      whole = made.whole;
      bytes = made.bytes;
      origin = made.origin;
      accessible = made.accessible;
      dirty = made.dirty;
      colour = long;
      clean = made.clean;
    } in
    rw is all
made_shaped page len false None behaviour i maker whole is = rw is tt
made_shaped page len false (Some number) behaviour i maker whole is = rw is tt

pub clean_made : (maker : MakerTold) (s : Settings) (i : ℕ) (region : Told) → s.page ≡ maker.page → IsSettings s → region ≡ memory_region maker s i → IsClean (image_made s i region)
clean_made maker s i region paged sound is =
    let fresh = (fresh_made maker s i region paged sound is).fresh in
    let size : ℕ = rounded_up maker.page s.max_memory_size in
    let shaped : TellsShaped (memory_region maker s i) = made_shaped maker.page size maker.tells (stripe_colour s.num_stripes i) s.behaviour i maker (rounded_is_whole maker.page s.max_memory_size) refl in
    fresh_clean region (count s.page 0) (count s.page 0) s.max_memory_size (stripe_colour s.num_stripes i) fresh (subst (λ (r : Told). TellsShaped r) (sym is) shaped)

-- Queued slots stay those of their regions as ranges of one are decommitted. Of a stack that isn't given back zeroed none is.
pub table_of_one : (maker : MakerTold) (s : Settings) (i : ℕ) (old new : Slot) → IsOneSlot old new → IsPoolTable maker s i old → IsPoolTable maker s i new
table_of_one maker s i old new one of = record { same = one ∙ of.same }

pub queued_of_one : (maker : MakerTold) (s : Settings) (kind : SlotKind) (i : ℕ) (old new : Slot) → IsOneSlot old new → (kind ≡ Stack → s.stack_zeroing ≡ false → new ≡ old) → MayQueue maker s kind i old → MayQueue maker s kind i new
queued_of_one maker s Memory i old new one still of = record { same = one ∙ of.same }
queued_of_one maker s Table i old new one still of = record { same = one ∙ of.same }
queued_of_one maker s Stack i old new one still of = record { slot_is = record { same = one ∙ of.slot_is.same }; plain = λ left. subst IsPlain (sym (still refl left)) (of.plain left) }
queued_of_one maker s Heap i old new one still of = absurd of

-- the first range is of a stack only where stacks are given back zeroed
pub first_ranged : (s : Settings) (ranges : List QueuedRange) → All (MayBeRanged s) ranges → 0 < length ranges → (first_slot ranges).kind ≡ Stack → s.stack_zeroing ≡ true
first_ranged s [] each some is = absurd (omega (arith, some))
first_ranged s (r ∷ rs) each some is = All-head (MayBeRanged s) r rs each is

changed_if : (maker : MakerTold) (s : Settings) (change : Slot → Slot) (m : Queued) (b : Bool) → ((x : Slot) → IsOneSlot x (change x)) → (b ≡ true → m.name.kind ≡ Stack → s.stack_zeroing ≡ true) → IsQueuedOf maker s m → IsQueuedOf maker s (if b then record m { slot = change m.slot } else m)
changed_if maker s change m true one ranged of = record { slot = queued_of_one maker s m.name.kind m.name.slot m.slot (change m.slot) (one m.slot) (λ kind left. absurd (cc (sym (ranged refl kind) ∙ left))) of.slot; by_hand = of.by_hand }
changed_if maker s change m false one ranged of = of

queued_changed : (maker : MakerTold) (s : Settings) (slot : SlotName) (ranges : List ByteRange) (ms : List Queued) → (slot.kind ≡ Stack → s.stack_zeroing ≡ true) → All (IsQueuedOf maker s) ms → All (IsQueuedOf maker s) (map (change_at slot (decommitted_all ranges)) ms)
queued_changed maker s slot ranges [] ranged of = All-nil (IsQueuedOf maker s)
queued_changed maker s slot ranges (m ∷ ms) ranged of =
    let P : Queued → Type 0 = IsQueuedOf maker s in
    All-cons P (change_at slot (decommitted_all ranges) m) (map (change_at slot (decommitted_all ranges)) ms)
    (changed_if maker s (decommitted_all ranges) m _ (λ x. one_decommitted x ranges) (λ same kind. ranged (ap (λ (x : SlotName). x.kind) (slot_is slot m.name same) ∙ kind)) (All-head P m ms of))
    (queued_changed maker s slot ranges ms ranged (All-tail P m ms of))

pub queued_after_run : (maker : MakerTold) (s : Settings) (q : Queue) → 0 < length q.ranges → All (MayBeRanged s) q.ranges → All (IsQueuedOf maker s) q.slots → All (IsQueuedOf maker s) (after_run q).slots
queued_after_run maker s q some each of = queued_changed maker s (first_slot q.ranges) (map (λ r. r.range) (front (is_of (first_slot q.ranges)) q.ranges)) q.slots (first_ranged s q.ranges each some) of

pub length_after_run : (q : Queue) → length (after_run q).slots ≡ length q.slots
length_after_run q = length-map q.slots (change_at (first_slot q.ranges) (decommitted_all (map (λ r. r.range) (front (is_of (first_slot q.ranges)) q.ranges))))

-- and where a call on one failed
one_unknown : (kind : SlotKind) (s : Slot) → IsOneSlot s (forgotten_slot kind s)
one_unknown Memory s = refl
one_unknown Table s = refl
one_unknown Stack s = refl
one_unknown Heap s = refl

left_if : (b : Bool) (old new : Slot) → IsSlotLeft b old new → IsOneSlot old new
left_if true old new left = left.same
left_if false old new same = ap (λ (s : Slot). identity s) same

same_if : (b : Bool) (old new : Slot) → IsSlotLeft b old new → b ≡ false → new ≡ old
same_if true old new left e = absurd cc
same_if false old new same e = same

left_still : (s : Settings) (faulted : SlotName) (old : Queued) (new : Slot) (b : Bool) → same_slot faulted old.name ≡ b → (faulted.kind ≡ Stack → s.stack_zeroing ≡ true) → IsSlotLeft (same_slot faulted old.name) old.slot new → old.name.kind ≡ Stack → s.stack_zeroing ≡ false → new ≡ old.slot
left_still s faulted old new true is ranged left kind off = absurd (cc (sym (ranged (ap (λ (x : SlotName). x.kind) (slot_is faulted old.name is) ∙ kind)) ∙ off))
left_still s faulted old new false is ranged left kind off = same_if (same_slot faulted old.name) old.slot new left is

queued_left : (maker : MakerTold) (s : Settings) (faulted : SlotName) (old new : Queued) → (faulted.kind ≡ Stack → s.stack_zeroing ≡ true) → IsLeftBy faulted old new → IsQueuedOf maker s old → IsQueuedOf maker s new
queued_left maker s faulted old new ranged left of =
    let one : IsOneSlot old.slot (forgotten_slot old.name.kind new.slot) = one_unknown old.name.kind new.slot ∙ left_if _ (forgotten_slot old.name.kind old.slot) new.slot left.slot ∙ one_unknown old.name.kind old.slot in
    let U : SlotKind → Slot → Slot → Type 0 = λ k x y. forgotten_slot k x ≡ y in
    let forgets : (x : Slot) → old.name.kind ≡ Stack → forgotten_slot old.name.kind x ≡ x = λ x kind. subst (λ (k : SlotKind). U k x x) (sym kind) refl in
    let L : Slot → Type 0 = λ x. IsSlotLeft (same_slot faulted old.name) x new.slot in
    let still : old.name.kind ≡ Stack → s.stack_zeroing ≡ false → forgotten_slot old.name.kind new.slot ≡ old.slot = λ kind off.
    forgets new.slot kind ∙ left_still s faulted old new.slot (same_slot faulted old.name) refl ranged (subst L (forgets old.slot kind) left.slot) kind off in
    subst (IsQueuedOf maker s) (sym left.same) (record { slot = queued_of_one maker s old.name.kind old.name.slot old.slot _ one still of.slot; by_hand = of.by_hand })

pub queued_faulted : (maker : MakerTold) (s : Settings) (faulted : SlotName) (olds news : List Queued) → (faulted.kind ≡ Stack → s.stack_zeroing ≡ true) → AllZip (IsLeftBy faulted) olds news → All (IsQueuedOf maker s) olds → All (IsQueuedOf maker s) news
queued_faulted maker s faulted [] [] ranged left of = of
queued_faulted maker s faulted [] (n ∷ ns) ranged left of = absurd left
queued_faulted maker s faulted (m ∷ ms) [] ranged left of = absurd left
queued_faulted maker s faulted (m ∷ ms) (n ∷ ns) ranged left of =
    let P : Queued → Type 0 = IsQueuedOf maker s in
    All-cons P n ns (queued_left maker s faulted m n ranged left.0 (All-head P m ms of)) (queued_faulted maker s faulted ms ns ranged left.1 (All-tail P m ms of))
