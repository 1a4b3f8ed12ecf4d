-- Regions of stacks: as they are made, with a stack in them, and back again.
use Rattle.std.proofs.Common.{◌≡◌, ℕ, ◌+◌, ◌-◌, ◌%◌, ◌^◌, ◌<◌, ◌≤◌, Bool, true, false, List, length, refl, sym, ap, ◌∙◌, subst, arith, All, Option, Some, None, replicate, IfSome, IsSome, if◌then◌else◌, option_map, cond, inl, inr}
use Rattle.pool_alloc.proofs.Imports.{IsGivenBack, All-nil, IsPageSize, count, Contents, IsShaped, hidden, MakerTold, fresh, Told, TellsShaped, fresh_shaped, add_whole, access_shaped, Slot, SlotIdentity, IsClean, IsPart, Reads, Holds, identity, size_of, decommitted_all, ByteRange, told_same, fresh_clean, rounded_same, stack_item, stack_region, IsPlain, StackState, stack_kept, stack_ranges, stack_zeroed, top_reset, CanBeZeroed, IsReset, Queued, plain_slot, Plan, RegionNumbers, clean_slots_read_zeros, empty_held, top_done, top_plain}
use Rattle.pool_alloc.specs.BetweenSteps.{IsSettings, IsByHand, IsQueuedOf}
use Rattle.pool_alloc.specs.GuardPages.{IsOpen}
use Rattle.pool_alloc.specs.PoolStacks.{region_of_stack, IsPoolStack, IsQueuedStack, IsStackRegion, IsStackLease, IsNewStack, stack_made}
use Rattle.pool_alloc.specs.StackLeases.{LeasedStack, stack_slot}
use Rattle.pool_alloc.specs.declared.frame.TakenSlot.{TakenSlot}
use Rattle.pool_alloc.specs.declared.pool_core.Settings.{Settings}
use Rattle.pool_alloc.proofs.FlushFinds.{IsBack}
use Rattle.pool_alloc.proofs.GuardPages.{guarded, guarded_fresh, guarded_plain, self_whole}
use Rattle.pool_alloc.proofs.SlotIdentity.{IsOneSlot}

-- a region that is made with its first page hidden has its shape
hidden_shaped : (page len : ℕ) (tells : Bool) → 0 < page → page ≤ len → len % page ≡ 0 → IfSome (if tells then Some (fresh page len len) else None) (λ c. IsShaped page len (hidden 0 page c))
hidden_shaped page len true some longer whole =
    let made : IsShaped page len (fresh page len len) = fresh_shaped page len len (omega arith) whole in
    access_shaped len 0 page (fresh page len len) some made (grind (arith)) (self_whole page some) (omega (arith, longer)) false
hidden_shaped page len false some longer whole = tt

told_changed : (f : Contents → Contents) (Q : Contents → Type 0) (o : Option Contents) → IfSome o (λ c. Q (f c)) → IfSome (option_map f o) Q
told_changed f Q None is = is
told_changed f Q (Some c) is = is

-- A stack's region as it was made can be used, and holds zeros.
pub stack_region_made : (maker : MakerTold) (s : Settings) (i : ℕ) → s.page ≡ maker.page → IsSettings s → IsStackRegion maker s i (stack_region maker s.behaviour (count maker.page (maker.page + s.stack_size)) i)
stack_region_made maker s i paged sound =
    let page : ℕ = maker.page in
    let len : ℕ = page + s.stack_size in
    let t : Told = region_of_stack maker s i in
    let sized : IsPageSize page = subst IsPageSize paged sound.page in
    let some : 0 < page = omega (arith, sized.at_least) in
    let pages : s.stack_size % page ≡ 0 = rw (← paged) sound.stack_whole in
    let whole : len % page ≡ 0 = add_whole page s.stack_size page (self_whole page some) pages in
    let bounded : len < 2 ^ 64 = omega (arith, sized.at_most, sound.stack_few) in
    let opened : IsOpen t = record { contents = made_fresh page len maker.tells; longer = omega arith; whole = whole } in
    let shaped : TellsShaped (guarded t) = told_changed (hidden 0 page) (IsShaped page len) t.contents (hidden_shaped page len maker.tells some (omega arith) whole) in
    let fresh_there = guarded_fresh t opened sized bounded in
    let clean : IsClean (plain_slot page (guarded t)) = fresh_clean (guarded t) (count page page) (count page (len - page)) (len - page) None fresh_there shaped in
    let plain : IsPlain (plain_slot page (guarded t)) = guarded_plain t opened sized bounded shaped in
    let size : len - page ≡ s.stack_size = omega arith in
    let same : identity (plain_slot page (guarded t)) ≡ record (identity (plain_slot page t)) { static_size = s.stack_size } =
    ap (λ (b : Bool). record (identity (plain_slot page t)) { tells = b }) (told_same (hidden 0 page) t.contents) ∙ ap (λ (n : ℕ). record (identity (plain_slot page t)) { static_size = n }) size in
    record {
      slot = record { same = ap (λ (n : ℕ). identity (plain_slot n (guarded t))) paged ∙ same };
      plain = subst (λ (n : ℕ). IsPlain (plain_slot n (guarded t))) (sym paged) plain;
      clean = λ zeroing. subst (λ (n : ℕ). IsClean (plain_slot n (guarded t))) (sym paged) clean;
    }
  where
    made_fresh : (page len : ℕ) (tells : Bool) → IfSome (if tells then Some (fresh page len len) else None) (λ c. c ≡ fresh page len len)
    made_fresh page len true = refl
    made_fresh page len false = tt

-- what the identity of a stack's slot says of its region
its_page : (maker : MakerTold) (s : Settings) (i : ℕ) (slot : Slot) → IsPoolStack maker s i slot → slot.region.page ≡ maker.page
its_page maker s i slot of = ap (λ (x : SlotIdentity). x.page) of.same

its_size : (maker : MakerTold) (s : Settings) (i : ℕ) (slot : Slot) → IsPoolStack maker s i slot → slot.static_size ≡ s.stack_size
its_size maker s i slot of = ap (λ (x : SlotIdentity). x.static_size) of.same

pub stack_page : (maker : MakerTold) (s : Settings) (i : ℕ) (slot : Slot) → s.page ≡ maker.page → IsPoolStack maker s i slot → slot.region.page ≡ s.page
stack_page maker s i slot paged of = its_page maker s i slot of ∙ sym paged

pub stack_small : (maker : MakerTold) (s : Settings) (i : ℕ) (slot : Slot) → IsSettings s → IsPoolStack maker s i slot → slot.static_size ≤ 2 ^ 32
stack_small maker s i slot sound of = omega (arith, its_size maker s i slot of, sound.stack_few)

-- A slot of a stack that can be used is the part of its region behind the first page.
as_plain : (maker : MakerTold) (s : Settings) (i : ℕ) (slot : Slot) → s.page ≡ maker.page → IsPoolStack maker s i slot → IsPlain slot → slot ≡ plain_slot s.page slot.region
as_plain maker s i slot paged of p =
    let r : Told = slot.region in
    let page : r.page ≡ maker.page = its_page maker s i slot of in
    let base : slot.base ≡ count r.page s.page = ap (λ (x : SlotIdentity). x.base) of.same ∙ ap (λ (n : ℕ). count n maker.page) (sym page) ∙ ap (λ (n : ℕ). count r.page n) (sym paged) in
    let long : r.len ≡ maker.page + s.stack_size = ap (λ (x : SlotIdentity). x.len) of.same in
    let size : slot.static_size ≡ r.len - s.page = omega (arith, its_size maker s i slot of, long, paged) in
    let reached : slot.accessible ≡ count r.page (r.len - s.page) = (λ j. record { page = p.fits.sizes.accessible_page j; bytes = (p.all ∙ size) j }) in
    let colour : slot.colour ≡ None = ap (λ (x : SlotIdentity). x.colour) of.same in
    (λ j. record { region = r; base = base j; accessible = reached j; static_size = size j; image = p.image j; dirty = p.not_dirty j; colour = colour j })

-- A region comes back as it is to be.
region_back : (maker : MakerTold) (s : Settings) (i : ℕ) (slot : Slot) → s.page ≡ maker.page → IsPoolStack maker s i slot → IsPlain slot → (s.stack_zeroing ≡ true → IsClean slot) → IsStackRegion maker s i slot.region
region_back maker s i slot paged of p clean =
    let is : slot ≡ plain_slot s.page slot.region = as_plain maker s i slot paged of p in
    record { slot = subst (IsPoolStack maker s i) is of; plain = subst IsPlain is p; clean = λ zeroing. subst IsClean is (clean zeroing) }

-- one that is zeroed by hand can be used
plain_of : (maker : MakerTold) (s : Settings) (i n : ℕ) (slot : Slot) → s.page ≡ maker.page → IsSettings s → IsPoolStack maker s i slot → CanBeZeroed n slot → IsPlain slot
plain_of maker s i n slot paged sound of z =
    let pages : slot.static_size % slot.region.page ≡ 0 = rw (its_size maker s i slot of, stack_page maker s i slot paged of) sound.stack_whole in
    record { fits = z.fits; whole = rounded_same slot.region.page slot.static_size (omega (arith, z.fits.sizes.page_size.at_least)) pages; all = z.all; image = z.image; not_dirty = z.not_dirty; ready = z.ready }

zeroed_back : (maker : MakerTold) (s : Settings) (i : ℕ) (m : Queued) (o : Option ℕ) → s.page ≡ maker.page → IsSettings s → IsPoolStack maker s i m.slot → (m.known ≡ true → IsClean m.slot) → IsSome o → IfSome o (λ n. CanBeZeroed n m.slot × (m.known ≡ true)) → IsStackRegion maker s i m.slot.region
zeroed_back maker s i m None paged sound of clean some back = absurd cc
zeroed_back maker s i m (Some n) paged sound of clean some back = region_back maker s i m.slot paged of (plain_of maker s i n m.slot paged sound of back.0) (λ zeroing. clean back.1)

back_by : (b : Bool) (maker : MakerTold) (s : Settings) (i : ℕ) (m : Queued) → s.stack_zeroing ≡ b → s.page ≡ maker.page → IsSettings s → IsQueuedStack maker s i m.slot → IsByHand s.stack_zeroing m.by_hand → (m.known ≡ true → IsClean m.slot) → IsBack m → IsStackRegion maker s i m.slot.region
back_by true maker s i m is paged sound of by_hand clean back = zeroed_back maker s i m m.by_hand paged sound of.slot_is clean (by_hand.zeroed is) back
back_by false maker s i m is paged sound of by_hand clean back = region_back maker s i m.slot paged of.slot_is (of.plain is) (λ zeroing. absurd (cc (sym is ∙ zeroing)))

pub stack_back : (maker : MakerTold) (s : Settings) (i : ℕ) (m : Queued) → s.page ≡ maker.page → IsSettings s → IsQueuedStack maker s i m.slot → IsByHand s.stack_zeroing m.by_hand → (m.known ≡ true → IsClean m.slot) → IsBack m → IsStackRegion maker s i m.slot.region
stack_back maker s i m paged sound of by_hand clean back = back_by s.stack_zeroing maker s i m refl paged sound of by_hand clean back

-- The stack in a region is a lease, and a stack as it begins.
pub lease_made : (maker : MakerTold) (s : Settings) (plan : Plan) (at : TakenSlot) (region : Told) → at.name.slot < plan.totals.stack → IsStackRegion maker s at.name.slot region → IsStackLease maker s plan (stack_made s at region)
lease_made maker s plan at region inside of = record { inside = inside; slot = of.slot; plain = of.plain; zeroing = refl }

pub stack_begins : (maker : MakerTold) (s : Settings) (at : TakenSlot) (region : Told) → IsStackRegion maker s at.name.slot region → IsNewStack s (stack_made s at region)
stack_begins maker s at region of =
    let z : Slot = plain_slot s.page region in
    let size : z.static_size ≡ s.stack_size = its_size maker s at.name.slot z of.slot in
    let R : ℕ → Type 0 = λ n. Reads z n (replicate n 0) in
    record { size = size; zeros = λ zeroing. subst R size (clean_slots_read_zeros z of.plain (of.clean zeroing)) }

-- A stack is reset: its slot is the one that it was, can be used, and is clean once its ranges are decommitted.
one_top : (keep : ℕ) (s : Slot) → IsOneSlot s (top_reset keep s)
one_top keep s = ap (λ (b : Bool). record (identity s) { tells = b }) (told_same _ s.region.contents)

one_zeroed : (b : Bool) (keep : ℕ) (x : StackState) → IsOneSlot x.slot (stack_zeroed b keep x).slot
one_zeroed true keep x = one_top keep x.slot
one_zeroed false keep x = refl

pub zeroed_plain : (b : Bool) (keep : ℕ) (x : StackState) → IsPlain x.slot → IsPlain (stack_zeroed b keep x).slot
zeroed_plain true keep x p = top_plain keep x.slot p
zeroed_plain false keep x p = p

pub few_ranges : (b : Bool) (keep : ℕ) (x : StackState) → length (stack_ranges b keep x) ≤ 1
few_ranges true keep x = omega arith
few_ranges false keep x = omega arith

pub queued_stack : (b : Bool) (maker : MakerTold) (s : Settings) (keep : ℕ) (l : LeasedStack) (plan : Plan) → IsStackLease maker s plan l → IsQueuedStack maker s l.stack.index (stack_zeroed b keep l.stack).slot
queued_stack b maker s keep l plan of = record { slot_is = record { same = one_zeroed b keep l.stack ∙ of.slot.same }; plain = λ zeroing. zeroed_plain b keep l.stack of.plain }

pub by_hand_as : (b : Bool) (n : ℕ) → IsByHand b (if b then Some n else None)
by_hand_as true n = record { zeroed = λ e. refl; left = λ e. absurd cc }
by_hand_as false n = record { zeroed = λ e. absurd cc; left = λ e. refl }

held_at_end : (s : Slot) (n : ℕ) → IsPlain s → n ≡ size_of s → IfSome s.region.contents (Holds s n (size_of s))
held_at_end s n p is = let H : ℕ → Type 0 = λ m. IfSome s.region.contents (Holds s m (size_of s)) in subst H (sym is) (empty_held s (size_of s) s.region.contents p.fits.told p.fits (omega arith))

can_by : (b : Bool) (n : ℕ) (s : Slot) → IsPlain s → n ≡ s.static_size → IfSome (if b then Some n else None) (λ m. CanBeZeroed m s)
can_by true n s p is = record { fits = p.fits; image = p.image; not_dirty = p.not_dirty; all = p.all; within = omega (arith, is, p.all); ready = p.ready; rest = held_at_end s n p (is ∙ sym p.whole) }
can_by false n s p is = tt

zeroed_as : (b : Bool) (keep : ℕ) (x : StackState) → (stack_zeroed b keep x).zeroing ≡ x.zeroing
zeroed_as true keep x = refl
zeroed_as false keep x = refl

kept_few : (b : Bool) (keep : ℕ) (x : StackState) → x.slot.static_size ≤ 2 ^ 32 → stack_kept b keep x ≤ 2 ^ 32
kept_few true keep x few = omega (arith, few)
kept_few false keep x few = omega arith

-- what is told of the ranges and of the slot by a code's reset, and what follows of them
pub stack_is_reset : (ranges : List ByteRange) (x : StackState) (kept : ℕ) (numbers : RegionNumbers) → IsPlain x.slot → kept ≤ 2 ^ 32 → All (IsPart x.slot.region.page (size_of x.slot)) ranges → (x.zeroing ≡ true → IsClean (decommitted_all ranges x.slot)) → IsReset ranges (stack_item x kept numbers)
stack_is_reset ranges x kept numbers p few parts clean = record {
  fits = p.fits;
  parts = parts;
  clean = clean;
  by_hand = tt;
  zeroed = can_by x.zeroing x.slot.static_size x.slot p refl;
  bytes = few;
}

zeroed_parts : (b : Bool) (keep : ℕ) (x : StackState) → IsPlain x.slot → keep % x.slot.region.page ≡ 0 → All (IsPart (stack_zeroed b keep x).slot.region.page (size_of (stack_zeroed b keep x).slot)) (stack_ranges b keep x)
zeroed_parts true keep x p whole = (top_done keep x.slot (top_reset keep x.slot) (stack_ranges true keep x) p whole refl refl).0
zeroed_parts false keep x p whole = All-nil (IsPart x.slot.region.page (size_of x.slot))

zeroed_clean : (b : Bool) (keep : ℕ) (x : StackState) → IsPlain x.slot → keep % x.slot.region.page ≡ 0 → b ≡ true → IsClean (decommitted_all (stack_ranges b keep x) (stack_zeroed b keep x).slot)
zeroed_clean true keep x p whole is = (top_done keep x.slot (top_reset keep x.slot) (stack_ranges true keep x) p whole refl refl).1
zeroed_clean false keep x p whole is = absurd cc

-- the slot of a stack that is reset leaves clean
pub stack_leaves : (keep : ℕ) (x : StackState) (numbers : RegionNumbers) → IsPlain x.slot → keep % x.slot.region.page ≡ 0 → x.slot.static_size ≤ 2 ^ 32 → IsReset (stack_ranges x.zeroing keep x) (stack_item (stack_zeroed x.zeroing keep x) (stack_kept x.zeroing keep x) numbers)
stack_leaves keep x numbers p whole few =
    stack_is_reset (stack_ranges x.zeroing keep x) (stack_zeroed x.zeroing keep x) (stack_kept x.zeroing keep x) numbers (zeroed_plain x.zeroing keep x p) (kept_few x.zeroing keep x few) (zeroed_parts x.zeroing keep x p whole)
    (λ zeroing. zeroed_clean x.zeroing keep x p whole (sym (zeroed_as x.zeroing keep x) ∙ zeroing))

given_back_by : (zeroing : Bool) (x : StackState) (n bytes : ℕ) (numbers : RegionNumbers) → IsGivenBack (record { name = stack_slot x.index; slot = x.slot; known = zeroing; bytes = bytes; by_hand = cond zeroing (Some n) None; numbers = numbers })
given_back_by true x n bytes numbers = inl refl
given_back_by false x n bytes numbers = inr (refl, refl)

-- a stack goes back known, unless it isn't zeroed
pub stack_given_back : (x : StackState) (bytes : ℕ) (numbers : RegionNumbers) → IsGivenBack (stack_item x bytes numbers)
stack_given_back x bytes numbers = given_back_by x.zeroing x x.slot.static_size bytes numbers

pub stack_name : (b : Bool) (keep : ℕ) (x : StackState) (numbers : RegionNumbers) → (stack_item (stack_zeroed b keep x) (stack_kept b keep x) numbers).name ≡ stack_slot x.index
stack_name true keep x numbers = refl
stack_name false keep x numbers = refl

hand_as : (b d : Bool) (n : ℕ) → b ≡ d → IsByHand d (if b then Some n else None)
hand_as b d n is = subst (λ (z : Bool). IsByHand z (if b then Some n else None)) is (by_hand_as b n)

pub stack_by_hand : (b d : Bool) (keep : ℕ) (x : StackState) (numbers : RegionNumbers) → b ≡ x.zeroing → x.zeroing ≡ d → IsByHand d (stack_item (stack_zeroed b keep x) (stack_kept b keep x) numbers).by_hand
stack_by_hand true d keep x numbers is zeroing = hand_as x.zeroing d x.slot.static_size zeroing
stack_by_hand false d keep x numbers is zeroing = hand_as x.zeroing d x.slot.static_size zeroing

pub stack_queued_of : (b : Bool) (maker : MakerTold) (s : Settings) (keep : ℕ) (l : LeasedStack) (plan : Plan) → IsStackLease maker s plan l → IsByHand s.stack_zeroing (stack_item (stack_zeroed b keep l.stack) (stack_kept b keep l.stack) l.numbers).by_hand → IsQueuedOf maker s (stack_item (stack_zeroed b keep l.stack) (stack_kept b keep l.stack) l.numbers)
stack_queued_of true maker s keep l plan of hand = record { slot = queued_stack true maker s keep l plan of; by_hand = hand }
stack_queued_of false maker s keep l plan of hand = record { slot = queued_stack false maker s keep l plan of; by_hand = hand }
