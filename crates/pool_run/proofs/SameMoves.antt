-- An operation on a memory has one outcome, where the slot that the memory lies in tells what it holds and which calls on
-- it fail, and there is memory for the reply.
use Rattle.std.proofs.Common.{◌≡◌, ◌≢◌, ℕ, ◌+◌, ◌<◌, ◌≤◌, Bool, true, false, List, replicate, Option, Some, None, IsSome, ◌⊎◌, inl, inr, refl, sym, ap, ◌∙◌, subst, arith, is_some, not, IfSome, slice_range}
use Rattle.pool_run.proofs.Imports.{some_mapped, Contents, rounded_up, MakerTold, part_of, Planned, Told, PageCall, passes, RegionName, memory_region, table_region, stack_region, OnDemand, call_failed, Slot, SlotIdentity, raising, limited, CallFaulted, GrowthRule, InPlace, FailsInPlace, IsCallPlanned, grown_size, Storage, in_slot, stored, slot_in, Linear, first_bytes, MemoryState, bytes_of, slot_of, Lease, IsPoolStack, IsPoolTable, IsLeaseOf, IsPoolSlot, Plan, Settings}
use Rattle.pool_pages.specs.Told.{counted}
use Rattle.pool_limits.specs.declared.errors.GrowError.TheVariants.{PageFault}
use Rattle.pool_slots.specs.declared.errors.AllocError.TheVariants as alloc
use Rattle.pool_run.specs.Acts.{MemoryOp, reads, writes, fills, grows, asks_size}
use Rattle.pool_run.specs.Agreeing.{want_of_memory}
use Rattle.pool_run.specs.PrivateStacks.{ReadsBytes}
use Rattle.pool_run.specs.Private.{GrowthEnd, as_it_was, could_not, has_grown, growth}
use Rattle.pool_run.specs.Turns.{seen_as, private_memory, MemoryWrites, GrowthLeaves, MemoryGrows, MovesLease, LeaseMoves}
use Rattle.pool_run.specs.declared.reply.Reply.{Reply}
use Rattle.pool_run.specs.declared.reply.Reply.TheVariants.{Bytes, Refused, Trap}
use Rattle.pool_run.specs.declared.reply.Refusal.{Refusal}
use Rattle.pool_run.specs.declared.reply.Refusal.TheVariants.{Alloc}
use Rattle.pool_alloc.proofs.HeldSlots.{held_name, held_plan, held_tells}
use Rattle.pool_run.proofs.Growths.{growth_decided}

-- the slots of the pool tell which calls on them fail,
planned_part : (name : RegionName) (plan : Option (List Planned)) (layers : List (List Planned)) → IsSome plan → IsSome (part_of name plan layers)
planned_part name None layers some = absurd cc
planned_part name (Some plan) layers some = refl

pub slot_planned : (maker : MakerTold) (s : Settings) (i : ℕ) (slot : Slot) → IsSome maker.plan → IsPoolSlot maker s i slot → IsSome slot.region.plan
slot_planned maker s i slot planned of =
    let Q : Option (List ℕ) → Type 0 = λ o. IsSome o in
    subst Q (sym (held_plan maker s i slot of)) (planned_part (memory_region i) maker.plan maker.layers planned)

pub table_planned : (maker : MakerTold) (s : Settings) (i : ℕ) (slot : Slot) → IsSome maker.plan → IsPoolTable maker s i slot → IsSome slot.region.plan
table_planned maker s i slot planned of =
    let Q : Option (List ℕ) → Type 0 = λ o. IsSome o in
    subst Q (sym (ap (λ (z : SlotIdentity). z.plan) of.same)) (planned_part (table_region i) maker.plan maker.layers planned)

pub stack_planned : (maker : MakerTold) (s : Settings) (i : ℕ) (slot : Slot) → IsSome maker.plan → IsPoolStack maker s i slot → IsSome slot.region.plan
stack_planned maker s i slot planned of =
    let Q : Option (List ℕ) → Type 0 = λ o. IsSome o in
    subst Q (sym (ap (λ (z : SlotIdentity). z.plan) of.same)) (planned_part (stack_region i) maker.plan maker.layers planned)

-- and what they hold.
pub slot_tells : (maker : MakerTold) (s : Settings) (i : ℕ) (slot : Slot) → maker.tells ≡ true → IsPoolSlot maker s i slot → is_some slot.region.contents ≡ true
slot_tells maker s i slot tells of = held_tells maker s i slot of ∙ tells

bytes_told : (n : ℕ) (st : Storage) (i : ℕ) → (slot_in st).region.name ≡ memory_region i → is_some (slot_in st).region.contents ≡ true → is_some (first_bytes n st) ≡ true
bytes_told n (stored len bytes) i name tells = let wrong : OnDemand 0 ≡ memory_region i = name in absurd cc
bytes_told n (in_slot s) i name tells = some_mapped (λ c. slice_range c.bytes s.base.bytes (s.base.bytes + n)) s.region.contents tells

-- a failed call leaves of a slot that tells its plan what it was, with the call counted
pub faulted_is : (call : PageCall) (s t : Slot) → IsSome s.region.plan → CallFaulted call s t → t ≡ record s { region = call_failed call s.region }
faulted_is call s t planned fault =
    let only = fault.region.planned planned in
    let R : Option Contents → List Bool → ℕ → Told = λ c ms n. record (counted call s.region) { contents = c; marks = ms; faults = n } in
    let region : t.region ≡ call_failed call s.region = fault.region.same ∙ ap (λ (c : Option Contents). R c t.region.marks t.region.faults) only.0 ∙ ap (λ (ms : List Bool). R s.region.contents ms t.region.faults) only.1 ∙ ap (R s.region.contents s.region.marks) only.2 in
    fault.same ∙ ap (λ (r : Told). record s { region = r }) region

-- what a plan that is told says, it says once
said_by : {X Y : Type 0} (f : X → Y) (o : Option X) → IsSome o → (a b : Y) → IfSome o (λ x. a ≡ f x) → IfSome o (λ x. b ≡ f x) → a ≡ b
said_by f None some a b one other = absurd cc
said_by f (Some x) some a b one other = one ∙ sym other

-- What a growth that ended so leaves of a memory in a slot.
module _ (size : ℕ) (m : MemoryState) (s : Slot) (is : m.linear.storage ≡ in_slot s) (planned : IsSome s.region.plan) where
  -- where it has grown,
  grown_is : (st : Storage) (new : Linear) → st ≡ in_slot s → InPlace size st m.linear new → new ≡ record m.linear { size = size; storage = in_slot (limited size s) }
  grown_is st new at place = let At : Storage → Type 0 = λ x. InPlace size x m.linear new in subst At at place

  -- or could not,
  ungrown_by : (st : Storage) → FailsInPlace PageFault size (in_slot s) st → st ≡ in_slot (record s { region = call_failed (raising (rounded_up s.region.page size) s) s.region })
  ungrown_by (stored len bytes) fails = absurd fails
  ungrown_by (in_slot t) fails = ap in_slot (faulted_is (raising (rounded_up s.region.page size) s) s t planned fails.1)

  ungrown_is : (st : Storage) → FailsInPlace PageFault size m.linear.storage st → st ≡ in_slot (record s { region = call_failed (raising (rounded_up s.region.page size) s) s.region })
  ungrown_is st fails = let F : Storage → Type 0 = λ x. FailsInPlace PageFault size x st in ungrown_by st (subst F is fails)

  -- it is one and the same.
  left_same : (end : GrowthEnd) (new other : MemoryState) → GrowthLeaves end size m new → GrowthLeaves end size m other → new ≡ other
  left_same as_it_was new other one two = one ∙ sym two
  left_same could_not new other one two =
      let Left : Storage → MemoryState = λ st. record m { linear = record m.linear { storage = st } } in
      one.0 ∙ ap Left (ungrown_is new.linear.storage one.2 ∙ sym (ungrown_is other.linear.storage two.2)) ∙ sym two.0
  left_same has_grown new other one two =
      let Left : Linear → MemoryState = λ l. record m { linear = l } in
      one.0 ∙ ap Left (grown_is m.linear.storage new.linear is one.2 ∙ sym (grown_is m.linear.storage other.linear is two.2)) ∙ sym two.0

  -- The plan says which.
  plan_says : (a b : Bool) → IsCallPlanned a size m.linear.storage → IsCallPlanned b size m.linear.storage → a ≡ b
  plan_says a b one other =
      let C : Bool → Storage → Type 0 = λ v x. IsCallPlanned v size x in
      said_by (λ plan. passes plan (raising (rounded_up s.region.page size) s) s.region) s.region.plan planned a b (subst (C a) is one) (subst (C b) is other)

  not_both : (e d : GrowthEnd) (new other : MemoryState) → e ≡ could_not → d ≡ has_grown → GrowthLeaves e size m new → GrowthLeaves d size m other → ⊥
  not_both e d new other fails larger one two =
      let L : MemoryState → GrowthEnd → Type 0 = λ x end. GrowthLeaves end size m x in
      let failed = subst (L new) fails one in
      let grown = subst (L other) larger two in
      let wrong : false ≡ true = plan_says false true failed.3 grown.3 in
      cc

-- Whether a reply is that there was no memory can be decided.
abbrev is_want : Reply → Bool
is_want (Refused (Alloc alloc.Memory)) = true
is_want _ = false

want_is : (r : Reply) → is_want r ≡ true → r ≡ want_of_memory
want_is (Refused (Alloc alloc.Memory)) e = refl
want_is _ e = absurd cc

want_by : (b : Bool) (r : Reply) → is_want r ≡ b → (r ≡ want_of_memory) ⊎ (r ≢ want_of_memory)
want_by true r e = inl (want_is r e)
want_by false r e = inr (λ is. let wrong : false ≡ true = sym e ∙ ap is_want is in absurd cc)

want_decided : (r : Reply) → (r ≡ want_of_memory) ⊎ (r ≢ want_of_memory)
want_decided r = want_by (is_want r) r refl

-- a memory in a slot of the pool
slot_there : (st : Storage) (i : ℕ) → (slot_in st).region.name ≡ memory_region i → st ≡ in_slot (slot_in st)
slot_there (stored len bytes) i name = let wrong : OnDemand 0 ≡ memory_region i = name in absurd cc
slot_there (in_slot s) i name = refl

-- A read of bytes that are told, where there was memory for them.
read_by : (o : Option (List ℕ)) (size from len : ℕ) (bytes : List ℕ) → is_some o ≡ true → IfSome o (λ b. bytes ≡ slice_range b from (from + len)) → (b : List ℕ) × (o ≡ Some b) × (bytes ≡ slice_range b from (from + len))
read_by None size from len bytes some is = absurd cc
read_by (Some b) size from len bytes some is = (b, refl, is)

wants_none : (r : Refusal) → r ≡ Alloc alloc.Memory → Refused r ≢ want_of_memory → ⊥
wants_none r is not = not (ap (λ (x : Refusal). Refused x) is)

apart : {A : Type 0} (n size : ℕ) → n ≤ size → size < n → A
apart n size le lt = absurd (omega (arith, le, lt))

reads_same : (size : ℕ) (told_bytes : Option (List ℕ)) (from len : ℕ) (r q : Reply) → is_some told_bytes ≡ true → ReadsBytes size told_bytes from len r → ReadsBytes size told_bytes from len q → r ≢ want_of_memory → q ≢ want_of_memory → r ≡ q
reads_same size bytes_told_of from len (Bytes xs) (Bytes ys) told one two first second =
    let left = read_by bytes_told_of size from len xs told one.2 in
    let right = read_by bytes_told_of size from len ys told two.2 in
    let bytes : left.0 ≡ right.0 = let both : Some left.0 ≡ Some right.0 = sym left.1 ∙ right.1 in cc in
    ap (λ (b : List ℕ). Bytes b) (left.2 ∙ ap (λ (b : List ℕ). slice_range b from (from + len)) bytes ∙ sym right.2)
reads_same size bytes_told_of from len (Bytes xs) (Trap t) told one two first second = apart (from + len) size one.0 two.1
reads_same size bytes_told_of from len (Bytes xs) (Refused e) told one two first second = absurd (wants_none e two second)
reads_same size bytes_told_of from len (Bytes xs) _ told one two first second = absurd two
reads_same size bytes_told_of from len (Trap t) (Bytes ys) told one two first second = apart (from + len) size two.0 one.1
reads_same size bytes_told_of from len (Trap t) (Trap u) told one two first second = ap (λ x. Trap x) (one.0 ∙ sym two.0)
reads_same size bytes_told_of from len (Trap t) (Refused e) told one two first second = absurd (wants_none e two second)
reads_same size bytes_told_of from len (Trap t) _ told one two first second = absurd two
reads_same size bytes_told_of from len (Refused d) q told one two first second = absurd (wants_none d one first)
reads_same size bytes_told_of from len _ q told one two first second = absurd one

-- Two looks at the same: both times the same, or one reply is that there was no memory for it.
pub looks_same : {X : Type 0} (size : ℕ) (told_bytes : Option (List ℕ)) (from len : ℕ) (l new other : X) (r q : Reply) → is_some told_bytes ≡ true → ReadsBytes size told_bytes from len r × (new ≡ l) → ReadsBytes size told_bytes from len q × (other ≡ l) → ((new ≡ other) × (r ≡ q)) ⊎ (((r ≡ want_of_memory) × (q ≢ want_of_memory)) ⊎ ((q ≡ want_of_memory) × (r ≢ want_of_memory)))
looks_same size told_bytes from len l new other r q told one two =
    elim (want_decided r) [
      | inl wants ↦ elim (want_decided q) [ inl also ↦ inl (one.1 ∙ sym two.1, wants ∙ sym also) | inr second ↦ inr (inl (wants, second)) ]
      | inr first ↦
          elim (want_decided q) [
            | inl wants ↦ inr (inr (wants, first))
            | inr second ↦ inl (one.1 ∙ sym two.1, reads_same size told_bytes from len r q told one.0 two.0 first second)
          ]
    ]

module _ (maker : MakerTold) (s : Settings) (plan : Plan) (tells : maker.tells ≡ true) (planned : IsSome maker.plan) (l : Lease) (of : IsLeaseOf maker s plan l) where
  named : (slot_of l.memory).region.name ≡ memory_region l.index
  named = held_name maker s l.index (slot_of l.memory) of.slot

  -- A growth of it, by this rule.
  module _ (rule : GrowthRule) (pages : ℕ) (new other : MemoryState) (reply answer : Reply) where
    abbrev ended : Bool → GrowthEnd × Reply
    ended fault = growth rule fault pages (seen_as 0 l.memory)

    abbrev Left : MemoryState → GrowthEnd → Type 0
    Left x end = GrowthLeaves end (grown_size pages l.memory) l.memory x

    there : l.memory.linear.storage ≡ in_slot (slot_of l.memory)
    there = slot_there l.memory.linear.storage l.index named

    listed : IsSome (slot_of l.memory).region.plan
    listed = slot_planned maker s l.index (slot_of l.memory) planned of.slot

    one_end : (e d : GrowthEnd × Reply) → e ≡ d → reply ≡ e.1 → answer ≡ d.1 → Left new e.0 → Left other d.0 → (new ≡ other) × (reply ≡ answer)
    one_end e d same told said one two =
        let both : Left new d.0 = subst (λ (p : GrowthEnd × Reply). Left new p.0) same one in
        (left_same (grown_size pages l.memory) l.memory (slot_of l.memory) there listed d.0 new other both two, told ∙ ap (λ (p : GrowthEnd × Reply). p.1) same ∙ sym said)

    differs : ((ended true).0 ≡ could_not) × ((ended false).0 ≡ has_grown) → (x y : MemoryState) → Left x (ended true).0 → Left y (ended false).0 → ⊥
    differs decides x y one two = not_both (grown_size pages l.memory) l.memory (slot_of l.memory) there listed (ended true).0 (ended false).0 x y decides.0 decides.1 one two

    ends_same : (fault d : Bool) → reply ≡ (ended fault).1 → answer ≡ (ended d).1 → Left new (ended fault).0 → Left other (ended d).0 → (new ≡ other) × (reply ≡ answer)
    ends_same true true told said one two = one_end (ended true) (ended true) refl told said one two
    ends_same false false told said one two = one_end (ended false) (ended false) refl told said one two
    ends_same true false told said one two = elim (growth_decided rule pages l.memory) [ inl same ↦ one_end (ended true) (ended false) same told said one two | inr decides ↦ absurd (differs decides new other one two) ]
    ends_same false true told said one two = elim (growth_decided rule pages l.memory) [ inl same ↦ one_end (ended false) (ended true) (sym same) told said one two | inr decides ↦ absurd (differs decides other new two one) ]

  growth_same : (rule : GrowthRule) (pages : ℕ) (new other : MemoryState) (reply answer : Reply) → MemoryGrows rule pages l.memory new reply → MemoryGrows rule pages l.memory other answer → (new ≡ other) × (reply ≡ answer)
  growth_same rule pages new other reply answer one two = ends_same rule pages new other reply answer one.0 two.0 one.1 two.1 one.2 two.2

  moves_same : (Moves : MemoryState → MemoryState → Reply → Type 0) (new other : Lease) (r q : Reply) → ((x y : MemoryState) → Moves l.memory x r → Moves l.memory y q → (x ≡ y) × (r ≡ q)) → MovesLease Moves l new r → MovesLease Moves l other q → (new ≡ other) × (r ≡ q)
  moves_same Moves new other r q agree one two =
      let both = agree new.memory other.memory one.move two.move in
      (one.same ∙ ap (λ (m : MemoryState). record l { memory = m }) both.0 ∙ sym two.same, both.1)

  writes_same : (from : ℕ) (bytes : List ℕ) (r q : Reply) (x y : MemoryState) → MemoryWrites from bytes l.memory x r → MemoryWrites from bytes l.memory y q → (x ≡ y) × (r ≡ q)
  writes_same from bytes r q x y one two =
      let both : (x, r) ≡ (y, q) = one ∙ sym two in
      (ap (λ (p : MemoryState × Reply). p.0) both, ap (λ (p : MemoryState × Reply). p.1) both)

  -- Each operation on it: both times the same, or one reply is that there was no memory for it.
  pub op_same : (op : MemoryOp) (rule : GrowthRule) (new other : Lease) (r q : Reply) → LeaseMoves op rule l new r → LeaseMoves op rule l other q → ((new ≡ other) × (r ≡ q)) ⊎ (((r ≡ want_of_memory) × (q ≢ want_of_memory)) ⊎ ((q ≡ want_of_memory) × (r ≢ want_of_memory)))
  op_same (reads from len) rule new other r q one two =
      let told : is_some (bytes_of l.memory) ≡ true = bytes_told l.memory.linear.size l.memory.linear.storage l.index named (slot_tells maker s l.index (slot_of l.memory) tells of.slot) in
      looks_same (private_memory l).size (private_memory l).bytes from len l new other r q told one two
  op_same (writes from bytes) rule new other r q one two = inl (moves_same (MemoryWrites from bytes) new other r q (writes_same from bytes r q) one two)
  op_same (fills from len byte) rule new other r q one two = inl (moves_same (MemoryWrites from (replicate len byte)) new other r q (writes_same from (replicate len byte) r q) one two)
  op_same (grows pages) rule new other r q one two = inl (moves_same (MemoryGrows rule pages) new other r q (λ x y. growth_same rule pages x y r q) one two)
  op_same asks_size rule new other r q one two = inl (one.1 ∙ sym two.1, one.0 ∙ sym two.0)
