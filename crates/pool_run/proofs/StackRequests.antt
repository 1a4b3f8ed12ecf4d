-- A request for a stack: why it is refused, and what is granted.
use Rattle.std.proofs.Common.{◌≡◌, ℕ, ◌+◌, ◌*◌, ◌<◌, ◌≤◌, List, true, false, length, replicate, Option, Some, None, refl, sym, ap, ◌∙◌, subst, inl, inr, arith, ◌==◌, IfSome, if◌then◌else◌, slice_range, option_map}
use Rattle.pool_run.proofs.Imports.{nat_tests, SlotKind, stack_kind, Contents, length-range, Slot, has_number, AllocError, Fibers, PlainHeap, PartyTold, IsStackLease, IsNewStack, IsEnabled, LeasedStack, seeks_stack, FindsNone, Raises, allocator_of, kind_by, kind_next, limit_of, Asked, stack_asked, Frame, Grant, instance, PoolCore}
use Rattle.pool_slots.specs.declared.errors.AllocError.TheVariants as refusal
use Rattle.pool_run.specs.Acts.{a_stack}
use Rattle.pool_run.specs.Private.{Grants}
use Rattle.pool_run.specs.PrivateStacks.{BeginsStack}
use Rattle.pool_run.specs.Rooms.{World, stack_count, TellsStackRoom}
use Rattle.pool_run.specs.Turns.{grants_of, private_stack}
use Rattle.pool_run.specs.Ties.{CauseFor}
use Rattle.pool_run.specs.declared.reply.Reply.TheVariants.{Refused}
use Rattle.pool_run.specs.declared.reply.Refusal.TheVariants.{Alloc}
use Rattle.pool_run.proofs.Requests.{IsBefore, gone}
use Rattle.pool_run.proofs.SlotKinds.{stacks_taken, stacks_told}
use Rattle.pool_run.proofs.StackMoves.{stack_told, stack_long}

module _ {P : Type 0} (w : World) (old new : PartyTold) (c : PoolCore P PlainHeap) (f : Frame P PlainHeap) (live : List (Option (Grant P PlainHeap))) (told : Grants) (is : IsBefore w old new c f live told) (seen : grants_of live ≡ told) (for : f.asked ≡ stack_asked) where
  -- what comes next is a stack
  next_stack : kind_next f ≡ stack_kind
  next_stack = ap (λ (asked : Asked). kind_by asked (length f.objects.memories.items)) for

  abbrev Tells : AllocError → Type 0
  Tells e = TellsStackRoom w told (Refused (Alloc e))

  abbrev Refuses : ℕ → AllocError
  Refuses n = if n == 0 then refusal.StacksDisabled else refusal.Limit (record { limit = w.terms.stacks.slots; kind = Fibers })

  disabled : (e : AllocError) → e ≡ refusal.StacksDisabled → c.settings.stack_size ≡ 0 → CauseFor w a_stack told e
  disabled e left none =
      (left ∙ sym (ap Refuses (is.world.stacks.size ∙ none)), subst Tells (sym left) tt)

  -- No slot is found: where the party is alone, its live stacks are all that there are.
  full : (e : AllocError) → FindsNone c f 0 e → CauseFor w a_stack told e
  full e found =
      let Enabled : Asked → Type 0 = λ asked. IsEnabled c.settings asked in
      let some : 0 < c.settings.stack_size = subst Enabled for found.allocating.to_grant.enabled in
      let sized : (w.terms.stacks.size == 0) ≡ false = let large : 0 < w.terms.stacks.size = omega (arith, some, is.world.stacks.size) in grind (arith, nat_tests, large) in
      let Limits : SlotKind → AllocError = λ kind. refusal.Limit (record { limit = (allocator_of c.plan kind f.stripe).capacity; kind = limit_of kind f.stripe }) in
      let left : e ≡ refusal.Limit (record { limit = w.terms.stacks.slots; kind = Fibers }) = found.is ∙ ap Limits next_stack ∙ ap (λ (n : ℕ). refusal.Limit (record { limit = n; kind = Fibers })) is.world.stacks.room in
      let Has : SlotKind → ℕ → Type 0 = λ kind k. has_number (allocator_of c.plan kind f.stripe) k ≡ true in
      let all : w.alone ≡ true → w.terms.stacks.slots ≤ stack_count told =
      λ a.
      omega (
        arith,
        stacks_taken 0 1 w.terms.stacks.slots (instance f.objects) live (omega arith)
            (λ j below. gone w old new c f live told is 0 e found a stack_kind next_stack (0 + j * 1) (subst (λ (kind : SlotKind). Has kind (0 + j * 1)) (sym next_stack) (is.world.stacks.each (0 + j * 1) (omega (arith, below))))),
        stacks_told live told seen,
      ) in
      (left ∙ sym (ap (λ b. if b then refusal.StacksDisabled else refusal.Limit (record { limit = w.terms.stacks.slots; kind = Fibers })) sized), subst Tells (sym left) all)

  pub stack_cause : (e : AllocError) → Raises w.maker old new c f seeks_stack e → CauseFor w a_stack told e
  stack_cause e raises = elim raises [ inl none ↦ disabled e none.0 none.1 | inr found ↦ full e found ]

-- A stack that is new is to its party as stacks begin.
begins_whole : (s : Slot) (n : ℕ) (o : Option Contents) → s.static_size ≡ n → IfSome o (λ c. s.base.bytes + s.static_size ≤ length c.bytes) → IfSome (option_map (λ c. slice_range c.bytes s.base.bytes (s.base.bytes + s.static_size)) o) (λ b. length b ≡ n)
begins_whole s n None size long = tt
begins_whole s n (Some c) size long = omega (arith, size, length-range c.bytes s.base.bytes (s.base.bytes + s.static_size) long)

begins_zero : (s : Slot) (n : ℕ) (o : Option Contents) → s.static_size ≡ n → IfSome o (λ c. slice_range c.bytes s.base.bytes (s.base.bytes + n) ≡ replicate n 0) → IfSome (option_map (λ c. slice_range c.bytes s.base.bytes (s.base.bytes + s.static_size)) o) (λ b. b ≡ replicate n 0)
begins_zero s n None size zeros = tt
begins_zero s n (Some c) size zeros = let Z : ℕ → Type 0 = λ m. slice_range c.bytes s.base.bytes (s.base.bytes + m) ≡ replicate n 0 in subst Z (sym size) zeros

module _ {P : Type 0} (w : World) (old new : PartyTold) (c : PoolCore P PlainHeap) (f : Frame P PlainHeap) (live : List (Option (Grant P PlainHeap))) (told : Grants) (is : IsBefore w old new c f live told) where
  pub stack_begins : (l : LeasedStack) → IsStackLease w.maker c.settings c.plan l → IsNewStack c.settings l → BeginsStack w.terms.stacks w.terms.tells l.stack.index (private_stack l)
  stack_begins l of begun =
      let size : l.stack.slot.static_size ≡ w.terms.stacks.size = begun.size ∙ sym is.world.stacks.size in
      record {
        slot = refl;
        size = size;
        told = stack_told w.maker c.settings c.plan l of ∙ sym is.world.tells;
        whole = begins_whole l.stack.slot w.terms.stacks.size l.stack.slot.region.contents size (stack_long l.stack.slot of.plain);
        zeros = λ zeroing.
            let Z : ℕ → Type 0 = λ n. IfSome l.stack.slot.region.contents (λ c. slice_range c.bytes l.stack.slot.base.bytes (l.stack.slot.base.bytes + n) ≡ replicate n 0) in
            begins_zero l.stack.slot w.terms.stacks.size l.stack.slot.region.contents size (subst Z (sym is.world.stacks.size) (begun.zeros (sym is.world.stacks.zeroing ∙ zeroing)));
      }
