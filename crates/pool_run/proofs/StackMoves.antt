-- What an operation makes of a stack: its party sees the operation on its own stack; and of one that a pool granted: it stays
-- in its slot, and two of them from one stack agree.
use Rattle.std.proofs.Common.{◌≡◌, ◌≢◌, ◌⊎◌, ℕ, ◌+◌, ◌≤◌, Bool, true, false, List, length, replicate, Option, Some, None, is_some, refl, sym, ap, ◌∙◌, subst, inl, inr, arith, IfSome, nat_le, if◌then◌else◌, option_map, slice_range}
use Rattle.pool_run.proofs.Imports.{leb-true, leb-false, same_lists, places, told_if, Contents, written, MakerTold, Slot, SlotIdentity, IsSound, identity, size_of, told_same, MemoryOutOfBounds, IsPlain, StackState, plain_written, Plan, plain_after, IsPoolStack, IsStackLease, LeasedStack, stack_slot, stack_taken, Settings}
use Rattle.pool_pages.specs.Contents.{put}
use Rattle.pool_run.specs.Acts.{MemoryOp, reads, writes, fills, grows, asks_size}
use Rattle.pool_run.specs.Agreeing.{want_of_memory}
use Rattle.pool_run.specs.PrivateStacks.{PrivateStack, WritesBytes, StackMoves, stack_written}
use Rattle.pool_run.specs.Turns.{stack_bytes, seen_stack, private_stack, StackStateWrites, StackStateMoves, StackLeaseMoves}
use Rattle.pool_run.specs.declared.reply.Reply.{Reply}
use Rattle.pool_run.specs.declared.reply.Reply.TheVariants.{Done, Trap}
use Rattle.pool_run.proofs.SameMoves.{looks_same}

-- a stack after a write of these bytes, and what a write leaves
abbrev stack_after : ℕ → List ℕ → StackState → StackState
stack_after i bytes s = record s { slot = plain_written i bytes s.slot }

abbrev after_write : ℕ → List ℕ → StackState → Bool → StackState × Reply
after_write i bytes s b = if b then (stack_after i bytes s, Done) else (s, Trap MemoryOutOfBounds)

-- It keeps its number, and stays in its slot.
write_index : (i : ℕ) (bytes : List ℕ) (s new : StackState) (reply : Reply) (b : Bool) → ◌≡◌ {A = StackState × Reply} (new, reply) (after_write i bytes s b) → new.index ≡ s.index
write_index i bytes s new reply true is = ap (λ (p : StackState × Reply). p.0.index) is
write_index i bytes s new reply false is = ap (λ (p : StackState × Reply). p.0.index) is

op_index : (op : MemoryOp) (s new : StackState) (reply : Reply) → StackStateMoves op s new reply → new.index ≡ s.index
op_index (reads i len) s new reply is = ap (λ (x : StackState). x.index) is.1
op_index (writes i bytes) s new reply is = write_index i bytes s new reply (nat_le (i + length bytes) s.slot.static_size) is
op_index (fills i len byte) s new reply is = write_index i (replicate len byte) s new reply (nat_le (i + length (replicate len byte)) s.slot.static_size) is
op_index (grows pages) s new reply is = ap (λ (x : StackState). x.index) is.1
op_index asks_size s new reply is = ap (λ (x : StackState). x.index) is.1

pub stack_op_slot : (op : MemoryOp) (l new : LeasedStack) (reply : Reply) → StackLeaseMoves op l new reply → stack_taken new ≡ stack_taken l
stack_op_slot op l new reply is = ap stack_taken is.1 ∙ ap (λ (i : ℕ). record { name = stack_slot i; numbers = l.numbers }) (op_index op l.stack new.stack reply is.0)

-- all of its bytes are bytes of its region
long_by : (s : Slot) (o : Option Contents) → IsPlain s → IfSome o (IsSound s.region.page s.region.len s.base.bytes (size_of s)) → IfSome o (λ c. s.base.bytes + s.static_size ≤ length c.bytes)
long_by s None plain sound = tt
long_by s (Some c) plain sound = omega (arith, sound.shaped.bytes, plain.fits.sizes.inside, plain.whole)

pub stack_long : (s : Slot) → IsPlain s → IfSome s.region.contents (λ c. s.base.bytes + s.static_size ≤ length c.bytes)
stack_long s plain = long_by s s.region.contents plain plain.fits.told

-- a write to some of the bytes of a region
range_put : (base i size : ℕ) (new xs : List ℕ) → i + length new ≤ size → base + size ≤ length xs → slice_range (put (base + i) new xs) base (base + size) ≡ put i new (slice_range xs base (base + size))
range_put base i size new xs within long = same_lists _ _ (grind (arith, places)) (λ k d h. grind (arith, places))

written_by : (base i size : ℕ) (new : List ℕ) (o : Option Contents) → i + length new ≤ size → IfSome o (λ c. base + size ≤ length c.bytes) → option_map (λ c. slice_range c.bytes base (base + size)) (option_map (written (base + i) new) o) ≡ option_map (put i new) (option_map (λ c. slice_range c.bytes base (base + size)) o)
written_by base i size new None within long = refl
written_by base i size new (Some c) within long = ap Some (range_put base i size new c.bytes within long)

-- A write is one of the party's stack.
write_seen : (i : ℕ) (bytes : List ℕ) (s new : StackState) (reply : Reply) (b : Bool) → IsPlain s.slot → nat_le (i + length bytes) s.slot.static_size ≡ b → ◌≡◌ {A = StackState × Reply} (new, reply) (after_write i bytes s b) → WritesBytes (seen_stack s).size i (length bytes) (stack_written i bytes (seen_stack s)) (seen_stack s) (seen_stack new) reply
write_seen i bytes s new reply true plain fits is =
    let W : StackState × Reply → Type 0 = λ p. WritesBytes (seen_stack s).size i (length bytes) (stack_written i bytes (seen_stack s)) (seen_stack s) (seen_stack p.0) p.1 in
    let within : i + length bytes ≤ s.slot.static_size = leb-true (i + length bytes) s.slot.static_size fits in
    let Seen : Option (List ℕ) → PrivateStack = λ b. record { slot = s.index; size = s.slot.static_size; bytes = b } in
    subst W (sym is) (within, ap Seen (written_by s.slot.base.bytes i s.slot.static_size bytes s.slot.region.contents within (stack_long s.slot plain)))
write_seen i bytes s new reply false plain past is =
    let W : StackState × Reply → Type 0 = λ p. WritesBytes (seen_stack s).size i (length bytes) (stack_written i bytes (seen_stack s)) (seen_stack s) (seen_stack p.0) p.1 in
    subst W (sym is) (refl, leb-false (i + length bytes) s.slot.static_size past, refl)

pub state_op_seen : (op : MemoryOp) (s new : StackState) (reply : Reply) → IsPlain s.slot → StackStateMoves op s new reply → StackMoves op (seen_stack s) (seen_stack new) reply
state_op_seen (reads i len) s new reply plain is = (is.0, ap seen_stack is.1)
state_op_seen (writes i bytes) s new reply plain is = write_seen i bytes s new reply (nat_le (i + length bytes) s.slot.static_size) plain refl is
state_op_seen (fills i len byte) s new reply plain is = write_seen i (replicate len byte) s new reply (nat_le (i + length (replicate len byte)) s.slot.static_size) plain refl is
state_op_seen (grows pages) s new reply plain is = (is.0, ap seen_stack is.1)
state_op_seen asks_size s new reply plain is = (is.0, ap seen_stack is.1)

pub stack_op_seen : (op : MemoryOp) (l new : LeasedStack) (reply : Reply) → IsPlain l.stack.slot → StackLeaseMoves op l new reply → StackMoves op (private_stack l) (private_stack new) reply
stack_op_seen op l new reply plain is = state_op_seen op l.stack new.stack reply plain is.0

-- It lies where it lay, and can be used still.
pub record StaysStack (s new : StackState) : Type 0 where
  pub index : new.index ≡ s.index
  pub zeroing : new.zeroing ≡ s.zeroing
  pub slot : identity new.slot ≡ identity s.slot
  pub plain : IsPlain new.slot

as_it_was : (s new : StackState) → IsPlain s.slot → new ≡ s → StaysStack s new
as_it_was s new plain is = subst (StaysStack s) (sym is) (record { index = refl; zeroing = refl; slot = refl; plain = plain })

write_stays : (i : ℕ) (bytes : List ℕ) (s new : StackState) (reply : Reply) (b : Bool) → IsPlain s.slot → nat_le (i + length bytes) s.slot.static_size ≡ b → ◌≡◌ {A = StackState × Reply} (new, reply) (after_write i bytes s b) → StaysStack s new
write_stays i bytes s new reply true plain fits is =
    let slot : Slot = s.slot in
    let within : i + length bytes ≤ slot.accessible.bytes = omega (arith, leb-true (i + length bytes) slot.static_size fits, plain.all) in
    let one : identity (plain_written i bytes slot) ≡ identity slot = ap (λ (b : Bool). record (identity slot) { tells = b }) (told_same (written (slot.base.bytes + i) bytes) slot.region.contents) in
    let K : StackState × Reply → Type 0 = λ p. StaysStack s p.0 in
    subst K (sym is) (record { index = refl; zeroing = refl; slot = one; plain = plain_after i bytes slot plain within })
write_stays i bytes s new reply false plain past is = as_it_was s new plain (ap (λ (p : StackState × Reply). p.0) is)

pub state_op_stays : (op : MemoryOp) (s new : StackState) (reply : Reply) → IsPlain s.slot → StackStateMoves op s new reply → StaysStack s new
state_op_stays (reads i len) s new reply plain is = as_it_was s new plain is.1
state_op_stays (writes i bytes) s new reply plain is = write_stays i bytes s new reply (nat_le (i + length bytes) s.slot.static_size) plain refl is
state_op_stays (fills i len byte) s new reply plain is = write_stays i (replicate len byte) s new reply (nat_le (i + length (replicate len byte)) s.slot.static_size) plain refl is
state_op_stays (grows pages) s new reply plain is = as_it_was s new plain is.1
state_op_stays asks_size s new reply plain is = as_it_was s new plain is.1

-- It is still a lease of the pool.
module _ (maker : MakerTold) (s : Settings) (plan : Plan) where
  pub stack_op_keeps : (op : MemoryOp) (l new : LeasedStack) (reply : Reply) → IsStackLease maker s plan l → StackLeaseMoves op l new reply → IsStackLease maker s plan new
  stack_op_keeps op l new reply of is =
      let stays = state_op_stays op l.stack new.stack reply of.plain is.0 in
      let At : ℕ → Type 0 = λ i. IsPoolStack maker s i new.stack.slot in
      record { inside = omega (arith, of.inside, stays.index); slot = subst At (sym stays.index) (record { same = stays.slot ∙ of.slot.same }); plain = stays.plain; zeroing = stays.zeroing ∙ of.zeroing }

  -- what its party sees is told where the maker tells
  mapped_told : {X Y : Type 0} (f : X → Y) (o : Option X) → is_some (option_map f o) ≡ is_some o
  mapped_told f None = refl
  mapped_told f (Some x) = refl

  pub stack_told : (l : LeasedStack) → IsStackLease maker s plan l → is_some (stack_bytes l.stack.slot) ≡ maker.tells
  stack_told l of = mapped_told _ l.stack.slot.region.contents ∙ ap (λ (z : SlotIdentity). z.tells) of.slot.same ∙ told_if maker.tells _

  writes_agree : (i : ℕ) (bytes : List ℕ) (x new other : StackState) (r q : Reply) → StackStateWrites i bytes x new r → StackStateWrites i bytes x other q → (new ≡ other) × (r ≡ q)
  writes_agree i bytes x new other r q one two =
      let both : (new, r) ≡ (other, q) = one ∙ sym two in
      (ap (λ (p : StackState × Reply). p.0) both, ap (λ (p : StackState × Reply). p.1) both)

  -- Each operation on it: both times the same, or one reply is that there was no memory for it.
  abbrev Wants : Reply → Reply → Type 0
  Wants r q = ((r ≡ want_of_memory) × (q ≢ want_of_memory)) ⊎ ((q ≡ want_of_memory) × (r ≢ want_of_memory))

  state_op_same : (op : MemoryOp) (x new other : StackState) (r q : Reply) → is_some (stack_bytes x.slot) ≡ true → StackStateMoves op x new r → StackStateMoves op x other q → ((new ≡ other) × (r ≡ q)) ⊎ Wants r q
  state_op_same (reads i len) x new other r q told one two = looks_same (seen_stack x).size (seen_stack x).bytes i len x new other r q told one two
  state_op_same (writes i bytes) x new other r q told one two = inl (writes_agree i bytes x new other r q one two)
  state_op_same (fills i len byte) x new other r q told one two = inl (writes_agree i (replicate len byte) x new other r q one two)
  state_op_same (grows pages) x new other r q told one two = inl (one.1 ∙ sym two.1, one.0 ∙ sym two.0)
  state_op_same asks_size x new other r q told one two = inl (one.1 ∙ sym two.1, one.0 ∙ sym two.0)

  pub stack_op_same : maker.tells ≡ true → (op : MemoryOp) (l new other : LeasedStack) (r q : Reply) → IsStackLease maker s plan l → StackLeaseMoves op l new r → StackLeaseMoves op l other q → ((new ≡ other) × (r ≡ q)) ⊎ Wants r q
  stack_op_same tells op l new other r q of one two =
      elim (state_op_same op l.stack new.stack other.stack r q (stack_told l of ∙ tells) one.0 two.0) [
        | inl same ↦ inl (one.1 ∙ ap (λ (x : StackState). record l { stack = x }) same.0 ∙ sym two.1, same.1)
        | inr wants ↦ inr wants
      ]
