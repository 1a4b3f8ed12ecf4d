-- A command on the bytes of a grant, which is taken out of its place and put back; and a command on a stack.
use Rattle.std.proofs.Common.{◌≡◌, ℕ, zero, suc, ◌+◌, ◌≤◌, true, List, [], ◌∷◌, ◌++◌, take, length, Option, Some, None, refl, sym, ap, ◌∙◌, subst, arith, IfSome, nat_le, option_map, slice_get, slice_set, slice_index_or, slice_range}
use Rattle.pool_run.proofs.Imports.{option_and_then, take-append_seam, leb-true, set-get_or, same_lists, places, GrowthRule, Contents, Slot, StackState, Lease, LeasedHeap, LeasedStack, Grant, instance, component, one_memory, one_table, stack, heap, heap_over, PlainHeap}
use Rattle.pool_run.specs.Acts.{MemoryOp}
use Rattle.pool_run.specs.AtOnce.{MovesGrantBytes, MovesOnly, MovesTakenBytes}
use Rattle.pool_run.specs.Objects.{MovesNamed, object_at, with_object}
use Rattle.pool_run.specs.PrivateStacks.{ReadsBytes}
use Rattle.pool_run.specs.Turns.{LeaseMoves, stack_bytes, StackStateMoves, StackLeaseMoves, memory_leases, stack_leases, with_stack_lease, with_lease, MovesLeasedBytes}
use Rattle.pool_run.specs.declared.reply.Reply.{Reply}
use Rattle.pool_run.specs.declared.reply.Reply.TheVariants.{Bytes, Refused}
use Rattle.pool_run.specs.declared.reply.Refusal.TheVariants.{NoSuchGrant}
use Rattle.pool_run.proofs.Named.{taken_moved, put_back}

module _ {P : Type 0} (op : MemoryOp) (rule : GrowthRule) (of k : ℕ) where
  abbrev granted_stack : LeasedStack → Grant P PlainHeap
  granted_stack l = stack l

  -- what is done to a stack is done to its grant
  grant_moved : (n : ℕ) (lease : LeasedStack) (s : StackState) (reply : Reply) (changed : Grant P PlainHeap) → changed ≡ stack (record lease { stack = s }) → MovesOnly (StackStateMoves op) n lease.stack reply s → MovesNamed (StackLeaseMoves op) (slice_get (lease ∷ []) n) (with_stack_lease k) (stack lease) reply changed
  grant_moved zero lease s reply changed now is = (record lease { stack = is.0 }, (is.1, refl), now ∙ ap (λ (x : StackState). granted_stack (record lease { stack = x })) is.2)
  grant_moved (suc n) lease s reply changed now is = (is.0, now ∙ ap (λ (x : StackState). granted_stack (record lease { stack = x })) is.1)

  -- and what is done to a heap's memory
  abbrev granted_heap : LeasedHeap PlainHeap → Lease → Grant P PlainHeap
  granted_heap lease l = heap lease l

  heap_moved : (j : ℕ) (lease : LeasedHeap PlainHeap) (memory l : Lease) (reply : Reply) (changed : Grant P PlainHeap) → changed ≡ heap lease l → MovesNamed (LeaseMoves op rule) (slice_get (memory ∷ []) j) (λ m old. m) memory reply l → MovesNamed (LeaseMoves op rule) (slice_get (memory ∷ []) j) (with_lease j) (heap lease memory) reply changed
  heap_moved (suc j) lease memory l reply changed now is = (is.0, now ∙ ap (granted_heap lease) is.1)
  heap_moved zero lease memory l reply changed now is = (is.0, is.1, now ∙ ap (granted_heap lease) is.2)

  taken_bytes : (live empty new : List (Option (Grant P PlainHeap))) (reply : Reply) (grant : Grant P PlainHeap) → slice_index_or live of None ≡ Some grant → empty ≡ slice_set live of None → MovesTakenBytes op rule of k grant empty reply new → MovesLeasedBytes op rule (Some grant) of k live reply new
  taken_bytes live empty new reply (instance lease) has taken is = taken_moved memory_leases (LeaseMoves op rule) of k live empty new reply (instance lease) has taken is
  taken_bytes live empty new reply component has taken is = taken_moved memory_leases (LeaseMoves op rule) of k live empty new reply component has taken is
  taken_bytes live empty new reply (one_table lease) has taken is = taken_moved memory_leases (LeaseMoves op rule) of k live empty new reply (one_table lease) has taken is
  taken_bytes live empty new reply (one_memory lease) has taken is = taken_moved memory_leases (LeaseMoves op rule) of k live empty new reply (one_memory lease) has taken is
  taken_bytes live empty new reply (heap lease memory) has taken is = taken_moved memory_leases (LeaseMoves op rule) of k live empty new reply (heap lease memory) has taken is
  taken_bytes live empty new reply (heap_over lease) has taken is = taken_moved memory_leases (LeaseMoves op rule) of k live empty new reply (heap_over lease) has taken is
  taken_bytes live empty new reply (stack lease) has taken is = taken_moved stack_leases (StackLeaseMoves op) of k live empty new reply (stack lease) has taken is

  pub bytes_taken : (live empty new : List (Option (Grant P PlainHeap))) (reply : Reply) (grant : Grant P PlainHeap) → slice_index_or live of None ≡ Some grant → empty ≡ slice_set live of None → MovesTakenBytes op rule of k grant empty reply new → MovesLeasedBytes op rule (slice_index_or live of None) of k live reply new
  bytes_taken live empty new reply grant has taken is =
      let M : Option (Grant P PlainHeap) → Type 0 = λ x. MovesLeasedBytes op rule x of k live reply new in
      subst M (sym has) (taken_bytes live empty new reply grant has taken is)

  -- no grant is there
  pub bytes_none : (live empty : List (Option (Grant P PlainHeap))) → slice_index_or live of None ≡ None → empty ≡ slice_set live of None → MovesLeasedBytes op rule (slice_index_or live of None) of k live (Refused NoSuchGrant) empty
  bytes_none live empty has taken =
      let M : Option (Grant P PlainHeap) → Type 0 = λ x. MovesLeasedBytes op rule x of k live (Refused NoSuchGrant) empty in
      let N : Option Lease → Type 0 = λ y. MovesNamed (LeaseMoves op rule) y (with_object memory_leases of k) live (Refused NoSuchGrant) empty in
      let same : empty ≡ live = taken ∙ ap (slice_set live of) (sym has) ∙ set-get_or live of None in
      let none : object_at memory_leases of k live ≡ None = ap (λ (x : Option (Grant P PlainHeap)). option_and_then (λ g. slice_get (memory_leases.in_grant g) k) x) has in
      subst M (sym has) (subst N (sym none) (refl, same))

  pub bytes_back : (live new : List (Option (Grant P PlainHeap))) (reply : Reply) (grant changed : Grant P PlainHeap) → new ≡ slice_set live of (Some changed) → MovesGrantBytes op rule k grant reply changed → MovesTakenBytes op rule of k grant live reply new
  bytes_back live new reply (instance lease) changed put is = put_back memory_leases (LeaseMoves op rule) of k live new reply (instance lease) changed put is
  bytes_back live new reply component changed put is = put_back memory_leases (LeaseMoves op rule) of k live new reply component changed put is
  bytes_back live new reply (one_table lease) changed put is = put_back memory_leases (LeaseMoves op rule) of k live new reply (one_table lease) changed put is
  bytes_back live new reply (one_memory lease) changed put is = put_back memory_leases (LeaseMoves op rule) of k live new reply (one_memory lease) changed put is
  bytes_back live new reply (heap lease memory) changed put is = put_back memory_leases (LeaseMoves op rule) of k live new reply (heap lease memory) changed put (heap_moved k lease memory is.0 reply changed is.1 is.2)
  bytes_back live new reply (heap_over lease) changed put is = put_back memory_leases (LeaseMoves op rule) of k live new reply (heap_over lease) changed put is
  bytes_back live new reply (stack lease) changed put is = put_back stack_leases (StackLeaseMoves op) of k live new reply (stack lease) changed put (grant_moved k lease is.0 reply changed is.1 is.2)

-- What is read of it is read of its region.
range_of : (base size at len : ℕ) (xs : List ℕ) → at + len ≤ size → slice_range (slice_range xs base (base + size)) at (at + len) ≡ slice_range xs (base + at) (base + at + len)
range_of base size at len xs inside = same_lists _ _ (grind (arith, places)) (λ k d h. grind (arith, places))

pub read_told : (base size at len : ℕ) (bytes : List ℕ) (o : Option Contents) → at + len ≤ size → IfSome o (λ c. bytes ≡ slice_range c.bytes (base + at) (base + at + len)) → IfSome (option_map (λ c. slice_range c.bytes base (base + size)) o) (λ b. bytes ≡ slice_range b at (at + len))
read_told base size at len bytes None inside is = tt
read_told base size at len bytes (Some c) inside is = is ∙ sym (range_of base size at len c.bytes inside)

-- The reply to a read of it: the bytes that were read into a list of as many.
pub stack_read : (s : Slot) (at len n m size : ℕ) (out rest bytes : List ℕ) → length out ≡ n → n ≡ len → m ≡ len → size ≡ s.static_size → true ≡ nat_le (at + len) size → IfSome s.region.contents (λ c. out ≡ slice_range c.bytes (s.base.bytes + at) (s.base.bytes + at + m)) → bytes ≡ take n (out ++ rest) → ReadsBytes s.static_size (stack_bytes s) at len (Bytes bytes)
stack_read s at len n m size out rest bytes long whole same sized inside told is =
    let within : at + len ≤ s.static_size = omega (arith, leb-true (at + len) size (sym inside), sized) in
    let all : bytes ≡ out = is ∙ ap (λ k. take k (out ++ rest)) (sym long) ∙ take-append_seam out rest in
    let M : ℕ → Type 0 = λ k. IfSome s.region.contents (λ c. out ≡ slice_range c.bytes (s.base.bytes + at) (s.base.bytes + at + k)) in
    let B : List ℕ → Type 0 = λ b. IfSome s.region.contents (λ c. b ≡ slice_range c.bytes (s.base.bytes + at) (s.base.bytes + at + len)) in
    (within, ap length all ∙ long ∙ whole, read_told s.base.bytes s.static_size at len bytes s.region.contents within (subst B (sym all) (subst M same told)))
