-- The slots of memories, of tables, of stacks and of heaps: each kind as one of those of which a grant has some.
use Rattle.std.proofs.Common.{◌≢◌, ◌≡◌, ℕ, ◌+◌, ◌*◌, ◌<◌, ◌≤◌, List, [], ◌∷◌, length, map, Option, refl, ap, arith, sum_by}
use Rattle.pool_run.proofs.Imports.{table_taken, sum_by-cons, SlotKind, SlotName, Lease, memory_slot, slot_taken, taken_count, right_to, slot_count, both_count, leased_count, tables_count, LeasedHeap, heap_slot_taken, LeasedStack, stack_slot, stack_taken, heap_slot, RegionNumbers, PlainHeap, LeasedTable, table_slot, slot_other, region_rights, grant_stacks, grant_heaps, grant_count, grant_memories, grant_tables, Grant, instance, component, one_memory, one_table, stack, heap, heap_over}
use Rattle.pool_hall.specs.declared.unit_name.SlotKind.TheVariants as kind
use Rattle.pool_run.specs.Private.{stacks_in_grant, Grants, memories_in_grant, tables_in_grant, memories_named_in, tables_named_in}
use Rattle.pool_run.specs.Rooms.{stacks_in, stack_count, heaps_in, heaps_in_grant, heap_count, memories_in, tables_in, live_count, table_count}
use Rattle.pool_run.specs.Turns.{private_stack, stack_of, heap_of, private_memory, private_table, private_grant, leases_of, tables_of, leases_named, tables_named, grants_of}
use Rattle.pool_run.specs.Ties.{granted_to}
use Rattle.pool_run.proofs.Exhausted.{all_taken, room_for, one_free, live_told}
use Rattle.pool_run.proofs.SlotsBelow.{times_in}
use Rattle.pool_run.proofs.SlotsMade.{made_slot}

-- a slot of a kind has one number
pub memory_one : (k i : ℕ) → memory_slot k ≡ memory_slot i → k ≡ i
memory_one k i same = ap (λ (n : SlotName). n.slot) same

pub table_one : (k i : ℕ) → table_slot k ≡ table_slot i → k ≡ i
table_one k i same = ap (λ (n : SlotName). n.slot) same

pub stack_one : (k i : ℕ) → stack_slot k ≡ stack_slot i → k ≡ i
stack_one k i same = ap (λ (n : SlotName). n.slot) same

pub heap_one : (k i : ℕ) → heap_slot k ≡ heap_slot i → k ≡ i
heap_one k i same = ap (λ (n : SlotName). n.slot) same

-- no slot is of two kinds
abbrev kind_number : SlotKind → ℕ
kind_number kind.Memory = 1
kind_number kind.Table = 2
kind_number kind.Stack = 3
kind_number _ = 0

abbrev is_apart : SlotName → (ℕ → SlotName) → Type 0
is_apart name named = (i : ℕ) → name ≡ named i → ⊥

apart : (name other : SlotName) → kind_number name.kind ≢ kind_number other.kind → name ≡ other → ⊥
apart name other differ same = differ (ap (λ (n : SlotName). kind_number n.kind) same)

-- so a slot of another kind is with none of these
none_in : {L : Type 0} (named : ℕ → SlotName) (index : L → ℕ) (numbers : L → RegionNumbers) (name : SlotName) → is_apart name named → (ls : List L) → sum_by (λ l. both_count (right_to name) (named (index l)) (numbers l)) ls ≡ 0
none_in named index numbers name other [] = refl
none_in {L = L} named index numbers name other (l ∷ ls) =
    omega (
      arith,
      none_in named index numbers name other ls,
      sum_by-cons (λ (x : L). both_count (right_to name) (named (index x)) (numbers x)) l ls,
      slot_other name (named (index l)) (other (index l)),
      region_rights name (named (index l)) (numbers l),
    )

no_memories : (name : SlotName) → kind_number name.kind ≢ 1 → (ls : List Lease) → leased_count (right_to name) ls ≡ 0
no_memories name other ls = none_in memory_slot (λ (l : Lease). l.index) (λ l. l.numbers) name (λ i. apart name (memory_slot i) other) ls

no_tables : (name : SlotName) → kind_number name.kind ≢ 2 → (ls : List LeasedTable) → tables_count (right_to name) ls ≡ 0
no_tables name other ls = none_in table_slot (λ (l : LeasedTable). l.index) (λ l. l.numbers) name (λ i. apart name (table_slot i) other) ls

no_heap : (name : SlotName) → kind_number name.kind ≢ 0 → (l : LeasedHeap PlainHeap) → taken_count (right_to name) (heap_slot_taken l) ≡ 0
no_heap name other l = omega (arith, slot_other name (heap_slot l.index) (apart name (heap_slot l.index) other), region_rights name (heap_slot l.index) l.numbers)

no_memory : (name : SlotName) → kind_number name.kind ≢ 1 → (l : Lease) → taken_count (right_to name) (slot_taken l) ≡ 0
no_memory name other l = omega (arith, slot_other name (memory_slot l.index) (apart name (memory_slot l.index) other), region_rights name (memory_slot l.index) l.numbers)

no_table : (name : SlotName) → kind_number name.kind ≢ 2 → (l : LeasedTable) → taken_count (right_to name) (table_taken l) ≡ 0
no_table name other l = omega (arith, slot_other name (table_slot l.index) (apart name (table_slot l.index) other), region_rights name (table_slot l.index) l.numbers)

no_stack : (name : SlotName) → kind_number name.kind ≢ 3 → (l : LeasedStack) → taken_count (right_to name) (stack_taken l) ≡ 0
no_stack name other l = omega (arith, slot_other name (stack_slot l.stack.index) (apart name (stack_slot l.stack.index) other), region_rights name (stack_slot l.stack.index) l.numbers)

module _ {P : Type 0} where
  pub memories_counted : (k : ℕ) (g : Grant P PlainHeap) → grant_count (right_to (memory_slot k)) g ≡ times_in memory_slot memory_one (λ (l : Lease). l.index) (λ l. l.numbers) k (leases_of g)
  memories_counted k (instance lease) = omega (arith, no_tables (memory_slot k) (λ is. absurd (omega (arith, is))) lease.tables.items)
  memories_counted k component = refl
  memories_counted k (one_memory lease) = omega (arith, sum_by-cons (λ (l : Lease). both_count (right_to (memory_slot k)) (memory_slot l.index) l.numbers) lease [])
  memories_counted k (one_table lease) = no_table (memory_slot k) (λ is. absurd (omega (arith, is))) lease
  memories_counted k (stack lease) = no_stack (memory_slot k) (λ is. absurd (omega (arith, is))) lease
  memories_counted k (heap lease memory) = omega (arith, no_heap (memory_slot k) (λ is. absurd (omega (arith, is))) lease, sum_by-cons (λ (l : Lease). both_count (right_to (memory_slot k)) (memory_slot l.index) l.numbers) memory [])
  memories_counted k (heap_over lease) = no_heap (memory_slot k) (λ is. absurd (omega (arith, is))) lease

  pub tables_counted : (k : ℕ) (g : Grant P PlainHeap) → grant_count (right_to (table_slot k)) g ≡ times_in table_slot table_one (λ (l : LeasedTable). l.index) (λ l. l.numbers) k (tables_of g)
  tables_counted k (instance lease) = omega (arith, no_memories (table_slot k) (λ is. absurd (omega (arith, is))) lease.memories.items)
  tables_counted k component = refl
  tables_counted k (one_memory lease) = no_memory (table_slot k) (λ is. absurd (omega (arith, is))) lease
  tables_counted k (one_table lease) = omega (arith, sum_by-cons (λ (l : LeasedTable). both_count (right_to (table_slot k)) (table_slot l.index) l.numbers) lease [])
  tables_counted k (stack lease) = no_stack (table_slot k) (λ is. absurd (omega (arith, is))) lease
  tables_counted k (heap lease memory) = omega (arith, no_heap (table_slot k) (λ is. absurd (omega (arith, is))) lease, no_memory (table_slot k) (λ is. absurd (omega (arith, is))) memory)
  tables_counted k (heap_over lease) = no_heap (table_slot k) (λ is. absurd (omega (arith, is))) lease

  pub stacks_counted : (k : ℕ) (g : Grant P PlainHeap) → grant_count (right_to (stack_slot k)) g ≡ times_in stack_slot stack_one (λ (l : LeasedStack). l.stack.index) (λ l. l.numbers) k (stack_of g)
  stacks_counted k (instance lease) = omega (arith, no_memories (stack_slot k) (λ is. absurd (omega (arith, is))) lease.memories.items, no_tables (stack_slot k) (λ is. absurd (omega (arith, is))) lease.tables.items)
  stacks_counted k component = refl
  stacks_counted k (one_memory lease) = no_memory (stack_slot k) (λ is. absurd (omega (arith, is))) lease
  stacks_counted k (one_table lease) = no_table (stack_slot k) (λ is. absurd (omega (arith, is))) lease
  stacks_counted k (stack lease) = omega (arith, sum_by-cons (λ (l : LeasedStack). both_count (right_to (stack_slot k)) (stack_slot l.stack.index) l.numbers) lease [])
  stacks_counted k (heap lease memory) = omega (arith, no_heap (stack_slot k) (λ is. absurd (omega (arith, is))) lease, no_memory (stack_slot k) (λ is. absurd (omega (arith, is))) memory)
  stacks_counted k (heap_over lease) = no_heap (stack_slot k) (λ is. absurd (omega (arith, is))) lease

  pub heaps_counted : (k : ℕ) (g : Grant P PlainHeap) → grant_count (right_to (heap_slot k)) g ≡ times_in heap_slot heap_one (λ (l : LeasedHeap PlainHeap). l.index) (λ l. l.numbers) k (heap_of g)
  heaps_counted k (instance lease) = omega (arith, no_memories (heap_slot k) (λ is. absurd (omega (arith, is))) lease.memories.items, no_tables (heap_slot k) (λ is. absurd (omega (arith, is))) lease.tables.items)
  heaps_counted k component = refl
  heaps_counted k (one_memory lease) = no_memory (heap_slot k) (λ is. absurd (omega (arith, is))) lease
  heaps_counted k (one_table lease) = no_table (heap_slot k) (λ is. absurd (omega (arith, is))) lease
  heaps_counted k (stack lease) = no_stack (heap_slot k) (λ is. absurd (omega (arith, is))) lease
  heaps_counted k (heap lease memory) = omega (arith, no_memory (heap_slot k) (λ is. absurd (omega (arith, is))) memory, sum_by-cons (λ (l : LeasedHeap PlainHeap). both_count (right_to (heap_slot k)) (heap_slot l.index) l.numbers) lease [])
  heaps_counted k (heap_over lease) = omega (arith, sum_by-cons (λ (l : LeasedHeap PlainHeap). both_count (right_to (heap_slot k)) (heap_slot l.index) l.numbers) lease [])

  -- so many are counted
  pub memories_sized : (g : Grant P PlainHeap) → grant_memories g ≡ length (leases_of g)
  memories_sized (instance lease) = omega arith
  memories_sized component = refl
  memories_sized (one_memory lease) = refl
  memories_sized (one_table lease) = refl
  memories_sized (stack lease) = refl
  memories_sized (heap lease memory) = refl
  memories_sized (heap_over lease) = refl

  pub tables_sized : (g : Grant P PlainHeap) → grant_tables g ≡ length (tables_of g)
  tables_sized (instance lease) = omega arith
  tables_sized component = refl
  tables_sized (one_memory lease) = refl
  tables_sized (one_table lease) = refl
  tables_sized (stack lease) = refl
  tables_sized (heap lease memory) = refl
  tables_sized (heap_over lease) = refl

  pub stacks_sized : (g : Grant P PlainHeap) → grant_stacks g ≡ length (stack_of g)
  stacks_sized (instance lease) = omega arith
  stacks_sized component = refl
  stacks_sized (one_memory lease) = refl
  stacks_sized (one_table lease) = refl
  stacks_sized (stack lease) = refl
  stacks_sized (heap lease memory) = refl
  stacks_sized (heap_over lease) = refl

  pub heaps_sized : (g : Grant P PlainHeap) → grant_heaps g ≡ length (heap_of g)
  heaps_sized (instance lease) = omega arith
  heaps_sized component = refl
  heaps_sized (one_memory lease) = refl
  heaps_sized (one_table lease) = refl
  heaps_sized (stack lease) = refl
  heaps_sized (heap lease memory) = refl
  heaps_sized (heap_over lease) = refl

  -- and the party sees each
  pub memories_seen_of : (g : Grant P PlainHeap) → memories_in_grant (private_grant g) ≡ map private_memory (leases_of g)
  memories_seen_of (instance lease) = refl
  memories_seen_of component = refl
  memories_seen_of (one_memory lease) = refl
  memories_seen_of (one_table lease) = refl
  memories_seen_of (stack lease) = refl
  memories_seen_of (heap lease memory) = refl
  memories_seen_of (heap_over lease) = refl

  pub memories_named_of : (g : Grant P PlainHeap) → memories_named_in (private_grant g) ≡ map private_memory (leases_named g)
  memories_named_of (instance lease) = refl
  memories_named_of component = refl
  memories_named_of (one_memory lease) = refl
  memories_named_of (one_table lease) = refl
  memories_named_of (stack lease) = refl
  memories_named_of (heap lease memory) = refl
  memories_named_of (heap_over lease) = refl

  pub tables_seen_of : (g : Grant P PlainHeap) → tables_in_grant (private_grant g) ≡ map private_table (tables_of g)
  tables_seen_of (instance lease) = refl
  tables_seen_of component = refl
  tables_seen_of (one_memory lease) = refl
  tables_seen_of (one_table lease) = refl
  tables_seen_of (stack lease) = refl
  tables_seen_of (heap lease memory) = refl
  tables_seen_of (heap_over lease) = refl

  pub tables_named_of : (g : Grant P PlainHeap) → tables_named_in (private_grant g) ≡ map private_table (tables_named g)
  tables_named_of (instance lease) = refl
  tables_named_of component = refl
  tables_named_of (one_memory lease) = refl
  tables_named_of (one_table lease) = refl
  tables_named_of (stack lease) = refl
  tables_named_of (heap lease memory) = refl
  tables_named_of (heap_over lease) = refl

  pub stacks_seen_of : (g : Grant P PlainHeap) → stacks_in_grant (private_grant g) ≡ map private_stack (stack_of g)
  stacks_seen_of (instance lease) = refl
  stacks_seen_of component = refl
  stacks_seen_of (one_memory lease) = refl
  stacks_seen_of (one_table lease) = refl
  stacks_seen_of (stack lease) = refl
  stacks_seen_of (heap lease memory) = refl
  stacks_seen_of (heap_over lease) = refl

  pub heaps_seen_of : (g : Grant P PlainHeap) → heaps_in_grant (private_grant g) ≡ map (λ l. l.index) (heap_of g)
  heaps_seen_of (instance lease) = refl
  heaps_seen_of component = refl
  heaps_seen_of (one_memory lease) = refl
  heaps_seen_of (one_table lease) = refl
  heaps_seen_of (stack lease) = refl
  heaps_seen_of (heap lease memory) = refl
  heaps_seen_of (heap_over lease) = refl

  -- Where so many memory slots are with this grant and the live ones, there are no more of them than they have.
  pub memories_taken : (s step total : ℕ) (g : Grant P PlainHeap) (live : List (Option (Grant P PlainHeap))) → 0 < step → ((j : ℕ) → j < total → 1 ≤ grant_count (right_to (memory_slot (s + j * step))) g + sum_by (granted_to (grant_count (right_to (memory_slot (s + j * step))))) live) → total ≤ length (leases_of g) + sum_by (granted_to grant_memories) live
  memories_taken s step total g live some all = all_taken memory_slot memory_one (λ (l : Lease). l.index) (λ l. l.numbers) leases_of memories_counted grant_memories memories_sized s step total g live some all

  pub tables_taken : (s step total : ℕ) (g : Grant P PlainHeap) (live : List (Option (Grant P PlainHeap))) → 0 < step → ((j : ℕ) → j < total → 1 ≤ grant_count (right_to (table_slot (s + j * step))) g + sum_by (granted_to (grant_count (right_to (table_slot (s + j * step))))) live) → total ≤ length (tables_of g) + sum_by (granted_to grant_tables) live
  tables_taken s step total g live some all = all_taken table_slot table_one (λ (l : LeasedTable). l.index) (λ l. l.numbers) tables_of tables_counted grant_tables tables_sized s step total g live some all

  pub stacks_taken : (s step total : ℕ) (g : Grant P PlainHeap) (live : List (Option (Grant P PlainHeap))) → 0 < step → ((j : ℕ) → j < total → 1 ≤ grant_count (right_to (stack_slot (s + j * step))) g + sum_by (granted_to (grant_count (right_to (stack_slot (s + j * step))))) live) → total ≤ length (stack_of g) + sum_by (granted_to grant_stacks) live
  stacks_taken s step total g live some all = all_taken stack_slot stack_one (λ (l : LeasedStack). l.stack.index) (λ l. l.numbers) stack_of stacks_counted grant_stacks stacks_sized s step total g live some all

  pub heaps_taken : (s step total : ℕ) (g : Grant P PlainHeap) (live : List (Option (Grant P PlainHeap))) → 0 < step → ((j : ℕ) → j < total → 1 ≤ grant_count (right_to (heap_slot (s + j * step))) g + sum_by (granted_to (grant_count (right_to (heap_slot (s + j * step))))) live) → total ≤ length (heap_of g) + sum_by (granted_to grant_heaps) live
  heaps_taken s step total g live some all = all_taken heap_slot heap_one (λ (l : LeasedHeap PlainHeap). l.index) (λ l. l.numbers) heap_of heaps_counted grant_heaps heaps_sized s step total g live some all

  -- There is room for a grant and live grants that are apart.
  pub memories_room : (total : ℕ) (g : Grant P PlainHeap) (live : List (Option (Grant P PlainHeap))) → ((k : ℕ) → grant_count (right_to (memory_slot k)) g + sum_by (granted_to (grant_count (right_to (memory_slot k)))) live ≤ made_slot k total) → length (leases_of g) + sum_by (granted_to grant_memories) live ≤ total
  memories_room total g live apart = room_for memory_slot memory_one (λ (l : Lease). l.index) (λ l. l.numbers) leases_of memories_counted grant_memories memories_sized total g live apart

  pub tables_room : (total : ℕ) (g : Grant P PlainHeap) (live : List (Option (Grant P PlainHeap))) → ((k : ℕ) → grant_count (right_to (table_slot k)) g + sum_by (granted_to (grant_count (right_to (table_slot k)))) live ≤ made_slot k total) → length (tables_of g) + sum_by (granted_to grant_tables) live ≤ total
  tables_room total g live apart = room_for table_slot table_one (λ (l : LeasedTable). l.index) (λ l. l.numbers) tables_of tables_counted grant_tables tables_sized total g live apart

  pub stacks_room : (total : ℕ) (g : Grant P PlainHeap) (live : List (Option (Grant P PlainHeap))) → ((k : ℕ) → grant_count (right_to (stack_slot k)) g + sum_by (granted_to (grant_count (right_to (stack_slot k)))) live ≤ made_slot k total) → length (stack_of g) + sum_by (granted_to grant_stacks) live ≤ total
  stacks_room total g live apart = room_for stack_slot stack_one (λ (l : LeasedStack). l.stack.index) (λ l. l.numbers) stack_of stacks_counted grant_stacks stacks_sized total g live apart

  pub heaps_room : (total : ℕ) (g : Grant P PlainHeap) (live : List (Option (Grant P PlainHeap))) → ((k : ℕ) → grant_count (right_to (heap_slot k)) g + sum_by (granted_to (grant_count (right_to (heap_slot k)))) live ≤ made_slot k total) → length (heap_of g) + sum_by (granted_to grant_heaps) live ≤ total
  heaps_room total g live apart = room_for heap_slot heap_one (λ (l : LeasedHeap PlainHeap). l.index) (λ l. l.numbers) heap_of heaps_counted grant_heaps heaps_sized total g live apart

  -- One more memory slot is with a call: there are more than the live grants have.
  pub memory_free : (total slot : ℕ) (live : List (Option (Grant P PlainHeap))) → ((k : ℕ) → slot_count (right_to (memory_slot k)) (memory_slot slot) + sum_by (granted_to (grant_count (right_to (memory_slot k)))) live ≤ made_slot k total) → slot < total → sum_by (granted_to grant_memories) live < total
  memory_free total slot live apart inside = one_free memory_slot memory_one (λ (l : Lease). l.index) (λ l. l.numbers) leases_of memories_counted grant_memories memories_sized total slot live apart inside

  -- what the party sees is live
  pub memories_told : (live : List (Option (Grant P PlainHeap))) (told : Grants) → grants_of live ≡ told → live_count told ≡ sum_by (granted_to grant_memories) live
  memories_told live told is = live_told memory_slot memory_one (λ (l : Lease). l.index) (λ l. l.numbers) leases_of memories_counted grant_memories memories_sized private_memory memories_in_grant memories_in memories_seen_of refl (λ x. refl) live told is

  pub tables_told : (live : List (Option (Grant P PlainHeap))) (told : Grants) → grants_of live ≡ told → table_count told ≡ sum_by (granted_to grant_tables) live
  tables_told live told is = live_told table_slot table_one (λ (l : LeasedTable). l.index) (λ l. l.numbers) tables_of tables_counted grant_tables tables_sized private_table tables_in_grant tables_in tables_seen_of refl (λ x. refl) live told is

  pub stacks_told : (live : List (Option (Grant P PlainHeap))) (told : Grants) → grants_of live ≡ told → stack_count told ≡ sum_by (granted_to grant_stacks) live
  stacks_told live told is = live_told stack_slot stack_one (λ (l : LeasedStack). l.stack.index) (λ l. l.numbers) stack_of stacks_counted grant_stacks stacks_sized private_stack stacks_in_grant stacks_in stacks_seen_of refl (λ x. refl) live told is

  pub heaps_told : (live : List (Option (Grant P PlainHeap))) (told : Grants) → grants_of live ≡ told → heap_count told ≡ sum_by (granted_to grant_heaps) live
  heaps_told live told is = live_told heap_slot heap_one (λ (l : LeasedHeap PlainHeap). l.index) (λ l. l.numbers) heap_of heaps_counted grant_heaps heaps_sized (λ l. l.index) heaps_in_grant heaps_in heaps_seen_of refl (λ x. refl) live told is
