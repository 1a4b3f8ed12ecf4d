-- What the code makes of a command, as an act, and of the answers of a memory or a table, as replies.
use Rattle.std.specs.Prelude.{◌≡◌, ℕ, List, [], ◌∷◌, slice_get, slice_set, Option, Some, Result, Ok, Err}
use Rattle.pool_run.specs.Imports.{GrowthRule, GrowthGiven, LimiterTold, GrowFault, Trap, IsGrowth, StackState, PlainHeap, IsTableGrowth, StoreTold, listed_store, ListedStore, GcTableError, Lease, IsUsable, LeasedTable, LiesInRegion, Grant, stack, heap}
use Rattle.pool_limits.specs.declared.errors.GrowFault.TheVariants as fault
use Rattle.pool_slots.specs.declared.errors.AllocError.TheVariants as alloc
use Rattle.pool_table.specs.declared.gc_store.GcTableError.TheVariants as failed
use Rattle.pool_alloc.specs.declared.leases.element.Element.{Element}
use Rattle.pool_run.specs.Acts.{MemoryOp, reads, writes, fills, grows, asks_size, TableOp, gets, sets, lengthens, asks_length, Act, requests, on_memory, on_table, drops, purges, releases, Wanted, an_instance, a_component, a_stack, a_heap}
use Rattle.pool_run.specs.Objects.{MovesNamed}
use Rattle.pool_run.specs.Turns.{LeaseMoves, StackStateMoves, StackLeaseMoves, leases_named, with_lease, with_stack_lease}
use Rattle.pool_run.specs.declared.act.MemoryOp.{MemoryOp as GivenOp}
use Rattle.pool_run.specs.declared.act.MemoryOp.TheVariants as op
use Rattle.pool_run.specs.declared.act.TableOp.{TableOp as GivenTableOp}
use Rattle.pool_run.specs.declared.act.TableOp.TheVariants as table_op
use Rattle.pool_run.specs.declared.act.Wanted.{Wanted as GivenWanted}
use Rattle.pool_run.specs.declared.act.Wanted.TheVariants as wanted
use Rattle.pool_run.specs.declared.act.Act.{Act as GivenAct}
use Rattle.pool_run.specs.declared.act.Act.TheVariants as act
use Rattle.pool_run.specs.declared.reply.Reply.{Reply}
use Rattle.pool_run.specs.declared.reply.Reply.TheVariants.{Done, Grown, Element as told_element, Refused, Trap as trapped}
use Rattle.pool_run.specs.declared.reply.Refusal.TheVariants.{GcStoreFault, Alloc}

-- The code's operation on a memory, as an act has it.
abbrev pub given_op : GivenOp → MemoryOp
given_op (op.Read at len) = reads at len
given_op (op.Write at bytes) = writes at bytes.now
given_op (op.Fill at len byte) = fills at len byte
given_op (op.Grow pages) = grows pages
given_op op.Size = asks_size

-- The code's operation on a table, as an act has it.
abbrev pub given_table_op : GivenTableOp → TableOp
given_table_op (table_op.Get at) = gets at
given_table_op (table_op.Set at value len) = sets at len value
given_table_op (table_op.Grow by) = lengthens by
given_table_op table_op.Size = asks_length

-- What the code's request is for, as an act has it.
abbrev pub given_wanted : GivenWanted → Wanted
given_wanted (wanted.Instance number) = an_instance number
given_wanted (wanted.Component info) = a_component info
given_wanted wanted.Stack = a_stack
given_wanted (wanted.Heap limits) = a_heap limits

-- The code's act, as the one that a command is.
abbrev pub given_act : GivenAct → Act
given_act (act.Request wanted) = requests (given_wanted wanted)
given_act (act.OnMemory of k by) = on_memory of k (given_op by)
given_act (act.OnTable of k by) = on_table of k (given_table_op by)
given_act (act.Drop of) = drops of
given_act (act.Purge number) = purges number
given_act act.Release = releases

-- The reply to a write with this answer.
abbrev pub write_reply : Result (Unit {0}) Trap → Reply
write_reply (Ok u) = Done
write_reply (Err trap) = trapped trap

-- The reply to a growth: the old size, that it didn't grow, or the refusal of a fault.
abbrev pub growth_reply : Result (Option ℕ) GrowFault → Reply
growth_reply (Ok size) = Grown size
growth_reply (Err fault.Memory) = Refused (Alloc alloc.Memory)
growth_reply (Err (fault.LimiterFault e)) = Refused (Alloc (alloc.LimiterFault e))

-- The reply to a look at an element with this answer.
abbrev pub element_reply : Result Element Trap → Reply
element_reply (Ok e) = told_element e
element_reply (Err trap) = trapped trap

-- The reply to the setting of references: done, the trap, or that the store failed.
abbrev pub fill_reply : Result (Unit {0}) GcTableError → Reply
fill_reply (Ok u) = Done
fill_reply (Err (failed.Trap trap)) = trapped trap
fill_reply (Err failed.GcStoreFault) = Refused GcStoreFault

-- what a store of a party tells
abbrev pub store_told : ListedStore → StoreTold
store_told s = listed_store s.failing s.made s.faults

-- a table that a limiter with this rule let grow, or didn't
pub record LengthensUnder (rule : GrowthRule) (by : ℕ) (l new : LeasedTable) (answer : Result (Option ℕ) GrowFault) : Type 0 where
  pub same : new ≡ record l { table = new.table }
  pub growth : (given : GrowthGiven) × (asked : LimiterTold) × (left : LimiterTold) × (asked.rule ≡ Some rule) × IsTableGrowth given by l.table new.table asked left answer
  pub region : LiesInRegion new.table

-- a lease that a limiter with this rule let grow, or didn't
pub record GrowsUnder (rule : GrowthRule) (pages : ℕ) (l new : Lease) (answer : Result (Option ℕ) GrowFault) : Type 0 where
  pub same : new ≡ record l { memory = new.memory }
  pub memory : IsUsable new.memory
  pub growth : (given : GrowthGiven) × (asked : LimiterTold) × (left : LimiterTold) × (asked.rule ≡ Some rule) × IsGrowth given pages l.memory.linear.size l.memory new.memory asked left answer

-- an operation on bytes of a stack, or of a heap's memory, which is the only one of its grant
abbrev pub MovesOnly : {X : Type 0} → (X → X → Reply → Type 0) → ℕ → X → Reply → X → Type 0
MovesOnly Move k lease reply new = MovesNamed Move (slice_get (lease ∷ []) k) (λ l old. l) lease reply new

module _ {P : Type 0} where
  -- an operation on bytes of this grant
  abbrev pub MovesGrantBytes : MemoryOp → GrowthRule → ℕ → Grant P PlainHeap → Reply → Grant P PlainHeap → Type 0
  MovesGrantBytes op rule k (stack lease) reply new = (s : StackState) × (new ≡ stack (record lease { stack = s })) × MovesOnly (StackStateMoves op) k lease.stack reply s
  MovesGrantBytes op rule k (heap lease memory) reply new = (l : Lease) × (new ≡ heap lease l) × MovesOnly (LeaseMoves op rule) k memory reply l
  MovesGrantBytes op rule k grant reply new = MovesNamed (LeaseMoves op rule) (slice_get (leases_named grant) k) (with_lease k) grant reply new

  -- An operation on bytes of a grant that was taken out of its place and is put back.
  abbrev pub MovesTakenBytes : MemoryOp → GrowthRule → ℕ → ℕ → Grant P PlainHeap → List (Option (Grant P PlainHeap)) → Reply → List (Option (Grant P PlainHeap)) → Type 0
  MovesTakenBytes op rule of k (stack lease) live reply new =
      MovesNamed (StackLeaseMoves op) (slice_get (lease ∷ []) k) (λ l at. slice_set at of (Some (with_stack_lease k l (stack lease)))) (slice_set live of (Some (stack lease))) reply new
  MovesTakenBytes op rule of k grant live reply new = MovesNamed (LeaseMoves op rule) (slice_get (leases_named grant) k) (λ l at. slice_set at of (Some (with_lease k l grant))) (slice_set live of (Some grant)) reply new
