-- What a call for an instance, a memory, a table, a stack or a heap is granted, where it is granted something.
use Rattle.std.proofs.Common.{◌≡◌, ◌<◌, ◌∙◌, ap, arith, refl, subst, sym}
use Rattle.std.specs.Prelude.{◌^◌}
use Rattle.pool_slots.specs.declared.slot_name.RegionNumbers.{RegionNumbers}
use Rattle.pool_slots.specs.declared.plan.Plan.{Plan}
use Rattle.pool_alloc.specs.Calls.{IsHeapOverOf}
use Rattle.pool_alloc.specs.HeapLeases.{LeasedHeap, memory_noted}
use Rattle.pool_alloc.specs.Leases.{Lease}
use Rattle.pool_alloc.specs.PlainModules.{MemoryAsked, ModuleAsked}
use Rattle.pool_alloc.specs.StackLeases.{LeasedStack}
use Rattle.pool_alloc.specs.TableLeases.{LeasedTable}
use Rattle.pool_alloc.specs.declared.frame.Asked.TheVariants as asked
use Rattle.pool_alloc.specs.declared.frame.Call.TheVariants as call
use Rattle.pool_alloc.specs.declared.frame.Grant.{Grant}
use Rattle.pool_alloc.specs.declared.frame.Grant.TheVariants as grant
use Rattle.pool_alloc.specs.declared.frame.Outcome.{Outcome}
use Rattle.pool_alloc.specs.declared.frame.Outcome.TheVariants.{Granted}
use Rattle.pool_alloc.specs.declared.leases.instance.InstanceLease.{InstanceLease}
use Rattle.pool_alloc.specs.declared.pool_core.Settings.{Settings}
use Rattle.pool_types.specs.declared.module_types.MemoryType.{MemoryType}
use Rattle.pool_types.specs.declared.table_type.TableType.{TableType}
use Rattle.pool_driver.specs.Refusing.{AnswersCall}
use Rattle.pool_slots.specs.declared.allocation_index.MemoryAllocationIndex.{MemoryAllocationIndex}

module _ {P H : Type 0} (s : Settings) (plan : Plan) (o : Outcome P H) where
  pub stack_alone : (x : Grant P H) → o ≡ Granted x → AnswersCall s plan call.Stack o → (lease : LeasedStack) × (x ≡ grant.Stack lease)
  stack_alone (grant.Stack lease) is answers = (lease, refl)
  stack_alone _ is answers = absurd (subst (AnswersCall s plan call.Stack) is answers)

  pub instance_alone : (m : ModuleAsked) (x : Grant P H) → o ≡ Granted x → AnswersCall s plan (call.Module m) o → (lease : InstanceLease P) × (x ≡ grant.Instance lease)
  instance_alone m (grant.Instance lease) is answers = (lease, refl)
  instance_alone m _ is answers = absurd (subst (AnswersCall s plan (call.Module m)) is answers)

  pub memory_alone : (m : MemoryAsked) (x : Grant P H) → o ≡ Granted x → AnswersCall s plan (call.Memory m) o → (lease : Lease) × (x ≡ grant.Memory lease)
  memory_alone m (grant.Memory lease) is answers = (lease, refl)
  memory_alone m _ is answers = absurd (subst (AnswersCall s plan (call.Memory m)) is answers)

  pub table_alone : (ty : TableType) (x : Grant P H) → o ≡ Granted x → AnswersCall s plan (call.Table ty) o → (lease : LeasedTable) × (x ≡ grant.Table lease)
  table_alone ty (grant.Table lease) is answers = (lease, refl)
  table_alone ty _ is answers = absurd (subst (AnswersCall s plan (call.Table ty)) is answers)

  pub heap_alone : (ty : MemoryType) (x : Grant P H) → o ≡ Granted x → AnswersCall s plan (call.Heap ty) o → (lease : LeasedHeap H) × (memory : Lease) × (x ≡ grant.Heap lease memory)
  heap_alone ty (grant.Heap lease memory) is answers = (lease, memory, refl)
  heap_alone ty _ is answers = absurd (subst (AnswersCall s plan (call.Heap ty)) is answers)

  pub over_alone : (memory : MemoryAllocationIndex) (x : Grant P H) → o ≡ Granted x → AnswersCall s plan (call.HeapOver memory) o → (lease : LeasedHeap H) × (x ≡ grant.HeapOver lease)
  over_alone memory (grant.HeapOver lease) is answers = (lease, refl)
  over_alone memory _ is answers = absurd (subst (AnswersCall s plan (call.HeapOver memory)) is answers)

-- What a heap over a memory notes is the index that was asked with.
pub over_notes : {H : Type 0} (plan : Plan) (memory : MemoryAllocationIndex) (lease : LeasedHeap H) → memory.0 < 2 ^ 32 → IsHeapOverOf plan (asked.HeapOver memory) lease → memory_noted lease ≡ memory.0
over_notes plan memory lease small of =
    let same : memory ≡ of.memory = let both : asked.HeapOver memory ≡ asked.HeapOver of.memory = of.asked_for in cc in
    let noted : lease.numbers.faults ≡ memory.0 = ap (λ (n : RegionNumbers). n.faults) of.notes ∙ ap (λ (m : MemoryAllocationIndex). m.0) (sym same) in
    omega (arith, noted, small)
