-- The list of heaps as it is made.
use Rattle.std.proofs.Common.{◌≡◌, ℕ, ◌^◌, ◌<◌, Bool, true, false, List, Option, None, sym, subst, replicate, slice_index_or, arith, IfSome}
use Rattle.pool_index.proofs.Tables.{get_or-replicate-any}
use Rattle.pool_slots.specs.HeapLists.{heap_of, noted_by, heaps_made, IsSoundHeapList}
use Rattle.pool_slots.specs.declared.heap_list.HeapEntry.{HeapEntry}
use Rattle.pool_slots.specs.declared.heap_list.HeapEntry.TheVariants as entry

made_sound : (H : Type 0) (attached : H → Bool) (total : ℕ) → IsSoundHeapList H attached (heaps_made total)
made_sound H attached total = record {
  detached = λ slot. subst (λ (e : HeapEntry H). IfSome (heap_of e) (λ heap. attached heap ≡ false)) (sym (get_or-replicate-any total slot (entry.Here None))) _;
  noted = λ slot. subst (λ (e : HeapEntry H). (noted_by e).0 < 2 ^ 32) (sym (get_or-replicate-any total slot (entry.Here None))) (omega arith);
}

pub sound_as_made : (H : Type 0) (attached : H → Bool) (total : ℕ) (entries : List (HeapEntry H)) → entries ≡ heaps_made total → IsSoundHeapList H attached entries
sound_as_made H attached total entries is = subst (IsSoundHeapList H attached) (sym is) (made_sound H attached total)
