-- What the files of proofs/ import from the crates below and from std, but for std's plainest words.
pub use Rattle.std.proofs.Math.Nat.{div-mul-le_self}
pub use Rattle.std.proofs.lemmas.Bool.{leb-false, leb-true, ltb-false, or_left}
pub use Rattle.std.proofs.lemmas.Bool.Decides.{nat_tests}
pub use Rattle.std.proofs.lemmas.List.{length-replicate, places, same_lists}
pub use Rattle.std.specs.Int.{Width, w32, w64}
pub use Rattle.std.specs.List.{filter, list_any}
pub use Rattle.pool_images.specs.Slots.{Slot, raised, raising, written_at}
pub use Rattle.pool_limits.specs.Growth.{always}
pub use Rattle.pool_limits.specs.declared.errors.GrowFault.{GrowFault}
pub use Rattle.pool_limits.specs.declared.errors.Trap.{Trap as TrapCause}
pub use Rattle.pool_limits.specs.declared.errors.Trap.TheVariants.{MemoryOutOfBounds}
pub use Rattle.pool_memory.specs.Growing.{FailsInPlace, GrowsTo, InPlace, IsCallPlanned, exceeds, grown_size}
pub use Rattle.pool_memory.specs.Layouts.{Layout, first_layout, layout_len}
pub use Rattle.pool_memory.specs.Linear.{Linear, Storage, first_bytes, in_slot, linear_bytes, slot_in, storage_written, stored}
pub use Rattle.pool_memory.specs.Making.{maximum_asked}
pub use Rattle.pool_memory.specs.Memories.{MemoryState, access_answer, bytes_of, memory_written}
pub use Rattle.pool_memory.specs.Moving.{IsMadeFor, MakingLeaves, next_name, region_for, slot_for, slot_of_region}
pub use Rattle.pool_memory.specs.declared.memory_error.MemoryError.{MemoryError}
pub use Rattle.pool_pages.proofs.Small.{first_true, mapped_some, second_true, told_if}
pub use Rattle.pool_pages.specs.Contents.{Contents, put, written}
pub use Rattle.pool_pages.specs.MakerTold.{MakerTold, Planned, calls_of, part_of, plan_for}
pub use Rattle.pool_pages.specs.Told.{Faulted, PageCall, Told}
pub use Rattle.pool_pages.specs.declared.pages.RegionName.{RegionName}
pub use Rattle.pool_run.proofs.Growths.{right_of}
pub use Rattle.pool_run.specs.Private.{GrowthEnd, PrivateMemory, as_it_was, could_not, grown_by, has_grown, left_of, memory_grown, private_written}
pub use Rattle.pool_run.specs.Turns.{seen_as}
pub use Rattle.pool_run.specs.declared.output.RunFault.{RunFault}
pub use Rattle.pool_run.specs.declared.reply.Reply.{Reply}
pub use Rattle.pool_shared.specs.Shared.{Grows as GrowsShared, GrowsBy, IsCompared, MakingBy, PagesGrow, Shared, Waits as WaitsShared, first_shared, layout_for, minimum_refusal, or_refused, refusal_in, type_refusal}
pub use Rattle.pool_shared.specs.Spot.{after_wait, is_waiting, wait_answer}
pub use Rattle.pool_shared.specs.declared.wait_fault.WaitFault.{WaitFault}
pub use Rattle.pool_shared.specs.declared.wait_step.WaitStep.{WaitStep}
pub use Rattle.pool_types.specs.Count.{IsPageSize, rounded_up}
pub use Rattle.pool_types.specs.MemoryTypes.{above, allow_growth_to, minimum_byte_size, page_size, refused_limits}
pub use Rattle.pool_types.specs.Rising.{risen}
pub use Rattle.pool_types.specs.declared.module_types.MemoryKind.TheVariants.{LinearMemory}
pub use Rattle.pool_types.specs.declared.module_types.MemoryTunables.{MemoryTunables}
pub use Rattle.pool_types.specs.declared.module_types.MemoryType.{MemoryType}
pub use Rattle.pool_types.specs.declared.module_types.Tunables.{Tunables}
pub use Rattle.pool_types.specs.declared.unsupported.Unsupported.{Unsupported}
pub use Rattle.pool_types.specs.declared.unsupported.Unsupported.TheVariants.{MinimumExceedsMaximum}
