-- What the files of proofs/ import from the crates below and from std, but for std's plainest words.
pub use Rattle.std.proofs.Math.Nat.{le-div_iff_mul-le, zero-div}
pub use Rattle.std.proofs.Math.Seq.{take-length}
pub use Rattle.std.proofs.lemmas.Bool.{leb-true}
pub use Rattle.std.proofs.lemmas.List.{append_assoc, get_or-replicate, get_or_append_left, length-append, length-replicate, length-take-le, take-append-drop, take_more}
pub use Rattle.std.specs.List.{list_all}
pub use Rattle.std.specs.Option.{option_map_or}
pub use Rattle.pool_alloc.proofs.GuardPages.{guarded, guarded_plain}
pub use Rattle.pool_alloc.specs.GuardPages.{IsOpen}
pub use Rattle.pool_alloc.specs.Requests.{AreImagesOf, IsMemoryOf, IsSameRequest, if_leads, image_at, image_for, lent}
pub use Rattle.pool_alloc.specs.declared.instance_allocator.request.InstanceAllocationRequest.{InstanceAllocationRequest}
pub use Rattle.pool_images.proofs.Begun.{if_mapped, rounded_up_above}
pub use Rattle.pool_images.proofs.Making.{fresh_clean, fresh_keeps}
pub use Rattle.pool_images.proofs.Marks.{marked_above, range-zeros}
pub use Rattle.pool_images.proofs.PageSizes.{rounded_same}
pub use Rattle.pool_images.proofs.Ready.{followed}
pub use Rattle.pool_images.specs.Images.{Image, ends_in_minimum, image_of, images_from, padded}
pub use Rattle.pool_images.specs.Slots.{HasColour, IsFresh}
pub use Rattle.pool_limits.specs.Exchanges.{Exchange}
pub use Rattle.pool_limits.specs.LimiterTold.{LimiterTold, limiter_told}
pub use Rattle.pool_limits.specs.declared.errors.LimiterError.{LimiterError}
pub use Rattle.pool_memory.specs.Creators.{Design}
pub use Rattle.pool_memory.specs.Dynamic.{DynamicLeaves, ImageOf, IsDynamic, RefusesBy, dynamic_limits}
pub use Rattle.pool_memory.specs.Making.{limiter_answer, maximum_asked}
pub use Rattle.pool_memory.specs.MemoryStates.{state_of}
pub use Rattle.pool_memory.specs.declared.memory.Memory.{Memory}
pub use Rattle.pool_memory.specs.declared.memory_error.MemoryError.{MemoryError}
pub use Rattle.pool_pages.specs.Contents.{CanReach, Contents, hidden, put_all}
pub use Rattle.pool_pages.specs.MakerTold.{MakerTold, fresh}
pub use Rattle.pool_pages.specs.Told.{TellsShaped, Told, hiding, succeeded}
pub use Rattle.pool_slots.specs.PlainSlots.{IsPlain}
pub use Rattle.pool_slots.specs.SlotQueues.{plain_slot}
pub use Rattle.pool_slots.specs.declared.errors.AllocError.{AllocError}
pub use Rattle.pool_types.proofs.Multiples.{page_below, sub_whole}
pub use Rattle.pool_types.specs.Count.{Count, IsPageSize, count, rounded_up}
pub use Rattle.pool_types.specs.MemoryTypes.{allow_growth_to, minimum_byte_size}
pub use Rattle.pool_types.specs.declared.module_types.CompiledModuleId.{CompiledModuleId}
pub use Rattle.pool_types.specs.declared.module_types.DefinedMemoryIndex.{DefinedMemoryIndex}
pub use Rattle.pool_types.specs.declared.module_types.ImageDecl.{ImageDecl}
pub use Rattle.pool_types.specs.declared.module_types.MemoryDecl.{MemoryDecl}
pub use Rattle.pool_types.specs.declared.module_types.MemoryKind.{MemoryKind}
pub use Rattle.pool_types.specs.declared.module_types.MemoryKind.TheVariants.{LinearMemory}
pub use Rattle.pool_types.specs.declared.module_types.MemoryTunables.{MemoryTunables}
pub use Rattle.pool_types.specs.declared.module_types.MemoryType.{MemoryType}
pub use Rattle.pool_types.specs.declared.module_types.ModuleInfo.{ModuleInfo}
pub use Rattle.pool_types.specs.declared.table_type.TableType.{TableType}
pub use Rattle.pool_types.specs.declared.unsupported.Unsupported.{Unsupported}
pub use Rattle.pool_types.specs.declared.unsupported.Unsupported.TheVariants.{AddressSpace, MemoryMinimum, SharedOnDemand}
