-- What the files of specs/ import from the crates below and from std, but for std's plainest words.
pub use Rattle.std.specs.Borrow.{GName, MutBor}
pub use Rattle.std.specs.List.{AllByRecursion, list_all, list_any}
pub use Rattle.std.specs.Option.{option_map_or, option_or}
pub use Rattle.pool_hall.specs.Sum.{total}
pub use Rattle.pool_hall.specs.declared.unit_name.SlotKind.{SlotKind}
pub use Rattle.pool_hall.specs.declared.unit_name.SlotKind.TheVariants.{Heap as heap_kind, Memory as memory_kind, Stack as stack_kind, Table as table_kind}
pub use Rattle.pool_hall.specs.declared.unit_name.UnitName.{UnitName}
pub use Rattle.pool_images.specs.Images.{Image, ends_in_minimum, images_from}
pub use Rattle.pool_images.specs.Orders.{Follows, removing, replacing, resetting, resizing, wiping}
pub use Rattle.pool_images.specs.Resets.{given_marks, kept_by, left_by, reset_by, told_by_hand}
pub use Rattle.pool_images.specs.Slots.{CallFaulted, FitsInto, HasImage, IsBegun, IsClean, IsFresh, IsInUse, IsLeft, IsRangeOf, IsSized, Reads, Slot, called, forgotten, hides, identity, name_of, replaced, reused, wiped, without_image}
pub use Rattle.pool_index.specs.Freed.{taken_outside}
pub use Rattle.pool_index.specs.Shard.{ShardState, affine_answer, after_affine_pick, after_free, after_pick, after_take_warm, fresh_shard, one_if, pick_answer, resident_bytes, slot_number, taken_slots, use_of, used_count, warm_count}
pub use Rattle.pool_index.specs.declared.ids.MemoryInModule.{MemoryInModule}
pub use Rattle.pool_index.specs.declared.ids.SlotId.{SlotId}
pub use Rattle.pool_limits.specs.Exchanges.{Exchange, Exchanged, has_failed, may_grow}
pub use Rattle.pool_limits.specs.Growth.{memory_answer, table_answer}
pub use Rattle.pool_limits.specs.LimiterTold.{LimiterTold, after_answer}
pub use Rattle.pool_limits.specs.declared.errors.GrowFault.{GrowFault}
pub use Rattle.pool_limits.specs.declared.errors.LimiterError.{LimiterError}
pub use Rattle.pool_limits.specs.declared.errors.Trap.{Trap}
pub use Rattle.pool_limits.specs.declared.errors.Trap.TheVariants.{TableOutOfBounds}
pub use Rattle.pool_memory.specs.Growing.{GrowsAsking}
pub use Rattle.pool_memory.specs.Making.{fixed_in, limits_answer, maximum_asked, minimum_asked, minimum_question}
pub use Rattle.pool_memory.specs.Memories.{MemoryState, access_answer, memory_written, slot_of as image_slot_of, slot_of}
pub use Rattle.pool_memory.specs.MemoryStates.{state_of}
pub use Rattle.pool_memory.specs.Static.{CanHold, Static, made_static, static_capacity}
pub use Rattle.pool_memory.specs.declared.memory.Memory.{Memory}
pub use Rattle.pool_memory.specs.declared.memory_error.MemoryError.{MemoryError}
pub use Rattle.pool_pages.specs.CallSums.{added}
pub use Rattle.pool_pages.specs.MakerTold.{MakerTold, Planned, fresh, made_region, no_calls}
pub use Rattle.pool_pages.specs.Told.{PageCall, TellsMarks, Told, decommitting, hiding}
pub use Rattle.pool_pages.specs.declared.pages.PageCalls.{PageCalls}
pub use Rattle.pool_slots.specs.CellOf.{cell_of}
pub use Rattle.pool_slots.specs.Cells.{Cell, IsCell, IsCleanOnceUsed, IsSlotOf, all_calls, calls_in, identity_made, is_taken, previously_used, taken, unknown, unmapped}
pub use Rattle.pool_slots.specs.Colourings.{coloured_region, stripe_colour}
pub use Rattle.pool_slots.specs.HeapLists.{IsHere, IsOut, heap_in, heap_returned, heap_taken}
pub use Rattle.pool_slots.specs.HeapUnits.{heap_slot}
pub use Rattle.pool_slots.specs.HeapsTold.{HeapsTold, RaisesHeapFaults, fails_next}
pub use Rattle.pool_slots.specs.HeldSlots.{stack_item}
pub use Rattle.pool_slots.specs.ListUnits.{IsShardOf, all_away, all_kept, is_region, is_right}
pub use Rattle.pool_slots.specs.PartUnits.{part_away, part_kept, units_of_slots}
pub use Rattle.pool_slots.specs.Parts.{IsAt, IsCellPart, IsShardPart, cell_of_part, part_at}
pub use Rattle.pool_slots.specs.PartsMade.{AreMadeTo, SomeGivenUp, fails_some_slot, lists_some_making}
pub use Rattle.pool_slots.specs.PlainSlots.{IsPlain, IsUnusedFrom, StackState, stack_kept, stack_ranges, stack_zeroed, used_kept, used_left, used_marks, used_reset}
pub use Rattle.pool_slots.specs.Plans.{IsPlacedAllocator, IsPlanned, Role, allocators_of, cell_place, cell_role, has_number, have_number, heaps_role, home_of, queue_role, queue_tried as nth_queue_tried, queue_tried, queues_for, role_at, shard_role, shard_tried as nth_shard_tried}
pub use Rattle.pool_slots.specs.PlansMade.{places_planned}
pub use Rattle.pool_slots.specs.QueueMerges.{CanMerge}
pub use Rattle.pool_slots.specs.RegionCells.{CellState, IsAwaited, cell_emptied, cell_filled, cell_numbers, region_of as unit_region, right_to as unit_right}
pub use Rattle.pool_slots.specs.SlotNames.{of_kind}
pub use Rattle.pool_slots.specs.SlotOrders.{AreInOrder, run_of}
pub use Rattle.pool_slots.specs.SlotQueues.{HasOwners, IsFaulted, IsGivenBack, IsQueue, IsSpareOf, LeavesClean, Queue, Queued, after_append, after_run, after_take, calls_held, drained, empty_queue, first_of_kind, first_slot, first_zeroed, holds, is_of, is_to_zero, others_of_kind, owner, plain_slot, same_kind, taken_into, with_ranges, with_slot}
pub use Rattle.pool_slots.specs.StripedPlans.{IsStripedPlanOf, divided}
pub use Rattle.pool_slots.specs.TableSizes.{data_size}
pub use Rattle.pool_slots.specs.declared.allocation_index.MemoryAllocationIndex.{MemoryAllocationIndex}
pub use Rattle.pool_slots.specs.declared.cells.ImageSlot.{ImageSlot}
pub use Rattle.pool_slots.specs.declared.cells.ImageSlot.TheVariants.{PreviouslyUsed, Taken, Unknown, Unmapped}
pub use Rattle.pool_slots.specs.declared.errors.AllocError.{AllocError}
pub use Rattle.pool_slots.specs.declared.errors.ConcurrencyKind.{ConcurrencyKind}
pub use Rattle.pool_slots.specs.declared.errors.ConcurrencyKind.TheVariants.{CoreInstances, Fibers, GcHeaps, MemoryStripe, Tables}
pub use Rattle.pool_slots.specs.declared.errors.PoolNewError.{PoolNewError}
pub use Rattle.pool_slots.specs.declared.heap_list.HeapEntry.{HeapEntry}
pub use Rattle.pool_slots.specs.declared.heap_maker.HeapMakeFault.{HeapMakeFault}
pub use Rattle.pool_slots.specs.declared.heap_maker.HeapMakeFault.TheVariants.{HeapFault}
pub use Rattle.pool_slots.specs.declared.part.PoolPart.{PoolPart}
pub use Rattle.pool_slots.specs.declared.part_maker.PartSettings.{PartSettings}
pub use Rattle.pool_slots.specs.declared.plan.Allocator.{Allocator}
pub use Rattle.pool_slots.specs.declared.plan.Plan.{Plan}
pub use Rattle.pool_slots.specs.declared.queued_range.QueuedRange.{QueuedRange}
pub use Rattle.pool_slots.specs.declared.slot_name.OfKinds.{OfKinds}
pub use Rattle.pool_slots.specs.declared.slot_name.RegionNumbers.{RegionNumbers}
pub use Rattle.pool_slots.specs.declared.slot_name.SlotName.{SlotName}
pub use Rattle.pool_slots.specs.declared.striped_plan.StripedPlanSettings.{StripedPlanSettings}
pub use Rattle.pool_table.specs.Elements.{cont, empty, func, gc_ref, type_of, uninitialised, width}
pub use Rattle.pool_table.specs.Growing.{TableGrowsAsking}
pub use Rattle.pool_table.specs.Making.{kind_of, making_question, new_table, room_of}
pub use Rattle.pool_table.specs.Stores.{StoreCall, StoreTold, StoredFill, stored_answer}
pub use Rattle.pool_table.specs.TableStates.{IsStatic, element_type_of, table_view}
pub use Rattle.pool_table.specs.Tables.{IsRoom, IsTable, type_maximum}
pub use Rattle.pool_table.specs.Views.{FillsTable, LiesThere, TableView, in_region, state_in}
pub use Rattle.pool_table.specs.declared.gc_store.GcTableError.{GcTableError}
pub use Rattle.pool_table.specs.declared.table_error.TableError.{TableError}
pub use Rattle.pool_types.specs.Count.{IsPageSize, count, rounded_up}
pub use Rattle.pool_types.specs.MemoryTypes.{minimum_byte_size, refused_limits}
pub use Rattle.pool_types.specs.Rising.{Rose, risen}
pub use Rattle.pool_types.specs.SettingsRules.{may_use, slab_stripes}
pub use Rattle.pool_types.specs.declared.bad_config.BadConfig.{BadConfig}
pub use Rattle.pool_types.specs.declared.config.PoolingAllocationConfig.{PoolingAllocationConfig}
pub use Rattle.pool_types.specs.declared.decommit_behavior.DecommitBehavior.TheVariants.{Zero}
pub use Rattle.pool_types.specs.declared.module_types.CompiledModuleId.{CompiledModuleId}
pub use Rattle.pool_types.specs.declared.module_types.ComponentInfo.{ComponentInfo}
pub use Rattle.pool_types.specs.declared.module_types.DefinedMemoryIndex.{DefinedMemoryIndex}
pub use Rattle.pool_types.specs.declared.module_types.ImageDecl.{ImageDecl}
pub use Rattle.pool_types.specs.declared.module_types.MemoryDecl.{MemoryDecl}
pub use Rattle.pool_types.specs.declared.module_types.MemoryKind.{MemoryKind}
pub use Rattle.pool_types.specs.declared.module_types.MemoryKind.TheVariants.{GcHeap, LinearMemory}
pub use Rattle.pool_types.specs.declared.module_types.MemoryType.{MemoryType}
pub use Rattle.pool_types.specs.declared.module_types.ModuleInfo.{ModuleInfo}
pub use Rattle.pool_types.specs.declared.module_types.Part.{Part}
pub use Rattle.pool_types.specs.declared.module_types.Tunables.{Tunables}
pub use Rattle.pool_types.specs.declared.offered.Offered.{Offered}
pub use Rattle.pool_types.specs.declared.table_type.TableType.{TableType}
pub use Rattle.pool_types.specs.declared.unsupported.Unsupported.{Unsupported}
pub use Rattle.pool_types.specs.declared.unsupported.Unsupported.TheVariants.{ComponentMemories, ComponentSize, ComponentTables, ImageOffset, InstanceSize, MemoriesPerModule, MemoryExceedsSlot, MemoryShared, MemoryUnrepresentable, TableExceedsSlot, TableSize, TablesPerModule, TotalTables}
