-- What the files of specs/ import from the crates below and from std, but for std's plainest words.
pub use Rattle.std.specs.Int.{div_ceil}
pub use Rattle.std.specs.List.{Any, concat, list_all, list_any, range_with_len, slice_get}
pub use Rattle.std.specs.Option.{option_and_then, option_map_or, option_or}
pub use Rattle.pool_alloc.specs.PlainModules.{ModuleAsked}
pub use Rattle.pool_alloc.specs.StepBounds.{PoolSizes, allocation_bound, bound_of, flush_bound, give_back_bound, heap_bound, instance_bound, purge_bound, release_bound, return_bound, sizes_of, steps_left}
pub use Rattle.pool_alloc.specs.Calls.{IsGrant, IsIdle, begun_call, frame_made}
pub use Rattle.pool_alloc.specs.HeapLeases.{LeasedHeap}
pub use Rattle.pool_alloc.specs.Leases.{IsUsable, Lease}
pub use Rattle.pool_alloc.specs.Made.{IsMadeCore, settings_of}
pub use Rattle.pool_alloc.specs.Modules.{HasImages}
pub use Rattle.pool_alloc.specs.MemorySteps.{refusal_of}
pub use Rattle.pool_alloc.specs.PartyTold.{PartyTold}
pub use Rattle.pool_alloc.specs.Places.{Weight, away_count, away_weight, counted_component, counted_instance, counted_object, frame_weight, kept_count, of_units, only, queued_count, region_of, right_to}
pub use Rattle.pool_alloc.specs.Refusals.{component_refused, instance_size, module_refused, type_refused}
pub use Rattle.pool_alloc.specs.Reserved.{Reserved, no_room, with_item}
pub use Rattle.pool_alloc.specs.StepTable.{no_component_left}
pub use Rattle.pool_alloc.specs.Searches.{IsSearched}
pub use Rattle.pool_alloc.specs.BetweenSteps.{AreImagesOf, IsCore, IsFrame}
pub use Rattle.pool_alloc.specs.StackLeases.{LeasedStack}
pub use Rattle.pool_alloc.specs.CallStages.{Progress, Stage, admitted, asks, counts_component, counts_heap, keys, no_call, purging, refusing, releasing, reserving, returning, seeks_heap, seeks_single, seeks_stack, stage_of, tests_component, tests_heap, uncounted, untested}
pub use Rattle.pool_alloc.specs.Stepping.{StepsTo, grant_components, grant_instances, grant_weight, is_idle}
pub use Rattle.pool_alloc.specs.StepReads.{IsModule, allocator_of, images_wanted, info_wanted, memories_wanted, memory_slots, no_module, queue_at, shard_at, stripe_allocator, tables_wanted}
pub use Rattle.pool_alloc.specs.PoolTotals.{table_calls, calls_in_frame, calls_kept, calls_of_instance, metrics_of}
pub use Rattle.pool_alloc.specs.TableLeases.{LeasedTable, LiesInRegion, element_of}
pub use Rattle.pool_alloc.specs.TableSteps.{table_bytes, table_refused}
pub use Rattle.pool_alloc.specs.Turns.{After}
pub use Rattle.pool_alloc.specs.WantedObjects.{MemoryWant, Want, new_heap, new_memory, new_stack, new_table, wants_from}
pub use Rattle.pool_alloc.specs.PoolAndHolders.{Holding, IsPartitioned}
pub use Rattle.pool_alloc.specs.declared.frame.Asked.{Asked}
pub use Rattle.pool_alloc.specs.declared.frame.Asked.TheVariants.{Heap as heap_asked, Module as module_asked}
pub use Rattle.pool_alloc.specs.declared.frame.Call.{Call}
pub use Rattle.pool_alloc.specs.declared.frame.Frame.{Frame}
pub use Rattle.pool_alloc.specs.declared.frame.Grant.{Grant}
pub use Rattle.pool_alloc.specs.declared.frame.Grant.TheVariants.{Component as component, Heap as heap, HeapOver as heap_over, Instance as instance, Memory as one_memory, Stack as stack, Table as one_table}
pub use Rattle.pool_alloc.specs.declared.frame.Outcome.{Outcome}
pub use Rattle.pool_alloc.specs.declared.pool_core.PoolCore.{PoolCore}
pub use Rattle.pool_alloc.specs.declared.pool_core.Settings.{Settings}
pub use Rattle.pool_hall.specs.declared.unit_name.SlotKind.{SlotKind}
pub use Rattle.pool_hall.specs.declared.unit_name.SlotKind.TheVariants.{Heap as heap_kind, Stack as stack_kind, Table as table_kind}
pub use Rattle.pool_images.specs.Images.{Image, ends_in_minimum, first_misplaced, images_from, makes_listed_images, start}
pub use Rattle.pool_images.specs.Slots.{Slot}
pub use Rattle.pool_index.specs.Shard.{ShardState, is_used, one_if, pick_answer, slot_number}
pub use Rattle.pool_index.specs.declared.ids.MemoryInModule.{MemoryInModule}
pub use Rattle.pool_index.specs.declared.ids.SlotId.{SlotId}
pub use Rattle.pool_limits.specs.Growing.{GrowthGiven}
pub use Rattle.pool_limits.specs.Growth.{GrowthRule, always, memory_answer, memory_failure, table_answer, table_failure}
pub use Rattle.pool_limits.specs.LimiterTold.{LimiterTold}
pub use Rattle.pool_limits.specs.declared.errors.GrowFault.{GrowFault}
pub use Rattle.pool_limits.specs.declared.errors.Trap.{Trap}
pub use Rattle.pool_limits.specs.declared.errors.Trap.TheVariants.{MemoryOutOfBounds, TableOutOfBounds}
pub use Rattle.pool_memory.specs.Growing.{FailsInPlace, InPlace, IsCallPlanned, IsGrowth, exceeds}
pub use Rattle.pool_memory.specs.Making.{limits_answer, maximum_asked, minimum_asked}
pub use Rattle.pool_memory.specs.Memories.{MemoryState, bytes_of, memory_written, slot_of}
pub use Rattle.pool_memory.specs.Static.{static_capacity}
pub use Rattle.pool_memory.specs.declared.memory_error.MemoryError.{MemoryError}
pub use Rattle.pool_pages.specs.CallSums.{added}
pub use Rattle.pool_pages.specs.Contents.{put, put_all}
pub use Rattle.pool_pages.specs.FaultPlans.{failing_maker, planned_faults}
pub use Rattle.pool_pages.specs.MakerTold.{MakerTold, Planned, calls_of, fails_making, plan_for}
pub use Rattle.pool_pages.specs.Told.{Told, overwritten}
pub use Rattle.pool_pages.specs.declared.pages.PageCalls.{PageCalls}
pub use Rattle.pool_pages.specs.declared.pages.RegionName.{RegionName}
pub use Rattle.pool_pages.specs.declared.pages.RegionName.TheVariants.{Memory as memory_region, Stack as stack_region, Table as table_region}
pub use Rattle.pool_slots.specs.HeapsTold.{HeapsTold, listed_heaps}
pub use Rattle.pool_slots.specs.PlainSlots.{StackState, plain_written}
pub use Rattle.pool_slots.specs.Plans.{has_number, home_of}
pub use Rattle.pool_slots.specs.SlotNames.{of_kind}
pub use Rattle.pool_slots.specs.declared.errors.AllocError.{AllocError}
pub use Rattle.pool_slots.specs.declared.errors.AllocError.TheVariants.{HeapFault}
pub use Rattle.pool_slots.specs.declared.errors.ConcurrencyKind.{ConcurrencyKind}
pub use Rattle.pool_slots.specs.declared.errors.ConcurrencyKind.TheVariants.{ComponentInstances, CoreInstances, Fibers, GcHeaps, MemoryStripe, Tables}
pub use Rattle.pool_slots.specs.declared.listed_heaps.ListedHeaps.{ListedHeaps}
pub use Rattle.pool_slots.specs.declared.listed_heaps.PlainHeap.{PlainHeap}
pub use Rattle.pool_slots.specs.declared.plan.Plan.{Plan}
pub use Rattle.pool_slots.specs.declared.slot_name.SlotName.{SlotName}
pub use Rattle.pool_table.specs.Elements.{Element, ElementKind, cont, continuations, empty, func, functions, gc_ref, gc_refs, type_of, width, word}
pub use Rattle.pool_table.specs.Growing.{IsTableGrowth}
pub use Rattle.pool_table.specs.Making.{kind_of, room_of}
pub use Rattle.pool_table.specs.Stores.{StoreTold, listed_store}
pub use Rattle.pool_table.specs.Tables.{type_maximum}
pub use Rattle.pool_table.specs.declared.element.VMContObj.{VMContObj}
pub use Rattle.pool_table.specs.declared.gc_store.GcTableError.{GcTableError}
pub use Rattle.pool_table.specs.declared.gc_store.ListedStore.{ListedStore}
pub use Rattle.pool_types.specs.Count.{rounded_up}
pub use Rattle.pool_types.specs.MemoryTypes.{allow_growth_to, minimum_byte_size, page_size}
pub use Rattle.pool_types.specs.Rising.{Rose, risen}
pub use Rattle.pool_types.specs.SettingsRules.{first_broken_rule, slab_stripes}
pub use Rattle.pool_types.specs.declared.bad_config.BadConfig.{BadConfig, BadConfig as BrokenRule}
pub use Rattle.pool_types.specs.declared.module_types.ComponentInfo.{ComponentInfo}
pub use Rattle.pool_types.specs.declared.module_types.ImageDecl.{ImageDecl}
pub use Rattle.pool_types.specs.declared.module_types.IndexType.TheVariants.{I32}
pub use Rattle.pool_types.specs.declared.module_types.Limits.{Limits}
pub use Rattle.pool_types.specs.declared.module_types.MemoryDecl.{MemoryDecl}
pub use Rattle.pool_types.specs.declared.module_types.MemoryType.{MemoryType}
pub use Rattle.pool_types.specs.declared.module_types.ModuleInfo.{ModuleInfo}
pub use Rattle.pool_types.specs.declared.module_types.Part.{Part}
pub use Rattle.pool_types.specs.declared.module_types.Tunables.{Tunables}
pub use Rattle.pool_types.specs.declared.offered.Offered.{Offered}
pub use Rattle.pool_types.specs.declared.table_type.TableElementType.{TableElementType}
pub use Rattle.pool_types.specs.declared.table_type.TableType.{TableType}
pub use Rattle.pool_types.specs.declared.unsupported.Unsupported.{Unsupported}
