-- What the files of specs/ import from the crates below and from std, but for std's plainest words.
pub use Rattle.std.specs.List.{AllByRecursion, list_all, list_any}
pub use Rattle.std.specs.Option.{option_map_or, option_or}
pub use Rattle.pool_alloc.specs.PlainModules.{ModuleAsked}
pub use Rattle.pool_alloc.specs.Refusals.{first_refused, offset_refused}
pub use Rattle.pool_alloc.specs.Requests.{IsModule}
pub use Rattle.pool_alloc.specs.TableLeases.{HasType}
pub use Rattle.pool_alloc.specs.WantedObjects.{MemoryWant, Want, new_heap, new_memory, new_stack, new_table}
pub use Rattle.pool_images.specs.Images.{Image, start}
pub use Rattle.pool_images.specs.Slots.{Slot}
pub use Rattle.pool_index.specs.Shard.{one_if}
pub use Rattle.pool_limits.specs.Growing.{GrowthGiven}
pub use Rattle.pool_limits.specs.Growth.{GrowthRule, memory_answer, table_answer}
pub use Rattle.pool_limits.specs.LimiterTold.{LimiterTold}
pub use Rattle.pool_limits.specs.declared.errors.GrowFault.{GrowFault}
pub use Rattle.pool_memory.specs.Creators.{Design, IsSameMaker, default_design, default_refusal}
pub use Rattle.pool_memory.specs.Growing.{GrowthLeavesMaker, IsGrowth, grown_size, obstacles}
pub use Rattle.pool_memory.specs.Layouts.{Layout, first_layout, layout_len, layout_of, moved_layout}
pub use Rattle.pool_memory.specs.Linear.{Storage, in_slot, stored}
pub use Rattle.pool_memory.specs.Making.{maximum_asked, minimum_asked}
pub use Rattle.pool_memory.specs.Mapped.{extra_on_growth}
pub use Rattle.pool_memory.specs.Memories.{MemoryState, bytes_of}
pub use Rattle.pool_memory.specs.MemoryStates.{state_of}
pub use Rattle.pool_on_demand.specs.Answers.{no_slot}
pub use Rattle.pool_on_demand.specs.Refusals.{memory_refused, module_refused, table_refused, type_refused}
pub use Rattle.pool_on_demand.specs.declared.lease.OnDemandHeap.{OnDemandHeap}
pub use Rattle.pool_on_demand.specs.declared.lease.OnDemandInstance.{OnDemandInstance}
pub use Rattle.pool_on_demand.specs.declared.lease.OnDemandMemory.{OnDemandMemory}
pub use Rattle.pool_on_demand.specs.declared.lease.OnDemandTable.{OnDemandTable}
pub use Rattle.pool_on_demand.specs.declared.on_demand.OnDemandInstanceAllocator.{OnDemandInstanceAllocator}
pub use Rattle.pool_pages.specs.FaultPlans.{planned_faults}
pub use Rattle.pool_pages.specs.MakerTold.{MakerTold, Planned, no_calls, on_images, on_region, same_name}
pub use Rattle.pool_pages.specs.declared.pages.RegionName.TheVariants.{OnDemand}
pub use Rattle.pool_run.specs.Acts.{Act, MemoryOp, TableOp, Wanted, a_component, a_heap, a_stack, act_of, an_instance, drops, grows, heap_type, lengthens, on_memory, on_table, purges, releases, requests}
pub use Rattle.pool_run.specs.Folds.{commands_of, replies_to}
pub use Rattle.pool_run.specs.GrowthEnds.{GrowthEnd, has_grown}
pub use Rattle.pool_run.specs.HeapFaults.{FewHeapFaults}
pub use Rattle.pool_run.specs.Objects.{MovesNamed, MovesObject, Objects}
pub use Rattle.pool_run.specs.PartyRules.{host_of}
pub use Rattle.pool_run.specs.Private.{CountsRefused, Drops, Grants, MemoryMoves, OnGrants, PrivateGrant, PrivateInstance, PrivateMemory, PrivateState, Request, Terms, begun_instance, begun_memory, component_grant, grant_at, growth, heap_grant, heap_memory, images_of, instance_grant, memories_named_in, module_of, no_grants, private_memories, private_stacks, put_memory, put_stack, put_table, request_of, size_wanted, stack_grant, table_at, tables_named_in, wants_of, with_grants, with_table}
pub use Rattle.pool_run.specs.PrivateStacks.{BeginsStack, PrivateStack, StackMoves}
pub use Rattle.pool_run.specs.PrivateTables.{Host, PrivateTable, StoredTable, TableMoves, goes_through, table_growth}
pub use Rattle.pool_run.specs.Rooms.{World, open_host, under}
pub use Rattle.pool_run.specs.Runs.{images_listed, with_faults, world_of}
pub use Rattle.pool_run.specs.RunsMade.{commands_in}
pub use Rattle.pool_run.specs.Schedules.{turns_of}
pub use Rattle.pool_run.specs.Turns.{seen_stack}
pub use Rattle.pool_run.specs.Worlds.{NameModules}
pub use Rattle.pool_run.specs.declared.command.Command.{Command}
pub use Rattle.pool_run.specs.declared.input.Input.{Input}
pub use Rattle.pool_run.specs.declared.output.RunOutput.{RunOutput}
pub use Rattle.pool_run.specs.declared.reply.Refusal.TheVariants.{Alloc}
pub use Rattle.pool_run.specs.declared.reply.Reply.{Reply}
pub use Rattle.pool_run.specs.declared.reply.Reply.TheVariants.{Component, Grown, Heap, Instance, Purged, Refused, Released, Stack}
pub use Rattle.pool_slots.specs.declared.errors.AllocError.{AllocError}
pub use Rattle.pool_slots.specs.declared.errors.AllocError.TheVariants.{PageFault}
pub use Rattle.pool_slots.specs.declared.listed_heaps.ListedHeaps.{ListedHeaps}
pub use Rattle.pool_slots.specs.declared.listed_heaps.PlainHeap.{PlainHeap}
pub use Rattle.pool_table.specs.Elements.{empty}
pub use Rattle.pool_table.specs.Growing.{IsTableGrowth}
pub use Rattle.pool_table.specs.Making.{kind_of}
pub use Rattle.pool_table.specs.TableStates.{table_view}
pub use Rattle.pool_table.specs.Tables.{type_maximum}
pub use Rattle.pool_table.specs.Views.{TableView}
pub use Rattle.pool_table.specs.declared.gc_store.ListedStore.{ListedStore}
pub use Rattle.pool_types.specs.Count.{rounded_up}
pub use Rattle.pool_types.specs.MemoryTypes.{memory_may_move, minimum_byte_size, page_size}
pub use Rattle.pool_types.specs.Rising.{Rose, risen}
pub use Rattle.pool_types.specs.declared.module_types.MemoryKind.TheVariants.{GcHeap, LinearMemory}
pub use Rattle.pool_types.specs.declared.module_types.MemoryTunables.{MemoryTunables}
pub use Rattle.pool_types.specs.declared.module_types.MemoryType.{MemoryType}
pub use Rattle.pool_types.specs.declared.module_types.ModuleInfo.{ModuleInfo}
pub use Rattle.pool_types.specs.declared.module_types.Tunables.{Tunables}
pub use Rattle.pool_types.specs.declared.table_type.TableType.{TableType}
pub use Rattle.pool_types.specs.declared.unsupported.Unsupported.{Unsupported}
