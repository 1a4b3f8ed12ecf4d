-- What the files of proofs/ import from the crates below and from std, but for std's plainest words.
pub use Rattle.std.proofs.Math.Nat.{div-eq_of_lt, min-eq_left, min-eq_right}
pub use Rattle.std.proofs.lemmas.Bool.{and_from, and_parts, cases_eq, cases_lt, leb-true, lt-ltb, ltb-false, ltb-true, or_from}
pub use Rattle.std.proofs.lemmas.Bool.Decides.{nat_tests}
pub use Rattle.std.proofs.lemmas.Grind.{get_or-set_at}
pub use Rattle.std.proofs.lemmas.List.{get_or-append-add, get_or-map, get_or-set_other, get_or-set_same, get_or_append_left, length-append, length-map, length-replicate, length-set, map-set, places, replicate_more, same_lists, set-get_or, set-set}
pub use Rattle.std.proofs.lemmas.List.Elements.{All-cons, All-get_or, All-head, All-nil, All-set}
pub use Rattle.std.proofs.lemmas.List.Folds.{sum_by-replicate}
pub use Rattle.std.proofs.lemmas.List.Sums.{count_by-le-length, get_or-le-sum_by, sum_by-append, sum_by-cons, sum_by-set}
pub use Rattle.std.proofs.lemmas.Nat.{pow_pos}
pub use Rattle.std.proofs.lemmas.Option.{get_or_from_slice_get, slice_get-get_or, slice_get-map, slice_get_read, slice_get_within}
pub use Rattle.std.specs.Arc.{arc_value}
pub use Rattle.std.specs.List.{AllByRecursion, cons_option, list_all, list_any}
pub use Rattle.std.specs.Option.{option_and_then, option_map_or, option_or}
pub use Rattle.pool_alloc.specs.GuardPages.{guarding}
pub use Rattle.pool_alloc.specs.PlainModules.{ModuleAsked}
pub use Rattle.pool_alloc.specs.Refusals.{first_refused, offset_refused}
pub use Rattle.pool_alloc.specs.Requests.{IsModule, if_leads, image_at, lent, refused_by}
pub use Rattle.pool_alloc.specs.Reserved.{Reserved, with_item}
pub use Rattle.pool_alloc.specs.StepReads.{no_module}
pub use Rattle.pool_alloc.specs.TableLeases.{HasType, IsElementAt, IsSet, LeasedTable, element_of}
pub use Rattle.pool_alloc.specs.WantedObjects.{MemoryWant, Want, new_heap, new_memory, new_stack, new_table, wants_from}
pub use Rattle.pool_alloc.specs.declared.leases.element.Element.{Element}
pub use Rattle.pool_images.proofs.Begun.{rounded_up_above}
pub use Rattle.pool_images.specs.Images.{Image, ends_in_minimum, first_misplaced, images_from, start}
pub use Rattle.pool_images.specs.Slots.{Slot, SlotIdentity, identity, limited, raised, raising}
pub use Rattle.pool_index.proofs.Ones.{one_at_most}
pub use Rattle.pool_index.specs.Shard.{one_if}
pub use Rattle.pool_limits.specs.Exchanges.{Exchange}
pub use Rattle.pool_limits.specs.Growing.{AnswerMakes, GrowthGiven, MakesBy, Obstacles, answer_result, is_want_of_memory, pages_result, report_result, result_by}
pub use Rattle.pool_limits.specs.Growth.{GrowthLimits, GrowthRule, always, limited_by, memory_answer, memory_failure, table_answer, table_failure}
pub use Rattle.pool_limits.specs.LimiterTold.{LimiterTold, limiter_told}
pub use Rattle.pool_limits.specs.declared.errors.GrowError.{GrowError}
pub use Rattle.pool_limits.specs.declared.errors.GrowFault.{GrowFault}
pub use Rattle.pool_limits.specs.declared.errors.LimiterError.{LimiterError}
pub use Rattle.pool_limits.specs.declared.errors.Trap.{Trap as Fault, Trap}
pub use Rattle.pool_limits.specs.declared.errors.Trap.TheVariants.{MemoryOutOfBounds, TableOutOfBounds}
pub use Rattle.pool_memory.proofs.Creations.{asked_same}
pub use Rattle.pool_memory.proofs.Makings.{room_for_page}
pub use Rattle.pool_memory.specs.Copying.{OnlyWritten}
pub use Rattle.pool_memory.specs.Creators.{Design, HasFaulted, HasPage, IsBetween, IsOfMaker, IsSameMaker, LiesIn, ListsBetween, default_design, default_refusal, in_regions, malloc_design, mapped_design}
pub use Rattle.pool_memory.specs.Dynamic.{ImageOf, IsDynamic}
pub use Rattle.pool_memory.specs.Growing.{AnswerLeaves, FailsInPlace, GrowsTo, InPlace, IsCallPlanned, IsFailureOf, IsUngrown, LeavesBy, PagesLeave, StaysTold, exceeds, grown_size, moved_room, obstacles, past_room}
pub use Rattle.pool_memory.specs.Layouts.{Layout, first_layout, first_room, layout_len, layout_of, moved_layout}
pub use Rattle.pool_memory.specs.Linear.{Linear, Storage, first_bytes, in_slot, is_listed, linear_bytes, slot_in, storage_written, stored}
pub use Rattle.pool_memory.specs.Making.{maximum_asked, minimum_asked}
pub use Rattle.pool_memory.specs.Mapped.{extra_on_growth}
pub use Rattle.pool_memory.specs.Memories.{MemoryState, access_answer, memory_written}
pub use Rattle.pool_memory.specs.MemoryStates.{state_of}
pub use Rattle.pool_memory.specs.Moving.{CallLeaves, FirstCallFails, IsAsked, IsMadeFor, MakerLeft, MakingFails, MoveLeaves, PlaceLeaves, first_call, next_name, region_for, slot_for, slot_of_region}
pub use Rattle.pool_memory.specs.Starting.{BeginsWith, has_whole_pages, takes_image}
pub use Rattle.pool_on_demand.proofs.Images.{begins_from}
pub use Rattle.pool_on_demand.specs.Answers.{Allocates, AllocatesListed, IsGiven, IsHeapTurn, no_slot}
pub use Rattle.pool_on_demand.specs.Grants.{IsMemoryMade, IsTableMade}
pub use Rattle.pool_on_demand.specs.InTurn.{InTurn, StopsAtOne}
pub use Rattle.pool_on_demand.specs.Instances.{GrantsInTurn, GrantsInstance, GrantsUnless, IsMemoryTurn, IsTableTurn, MemoryOf, Stage, TableOf}
pub use Rattle.pool_on_demand.specs.Refusals.{CreatorRule, answer_behind, answer_given, memory_refused, memory_unsupported, module_refused, stack_refused, table_refused, type_refused}
pub use Rattle.pool_on_demand.specs.Stacks.{AsksForStack, IsStackMade, stack_region}
pub use Rattle.pool_on_demand.specs.declared.lease.OnDemandHeap.{OnDemandHeap}
pub use Rattle.pool_on_demand.specs.declared.lease.OnDemandInstance.{OnDemandInstance}
pub use Rattle.pool_on_demand.specs.declared.lease.OnDemandMemory.{OnDemandMemory}
pub use Rattle.pool_on_demand.specs.declared.lease.OnDemandStack.{OnDemandStack}
pub use Rattle.pool_on_demand.specs.declared.lease.OnDemandTable.{OnDemandTable}
pub use Rattle.pool_on_demand.specs.declared.on_demand.OnDemandInstanceAllocator.{OnDemandInstanceAllocator}
pub use Rattle.pool_pages.proofs.Small.{first_true, mapped_some, none_mapped, not_both, second_true, some_mapped, told_if, told_weaker}
pub use Rattle.pool_pages.specs.Contents.{Contents, put, put_all, written}
pub use Rattle.pool_pages.specs.FaultPlans.{failing_maker, planned_faults}
pub use Rattle.pool_pages.specs.MakerTold.{MakerTold, Planned, call_of, calls_of, fails_making, on_images, on_region, part_of, plan_for, same_name}
pub use Rattle.pool_pages.specs.Told.{PageCall, Told, passes, succeeded}
pub use Rattle.pool_pages.specs.declared.pages.RegionName.{RegionName}
pub use Rattle.pool_pages.specs.declared.pages.RegionName.TheVariants.{Memory, OnDemand, Table}
pub use Rattle.pool_run.proofs.BuiltInputs.{built_memories, built_modules, small_pages}
pub use Rattle.pool_run.proofs.Bytes.{take_put}
pub use Rattle.pool_run.proofs.Following.{commands_read, commands_there, turns_all, turns_more}
pub use Rattle.pool_run.proofs.Grants.{mapped_at}
pub use Rattle.pool_run.proofs.Growths.{answer_told, ended_by, ended_by_rule, reported_seen, right_of, tried_by}
pub use Rattle.pool_run.proofs.HeapFaults.{Leaves, granted_leaves, other_leaves, refused_leaves, run_leaves, same_heaps, table_leaves}
pub use Rattle.pool_run.proofs.InputsRun.{entries_below, parties_name}
pub use Rattle.pool_run.proofs.Named.{AreSeen, named_under, none_seen, on_seen, put_back, taken_moved}
pub use Rattle.pool_run.proofs.OtherReplies.{IsOther, IsOtherError, NoneOrOther, drop_other, found_other, if_other, memory_bytes_other, memory_other, named_other, or_other, other_as, other_reply, rule_other, stack_bytes_other, table_other}
pub use Rattle.pool_run.proofs.RulesNamed.{page_named}
pub use Rattle.pool_run.proofs.StackMoves.{state_op_seen}
pub use Rattle.pool_run.proofs.TableChanges.{growth_ends, looks, set_moves, table_answer_told}
pub use Rattle.pool_run.proofs.Tests.{of_all}
pub use Rattle.pool_run.proofs.Valid.{few_memories, valid_modules}
pub use Rattle.pool_run.proofs.WorldsMade.{calls_at}
pub use Rattle.pool_run.specs.Acts.{Act, MemoryOp, TableOp, Wanted, a_component, a_heap, a_stack, act_of, an_instance, asks_length, asks_size, drops, fills, gets, grows, heap_type, lengthens, on_memory, on_table, purges, reads, releases, requests, sets, writes}
pub use Rattle.pool_run.specs.AtOnce.{MovesOnly, element_reply, fill_reply, given_act, given_op, given_table_op, given_wanted, growth_reply, store_told, write_reply}
pub use Rattle.pool_run.specs.Built.{is_built, is_built_memory, is_built_module}
pub use Rattle.pool_run.specs.Folds.{commands_of, replies_to}
pub use Rattle.pool_run.specs.GrowthEnds.{if_allowed}
pub use Rattle.pool_run.specs.HeapFaults.{asks_heap, is_heap_fault}
pub use Rattle.pool_run.specs.Made.{call_made, calls_made}
pub use Rattle.pool_run.specs.Objects.{MovesNamed, MovesObject, Objects, object_at, with_object}
pub use Rattle.pool_run.specs.PartyRules.{host_for, host_of, rule_of}
pub use Rattle.pool_run.specs.Private.{CountsRefused, Drops, Grants, Grows, GrowthEnd, IsRead, MemoryMoves, PrivateGrant, PrivateInstance, PrivateMemory, PrivateState, Request, StepsBy, Terms, Writes, as_it_was, begun, begun_instance, begun_memory, begun_table, component_grant, could_not, grant_at, growth, has_grown, has_images, heap_grant, heap_memory, heap_over_grant, images_of, instance_grant, left_of, memory_grant, memory_grown, module_of, no_grants, private_memories, private_stacks, private_tables, private_written, put_memory, put_stack, put_table, reported, request_of, size_wanted, stack_grant, table_at, table_grant, tables_named_in, wants_of, with_grants, with_table}
pub use Rattle.pool_run.specs.PrivateStacks.{BeginsStack, PrivateStack, ReadsBytes, StackMoves, StackWrites, WritesBytes, stack_written}
pub use Rattle.pool_run.specs.PrivateTables.{Host, IsGot, PrivateTable, StoredTable, TableMoves, calls_after, calls_through, filled_by, goes_through, kind_filled, table_filled, table_growth, table_left, table_report}
pub use Rattle.pool_run.specs.Rooms.{World, open_host, under}
pub use Rattle.pool_run.specs.Runs.{ModulesFault, images_listed, with_faults, world_of}
pub use Rattle.pool_run.specs.RunsMade.{commands_in}
pub use Rattle.pool_run.specs.Schedules.{turns_of}
pub use Rattle.pool_run.specs.TableValues.{element_for}
pub use Rattle.pool_run.specs.Turns.{StackStateMoves, seen_as, seen_stack}
pub use Rattle.pool_run.specs.Validity.{is_valid, is_valid_module}
pub use Rattle.pool_run.specs.Worlds.{NameModules, NamesModule}
pub use Rattle.pool_run.specs.declared.act.MemoryOp.TheVariants.{Fill, Write}
pub use Rattle.pool_run.specs.declared.act.TableOp.TheVariants.{Get}
pub use Rattle.pool_run.specs.declared.command.Command.{Command}
pub use Rattle.pool_run.specs.declared.command.TableValue.{TableValue}
pub use Rattle.pool_run.specs.declared.input.Input.{Input}
pub use Rattle.pool_run.specs.declared.input.Party.{Party}
pub use Rattle.pool_run.specs.declared.input.PartyLimits.{PartyLimits}
pub use Rattle.pool_run.specs.declared.input.ScheduleEntry.{ScheduleEntry}
pub use Rattle.pool_run.specs.declared.reply.Refusal.{Refusal}
pub use Rattle.pool_run.specs.declared.reply.Refusal.TheVariants.{Alloc, GcStoreFault, NoSuchGrant}
pub use Rattle.pool_run.specs.declared.reply.Reply.{Reply}
pub use Rattle.pool_run.specs.declared.reply.Reply.TheVariants.{Bytes, Component as a_granted, Done, Element as told_element, Grown, Heap as in_slots, Refused, Released, Returned, Size, Size as said, Size as size_told, Trap as trapped}
pub use Rattle.pool_slots.specs.HeapsTold.{HeapsTold, fails_next, listed_heaps}
pub use Rattle.pool_slots.specs.PlainSlots.{IsPlain, StackState}
pub use Rattle.pool_slots.specs.declared.errors.AllocError.{AllocError}
pub use Rattle.pool_slots.specs.declared.listed_heaps.ListedHeaps.{ListedHeaps}
pub use Rattle.pool_slots.specs.declared.listed_heaps.PlainHeap.{PlainHeap}
pub use Rattle.pool_table.specs.Elements.{ElementKind, cont, continuations, element_size, empty, func, functions, gc_ref, gc_refs, type_of, uninitialised}
pub use Rattle.pool_table.specs.Making.{kind_of}
pub use Rattle.pool_table.specs.Stores.{StoreCall}
pub use Rattle.pool_table.specs.TableStates.{table_view}
pub use Rattle.pool_table.specs.Tables.{type_maximum}
pub use Rattle.pool_table.specs.Views.{TableView}
pub use Rattle.pool_table.specs.declared.gc_store.GcTableError.{GcTableError}
pub use Rattle.pool_table.specs.declared.gc_store.ListedStore.{ListedStore}
pub use Rattle.pool_types.specs.Count.{rounded_up}
pub use Rattle.pool_types.specs.MemoryTypes.{allow_growth_to, memory_may_move, minimum_byte_size, page_size}
pub use Rattle.pool_types.specs.Rising.{Rose, risen}
pub use Rattle.pool_types.specs.declared.module_types.Limits.{Limits}
pub use Rattle.pool_types.specs.declared.module_types.MemoryDecl.{MemoryDecl}
pub use Rattle.pool_types.specs.declared.module_types.MemoryKind.TheVariants.{GcHeap}
pub use Rattle.pool_types.specs.declared.module_types.MemoryTunables.{MemoryTunables}
pub use Rattle.pool_types.specs.declared.module_types.MemoryType.{MemoryType}
pub use Rattle.pool_types.specs.declared.module_types.ModuleInfo.{ModuleInfo}
pub use Rattle.pool_types.specs.declared.module_types.Tunables.{Tunables}
pub use Rattle.pool_types.specs.declared.table_type.TableElementType.{TableElementType}
pub use Rattle.pool_types.specs.declared.table_type.TableType.{TableType}
pub use Rattle.pool_types.specs.declared.unsupported.Unsupported.{Unsupported}
pub use Rattle.pool_types.specs.declared.unsupported.Unsupported.TheVariants.{AddressSpace, MemoryMinimum, SharedOnDemand}
