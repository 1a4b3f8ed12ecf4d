-- What the files of proofs/ import from the crates below and from std, but for std's plainest words.
pub use Rattle.std.proofs.Math.Nat.{mul-div_cancel, mul-le-mul_right, mul-mod_left}
pub use Rattle.std.proofs.Math.Seq.{take-append_seam}
pub use Rattle.std.proofs.lemmas.Bool.{and_from, and_parts, cases_Bool, cases_eq, cases_lt, eq-eqb, eqb-true, le-leb, le-ltb, leb-false, leb-true, lt-ltb, ltb-false, ltb-true, not-false, not-true, or_from, or_left, or_right, true≢false}
pub use Rattle.std.proofs.lemmas.Bool.Decides.{nat_tests}
pub use Rattle.std.proofs.lemmas.List.{append-nil, at_drop_all, at_drop_more, get_or-append_right, get_or-map, get_or-replicate, get_or-set_other, get_or-set_same, get_or_append_left, get_or_past, length-append, length-map, length-replicate, length-set, length-take-le, length_push, map-append, map-set, places, replicate-append-replicate, replicate_more, same_lists, set-get_or, set-set, set_past, take-replicate, take_all, take_more}
pub use Rattle.std.proofs.lemmas.List.Elements.{All-get_or, All-head, All-map, All-replicate, All-set, All-tail, recursion_from_All}
pub use Rattle.std.proofs.lemmas.List.Folds.{list_any-append}
pub use Rattle.std.proofs.lemmas.List.FromFn.{get_or-map-range_with_len, length-map-range_with_len}
pub use Rattle.std.proofs.lemmas.List.Sums.{get_or-le-sum_by, sum_by-append, sum_by-cons, sum_by-le-sum_by, sum_by-remove, sum_by-set}
pub use Rattle.std.proofs.lemmas.Option.{get_or_from_slice_get, same_Some, slice_get-get_or, slice_get-map, slice_get_past, slice_get_read, slice_get_within}
pub use Rattle.std.specs.List.{AllByRecursion, AllZip, concat, list_all, list_any, range_with_len, slice_get}
pub use Rattle.std.specs.Option.{option_and_then, option_map_or, option_or}
pub use Rattle.std.specs.Vec.Iter.{into_iter_items}
pub use Rattle.pool_alloc.proofs.BeforeTheTurn.{frame_of, held_of, kept_of}
pub use Rattle.pool_alloc.proofs.BegunFrames.{at_rest, begun_bounded, begun_frame, begun_weight, call_has, idle_left, made_frame, made_weight, steps_left_same}
pub use Rattle.pool_alloc.proofs.KeptCounts.{out_once}
pub use Rattle.pool_alloc.proofs.MadePools.{made_core, made_untouched}
pub use Rattle.pool_alloc.proofs.Picks.{picked_inside}
pub use Rattle.pool_alloc.proofs.PlanPlaces.{IsShardPlace, cell_inside}
pub use Rattle.pool_alloc.proofs.PoolAndHolders.{two_of_sum}
pub use Rattle.pool_alloc.proofs.PoolParts.{name_in, slot_of_shard, sound_shard}
pub use Rattle.pool_alloc.proofs.QueueCounts.{leased_regions, sum_by_agree, tables_regions}
pub use Rattle.pool_alloc.proofs.SlotCounts.{both_regions, region_rights, slot_once, slot_other}
pub use Rattle.pool_alloc.proofs.SlotIdentity.{IsOneSlot, slot_of_one}
pub use Rattle.pool_alloc.proofs.SlotsOfFrames.{frame_regions, none_past, right_is_out}
pub use Rattle.pool_alloc.proofs.StepNeeds.{same_size, step_fewer, step_grants, step_ok}
pub use Rattle.pool_alloc.proofs.Striping.{some_stripes}
pub use Rattle.pool_alloc.proofs.SumsBelow.{below, below_most, below_one, below_sum}
pub use Rattle.pool_alloc.proofs.UnusedPools.{HasNothing, none_away, none_kept, untouched_is_whole}
pub use Rattle.pool_alloc.proofs.UsedSlots.{kept_sum, picked_was_in, used_is_out}
pub use Rattle.pool_alloc.proofs.Weights.{conserves_units, frame_counts, frame_units, grant_counts, grant_units, no_total}
pub use Rattle.pool_alloc.specs.PageCallAnswers.{AsksForMemory, AsksOf, ByImage, Decommits, DecommitsWhole, Drains, Empties, FlushPlanned, FlushTold, FollowsDrain, FollowsForget, FollowsPlan, FollowsPlanFor, FollowsReset, FollowsRun, Forgets, InstantiatesAs, InstantiatesFor, IsPlanned, MakesOf, MayBeTold, RemovesImage, Resets}
pub use Rattle.pool_alloc.specs.PlainModules.{ModuleAsked}
pub use Rattle.pool_alloc.specs.StepBounds.{bound_of, sizes_of, steps_left}
pub use Rattle.pool_alloc.specs.Calls.{IfGranted, IsGrant, IsGrantOf, IsHeapOf, IsIdle, MayBegin, begun_call, frame_made, lists_made}
pub use Rattle.pool_alloc.specs.HeapLeases.{LeasedHeap, heap_slot_taken}
pub use Rattle.pool_alloc.specs.Leases.{IsChanged, IsGrown, IsWritten, Lease, memory_slot, slot_taken}
pub use Rattle.pool_alloc.specs.Made.{GivesUpRegion, IsMadeCore, fails_slots, lists_making, part_settings, plan_settings, slots_of}
pub use Rattle.pool_alloc.specs.Modules.{HasImages}
pub use Rattle.pool_alloc.specs.Objects.{objects_in, objects_wanted}
pub use Rattle.pool_alloc.specs.MemorySteps.{heap_refusal, heap_refusal as heap_refusal_of, made_for, made_of, made_of_limits, memory_made}
pub use Rattle.pool_alloc.specs.PartyTold.{MakesHeap, PartyTold}
pub use Rattle.pool_alloc.specs.Places.{Counter, Counts, Thing, Weight, away_count, away_weight, both_count, counted_component, counted_instance, counted_object, counters_counted, frame_count, frame_counted, frame_instances, frame_weight, instance_count, instance_counted, instances_for, kept_count, leased_count, number_counted, of_counts, of_units, only, phase_count, phase_counted, phase_instances, queued_count, region_of, right_to, slot_count, tables_count, taken_count}
pub use Rattle.pool_alloc.specs.PoolStacks.{IsNewStack, IsPoolStack, IsStackLease}
pub use Rattle.pool_alloc.specs.PoolTables.{IsBegunTable, IsPoolTable, IsTableLease}
pub use Rattle.pool_alloc.specs.Purges.{after_forgetting, has_turns, known_after, pick_affine_row, purge_row}
pub use Rattle.pool_alloc.specs.Refusals.{component_refused, heap_refused, module_refused, type_refused}
pub use Rattle.pool_alloc.specs.Releases.{after_decommit, release_row, reserve_row}
pub use Rattle.pool_alloc.specs.Reserved.{Reserved, no_room}
pub use Rattle.pool_alloc.specs.StepTable.{memory_kept, table_kept, FlushStep, component_counted, component_tested, counted, flush_row, flush_step, free, heap_granted, heaps_tested, memory_tested, kind_settled, make_heap_row, make_memory_row, make_table_row, merged, no_component_left, paged, put, put_first, row_of, run, settled_step, some_queued, stacks_tested, validated, was_made, was_made_table, was_reset, zero, zero as zero_by_hand}
pub use Rattle.pool_alloc.specs.Searches.{IsSearched, IsSearchedAt}
pub use Rattle.pool_alloc.specs.BetweenSteps.{AreBegun, AreImagesOf, AreLeasesOf, AreSupported, HasSlot, IsAllocating, IsCore, IsDraining, IsEnabled, IsFrame, IsHeapNext, IsLeaseOf, IsLocal, IsMemoryNext, IsNew, IsPartAt, IsPartFor, IsPoolPlan, IsPoolSlot, IsQueuedOf, IsShapedAt, IsSlotName, IsSupported, IsTableNext, MayBeRanged, MayHold, MayQueue, MustBeByHand}
pub use Rattle.pool_alloc.specs.StackLeases.{LeasedStack, stack_slot, stack_taken}
pub use Rattle.pool_alloc.specs.CallStages.{FailsHeap, FindsNone, Follows, Goes, GoesOn, HasHeap, IsBroken, IsHeapTested, IsHeapUntested, IsPageFaulted, IsUntested, Makes, MakesTable, Progress, Raises, SeeksHeap, Stage, admitted, asks, counts_component, counts_heap, keys, no_call, purging, refusing, releasing, reserving, returning, seeks_heap, seeks_single, seeks_stack, stage_at, stage_back, stage_by, stage_of, stage_of_release, tests_component, tests_heap, uncounted, untested}
pub use Rattle.pool_alloc.specs.Stepping.{CanCount, CanStep, Conserves, IsSameSize, StepsTo, count_granted, grant_components, grant_count, grant_counted, grant_heaps, grant_instances, grant_memories, grant_stacks, grant_tables, grant_weight, is_idle}
pub use Rattle.pool_alloc.specs.StepReads.{IsForObjects, IsHeapAsked, IsModule, StepGiven, allocator_for, allocator_of, heaps_wanted, image_wanted, images_made, images_wanted, info_wanted, kind_by, kind_next, memories_wanted, memory_slots, no_allocator, no_module, plain_decl, queue_in, shard_at, shard_in, stripe_allocator, tables_wanted}
pub use Rattle.pool_alloc.specs.PoolTotals.{calls_kept, metrics_of}
pub use Rattle.pool_alloc.specs.TableLeases.{IsElementAt, IsFilled, IsLengthened, IsSet, LeasedTable, LiesInRegion, SetsElements, element_of, table_slot, table_taken}
pub use Rattle.pool_alloc.specs.TableSteps.{AsksForTable, bytes_used, made_table, made_unless, table_bytes, table_in, table_made, table_refused}
pub use Rattle.pool_alloc.specs.Turns.{After, Left, Row, Turn, after, all_returned, ends, failing, flush, goes, granted_next, is_flushed, limit_of, next, next_by, returned_next, search, stays, stepped}
pub use Rattle.pool_alloc.specs.WantedObjects.{MemoryWant, Want, new_heap, new_memory, new_stack, new_table, wants_from}
pub use Rattle.pool_alloc.specs.PoolAndHolders.{HasSlots, IsPartitioned, IsUntouched}
pub use Rattle.pool_alloc.specs.declared.frame.Asked.{Asked}
pub use Rattle.pool_alloc.specs.declared.frame.Asked.TheVariants.{Heap as heap_asked, HeapOver as heap_over_asked, Memory as memory_asked, Module as module_asked, Nothing as nothing_asked, Stack as stack_asked, Table as table_asked}
pub use Rattle.pool_alloc.specs.declared.frame.Call.{Call}
pub use Rattle.pool_alloc.specs.declared.frame.Ending.{Ending}
pub use Rattle.pool_alloc.specs.declared.frame.Ending.TheVariants.{Granted as granted, Refused as refused, Returned as returned}
pub use Rattle.pool_alloc.specs.declared.frame.Frame.{Frame}
pub use Rattle.pool_alloc.specs.declared.frame.FrameLists.{FrameLists}
pub use Rattle.pool_alloc.specs.declared.frame.FreedSlot.{FreedSlot}
pub use Rattle.pool_alloc.specs.declared.frame.Grant.{Grant}
pub use Rattle.pool_alloc.specs.declared.frame.Grant.TheVariants.{Component as component, Heap as heap, HeapOver as heap_over, Instance as instance, Memory as one_memory, Stack as stack, Table as one_table}
pub use Rattle.pool_alloc.specs.declared.frame.ModuleCall.{ModuleCall}
pub use Rattle.pool_alloc.specs.declared.frame.Outcome.{Outcome}
pub use Rattle.pool_alloc.specs.declared.frame.Phase.{Phase}
pub use Rattle.pool_alloc.specs.declared.frame.Phase.TheVariants.{CountComponent, CountHeap, CountInstance, CountObject, Empty, Flush, FreeHeap, FreeOne, Idle, Instantiate, Key, MakeHeap, MakeMemory, MakeTable, Merge, Pick, Purge, PutBack, PutHeap, PutNoHeap, Release, Reset, TakeHeap, TakeQueue, TakeRegion, TestHeap, TestStack, UncountComponent, UncountHeap, UncountInstance, UncountObject, Validate, ValidateComponent}
pub use Rattle.pool_alloc.specs.declared.frame.TakenSlot.{TakenSlot}
pub use Rattle.pool_alloc.specs.declared.leases.instance.InstanceLease.{InstanceLease}
pub use Rattle.pool_alloc.specs.declared.metrics.Metrics.{Metrics}
pub use Rattle.pool_alloc.specs.declared.pool_core.Counters.{Counters}
pub use Rattle.pool_alloc.specs.declared.pool_core.PoolCore.{PoolCore}
pub use Rattle.pool_alloc.specs.declared.pool_core.Settings.{Settings}
pub use Rattle.pool_alloc.specs.declared.purge.PurgeCursor.{PurgeCursor}
pub use Rattle.pool_alloc.specs.declared.purge.PurgeStep.{PurgeStep}
pub use Rattle.pool_alloc.specs.declared.release.ReleaseCursor.{ReleaseCursor}
pub use Rattle.pool_alloc.specs.declared.release.ReleaseStep.{ReleaseStep}
pub use Rattle.pool_alloc.specs.declared.release.ReleaseStep.TheVariants.{Reserve}
pub use Rattle.pool_alloc.specs.declared.leases.element.Element.{Element}
pub use Rattle.pool_hall.specs.declared.unit_name.SlotKind.{SlotKind}
pub use Rattle.pool_hall.specs.declared.unit_name.SlotKind.TheVariants.{Heap as heap_kind, Memory as memory_kind, Stack as stack_kind, Table as table_kind}
pub use Rattle.pool_images.proofs.Begun.{rounded_up_above}
pub use Rattle.pool_images.proofs.Identity.{like_restored, same_called, same_faulted, told_same}
pub use Rattle.pool_images.proofs.PageSizes.{rounded_is_whole}
pub use Rattle.pool_images.proofs.Sizes.{rounded_up_more}
pub use Rattle.pool_images.specs.Images.{Image, ends_in_minimum, first_misplaced, image_of, images_from, makes_listed_images, padded, start}
pub use Rattle.pool_images.specs.Orders.{failed as call_failed, outcome, removing, replacing, resetting, resizing, wiping}
pub use Rattle.pool_images.specs.Resets.{given_marks, pages_by_hand, told_by_hand}
pub use Rattle.pool_images.specs.Slots.{CallFaulted, FitsInto, HasImage, IsBegun, IsLeft, IsSound, Slot, SlotIdentity, coloured, forgotten, hides, identity, image_bytes, limited, name_of, raised, raising, replaced, reused, size_of}
pub use Rattle.pool_images.specs.declared.image_slot.ImageName.{ImageName}
pub use Rattle.pool_images.specs.declared.memory_image.ImageError.{ImageError}
pub use Rattle.pool_images.specs.declared.ranges.ByteRange.{ByteRange}
pub use Rattle.pool_index.proofs.Ones.{one_at_most, one_true}
pub use Rattle.pool_index.specs.Shard.{ShardState, is_used, one_if, pick_answer}
pub use Rattle.pool_index.specs.declared.ids.SlotId.{SlotId}
pub use Rattle.pool_limits.specs.Exchanges.{Exchange}
pub use Rattle.pool_limits.specs.Growing.{GrowthGiven, MakesBy, answer_result, is_want_of_memory, pages_result, report_result, result_by}
pub use Rattle.pool_limits.specs.Growth.{GrowthLimits, GrowthRule, always, limited_by, memory_answer, memory_failure, table_answer, table_failure}
pub use Rattle.pool_limits.specs.LimiterTold.{LimiterTold}
pub use Rattle.pool_limits.specs.declared.errors.GrowError.{GrowError}
pub use Rattle.pool_limits.specs.declared.errors.GrowFault.{GrowFault}
pub use Rattle.pool_limits.specs.declared.errors.LimiterError.{LimiterError}
pub use Rattle.pool_limits.specs.declared.errors.Trap.{Trap as Fault, Trap}
pub use Rattle.pool_limits.specs.declared.errors.Trap.TheVariants.{MemoryOutOfBounds, TableOutOfBounds}
pub use Rattle.pool_memory.specs.Growing.{AnswerLeaves, FailsInPlace, InPlace, IsCallPlanned, IsGrowth, LeavesBy, PagesLeave, exceeds, grown_size, past_room}
pub use Rattle.pool_memory.specs.Linear.{Linear, Storage, first_bytes, in_slot, slot_in, storage_written, stored}
pub use Rattle.pool_memory.specs.Making.{limits_answer, maximum_asked, minimum_asked}
pub use Rattle.pool_memory.specs.Memories.{MemoryState, bytes_of, memory_written, memory_written as state_written, slot_of as image_slot_of, slot_of}
pub use Rattle.pool_memory.specs.Static.{Static, static_capacity}
pub use Rattle.pool_memory.specs.declared.memory_error.MemoryError.{MemoryError}
pub use Rattle.pool_pages.proofs.Puts.{length-range, range-put_above, range_within}
pub use Rattle.pool_pages.proofs.Small.{first_true, is_there, not_both, or_false, second_true, some_mapped, told_if, told_weaker}
pub use Rattle.pool_pages.specs.Contents.{Contents, written}
pub use Rattle.pool_pages.specs.FaultPlans.{failing_maker, planned_faults}
pub use Rattle.pool_pages.specs.MakerTold.{MakerTold, Planned, calls_of, fails_making, made_region, part_of, plan_for}
pub use Rattle.pool_pages.specs.Told.{PageCall, Told, decommitting, overwritten, passes}
pub use Rattle.pool_pages.specs.declared.pages.PageCalls.{PageCalls}
pub use Rattle.pool_pages.specs.declared.pages.RegionName.{RegionName}
pub use Rattle.pool_pages.specs.declared.pages.RegionName.TheVariants.{Memory as memory_region, OnDemand, Stack as stack_region, Table as table_region}
pub use Rattle.pool_slots.proofs.Layouts.{rounded_within}
pub use Rattle.pool_slots.proofs.PlainSlots.{plain_after}
pub use Rattle.pool_slots.proofs.PlansMade.{one_plan_with}
pub use Rattle.pool_slots.proofs.SlotNames.{slot_is}
pub use Rattle.pool_slots.proofs.StripedPlans.{follow}
pub use Rattle.pool_slots.specs.ListUnits.{all_away, all_kept}
pub use Rattle.pool_slots.specs.CellOf.{cell_of}
pub use Rattle.pool_slots.specs.Cells.{Cell, previously_used, unknown}
pub use Rattle.pool_slots.specs.Colourings.{FaultedColouring, fails_colouring, fails_first_call, fails_region, stripe_colour}
pub use Rattle.pool_slots.specs.HeapUnits.{heap_slot}
pub use Rattle.pool_slots.specs.HeapsTold.{HeapsTold, fails_next, listed_heaps}
pub use Rattle.pool_slots.specs.Parts.{part_at}
pub use Rattle.pool_slots.specs.PartsMade.{AreMadeTo, IsCellMade, IsGivenUp as IsSlotGivenUp, IsMadeAs, fails_slot, nth_region, region_count, region_name}
pub use Rattle.pool_slots.specs.PlainSlots.{IsPlain, IsUnusedFrom, StackState, plain_written}
pub use Rattle.pool_slots.specs.Plans.{Role, cell_place, cell_role, has_number, have_number, heaps_role, home_of, no_role, queue_role, role_at, shard_role}
pub use Rattle.pool_slots.specs.PlansMade.{allocator_planned, places_planned}
pub use Rattle.pool_slots.specs.Slabs.{stripe_of}
pub use Rattle.pool_slots.specs.SlotNames.{of_kind}
pub use Rattle.pool_slots.specs.SlotOrders.{AreInOrder, FollowsAt, decommits, run_of}
pub use Rattle.pool_slots.specs.SlotQueues.{CanBeZeroed, HasOwners, IsFaulted, IsLeftBy, IsSlotLeft, LeavesClean, Queue, Queued, first_of_kind, first_slot, forgotten_slot, holds, is_to_zero, others_of_kind, plain_slot, same_slot}
pub use Rattle.pool_slots.specs.StripedPlans.{IsStripedPlanOf, divided, stripe_allocator as stripe_made, stripe_allocators}
pub use Rattle.pool_slots.specs.declared.cells.ImageSlot.{ImageSlot}
pub use Rattle.pool_slots.specs.declared.errors.AllocError.{AllocError}
pub use Rattle.pool_slots.specs.declared.errors.ConcurrencyKind.TheVariants.{CoreInstances, Fibers, GcHeaps, MemoryStripe, Tables}
pub use Rattle.pool_slots.specs.declared.heap_maker.HeapMakeFault.{HeapMakeFault}
pub use Rattle.pool_slots.specs.declared.listed_heaps.ListedHeaps.{ListedHeaps}
pub use Rattle.pool_slots.specs.declared.listed_heaps.PlainHeap.{PlainHeap}
pub use Rattle.pool_slots.specs.declared.part.PoolPart.{PoolPart}
pub use Rattle.pool_slots.specs.declared.part_maker.PartSettings.{PartSettings}
pub use Rattle.pool_slots.specs.declared.plan.Allocator.{Allocator}
pub use Rattle.pool_slots.specs.declared.plan.Plan.{Plan}
pub use Rattle.pool_slots.specs.declared.queued_range.QueueKind.{QueueKind}
pub use Rattle.pool_slots.specs.declared.queued_range.QueuedRange.{QueuedRange}
pub use Rattle.pool_slots.specs.declared.slot_name.OfKinds.{OfKinds}
pub use Rattle.pool_slots.specs.declared.slot_name.RegionNumbers.{RegionNumbers}
pub use Rattle.pool_slots.specs.declared.slot_name.SlotName.{SlotName}
pub use Rattle.pool_slots.specs.declared.striped_plan.StripedPlanSettings.{StripedPlanSettings}
pub use Rattle.pool_table.specs.Elements.{ElementKind, continuations, empty, functions, gc_ref, gc_refs, type_of, width}
pub use Rattle.pool_table.specs.Growing.{IsTableGrowth}
pub use Rattle.pool_table.specs.Making.{kind_of}
pub use Rattle.pool_table.specs.Stores.{LetsThrough, StoreCall, StorePassed, StoreRefused, StoreTold, StoredFill, listed_store, store_calls, stored_answer}
pub use Rattle.pool_table.specs.Tables.{IsTable, elements, elements_in, type_maximum}
pub use Rattle.pool_table.specs.Views.{FillsTable, GrowsTable, IfRegions, TableView, in_region, state_in}
pub use Rattle.pool_table.specs.declared.gc_store.GcTableError.{GcTableError}
pub use Rattle.pool_table.specs.declared.gc_store.ListedStore.{ListedStore}
pub use Rattle.pool_types.proofs.ConfigRules.{within_rules}
pub use Rattle.pool_types.specs.ConfigLimits.{first_too_great, is_batch_size}
pub use Rattle.pool_types.specs.Count.{Count, IsPageSize, count, rounded_up}
pub use Rattle.pool_types.specs.MemoryTypes.{allow_growth_to, minimum_byte_size}
pub use Rattle.pool_types.specs.Rising.{Rose, risen}
pub use Rattle.pool_types.specs.SettingsRules.{IsWithinRules, first_broken_rule, first_broken_total, is_page_size, is_shard_count, keys_suffice, may_stripe, or_else, slab_stripes, unless}
pub use Rattle.pool_types.specs.declared.bad_config.BadConfig.{BadConfig as BrokenRule}
pub use Rattle.pool_types.specs.declared.bad_config.BadConfig.TheVariants.{DecommitBatch, KeysNotOffered, PageSize, Reservation, Shards}
pub use Rattle.pool_types.specs.declared.config.PoolingAllocationConfig.{PoolingAllocationConfig}
pub use Rattle.pool_types.specs.declared.decommit_behavior.DecommitBehavior.{DecommitBehavior}
pub use Rattle.pool_types.specs.declared.decommit_behavior.DecommitBehavior.TheVariants.{RestoreOriginalMapping, Zero}
pub use Rattle.pool_types.specs.declared.module_types.CompiledModuleId.{CompiledModuleId}
pub use Rattle.pool_types.specs.declared.module_types.ComponentInfo.{ComponentInfo}
pub use Rattle.pool_types.specs.declared.module_types.ImageDecl.{ImageDecl}
pub use Rattle.pool_types.specs.declared.module_types.Limits.{Limits}
pub use Rattle.pool_types.specs.declared.module_types.MemoryDecl.{MemoryDecl}
pub use Rattle.pool_types.specs.declared.module_types.MemoryType.{MemoryType}
pub use Rattle.pool_types.specs.declared.module_types.ModuleInfo.{ModuleInfo}
pub use Rattle.pool_types.specs.declared.module_types.Tunables.{Tunables}
pub use Rattle.pool_types.specs.declared.offered.Offered.{Offered}
pub use Rattle.pool_types.specs.declared.table_type.TableElementType.{TableElementType}
pub use Rattle.pool_types.specs.declared.table_type.TableType.{TableType}
pub use Rattle.pool_types.specs.declared.unsupported.Unsupported.{Unsupported}
pub use Rattle.pool_types.specs.declared.unsupported.Unsupported.TheVariants.{AddressSpace, ImageOffset, InitialSize, MemoryMinimum, TableSize}
