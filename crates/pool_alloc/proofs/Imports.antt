-- What the files of proofs/ import from the crates below and from std, but for std's plainest words.
pub use Rattle.std.proofs.Math.Nat.{div-mul-le_self, le-div_iff_mul-le, mod-eq_of_lt, mod-lt, mul-div_cancel, mul-le-mul_right, zero-div}
pub use Rattle.std.proofs.Math.Seq.{drop-cons}
pub use Rattle.std.proofs.lemmas.Bool.{and_parts, and_parts as both_true, cases_Bool, cases_eq, cases_lt, eq-eqb, eqb-false, eqb-true, false_from_ne_true, false≢true, leb-false, leb-true, lt-ltb, ltb-false, ltb-true, ne_eqb, or_from, or_left, or_parts, true≢false}
pub use Rattle.std.proofs.lemmas.Bool.Decides.{nat_tests}
pub use Rattle.std.proofs.lemmas.Grind.{div_ceil_times}
pub use Rattle.std.proofs.lemmas.List.{append-nil, append_assoc, at_drop_all, at_drop_more, drop_more, get_or-drop, get_or-replicate, get_or-set_other, get_or-set_same, get_or_append_left, get_or_past, length-append, length-drop, length-map, length-replicate, length-set, length_push, map-append, nil_from_length, take_more}
pub use Rattle.std.proofs.lemmas.List.Elements.{All-append, All-cons, All-filter, All-get_or, All-head, All-nil, All-push, All-same, All-tail, All-weaker, filter-append, length_all_zip}
pub use Rattle.std.proofs.lemmas.List.Filters.{length-filter_both, sum_by-filter_both}
pub use Rattle.std.proofs.lemmas.List.Sums.{count_by-le-length, get_or-le-sum_by, sum_by-append, sum_by-cons, sum_by-remove, sum_by-set, sum_by_push}
pub use Rattle.std.proofs.lemmas.Nat.{div-add-mod', mod-mul-add}
pub use Rattle.std.proofs.lemmas.Option.{same_Some}
pub use Rattle.std.specs.Arc.{arc_value}
pub use Rattle.std.specs.Int.{div_ceil}
pub use Rattle.std.specs.List.{AllByRecursion, AllZip, list_all, list_any, range_with_len}
pub use Rattle.std.specs.Option.{option_map_or, option_or}
pub use Rattle.pool_hall.proofs.Totals.{element, inside, total_append, total_at, total_some, total_zero}
pub use Rattle.pool_hall.proofs.Units.{same_is, same_self}
pub use Rattle.pool_hall.specs.Sum.{total}
pub use Rattle.pool_hall.specs.Unit.{kind_number, pick_unit, same}
pub use Rattle.pool_hall.specs.declared.unit_name.SlotKind.{SlotKind}
pub use Rattle.pool_hall.specs.declared.unit_name.SlotKind.TheVariants.{Heap as heap_kind, Memory as memory_kind, Stack as stack_kind, Table as table_kind}
pub use Rattle.pool_hall.specs.declared.unit_name.UnitName.{UnitName}
pub use Rattle.pool_images.proofs.Begun.{rounded_up_above}
pub use Rattle.pool_images.proofs.Identity.{like_restored, same_called, same_faulted, told_same}
pub use Rattle.pool_images.proofs.Making.{fresh_clean, fresh_keeps}
pub use Rattle.pool_images.proofs.Marks.{marked_above, range-zeros}
pub use Rattle.pool_images.proofs.PageSizes.{rounded_is_whole, rounded_leaves, rounded_same, rounded_within}
pub use Rattle.pool_images.proofs.Ready.{IsGood, followed, good}
pub use Rattle.pool_images.proofs.ResetBounds.{few_left, kept_most}
pub use Rattle.pool_images.specs.Images.{Image}
pub use Rattle.pool_images.specs.Orders.{Follows, replacing, resizing}
pub use Rattle.pool_images.specs.Resets.{given_marks, kept_by, left_by, pages_by_hand, reset_by}
pub use Rattle.pool_images.specs.Slots.{FitsInto, HasColour, HasImage, Holds, IsBegun, IsClean, IsFresh, IsLeft, IsPart, IsRangeOf, IsReady, IsSized, IsSlot, IsSound, Reads, Slot, SlotIdentity, called, coloured, decommitted_all, forgotten, hides, identity, name_of, replaced, reset_slot, reused, size_of, wiped, without_image, without_mapped}
pub use Rattle.pool_images.specs.declared.image_slot.ImageName.{ImageName}
pub use Rattle.pool_images.specs.declared.ranges.ByteRange.{ByteRange}
pub use Rattle.pool_index.proofs.ComingBack.{Free, after_take_sound, all_free, free_after}
pub use Rattle.pool_index.proofs.Ones.{one_at_most}
pub use Rattle.pool_index.proofs.Picking.{IsChoice, affine_taken, choice_taken}
pub use Rattle.pool_index.proofs.Shards.{IsFree, after_cold_sound, after_warm_sound, cold_slot_free, warm_slot_free}
pub use Rattle.pool_index.specs.Freed.{known_outside, taken_outside}
pub use Rattle.pool_index.specs.Lists.{use_again, with_bytes}
pub use Rattle.pool_index.specs.Part.{shard_units, slot_unit, used_units}
pub use Rattle.pool_index.specs.Shard.{Choice, IsSameShard, IsShard, ShardState, affine_answer, affine_choice, after_affine_pick, after_choice, after_free, after_full, after_pick, after_take_warm, choice, cold_choice, entry_at, is_used, next_cold, one_if, one_if as one_warm, pick_answer, slot_and_bytes, slot_number, taken_slots, use_of, used_count, warm_at, warm_choice, warm_count}
pub use Rattle.pool_index.specs.declared.ids.MemoryInModule.{MemoryInModule}
pub use Rattle.pool_index.specs.declared.ids.SlotId.{SlotId}
pub use Rattle.pool_index.specs.declared.warm_slot.WarmSlot.{WarmSlot}
pub use Rattle.pool_limits.specs.Exchanges.{Exchange, Exchanged}
pub use Rattle.pool_limits.specs.LimiterTold.{default_quotas, no_refusals}
pub use Rattle.pool_limits.specs.declared.errors.LimiterError.{LimiterError}
pub use Rattle.pool_memory.proofs.Begun.{instantiated_holds}
pub use Rattle.pool_memory.proofs.Creations.{mapped_leaves}
pub use Rattle.pool_memory.proofs.Makings.{least_most}
pub use Rattle.pool_memory.specs.Creators.{HasFaulted}
pub use Rattle.pool_memory.specs.Layouts.{Layout}
pub use Rattle.pool_memory.specs.Linear.{no_slot as no_image_slot}
pub use Rattle.pool_memory.specs.Making.{EndsWithin, limits_answer, made_memory, made_within, maximum_asked, static_answer}
pub use Rattle.pool_memory.specs.Memories.{MemoryState, slot_of as image_slot_of, slot_of}
pub use Rattle.pool_memory.specs.Moving.{IsMadeRegion, IsRefusedFor, next_name}
pub use Rattle.pool_memory.specs.Static.{CanHold, Static, static_capacity}
pub use Rattle.pool_memory.specs.declared.memory_error.MemoryError.{MemoryError}
pub use Rattle.pool_pages.proofs.DenseCalls.{fresh_shaped}
pub use Rattle.pool_pages.proofs.Puts.{length-put, range_within, same_at}
pub use Rattle.pool_pages.proofs.Shapes.{access_shaped}
pub use Rattle.pool_pages.proofs.Small.{each_at, none_mapped, second_true, told_both, told_weaker}
pub use Rattle.pool_pages.specs.CallSums.{added, both}
pub use Rattle.pool_pages.specs.Contents.{CanReach, Contents, IsShaped, hidden, put_all, recoloured}
pub use Rattle.pool_pages.specs.MakerTold.{MakerTold, Planned, fresh, made_region, plan_for}
pub use Rattle.pool_pages.specs.Told.{PageCall, TellsMarks, TellsShaped, Told, decommitting, erasing, hiding, recolouring, remapping, succeeded}
pub use Rattle.pool_pages.specs.declared.pages.PageCalls.{PageCalls}
pub use Rattle.pool_slots.proofs.AwayOnce.{away_once, cell_at, home_there, list_at, shard_of_kind}
pub use Rattle.pool_slots.proofs.ByKinds.{all_by_kind, long_by_kind, one_by_kind}
pub use Rattle.pool_slots.proofs.Fresh.{same_calls}
pub use Rattle.pool_slots.proofs.FreshColours.{regions_fresh}
pub use Rattle.pool_slots.proofs.HeapUnits.{none_at_first, returns_count as heap_returns_count, takes_count as heap_takes_count, units_of_out_slots}
pub use Rattle.pool_slots.proofs.ListUnits.{away_follows, away_parts, kept_follows, kept_parts, read_at}
pub use Rattle.pool_slots.proofs.Lists.{each_both, each_weaker}
pub use Rattle.pool_slots.proofs.PartUnits.{puts_count, takes_count, units_append, units_by_kind}
pub use Rattle.pool_slots.proofs.PartsMade.{made_shard_of}
pub use Rattle.pool_slots.proofs.MarkedTables.{IsSoReset, used_is_reset, used_size}
pub use Rattle.pool_slots.proofs.PlainSlots.{clean_slots_read_zeros, empty_held, top_done, top_plain}
pub use Rattle.pool_slots.proofs.PlanSizes.{shard_below}
pub use Rattle.pool_slots.proofs.Planning.{HasShards, allocators_placed, numbered, roles, shards_of, slots_are_at_home}
pub use Rattle.pool_slots.proofs.Settings.{settings_speak}
pub use Rattle.pool_slots.proofs.SlotChanges.{leaves_clean, owned_joined, queue_joined}
pub use Rattle.pool_slots.proofs.SlotNames.{kind_is, kind_self, slot_cases, slot_is, slot_not, slot_self}
pub use Rattle.pool_slots.proofs.SlotPops.{can_zero, first_settled, queue_popped, queue_zeroed, zeroed_long}
pub use Rattle.pool_slots.proofs.SlotReturns.{none_zeroed}
pub use Rattle.pool_slots.proofs.SlotRuns.{faulted_owned, no_slots, run_end, run_next}
pub use Rattle.pool_slots.proofs.SlotSteps.{owners_first, queue_first}
pub use Rattle.pool_slots.proofs.StripedPlans.{planned}
pub use Rattle.pool_slots.specs.CellOf.{cell_of}
pub use Rattle.pool_slots.specs.Cells.{Cell, IsCleanOnceUsed, all_calls, identity_made, is_taken, previously_used, sum_at_most, taken, unknown, unmapped}
pub use Rattle.pool_slots.specs.Colourings.{RaisesBehindUnlessGivenUp, RaisesUnlessGivenUp, coloured_region, stripe_colour}
pub use Rattle.pool_slots.specs.HeapLists.{IsHere, IsOut, IsOut as IsOutOf, heap_entry, heap_in, heap_returned, heap_taken, heaps_away, is_out, memory_of}
pub use Rattle.pool_slots.specs.HeapUnits.{IsOfOutHeap, heap_slot}
pub use Rattle.pool_slots.specs.HeldSlots.{stack_item}
pub use Rattle.pool_slots.specs.ListUnits.{IsShardOf, StandsAs, all_away, all_kept}
pub use Rattle.pool_slots.specs.Makings.{IsListedPoolFault}
pub use Rattle.pool_slots.specs.PartUnits.{part_away, part_kept, units_of_slots}
pub use Rattle.pool_slots.specs.Parts.{IsAt, IsCellPart, IsShardPart, cell_of_part, part_at}
pub use Rattle.pool_slots.specs.PartsMade.{AreMadeTo, HaveGuards, IsCellMade, IsMadeAs, SomeGivenUp, fails_some_slot, lists_some_making, queue_made, shard_made, stack_region}
pub use Rattle.pool_slots.specs.PlainSlots.{IsPlain, IsUnusedFrom, StackState, plain_written, stack_kept, stack_ranges, stack_zeroed, top_kept, top_reset, used_kept, used_left, used_marks, used_part, used_reset}
pub use Rattle.pool_slots.specs.Plans.{Block, IsAllocator, IsAtHome, IsPlacedAllocator, Role, allocators, allocators_of, blocks, cell_place, cell_role, cells_block, has_number, have_number, heaps_role, home_among, home_in, home_of, is_within, no_role, number_at, number_in, queue_role, queues_for, role_among, role_at, shard_role, shards_block, slots_at}
pub use Rattle.pool_slots.specs.PlansMade.{places_planned}
pub use Rattle.pool_slots.specs.RegionCells.{CellState, IsAwaited, IsRegionOf, away_by, cell_away, cell_emptied, cell_filled, cell_numbers, region_of as unit_region, right_to as unit_right}
pub use Rattle.pool_slots.specs.Slabs.{has_room, settings_slab, stripe_count}
pub use Rattle.pool_slots.specs.SlotNames.{of_kind, slot_kind}
pub use Rattle.pool_slots.specs.SlotQueues.{AreApart, AreDistinct, CanBeZeroed, HasOwners, IsFaulted, IsGivenBack, IsLeftBy, IsQueue, IsReset, IsSettled, IsSlotLeft, IsSpareOf, LeavesClean, Queue, Queued, after_append, after_run, after_run_of, after_take, behind, by_kind, change_at, drained, empty_queue, first_of_kind, first_slot, first_zeroed, forgotten_slot, front, holds, is_of, is_to_zero, others_of_kind, owner, plain_slot, same_kind, same_slot, taken_into, with_ranges, with_slot, zeroed, zeroed_by, zeroed_slot}
pub use Rattle.pool_slots.specs.SlotSteps.{after_first_of}
pub use Rattle.pool_slots.specs.StripedPlans.{IsStripedPlanOf, divided, stripe_allocator}
pub use Rattle.pool_slots.specs.TableSizes.{data_size}
pub use Rattle.pool_slots.specs.declared.allocation_index.MemoryAllocationIndex.{MemoryAllocationIndex}
pub use Rattle.pool_slots.specs.declared.cells.ImageSlot.{ImageSlot}
pub use Rattle.pool_slots.specs.declared.cells.ImageSlot.TheVariants.{PreviouslyUsed, Taken, Unknown, Unmapped}
pub use Rattle.pool_slots.specs.declared.errors.AllocError.{AllocError}
pub use Rattle.pool_slots.specs.declared.errors.PoolNewError.{PoolNewError}
pub use Rattle.pool_slots.specs.declared.heap_list.HeapEntry.{HeapEntry}
pub use Rattle.pool_slots.specs.declared.heap_maker.HeapMakeFault.{HeapMakeFault}
pub use Rattle.pool_slots.specs.declared.part.PoolPart.{PoolPart}
pub use Rattle.pool_slots.specs.declared.part_maker.PartSettings.{PartSettings}
pub use Rattle.pool_slots.specs.declared.plan.Allocator.{Allocator}
pub use Rattle.pool_slots.specs.declared.plan.Home.{Home}
pub use Rattle.pool_slots.specs.declared.plan.Plan.{Plan}
pub use Rattle.pool_slots.specs.declared.queued_range.QueueKind.{QueueKind}
pub use Rattle.pool_slots.specs.declared.queued_range.QueuedRange.{QueuedRange}
pub use Rattle.pool_slots.specs.declared.slab.SlabConstraints.{SlabConstraints}
pub use Rattle.pool_slots.specs.declared.slab.SlabLayout.{SlabLayout}
pub use Rattle.pool_slots.specs.declared.slot_name.OfKinds.{OfKinds}
pub use Rattle.pool_slots.specs.declared.slot_name.RegionNumbers.{RegionNumbers}
pub use Rattle.pool_slots.specs.declared.slot_name.SlotName.{SlotName}
pub use Rattle.pool_slots.specs.declared.striped_plan.StripedPlanSettings.{StripedPlanSettings}
pub use Rattle.pool_table.proofs.Fresh.{fresh_room}
pub use Rattle.pool_table.proofs.Made.{empty_by, made_inside, made_is_table}
pub use Rattle.pool_table.proofs.Zeros.{zeros_from}
pub use Rattle.pool_table.specs.Elements.{element_size, empty, width}
pub use Rattle.pool_table.specs.Making.{kind_of, room_of}
pub use Rattle.pool_table.specs.TableStates.{table_view}
pub use Rattle.pool_table.specs.Tables.{IsRoom, greatest_index, greatest_of, type_maximum}
pub use Rattle.pool_table.specs.Views.{TableView}
pub use Rattle.pool_types.proofs.Multiples.{add_whole, page_below, sub_whole}
pub use Rattle.pool_types.specs.ConfigLimits.{IsWithinLimits, first_too_great, is_batch_size}
pub use Rattle.pool_types.specs.Count.{Count, IsPageSize, count, rounded_up}
pub use Rattle.pool_types.specs.MemoryTypes.{above, allow_growth_to, minimum_byte_size, refused_limits}
pub use Rattle.pool_types.specs.SettingsRules.{IsWithinRules, faulting_bytes, first_broken_rule, first_broken_total, is_page_size, is_shard_count, keys_suffice, keys_used, may_stripe, may_use, or_else, rounds_up, slab_fits, slab_stripes, unless}
pub use Rattle.pool_types.specs.declared.bad_config.BadConfig.{BadConfig}
pub use Rattle.pool_types.specs.declared.bad_config.BadConfig.TheVariants.{DecommitBatch, KeysNotOffered, PageSize, Reservation, Shards, SlabArithmetic}
pub use Rattle.pool_types.specs.declared.config.PoolingAllocationConfig.{PoolingAllocationConfig}
pub use Rattle.pool_types.specs.declared.decommit_behavior.DecommitBehavior.{DecommitBehavior}
pub use Rattle.pool_types.specs.declared.decommit_behavior.DecommitBehavior.TheVariants.{RestoreOriginalMapping, Zero}
pub use Rattle.pool_types.specs.declared.module_types.CompiledModuleId.{CompiledModuleId}
pub use Rattle.pool_types.specs.declared.module_types.ComponentInfo.{ComponentInfo}
pub use Rattle.pool_types.specs.declared.module_types.IndexType.{IndexType}
pub use Rattle.pool_types.specs.declared.module_types.IndexType.TheVariants.{I32, I64}
pub use Rattle.pool_types.specs.declared.module_types.MemoryDecl.{MemoryDecl}
pub use Rattle.pool_types.specs.declared.module_types.MemoryType.{MemoryType}
pub use Rattle.pool_types.specs.declared.module_types.ModuleInfo.{ModuleInfo}
pub use Rattle.pool_types.specs.declared.module_types.Tunables.{Tunables}
pub use Rattle.pool_types.specs.declared.offered.Offered.{Offered}
pub use Rattle.pool_types.specs.declared.table_type.TableElementType.{TableElementType}
pub use Rattle.pool_types.specs.declared.table_type.TableElementType.TheVariants.{Cont, Func, GcRef}
pub use Rattle.pool_types.specs.declared.table_type.TableType.{TableType}
pub use Rattle.pool_types.specs.declared.unsupported.Unsupported.{Unsupported}
pub use Rattle.pool_types.specs.declared.unsupported.Unsupported.TheVariants.{AddressSpace, InitialSize, MemoryMinimum, TableExceedsSlot, TableSize}
