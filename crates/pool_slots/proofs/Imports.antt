-- What the files of proofs/ import from the crates below and from std, but for std's plainest words.
pub use Rattle.std.proofs.Math.Nat.{add-mul, div-add-mod, div-mul-le_self, le-mul_of_pos_right, mod-lt, mul-div_cancel, mul-div_left, mul-le-mul_right, mul-mod_left, zero-div, zero-mod}
pub use Rattle.std.proofs.Math.Seq.{take-suc}
pub use Rattle.std.proofs.lemmas.Bool.{and_from, and_parts, cases_Bool, cases_lt, eq-eqb, eqb-true, false≢true, le-leb, le-ltb, leb-true, lt-ltb, ltb-false, ltb-true, or_from, or_left, or_parts, or_right, true≢false}
pub use Rattle.std.proofs.lemmas.Bool.Decides.{nat_tests}
pub use Rattle.std.proofs.lemmas.Grind.{div_ceil_times}
pub use Rattle.std.proofs.lemmas.List.{append-nil, append_assoc, get_or-append_right, get_or-map, get_or-replicate, get_or-set_other, get_or-set_same, get_or_append_left, get_or_default, get_or_past, get_or_read, length-append, length-drop, length-map, length-replicate, length-set, length-take-le, map-append, map_more, nil_from_length, same_lists}
pub use Rattle.std.proofs.lemmas.List.Edits.{map_over_more}
pub use Rattle.std.proofs.lemmas.List.Elements.{All-cons, All-head, All-nil, All-tail}
pub use Rattle.std.proofs.lemmas.List.Folds.{list_any-append, list_any_at, list_any_none}
pub use Rattle.std.proofs.lemmas.List.FromFn.{get_or-map-range_with_len, get_or-range_with_len, length-map-range_with_len, length-range_with_len, map-range_with_len_more}
pub use Rattle.std.proofs.lemmas.Nat.{div-mul-add, mod-mul-add}
pub use Rattle.std.proofs.lemmas.Option.{IfSome_then}
pub use Rattle.std.proofs.lemmas.Result.{IfOk-weaker, on_err_weaker, on_ok_weaker}
pub use Rattle.std.specs.Int.{div_ceil}
pub use Rattle.std.specs.List.{AllByRecursion, AllZip, HoldsAt, list_any, range_with_len}
pub use Rattle.pool_hall.proofs.Totals.{element, inside, total_append, total_only, total_set, total_zero}
pub use Rattle.pool_hall.proofs.Units.{same_is}
pub use Rattle.pool_hall.specs.Sum.{one_if, total}
pub use Rattle.pool_hall.specs.Unit.{pick_unit, same, times}
pub use Rattle.pool_hall.specs.declared.unit_name.SlotKind.{SlotKind}
pub use Rattle.pool_hall.specs.declared.unit_name.SlotKind.TheVariants.{Heap, Stack, Table}
pub use Rattle.pool_hall.specs.declared.unit_name.UnitName.{UnitName}
pub use Rattle.pool_images.proofs.Backs.{back_here, back_there, tells_shaped}
pub use Rattle.pool_images.proofs.Begun.{rounded_up_above}
pub use Rattle.pool_images.proofs.Decommits.{by_page, from_page, to_page}
pub use Rattle.pool_images.proofs.Fitting.{keeps_decommitted}
pub use Rattle.pool_images.proofs.Identity.{IsLike, like_self, same_called, same_faulted}
pub use Rattle.pool_images.proofs.Making.{reach_slot, written_ready}
pub use Rattle.pool_images.proofs.Marks.{marked_in, page_lt, range-zeros}
pub use Rattle.pool_images.proofs.Ordering.{follows_then}
pub use Rattle.pool_images.proofs.PageSizes.{rounded_is_whole, rounded_same}
pub use Rattle.pool_images.proofs.Queued.{fits_next, next}
pub use Rattle.pool_images.proofs.Ready.{followed, lifted, paired}
pub use Rattle.pool_images.proofs.Wiped.{size_whole}
pub use Rattle.pool_images.specs.Orders.{Follows, failed, outcome}
pub use Rattle.pool_images.specs.Slots.{CallFaulted, HasColour, Holds, IsClean, IsFresh, IsLeft, IsPart, IsReady, IsSlot, IsSound, Keeps, Slot, SlotIdentity, called, coloured, decommitted_all, forgotten as forgotten_memory, origin_image, placed, reset_ranges, restored_image, size_of}
pub use Rattle.pool_images.specs.declared.image_slot.ImageName.{ImageName}
pub use Rattle.pool_images.specs.declared.ranges.ByteRange.{ByteRange}
pub use Rattle.pool_index.proofs.Picking.{probe_picks}
pub use Rattle.pool_index.proofs.SlotUnits.{is_out, out_less, out_once}
pub use Rattle.pool_index.specs.Layout.{layout, shard_at, slots_per_shard}
pub use Rattle.pool_index.specs.Part.{shard_units, slot_unit, used_units}
pub use Rattle.pool_index.specs.Round.{found_units}
pub use Rattle.pool_index.specs.Shard.{ShardState}
pub use Rattle.pool_index.specs.declared.ids.MemoryInModule.{MemoryInModule}
pub use Rattle.pool_index.specs.declared.probe.Probe.TheVariants.{Pick}
pub use Rattle.pool_index.specs.declared.warm_slot.WarmSlot.{WarmSlot}
pub use Rattle.pool_pages.proofs.PageChanges.{decommit_law}
pub use Rattle.pool_pages.proofs.PageNumbers.{page_above}
pub use Rattle.pool_pages.proofs.Puts.{get_or-put_above, get_or-put_in, get_or-range, length-put, length-range, range-put_above, range_joined, range_range, range_within, same_at, same_by_pages, same_range}
pub use Rattle.pool_pages.proofs.Shapes.{written_shaped}
pub use Rattle.pool_pages.proofs.Small.{each_at, replicated, told_both, told_weaker}
pub use Rattle.pool_pages.specs.Contents.{CanReach, Contents, IsIn, IsShaped, Page, decommitted, page_at, page_bytes, page_origin, put, recoloured, written}
pub use Rattle.pool_pages.specs.MakerTold.{MakerTold, Planned, fails_making, fresh, made_region}
pub use Rattle.pool_pages.specs.PageLaws.{IsPages}
pub use Rattle.pool_pages.specs.Told.{Faulted, IsPartly, MayChangePartly, PageCall, TellsShaped, Told, decommitting, hiding, overwritten, passes, recolouring, succeeded}
pub use Rattle.pool_types.proofs.Multiples.{add_whole, page_below, page_of, sub_whole, whole}
pub use Rattle.pool_types.specs.Count.{Count, count, rounded_up}
pub use Rattle.pool_types.specs.Rising.{Rose, risen}
pub use Rattle.pool_types.specs.SettingsRules.{is_address, keys_used, may_stripe, rounds_up, slab_slot, slab_stripes}
pub use Rattle.pool_types.specs.declared.config.PoolingAllocationConfig.{PoolingAllocationConfig}
pub use Rattle.pool_types.specs.declared.decommit_behavior.DecommitBehavior.{DecommitBehavior}
pub use Rattle.pool_types.specs.declared.module_types.Tunables.{Tunables}
pub use Rattle.pool_types.specs.declared.offered.Offered.{Offered}
