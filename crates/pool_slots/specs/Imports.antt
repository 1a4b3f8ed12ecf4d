-- What the files of specs/ import from the crates below and from std, but for std's plainest words.
pub use Rattle.std.specs.Int.{div_ceil}
pub use Rattle.std.specs.List.{AllByRecursion, AllZip, list_any, range_with_len}
pub use Rattle.pool_hall.specs.Sum.{one_if, total}
pub use Rattle.pool_hall.specs.Unit.{pick_unit, region_unit, same, times}
pub use Rattle.pool_hall.specs.declared.unit_name.SlotKind.{SlotKind}
pub use Rattle.pool_hall.specs.declared.unit_name.SlotKind.TheVariants.{Heap}
pub use Rattle.pool_hall.specs.declared.unit_name.UnitName.{UnitName}
pub use Rattle.pool_images.specs.Orders.{Follows}
pub use Rattle.pool_images.specs.Slots.{CallFaulted, Holds, IsClean, IsFresh, IsLeft, IsPart, IsReady, IsSlot, Reads, Slot, SlotIdentity, called, coloured, decommitted_all, forgotten as forgotten_memory, identity, reset_ranges, size_of}
pub use Rattle.pool_images.specs.declared.ranges.ByteRange.{ByteRange}
pub use Rattle.pool_index.specs.Layout.{budget_of, shard_count, slots_per_shard}
pub use Rattle.pool_index.specs.Part.{shard_units, slot_unit}
pub use Rattle.pool_index.specs.Round.{found_units}
pub use Rattle.pool_index.specs.Shard.{IsShard, NumbersFit, ShardState, affine_answer, after_affine_pick, after_free, after_pick, fresh_shard, pick_answer, slot_number, use_of}
pub use Rattle.pool_index.specs.declared.ids.MemoryInModule.{MemoryInModule}
pub use Rattle.pool_index.specs.declared.ids.SlotId.{SlotId}
pub use Rattle.pool_pages.specs.Contents.{IsIn, page_bytes, page_origin}
pub use Rattle.pool_pages.specs.MakerTold.{MakerTold, Planned, calls_of, fails_making, made_region, no_calls}
pub use Rattle.pool_pages.specs.Told.{Faulted, PageCall, Told, decommitting, hiding, overwritten, recolouring, succeeded}
pub use Rattle.pool_pages.specs.declared.pages.PageCalls.{PageCalls}
pub use Rattle.pool_pages.specs.declared.pages.RegionName.{RegionName}
pub use Rattle.pool_table.specs.Elements.{element_size}
pub use Rattle.pool_types.specs.Count.{Count, count, count as count_of, rounded_up}
pub use Rattle.pool_types.specs.Rising.{Rose, risen}
pub use Rattle.pool_types.specs.SettingsRules.{is_address, keys_used, rounds_up, slab_bytes, slab_fits, slab_slot, slab_stripes}
pub use Rattle.pool_types.specs.declared.config.PoolingAllocationConfig.{PoolingAllocationConfig}
pub use Rattle.pool_types.specs.declared.decommit_behavior.DecommitBehavior.{DecommitBehavior}
pub use Rattle.pool_types.specs.declared.module_types.Tunables.{Tunables}
pub use Rattle.pool_types.specs.declared.offered.Offered.{Offered}
pub use Rattle.pool_types.specs.declared.table_type.TableElementType.{TableElementType}
