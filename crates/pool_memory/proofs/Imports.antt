-- What the files of proofs/ import from the crates below and from std, but for std's plainest words.
pub use Rattle.std.proofs.Math.Nat.{div-eq_of_lt, div-lt_iff_lt-mul, div-mul-le_self, mul-le-mul_right, mul-mod_left}
pub use Rattle.std.proofs.Math.Seq.{take-add}
pub use Rattle.std.proofs.lemmas.Bool.{cases_lt, eq-eqb, lt-ltb, ltb-false}
pub use Rattle.std.proofs.lemmas.Bool.Decides.{nat_tests}
pub use Rattle.std.proofs.lemmas.List.{append-nil, length-append, length-replicate, replicate-append-replicate, take-append-drop, take-append-le}
pub use Rattle.std.proofs.lemmas.Nat.{pow-add}
pub use Rattle.std.specs.Arc.{arc_value}
pub use Rattle.std.specs.List.{list_any}
pub use Rattle.pool_images.proofs.Begun.{if_mapped, rounded_up_above}
pub use Rattle.pool_images.proofs.Kept.{kept_self}
pub use Rattle.pool_images.proofs.Marks.{range-put_around, range-zeros}
pub use Rattle.pool_images.proofs.PageSizes.{rounded_past, rounded_same, whole_leaves}
pub use Rattle.pool_images.proofs.Pieces.{piece_of}
pub use Rattle.pool_images.proofs.Ready.{followed, paired}
pub use Rattle.pool_images.proofs.Sizes.{rounded_up_more}
pub use Rattle.pool_images.specs.Images.{Image, start}
pub use Rattle.pool_images.specs.Slots.{HasColour, IsBegun, IsClean, IsReady, IsSized, IsSlot, IsSound, OnlyExposed, Slot, SlotIdentity, called, identity, limited, name_of, raised, resized, size_of, written_at}
pub use Rattle.pool_limits.proofs.Ruled.{allowed_failed, allowed_grown, allowed_past, ruled_error, ruled_no, ruled_nothing, ruled_past_type, ruled_yes, unasked}
pub use Rattle.pool_limits.specs.Exchanges.{Exchange, Exchanged, GrowthQuestion, may_grow, question_of}
pub use Rattle.pool_limits.specs.Growing.{AllowedMakes, GrowthGiven, IsReported, IsRuled, Obstacles, allowed_result, answer_result, growth_exchanges, report_result, result_by}
pub use Rattle.pool_limits.specs.Growth.{memory_answer}
pub use Rattle.pool_limits.specs.LimiterTold.{LimiterTold, after_answer}
pub use Rattle.pool_limits.specs.declared.errors.GrowError.{GrowError}
pub use Rattle.pool_limits.specs.declared.errors.GrowFault.{GrowFault}
pub use Rattle.pool_limits.specs.declared.errors.LimiterError.{LimiterError}
pub use Rattle.pool_limits.specs.declared.growing.Growable.TheVariants.{Memory}
pub use Rattle.pool_pages.proofs.PageNumbers.{page_from}
pub use Rattle.pool_pages.proofs.PageRuns.{range_join}
pub use Rattle.pool_pages.proofs.Prefixes.{length-with_zeros, range-with_zeros}
pub use Rattle.pool_pages.proofs.Puts.{length-put, put-put, range-put, range-put_above, range_range}
pub use Rattle.pool_pages.proofs.Small.{mapped_some, replicated, zeros_within}
pub use Rattle.pool_pages.specs.Contents.{CanReach, Contents, put, written}
pub use Rattle.pool_pages.specs.Dense.{with_zeros}
pub use Rattle.pool_pages.specs.MakeFaults.{RaisesBehind, RaisesFaults}
pub use Rattle.pool_pages.specs.MakerTold.{MakerTold, Planned, calls_of, fails_making, fresh, next_after, part_of, plan_for}
pub use Rattle.pool_pages.specs.Told.{Told, exposing, hiding}
pub use Rattle.pool_pages.specs.declared.maker.MakeFault.{MakeFault}
pub use Rattle.pool_pages.specs.declared.pages.RegionName.TheVariants.{OnDemand}
pub use Rattle.pool_types.proofs.Multiples.{page_below, whole}
pub use Rattle.pool_types.specs.Count.{Count, IsPageSize, count, rounded_up}
pub use Rattle.pool_types.specs.MemoryTypes.{above, allow_growth_to, greatest_size, guard_size, index_bound, maximum_byte_size, minimum_byte_size, page_size, refused_limits}
pub use Rattle.pool_types.specs.Rising.{Rose, risen}
pub use Rattle.pool_types.specs.declared.module_types.MemoryKind.{MemoryKind}
pub use Rattle.pool_types.specs.declared.module_types.MemoryTunables.{MemoryTunables}
pub use Rattle.pool_types.specs.declared.module_types.MemoryType.{MemoryType}
pub use Rattle.pool_types.specs.declared.module_types.Tunables.{Tunables}
pub use Rattle.pool_types.specs.declared.unsupported.Unsupported.{Unsupported}
pub use Rattle.pool_types.specs.declared.unsupported.Unsupported.TheVariants.{AddressSpace, InitialSize, MemoryMinimum, MinimumExceedsMaximum}
