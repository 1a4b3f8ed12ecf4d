-- What the files of specs/ import from the crates below and from std, but for std's plainest words.
pub use Rattle.std.specs.Option.{option_map_or}
pub use Rattle.std.specs.Result.{result_err}
pub use Rattle.pool_images.specs.Images.{Image, start}
pub use Rattle.pool_images.specs.Orders.{Follows, replacing}
pub use Rattle.pool_images.specs.Slots.{CallFaulted, FitsInto, IsClean, IsFresh, IsInUse, IsLeft, IsReady, IsSlot, Slot, hides, identity, limited, raising, written_at}
pub use Rattle.pool_limits.specs.Exchanges.{Exchange, GrowthQuestion, IfExchanged, question_of}
pub use Rattle.pool_limits.specs.Growing.{AnswerMakes, GrowthGiven, GrowthMakes, IsAllowed, IsRuled, MakesBy, Obstacles, PagesMake, growth_exchanges}
pub use Rattle.pool_limits.specs.LimiterTold.{LimiterTold, limiter_told}
pub use Rattle.pool_limits.specs.declared.errors.GrowError.{GrowError}
pub use Rattle.pool_limits.specs.declared.errors.GrowFault.{GrowFault}
pub use Rattle.pool_limits.specs.declared.errors.LimiterError.{LimiterError}
pub use Rattle.pool_limits.specs.declared.errors.Trap.{Trap}
pub use Rattle.pool_limits.specs.declared.errors.Trap.TheVariants.{AtomicWaitNonSharedMemory, HeapMisaligned, MemoryOutOfBounds}
pub use Rattle.pool_limits.specs.declared.errors.WaitResult.{WaitResult}
pub use Rattle.pool_limits.specs.declared.growing.Growable.TheVariants.{Memory as memory_kind}
pub use Rattle.pool_pages.specs.Contents.{put}
pub use Rattle.pool_pages.specs.Dense.{with_zeros}
pub use Rattle.pool_pages.specs.MakeFaults.{RaisesBehind}
pub use Rattle.pool_pages.specs.MakerTold.{MakerTold, Planned, calls_of, fails_making, made_region, next_after, no_calls, plan_for}
pub use Rattle.pool_pages.specs.Told.{PageCall, Told, exposing, passes}
pub use Rattle.pool_pages.specs.declared.maker.MakeFault.{MakeFault}
pub use Rattle.pool_pages.specs.declared.pages.RegionName.{RegionName}
pub use Rattle.pool_pages.specs.declared.pages.RegionName.TheVariants.{OnDemand}
pub use Rattle.pool_types.specs.Count.{count, rounded_up}
pub use Rattle.pool_types.specs.MemoryTypes.{allow_growth_to, guard_size, maximum_byte_size, memory_may_move, minimum_byte_size, page_size, reservation, reservation_for_growth}
pub use Rattle.pool_types.specs.Rising.{Rose}
pub use Rattle.pool_types.specs.declared.decommit_behavior.DecommitBehavior.TheVariants.{RestoreOriginalMapping, Zero}
pub use Rattle.pool_types.specs.declared.module_types.MemoryTunables.{MemoryTunables}
pub use Rattle.pool_types.specs.declared.module_types.MemoryType.{MemoryType}
pub use Rattle.pool_types.specs.declared.unsupported.Unsupported.{Unsupported}
pub use Rattle.pool_types.specs.declared.unsupported.Unsupported.TheVariants.{AddressSpace, InitialSize, MallocTunables, MemoryMinimum, SharedOnDemand}
