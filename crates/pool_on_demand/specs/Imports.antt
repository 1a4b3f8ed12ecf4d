-- What the files of specs/ import from the crates below and from std, but for std's plainest words.
pub use Rattle.std.specs.Option.{option_or}
pub use Rattle.std.specs.declared.alloc.Global.{Global}
pub use Rattle.pool_alloc.specs.GuardPages.{guarding}
pub use Rattle.pool_alloc.specs.Refusals.{first_refused}
pub use Rattle.pool_alloc.specs.Requests.{image_at}
pub use Rattle.pool_images.specs.Images.{Image}
pub use Rattle.pool_limits.specs.Exchanges.{Exchange, Exchanged, GrowthQuestion, may_grow}
pub use Rattle.pool_limits.specs.Growth.{memory_answer, table_answer}
pub use Rattle.pool_limits.specs.LimiterTold.{LimiterTold, after_answer}
pub use Rattle.pool_limits.specs.declared.errors.LimiterError.{LimiterError}
pub use Rattle.pool_memory.specs.Creators.{Design, HasFaulted, IsSameMaker}
pub use Rattle.pool_memory.specs.Dynamic.{ImageOf, IsDynamic}
pub use Rattle.pool_memory.specs.Making.{maximum_asked, minimum_asked, minimum_question}
pub use Rattle.pool_memory.specs.MemoryStates.{state_of}
pub use Rattle.pool_memory.specs.Moving.{IsAsked, next_name}
pub use Rattle.pool_memory.specs.declared.memory.Memory.{Memory}
pub use Rattle.pool_memory.specs.declared.memory_error.MemoryError.{MemoryError}
pub use Rattle.pool_pages.specs.MakerTold.{MakerTold, made_region}
pub use Rattle.pool_pages.specs.Told.{Told, succeeded}
pub use Rattle.pool_slots.specs.HeapsTold.{HeapsTold, fails_next}
pub use Rattle.pool_slots.specs.PlainSlots.{StackState}
pub use Rattle.pool_slots.specs.SlotQueues.{plain_slot}
pub use Rattle.pool_slots.specs.declared.errors.AllocError.{AllocError}
pub use Rattle.pool_table.specs.Elements.{element_size}
pub use Rattle.pool_table.specs.Making.{IsNewList, making_question}
pub use Rattle.pool_table.specs.Tables.{type_maximum}
pub use Rattle.pool_table.specs.declared.table.Table.{Table}
pub use Rattle.pool_table.specs.declared.table_error.TableError.{TableError}
pub use Rattle.pool_types.specs.Count.{Count, count, rounded_up}
pub use Rattle.pool_types.specs.MemoryTypes.{allow_growth_to, minimum_byte_size, refused_limits}
pub use Rattle.pool_types.specs.Rising.{Rose, risen}
pub use Rattle.pool_types.specs.declared.decommit_behavior.DecommitBehavior.{DecommitBehavior}
pub use Rattle.pool_types.specs.declared.decommit_behavior.DecommitBehavior.TheVariants.{RestoreOriginalMapping, Zero}
pub use Rattle.pool_types.specs.declared.module_types.MemoryDecl.{MemoryDecl}
pub use Rattle.pool_types.specs.declared.module_types.MemoryTunables.{MemoryTunables}
pub use Rattle.pool_types.specs.declared.module_types.MemoryType.{MemoryType}
pub use Rattle.pool_types.specs.declared.module_types.ModuleInfo.{ModuleInfo}
pub use Rattle.pool_types.specs.declared.table_type.TableType.{TableType}
pub use Rattle.pool_types.specs.declared.unsupported.Unsupported.{Unsupported}
pub use Rattle.pool_types.specs.declared.unsupported.Unsupported.TheVariants.{AddressSpace, MemoryMinimum, SharedOnDemand}
