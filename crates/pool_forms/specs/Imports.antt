-- What the files of specs/ import from the crates below and from std, but for std's plainest words.
pub use Rattle.std.specs.Fmt.{decimal}
pub use Rattle.std.specs.List.{list_all, list_any}
pub use Rattle.std.specs.Option.{option_map_or}
pub use Rattle.std.specs.Result.{result_ok}
pub use Rattle.std.specs.Str.{bytes_eq, is_utf8}
pub use Rattle.hex.specs.Hex.{decode_of, encode_lower}
pub use Rattle.pool_alloc.specs.declared.metrics.Metrics.{Metrics}
pub use Rattle.pool_alloc.specs.declared.leases.element.Element.{Element}
pub use Rattle.pool_alloc.specs.declared.leases.element.Element.TheVariants.{Gc, Uninitialised}
pub use Rattle.pool_limits.specs.Texts.{limiter_text}
pub use Rattle.pool_limits.specs.declared.errors.Trap.{Trap}
pub use Rattle.pool_limits.specs.declared.errors.Trap.TheVariants.{AtomicWaitNonSharedMemory, HeapMisaligned, MemoryOutOfBounds, TableOutOfBounds}
pub use Rattle.pool_pages.specs.declared.fault_plan.Fault.{Fault}
pub use Rattle.pool_pages.specs.declared.fault_plan.FaultKind.{FaultKind}
pub use Rattle.pool_pages.specs.declared.fault_plan.FaultKind.TheVariants.{Image, Table}
pub use Rattle.pool_pages.specs.declared.pages.PageCalls.{PageCalls}
pub use Rattle.pool_run.specs.Built.{is_built}
pub use Rattle.pool_run.specs.Validity.{is_valid}
pub use Rattle.pool_run.specs.declared.command.Command.{Command}
pub use Rattle.pool_run.specs.declared.command.Command.TheVariants.{Drop, Fill, Get, Instantiate, Purge, Release, Set, TableFill, TableGrow, TableSize}
pub use Rattle.pool_run.specs.declared.command.TableValue.{TableValue}
pub use Rattle.pool_run.specs.declared.command.TableValue.TheVariants.{Continuation, Null, Number}
pub use Rattle.pool_run.specs.declared.input.Input.{Input}
pub use Rattle.pool_run.specs.declared.input.Party.{Party}
pub use Rattle.pool_run.specs.declared.input.PartyLimits.{PartyLimits}
pub use Rattle.pool_run.specs.declared.input.ScheduleEntry.{ScheduleEntry}
pub use Rattle.pool_run.specs.declared.output.RunOutput.{RunOutput}
pub use Rattle.pool_run.specs.declared.reply.Refusal.{Refusal}
pub use Rattle.pool_run.specs.declared.reply.Refusal.TheVariants.{Alloc, GcStoreFault, NoSuchGrant}
pub use Rattle.pool_run.specs.declared.reply.Reply.{Reply}
pub use Rattle.pool_run.specs.declared.reply.Reply.TheVariants.{Element as Told, Instance, Purged, Refused, Released, Returned, Trap as Trapped}
pub use Rattle.pool_run_shared.specs.Validity.{is_valid_shared}
pub use Rattle.pool_run_shared.specs.declared.input.SharedEvent.{SharedEvent}
pub use Rattle.pool_run_shared.specs.declared.input.SharedEvent.TheVariants.{Notify, Wait32, Wait64, Wake}
pub use Rattle.pool_run_shared.specs.declared.input.SharedInput.{SharedInput}
pub use Rattle.pool_run_shared.specs.declared.reply.SharedReply.{SharedReply}
pub use Rattle.pool_run_shared.specs.declared.reply.SharedReply.TheVariants.{Notified, Wait, WaiterBusy, WaiterIdle}
pub use Rattle.pool_shared.specs.declared.wait_step.WaitStep.{WaitStep}
pub use Rattle.pool_shared.specs.declared.wait_step.WaitStep.TheVariants.{Mismatch, Ok as Woken, Parked, TimedOut}
pub use Rattle.pool_slots.specs.Texts.{limit_text}
pub use Rattle.pool_slots.specs.declared.errors.AllocError.{AllocError}
pub use Rattle.pool_slots.specs.declared.errors.AllocError.TheVariants.{HeapFault, HeapsDisabled, Limit, LimiterDenied, LimiterFault, Memory as NoMemory, PageFault, StacksDisabled, Unsupported}
pub use Rattle.pool_table.specs.declared.element.VMContObj.{VMContObj}
pub use Rattle.pool_types.specs.Config.{default_config, default_instance_limits, default_offered, default_tunables}
pub use Rattle.pool_types.specs.UnsupportedTexts.{whole_text}
pub use Rattle.pool_types.specs.declared.config.Enabled.{Enabled}
pub use Rattle.pool_types.specs.declared.config.Enabled.TheVariants.{Auto, No, Yes}
pub use Rattle.pool_types.specs.declared.config.InstanceLimits.{InstanceLimits}
pub use Rattle.pool_types.specs.declared.config.PoolingAllocationConfig.{PoolingAllocationConfig}
pub use Rattle.pool_types.specs.declared.decommit_behavior.DecommitBehavior.{DecommitBehavior}
pub use Rattle.pool_types.specs.declared.decommit_behavior.DecommitBehavior.TheVariants.{RestoreOriginalMapping, Zero}
pub use Rattle.pool_types.specs.declared.module_types.ImageDecl.{ImageDecl}
pub use Rattle.pool_types.specs.declared.module_types.IndexType.{IndexType}
pub use Rattle.pool_types.specs.declared.module_types.IndexType.TheVariants.{I32, I64}
pub use Rattle.pool_types.specs.declared.module_types.MemoryDecl.{MemoryDecl}
pub use Rattle.pool_types.specs.declared.module_types.MemoryType.{MemoryType}
pub use Rattle.pool_types.specs.declared.module_types.ModuleInfo.{ModuleInfo}
pub use Rattle.pool_types.specs.declared.module_types.Part.{Part}
pub use Rattle.pool_types.specs.declared.module_types.Tunables.{Tunables}
pub use Rattle.pool_types.specs.declared.offered.Offered.{Offered}
pub use Rattle.pool_types.specs.declared.table_type.TableElementType.{TableElementType}
pub use Rattle.pool_types.specs.declared.table_type.TableElementType.TheVariants.{GcRef}
pub use Rattle.pool_types.specs.declared.table_type.TableType.{TableType}
pub use Rattle.serde_json.specs.Data.{Data, Items, Members, array, boolean, item, member, no_items, no_members, null, number, object, string}
pub use Rattle.serde_json.specs.Find.{as_array, as_bool, as_null, as_number, as_str, as_u64, get}
pub use Rattle.serde_json.specs.Read.{read}
pub use Rattle.serde_json.specs.View.{view}
pub use Rattle.serde_json.specs.declared.value.Value.{Value}
