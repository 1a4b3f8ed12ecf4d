-- What the files of proofs/ import from the crates below and from std, but for std's plainest words.
pub use Rattle.std.proofs.lemmas.Bool.{cases_Bool}
pub use Rattle.std.specs.Result.{result_ok}
pub use Rattle.pool_hall.proofs.Callers.{can_put, lent_is, may_give, may_stay, may_take_back, none_left, times_given, times_returned, times_stay, view_after}
pub use Rattle.pool_hall.proofs.Units.{same_is, same_self, times_append}
pub use Rattle.pool_hall.specs.Meaning.{Meaning, StandsAt}
pub use Rattle.pool_hall.specs.Seat.{limits_of, made_with, view}
pub use Rattle.pool_hall.specs.Step.{MayPut, moved}
pub use Rattle.pool_hall.specs.Sum.{one_if}
pub use Rattle.pool_hall.specs.Unit.{Beside, pick_unit, same, times}
pub use Rattle.pool_hall.specs.declared.unit_name.SlotKind.{SlotKind}
pub use Rattle.pool_hall.specs.declared.unit_name.SlotKind.TheVariants.{Memory}
pub use Rattle.pool_hall.specs.declared.unit_name.UnitName.{UnitName}
pub use Rattle.pool_index.specs.Allocator.{IsIndexSeat, slot_answered}
pub use Rattle.pool_index.specs.Freed.{HasAll}
pub use Rattle.pool_index.specs.Round.{found_units}
pub use Rattle.pool_index.specs.declared.allocator.FullNotes.{FullNotes}
pub use Rattle.pool_index.specs.declared.ids.SlotId.{SlotId}
pub use Rattle.pool_slots.proofs.SlotReturns.{kind_fewer, kind_others, kind_over}
pub use Rattle.pool_slots.specs.Flushes.{without_kind}
pub use Rattle.pool_slots.specs.SlotQueues.{Queue, Queued, first_of_kind, others_of_kind}
