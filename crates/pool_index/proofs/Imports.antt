-- What the files of proofs/ import from the crates below and from std, but for std's plainest words.
pub use Rattle.std.proofs.Math.Nat.{div-eq_of_lt-le, le-div_iff_mul-le, zero-mod}
pub use Rattle.std.proofs.Math.Seq.{map-set_same}
pub use Rattle.std.proofs.lemmas.Bool.{and_parts, cases_Bool, cases_eq, cases_lt, eqb-true, ltb-true, ne_eqb}
pub use Rattle.std.proofs.lemmas.Bool.Decides.{nat_tests}
pub use Rattle.std.proofs.lemmas.Grind.{common_steps, div_ceil_times, flat_map-append}
pub use Rattle.std.proofs.lemmas.List.{append-nil, append_assoc, get_or-replicate, get_or_past, length-map, length-replicate, length-set, map-append, map-set, same_lists, set-get_or, set-set, set_comm}
pub use Rattle.std.proofs.lemmas.List.Edits.{length-remove}
pub use Rattle.std.proofs.lemmas.List.Elements.{All-append, All-cons, All-drop, All-from_get_or, All-get_or, All-head, All-map, All-nil, All-push, All-tail, All-take, filter-append}
pub use Rattle.std.proofs.lemmas.List.Folds.{sum_by-replicate}
pub use Rattle.std.proofs.lemmas.List.FromFn.{get_or-map-range_with_len, length-map-range_with_len, map-range_with_len_more, sum_by-map-range_with_len_more}
pub use Rattle.std.proofs.lemmas.List.Sums.{get_or-le-sum_by, sum_by-append, sum_by-cons, sum_by-le, sum_by-remove, sum_by-set, sum_by_push}
pub use Rattle.std.proofs.lemmas.Nat.{div-mul-add, le-div}
pub use Rattle.std.specs.List.{range_with_len}
pub use Rattle.std.specs.Option.{option_map_or, option_or}
pub use Rattle.pool_hall.proofs.Callers.{may_move, times_after}
pub use Rattle.pool_hall.proofs.Units.{same_is, same_self, times_append}
pub use Rattle.pool_hall.specs.Held.{IsHeld}
pub use Rattle.pool_hall.specs.Meaning.{AllFresh, IsFreshAt, Meaning, StandsAt}
pub use Rattle.pool_hall.specs.Seat.{view}
pub use Rattle.pool_hall.specs.Step.{MayPut, Taken, moved, put_view}
pub use Rattle.pool_hall.specs.Sum.{often, one_if, total}
pub use Rattle.pool_hall.specs.Tally.{counted, number, rise, rise_at}
pub use Rattle.pool_hall.specs.Unit.{Beside, kind_number, pick_of, pick_unit, same, times}
pub use Rattle.pool_hall.specs.declared.unit_name.SlotKind.{SlotKind}
pub use Rattle.pool_hall.specs.declared.unit_name.SlotKind.TheVariants.{Memory}
pub use Rattle.pool_hall.specs.declared.unit_name.UnitName.{UnitName}
pub use Rattle.pool_hall.specs.declared.view.CountRise.{CountRise}
pub use Rattle.pool_hall.specs.declared.view.View.{View}
