-- What the files of proofs/ import from the crates below and from std, but for std's plainest words.
pub use Rattle.std.proofs.Math.Nat.{div-mul-le_self, lt-mul-div-succ, mod-add-div', mul-le-mul_left, mul-le-mul_right, zero-div, zero-mod}
pub use Rattle.std.proofs.lemmas.Bool.{cases_eq, cases_lt, leb-false, ltb-false, ltb-true, ne_eqb}
pub use Rattle.std.proofs.lemmas.Bool.Decides.{Decides-eqb, nat_tests}
pub use Rattle.std.proofs.lemmas.List.{append-nil, drop-replicate, get_or-append_right, get_or-drop, get_or-replicate, get_or-take, get_or_append_left, get_or_default, get_or_past, length-append, length-drop, length-replicate, length-take, length-take-le, nil_from_length, replicate_more, same_lists, set_split, take-append-drop, take-append-le, take-replicate, take_all, take_more}
pub use Rattle.std.proofs.lemmas.List.Elements.{filter-append, filter_agree, filter_map-append}
pub use Rattle.std.proofs.lemmas.List.Sorted.{IsNonDecreasingBy-from_sort_by_key, answers_always}
pub use Rattle.std.proofs.lemmas.List.Sums.{fold-append}
pub use Rattle.std.proofs.lemmas.Nat.{le-div}
pub use Rattle.std.proofs.lemmas.Slice.Eq.{slice_eq-Decides}
pub use Rattle.std.specs.List.{AllByRecursion, cons_option, filter, filter_map, list_any}
pub use Rattle.std.specs.List.Sorted.{IsStableByKey}
pub use Rattle.std.specs.Option.{IfSome, option_and_then, option_map_or}
pub use Rattle.std.specs.Ordering.{is_lt, nat_cmp}
pub use Rattle.std.specs.Result.{IfOk}
pub use Rattle.pool_types.proofs.Multiples.{page_below, page_of, page_within, whole}
pub use Rattle.pool_types.specs.Count.{Count, IsPageSize}
pub use Rattle.pool_types.specs.Rising.{risen}
pub use Rattle.pool_types.specs.declared.decommit_behavior.DecommitBehavior.{DecommitBehavior}
