-- What the files of proofs/ import from the crates below and from std, but for std's plainest words.
pub use Rattle.std.proofs.Math.Nat.{div-mul-le_self, lt-mul-div-succ, mul-le-mul_left, mul-le-mul_right}
pub use Rattle.std.proofs.Math.Numerals.{suc-eq-add-one}
pub use Rattle.std.proofs.lemmas.Bool.{cases_eq, cases_lt, eq-eqb, lt-ltb}
pub use Rattle.std.proofs.lemmas.Bool.Decides.{nat_tests}
pub use Rattle.std.proofs.lemmas.List.{append-nil, drop-map, get_or-append_right, get_or-map, get_or-replicate, get_or-take, get_or_append_left, length-append, length-map, length-replicate, length-take, map-append, replicate-append-replicate, same_lists, take-append-drop, take-map, take_all}
pub use Rattle.std.proofs.lemmas.List.Elements.{All-from_get_or}
pub use Rattle.std.proofs.lemmas.List.Folds.{concat-append, list_any_at, list_any_none}
pub use Rattle.std.proofs.lemmas.List.FromFn.{get_or-map-range_with_len, length-map-range_with_len}
pub use Rattle.std.proofs.lemmas.List.Sorted.{IsNonDecreasingBy-from_sort, list_any-IsPermutation}
pub use Rattle.std.proofs.lemmas.Nat.{from_le_bytes-to_le_bytes_4, from_le_bytes-to_le_bytes_8, le-div}
pub use Rattle.std.proofs.lemmas.Option.{slice_get-get_or}
pub use Rattle.std.specs.Int.{from_le_bytes, to_le_bytes, w64}
pub use Rattle.std.specs.List.{concat, list_any}
pub use Rattle.std.specs.List.Sorted.{IsNonDecreasing}
pub use Rattle.pool_limits.proofs.Ruled.{allowed_grown, allowed_past, ruled_error, ruled_no, ruled_nothing, ruled_past_type, ruled_yes, unasked}
pub use Rattle.pool_limits.specs.Exchanges.{Exchange, Exchanged, GrowthQuestion, may_grow, question_of}
pub use Rattle.pool_limits.specs.Growing.{GrowthGiven, GrowthMakes, IsAllowed, IsReported, IsRuled, Obstacles, growth_exchanges}
pub use Rattle.pool_limits.specs.Growth.{table_answer}
pub use Rattle.pool_limits.specs.LimiterTold.{LimiterTold, after_answer}
pub use Rattle.pool_limits.specs.declared.errors.GrowError.TheVariants.{TypeLimit}
pub use Rattle.pool_limits.specs.declared.errors.GrowFault.{GrowFault}
pub use Rattle.pool_limits.specs.declared.errors.LimiterError.{LimiterError}
pub use Rattle.pool_pages.proofs.DenseCalls.{fresh_shaped}
pub use Rattle.pool_pages.proofs.PageNumbers.{touched_fit, touched_some}
pub use Rattle.pool_pages.proofs.PageRuns.{mark_more}
pub use Rattle.pool_pages.proofs.Puts.{get_or-put_above, get_or-put_below, get_or-put_in, get_or-range, length-put, length-range, put-put, range-put_above, range-put_below, range-put_in, same_at, same_by_pages}
pub use Rattle.pool_pages.proofs.Shapes.{get_or-put_all_in, get_or-put_all_out, length-put_all}
pub use Rattle.pool_pages.proofs.Small.{zeros_within}
pub use Rattle.pool_pages.specs.Contents.{CanReach, Contents, IsShaped, Page, decommitted, page_at, page_origin, put, put_all, touched, touched_marked, written}
pub use Rattle.pool_pages.specs.Told.{Faulted, IsPartly, IsRange, MayChangePartly, TellsMarks, TellsShaped, Told, decommitting, overwritten, succeeded}
pub use Rattle.pool_pages.specs.declared.pages.PageFault.{PageFault}
pub use Rattle.pool_types.proofs.Multiples.{page_below, page_of}
pub use Rattle.pool_types.specs.Count.{Count}
pub use Rattle.pool_types.specs.declared.table_type.TableElementType.{TableElementType}
pub use Rattle.pool_types.specs.declared.table_type.TableElementType.TheVariants.{Cont, Func, GcRef}
pub use Rattle.pool_types.specs.declared.table_type.TableType.{TableType}
