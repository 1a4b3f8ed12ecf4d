-- What the files of proofs/ import from the crates below and from std, but for std's plainest words.
pub use Rattle.std.proofs.Math.Nat.{div-lt_iff_lt-mul, div-mul-le_self, le-div_iff_mul-le, le_of_mul-le-mul_right, mod-add-div', mod-lt, mul-le-mul_right, mul-mod_left, pow-suc}
pub use Rattle.std.proofs.lemmas.Bool.{cases_eq, cases_lt, eqb-true, le-ltb, ltb-false, ltb-true, true≢false}
pub use Rattle.std.proofs.lemmas.List.{get_or-replicate, length-replicate, length-take-le, same_lists, take_more}
pub use Rattle.std.proofs.lemmas.List.Elements.{All-cons, All-nil}
pub use Rattle.std.proofs.lemmas.List.Folds.{list_any_at}
pub use Rattle.std.proofs.lemmas.Nat.{ones_cat, shr_split, zero_from_ones}
pub use Rattle.std.specs.Arc.{arc_value}
pub use Rattle.std.specs.List.{list_any}
pub use Rattle.std.specs.Result.{IsErrAnd}
pub use Rattle.pool_pages.proofs.PageNumbers.{marks_fit}
pub use Rattle.pool_pages.proofs.Puts.{get_or-put_above, get_or-put_below, get_or-put_in, get_or-range, length-put, length-range, put_empty, put_range, range-put, range-put_above, range-put_below, range-put_both, range-put_in, range_joined, range_within, same_at, same_by_pages, same_range}
pub use Rattle.pool_pages.proofs.Shapes.{decommitted_shaped}
pub use Rattle.pool_pages.proofs.Small.{and_false, or_false}
pub use Rattle.pool_pages.specs.Contents.{CanReach, Contents, HasNoOtherImage, IsIn, IsShaped, Page, decommitted, erased, exposed, hidden, image_mapped, page_at, page_bytes, page_origin, put, put_all, put_back, recoloured, remapped, written}
pub use Rattle.pool_pages.specs.MakeFaults.{RaisesBehind}
pub use Rattle.pool_pages.specs.MakerTold.{Planned, fails_images}
pub use Rattle.pool_pages.specs.Told.{Faulted, IsPartly, MayChangePartly, PageCall, TellsShaped, Told, counted, decommitting, erasing, exposing, hiding, mapped, mapping, overwritten, passes, recolouring, remapping, restored, succeeded}
pub use Rattle.pool_types.proofs.Multiples.{add_whole, page_below, page_of, sub_whole, whole}
pub use Rattle.pool_types.specs.Count.{Count, IsPageSize, count, rounded_up}
pub use Rattle.pool_types.specs.declared.decommit_behavior.DecommitBehavior.{DecommitBehavior}
pub use Rattle.pool_types.specs.declared.decommit_behavior.DecommitBehavior.TheVariants.{RestoreOriginalMapping, Zero}
pub use Rattle.pool_types.specs.declared.module_types.CompiledModuleId.{CompiledModuleId}
pub use Rattle.pool_types.specs.declared.module_types.MemoryDecl.{MemoryDecl}
