use Rattle.std.proofs.Common.{◌≡◌, ◌%◌, subst}
use Rattle.pool_types.specs.Count.{Count, IsPageSize}
use Rattle.pool_memory.proofs.Fresh.{region_made}
use Rattle.pool_memory.proofs.moving.make_slot.Goals as goal

pub open_slot-requires-clause-made : goal.open_slot-requires-clause-made
open_slot-requires-clause-made g c =
    let Whole : Count → Type 0 = λ k. k.bytes % k.page ≡ 0 in
    let Sized : Count → Type 0 = λ k. IsPageSize k.page in
    region_made (g.M.PageMaker.told c.args.maker.now) c.args.layout.now (g.P.Pages.told c.in_ok-region.region) c.in_ok-region.ensures.region
    (subst Sized c.before-2.ensures c.byte_count-before.ensures.page) (subst Whole c.before-2.ensures c.byte_count-before.ensures.aligned) (subst Whole c.capacity.ensures c.byte_count-capacity.ensures.aligned) c.make_region.ensures.bounded
