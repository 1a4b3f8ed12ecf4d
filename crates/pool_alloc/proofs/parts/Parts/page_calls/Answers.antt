use Rattle.std.proofs.Common.{◌∙◌, ap, take}
use Rattle.std.proofs.lemmas.List.{take_all}
use Rattle.pool_alloc.proofs.Imports.{PageCalls, added}
use Rattle.pool_alloc.specs.PoolTotals.{part_calls, calls_of_parts}
use Rattle.pool_alloc.proofs.PoolTotals.{parts_more}
use Rattle.pool_alloc.proofs.parts.Parts.page_calls.Goals as goal

pub loop-part-preserved : goal.loop-part-preserved
loop-part-preserved g c =
    c.plus-calls.ensures
    ∙ ap (λ (a : PageCalls). added a c.part_calls.result) c.loop-part.invariant
    ∙ ap (λ (b : PageCalls). added (calls_of_parts (take c.loop-part.part-index c.deref-part-items.result.now)) b) (c.part_calls.ensures ∙ ap part_calls c.part-item.is)
    ∙ parts_more c.deref-part-items.result.now c.loop-part.part-index c.part-item.result c.loop-part-test.true

pub returns : goal.returns
returns g c =
    c.loop-part.invariant ∙ ap calls_of_parts (take_all c.loop-part.part-index c.deref-part-items.result.now c.loop-part-test.false ∙ c.deref-part-items.ensures.value ∙ c.self.view_is)
