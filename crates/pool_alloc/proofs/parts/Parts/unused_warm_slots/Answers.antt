use Rattle.std.proofs.Common.{ℕ, ◌+◌, ◌-◌, ◌^◌, ◌∙◌, ap, min, take, refl}
use Rattle.std.proofs.lemmas.List.{take_all}
use Rattle.pool_alloc.specs.PoolTotals.{warm_in, warm_slots}
use Rattle.pool_alloc.proofs.PoolTotals.{sum_more}
use Rattle.pool_alloc.proofs.parts.Parts.unused_warm_slots.Goals as goal

pub loop-part-init : goal.loop-part-init
loop-part-init g c = refl

pub loop-part-preserved : goal.loop-part-preserved
loop-part-preserved g c =
    let so_far : ℕ = warm_slots c.args.kind (take c.loop-part.part-index c.deref-part-items.result.now) in
    c.saturating_add-slots.ensures
    ∙ ap (λ (n : ℕ). min (n + c.warm_in.result) (2 ^ 32 - 1)) c.loop-part.invariant
    ∙ ap (λ (n : ℕ). min (so_far + n) (2 ^ 32 - 1)) (c.warm_in.ensures ∙ ap (warm_in c.args.kind) c.part-item.is)
    ∙ sum_more (warm_in c.args.kind) (2 ^ 32 - 1) c.deref-part-items.result.now c.loop-part.part-index c.part-item.result c.loop-part-test.true

pub returns : goal.returns
returns g c =
    c.loop-part.invariant ∙ ap (warm_slots c.args.kind) (take_all c.loop-part.part-index c.deref-part-items.result.now c.loop-part-test.false ∙ c.deref-part-items.ensures.value ∙ c.self.view_is)
