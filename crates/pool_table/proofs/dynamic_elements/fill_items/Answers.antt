use Rattle.std.proofs.Common.{◌≡◌, ℕ, ◌-◌, ◌<◌, length, ap, ◌∙◌, arith, slice_set}
use Rattle.pool_table.proofs.Imports.{put_all, mark_more}
use Rattle.pool_table.proofs.dynamic_elements.fill_items.Goals as goal

pub loop-index-preserved : goal.loop-index-preserved
loop-index-preserved g c =
    let below : c.loop-index.index < length c.args.items.now.items = omega (arith, c.loop-index-test.true, c.requires) in
    ap (λ xs. slice_set xs c.loop-index.index c.args.item) c.loop-index.invariant
    ∙ mark_more c.args.first c.loop-index.index c.args.item c.args.items.now.items c.loop-index.auto.index below

pub returns : goal.returns
returns g c =
    let count : c.loop-index.index - c.args.first ≡ c.args.count = omega arith in
    c.loop-index.invariant ∙ ap (λ (n : ℕ). put_all c.args.first n c.args.item c.args.items.now.items) count
