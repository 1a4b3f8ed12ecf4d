use Rattle.std.proofs.Common.{ℕ, ◌<◌, List, length, ◌∙◌, arith}
use Rattle.pool_slots.specs.SlotQueues.{Queued}
use Rattle.pool_slots.proofs.SlotFaults.{forgotten_more}
use Rattle.pool_slots.proofs.kind_items.KindItems.forget.Goals as goal

pub loop-at-preserved : goal.loop-at-preserved
loop-at-preserved g c =
    let xs : List Queued = c.args.self.now.items in
    let i : ℕ = c.loop-at.at in
    let inside : i < length xs = omega (arith, c.loop-at.invariant.all, c.loop-at-test.true) in
    let more = forgotten_more xs c.loop-at.self.items c.loop-at.self.room i c.forget_at.new.self inside c.loop-at.invariant.items c.forget_at.ensures in
    record { items = more.0; room = more.1 ∙ c.loop-at.invariant.room; all = c.loop-at.invariant.all }
