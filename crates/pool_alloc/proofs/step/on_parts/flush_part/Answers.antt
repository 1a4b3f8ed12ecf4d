use Rattle.std.proofs.Common.{◌≡◌, ℕ, None, sym, ap, ◌∙◌}
use Rattle.pool_alloc.proofs.Imports.{PoolPart, Queue, SlotKind, first_of_kind}
use Rattle.pool_alloc.specs.OnParts.{on_shard}
use Rattle.pool_alloc.specs.StepReads.{first_shard, shard_in}
use Rattle.pool_alloc.specs.StepTable.{free_on, kind_settled}
use Rattle.pool_alloc.specs.Turns.{Row, part_after}
use Rattle.pool_alloc.specs.declared.frame.Frame.{Frame}
use Rattle.pool_alloc.proofs.FlushCalls.{frees_on, popped_none}
use Rattle.pool_alloc.proofs.step.on_parts.flush_part.Goals as goal

pub returns-in-None : goal.returns-in-None
returns-in-None g c =
    let f : Frame g.row.P.Denot g.row.H.Denot = c.args.frame.now in
    let q : Queue = f.local in
    let none : first_of_kind c.kind_settled-kind.result q.slots ≡ None = sym c.pop.ensures.value ∙ c.in-None.is in
    let first : first_of_kind (kind_settled q.slots f.freed.items) q.slots ≡ None = ap (λ (k : SlotKind). first_of_kind k q.slots) (sym c.kind_settled-kind.ensures) ∙ none in
    c.free.ensures
    ∙ ap (λ (place : ℕ). part_after (on_shard (free_on c.args.plan.now place (shard_in c.args.part.now) (record f { local = c.pop.new.self })))) c.first_shard-place.ensures
    ∙ ap (λ (l : Queue). part_after (on_shard (free_on c.args.plan.now (first_shard c.args.plan.now f.freed.items) (shard_in c.args.part.now) (record f { local = l })))) (popped_none c.kind_settled-kind.result q c.pop.new.self c.pop.ensures.others none)
    ∙ ap (λ (r : Row (PoolPart _ _) _ _). part_after r) (sym (frees_on c.args.plan.now c.args.part.now f c.requires.can first).row)
