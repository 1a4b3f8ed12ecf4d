use Rattle.std.proofs.Common.{◌≡◌, List, [], length, sym, ap, ◌∙◌}
use Rattle.pool_slots.proofs.Imports.{eqb-true, nil_from_length}
use Rattle.pool_slots.specs.SlotQueues.{Queued, Queue}
use Rattle.pool_slots.specs.declared.queued_range.QueuedRange.{QueuedRange}
use Rattle.pool_slots.proofs.SlotRuns.{no_slots}
use Rattle.pool_slots.proofs.decommit_queue.DecommitQueue.flush.Goals as goal

pub returns-then-is_empty-clause-empty : goal.returns-then-is_empty-clause-empty
returns-then-is_empty-clause-empty g c =
    let q : Queue = c.args.self.now in
    let slots : q.slots ≡ [] = nil_from_length q.slots (eqb-true (length q.slots) 0 (sym c.if-is_empty.ensures.value)) in
    let ranges : q.ranges ≡ [] = no_slots q.ranges q.slots slots c.requires.owners in
    ap (λ (l : List QueuedRange). record q { ranges = l }) ranges ∙ ap (λ (l : List Queued). record q { ranges = []; slots = l }) slots
