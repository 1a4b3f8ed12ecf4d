-- A queue stays one as the ranges of one slot are decommitted, or a decommit fails.
use Rattle.std.proofs.Common.{List, [], ◌∷◌, refl, sym, subst, inl, inr}
use Rattle.pool_alloc.proofs.Imports.{cases_Bool, QueuedRange, SlotName, Queue, is_of, first_slot, after_run_of, after_run, HasOwners, IsQueue, after_first_of, run_next, run_end, queue_first, owners_first}

record IsOwnedQueue (q : Queue) : Type 0 where
  queue : IsQueue q
  owners : HasOwners q

run_kept : (name : SlotName) (ranges : List QueuedRange) (q : Queue) → IsOwnedQueue (record q { ranges = ranges }) → IsOwnedQueue (after_run_of name (record q { ranges = ranges }))
run_kept name [] q is =
    let K : Queue → Type 0 = λ p. IsOwnedQueue p in
    subst K (sym (run_end name (record q { ranges = [] }) refl)) is
run_kept name (r ∷ rs) q is =
    let K : Queue → Type 0 = λ p. IsOwnedQueue p in
    elim (cases_Bool (is_of name r)) [
      | inl e ↦
          let next : IsOwnedQueue (after_first_of (r ∷ rs) q) = record { queue = queue_first r rs q is.queue; owners = owners_first r rs q is.owners } in
          subst K (run_next name r rs q e) (run_kept name rs (after_first_of (r ∷ rs) q) next)
      | inr e ↦ subst K (sym (run_end name (record q { ranges = r ∷ rs }) e)) is
    ]

pub run_queue : (q : Queue) → HasOwners q → IsQueue q → IsQueue (after_run q)
run_queue q owned is = (run_kept (first_slot q.ranges) q.ranges q (record { queue = is; owners = owned })).queue

pub run_owners : (q : Queue) → IsQueue q → HasOwners q → HasOwners (after_run q)
run_owners q is owned = (run_kept (first_slot q.ranges) q.ranges q (record { queue = is; owners = owned })).owners
