use Rattle.std.proofs.Common.{◌∙◌, ap, sym, Some, None, append-nil}
use Rattle.pool_pages.specs.FaultPlans.{planned_call}
use Rattle.pool_pages.proofs.FaultLists.{listed_more}
use Rattle.pool_pages.proofs.fault_plan.calls_on.Goals.{in-Some+in_ok-push, in_default}
use Rattle.pool_pages.proofs.fault_plan.calls_on.Goals as goal

pub loop-fault-preserved : goal.loop-fault-preserved
loop-fault-preserved c =
    elim c.match-call_on.branch [
      | in-Some+in_ok-push w ↦
          listed_more (planned_call c.args.name) c.args.faults.now c.loop-fault.fault-index _ (Some w.in-Some.call) c.loop-fault.calls.items c.match-call_on.calls.items c.loop-fault-test.true c.loop-fault.invariant
          (sym w.in-Some.is ∙ c.call_on.ensures)
          (ap (λ v. v.items) w.calls-is ∙ w.in_ok-push.ensures.items)
      | in_default w ↦
          listed_more (planned_call c.args.name) c.args.faults.now c.loop-fault.fault-index _ None c.loop-fault.calls.items c.match-call_on.calls.items c.loop-fault-test.true c.loop-fault.invariant
          (sym w.in_default.is ∙ c.call_on.ensures)
          (ap (λ v. v.items) w.calls-is ∙ sym (append-nil c.loop-fault.calls.items))
    ]
