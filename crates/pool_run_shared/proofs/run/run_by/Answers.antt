use Rattle.std.proofs.Common.{List, subst}
use Rattle.pool_run_shared.specs.Steps.{MakesOfAll}
use Rattle.pool_run_shared.specs.declared.input.SharedEvent.{SharedEvent}
use Rattle.pool_run_shared.proofs.Counts.{run_made}
use Rattle.pool_run_shared.proofs.run.run_by.Goals as goal

pub returns-in-Ok-clause-ok : goal.returns-in-Ok-clause-ok
returns-in-Ok-clause-ok g c =
    let P : List SharedEvent → Type 0 = λ es. MakesOfAll es c.in_ok-state.state c.replies_of.new.state c.in-Ok.replies.items in
    run_made c.args.input.now _ _ c.in_ok-state.state c.replies_of.new.state c.in-Ok.replies.items c.requires.valid c.in_ok-state.ensures.ok (subst P c.as_slice.ensures c.in-Ok.ensures.ok)
