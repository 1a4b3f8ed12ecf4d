use Rattle.std.proofs.Common.{List, ap, ◌∙◌, fold}
use Rattle.pool_run.proofs.Imports.{PageCalls, calls_kept}
use Rattle.pool_run.specs.Numbers.{with_party}
use Rattle.pool_run.specs.declared.running_party.RunningParty.{RunningParty}
use Rattle.pool_run.proofs.run.Run.page_calls.Goals as goal

pub returns : goal.returns
returns g c =
    let P : Type 0 = g.row.P.Denot in
    rw (← c.self.view_is)
    (c.add_parties.ensures
    ∙ ap (λ (calls : PageCalls). fold with_party calls c.as_slice.result.now) c.page_calls.ensures
    ∙ ap (λ (parties : List (RunningParty P)). fold with_party (calls_kept c.self.inside.core) parties) c.as_slice.ensures.value)
