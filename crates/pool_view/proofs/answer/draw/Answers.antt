use Rattle.std.proofs.lemmas.Result.{IfOk-weaker}
use Rattle.pool_view.proofs.Saying.{shows_refused, shows_run, unmade_of_bytes, picture_of_bytes}
use Rattle.pool_view.specs.Answers.{IsPicture}
use Rattle.pool_view.specs.Findings.{finding}
use Rattle.pool_view.proofs.answer.draw.Goals as goal

pub returns-in-Ok : goal.returns-in-Ok
returns-in-Ok c = IfOk-weaker c.shown.result _ _ (λ a shown_as. shows_run IsPicture c.args.bytes.now c.picture_of.result a c.in-Ok.ensures.finds (picture_of_bytes c.picture_of.result) (unmade_of_bytes c.args.bytes.now c.in-Ok.input c.picture_of.result c.in-Ok.ensures.of c.picture_of.ensures) shown_as) c.shown.ensures

pub returns-in-Err : goal.returns-in-Err
returns-in-Err c = IfOk-weaker c.refused.result _ _ (λ a refuses. shows_refused IsPicture c.args.bytes.now _ a.status (refuses (finding c.args.bytes.now) c.in-Err.ensures.finds)) c.refused.ensures
