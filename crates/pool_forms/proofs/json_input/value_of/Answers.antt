use Rattle.pool_forms.proofs.Texts.{json_text, json_no_text}
use Rattle.pool_forms.proofs.json_input.value_of.Goals as goal

pub returns-in-Ok : goal.returns-in-Ok
returns-in-Ok c = rw (json_text _ c.in-Ok.ensures.cases.1) (rw c.in-Ok.ensures.cases.0 at c.value_of_text.ensures)

pub returns-in-Err : goal.returns-in-Err
returns-in-Err c = json_no_text _ c.in-Err.ensures.cases.0
