use Rattle.std.proofs.Common.{Ok, Err, refl, ap, ◌∙◌}
use Rattle.pool_run_shared.specs.Runs.{broken_page}
use Rattle.pool_run_shared.specs.Validity.{is_valid_shared}
use Rattle.pool_forms.specs.SharedOutput.{shared_text}
use Rattle.pool_cli.specs.Statuses.{shared_format}
use Rattle.pool_cli.specs.declared.words.Task.TheVariants.{Shared}
use Rattle.pool_cli.proofs.Endings.{can_run, is_valid_unless, no_limit, not_run}
use Rattle.pool_cli.proofs.stages.shared.Goals as goal

pub returns-in-Err : goal.returns-in-Err
returns-in-Err g c =
    let input = c.in_ok-input.input in
    not_run _ shared_format _ Shared input (is_valid_shared input) c.in-Err.fault c.run_failure.result _ _ refl (λ h. h) (λ e h. h)
    (λ read page is. record { input = input; read = read; page = page; making = c.in-Err.ensures.fault (ap Err is) })
    c.in_ok-input.ensures c.in-Err.ensures.bad_input c.in-Err.ensures.bad_config c.run_failure.ensures

pub returns-in-Ok-shared_text : goal.returns-in-Ok-shared_text
returns-in-Ok-shared_text g c =
    let input = c.in_ok-input.input in
    record {
      input = input;
      replies = c.in-Ok.replies.items;
      read = can_run shared_format input (is_valid_shared input) (Ok c.in-Ok.replies) _ _ c.in_ok-input.ensures c.in-Ok.ensures.bad_input (λ is. cc);
      page = no_limit (broken_page input) (is_valid_shared input) (Ok c.in-Ok.replies) (is_valid_unless (is_valid_shared input) (Ok c.in-Ok.replies) c.in-Ok.ensures.bad_input (λ is. cc)) c.in-Ok.ensures.bad_config (λ e is. cc);
      run = c.in-Ok.ensures.ok;
      text_is = c.in-Ok-shared_text.ensures ∙ ap shared_text c.as_slice.ensures.value;
    }
