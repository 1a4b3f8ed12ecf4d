use Rattle.std.proofs.Common.{Ok, Err, refl, ap, ◌∙◌}
use Rattle.pool_run.specs.Built.{broken_rule}
use Rattle.pool_run.specs.Validity.{is_valid}
use Rattle.pool_forms.specs.Output.{threads_text}
use Rattle.pool_cli.specs.Statuses.{run_format}
use Rattle.pool_cli.specs.declared.words.Task.TheVariants.{Threads}
use Rattle.pool_cli.proofs.Endings.{can_run, is_valid_unless, no_limit, not_run}
use Rattle.pool_cli.proofs.stages.threads.Goals as goal

pub returns-in-Err : goal.returns-in-Err
returns-in-Err g c =
    let input = c.in_ok-input.input in
    not_run _ run_format _ Threads input (is_valid input) c.in-Err.fault c.run_failure.result _ _ refl (λ h. h) (λ e h. h)
    (λ read limits is. record { input = input; read = read; limits = limits; making = c.in-Err.ensures.fault (ap Err is) })
    c.in_ok-input.ensures.threads c.in-Err.ensures.bad_input c.in-Err.ensures.bad_config c.run_failure.ensures

pub returns-in-Ok-threads_text : goal.returns-in-Ok-threads_text
returns-in-Ok-threads_text g c =
    let input = c.in_ok-input.input in
    record {
      input = input;
      replies = c.in-Ok.output.replies;
      read = can_run run_format input (is_valid input) (Ok c.in-Ok.output) _ _ c.in_ok-input.ensures.threads c.in-Ok.ensures.bad_input (λ is. cc);
      limits = no_limit (broken_rule input) (is_valid input) (Ok c.in-Ok.output) (is_valid_unless (is_valid input) (Ok c.in-Ok.output) c.in-Ok.ensures.bad_input (λ is. cc)) c.in-Ok.ensures.bad_config (λ e is. cc);
      run = c.in-Ok.ensures.ran;
      few = c.in-Ok.ensures.few;
      unlisted = c.in-Ok.ensures.unlisted;
      makings = c.in-Ok.ensures.faults;
      text_is = c.in-Ok-threads_text.ensures ∙ ap (threads_text input) c.as_slice.ensures;
    }
