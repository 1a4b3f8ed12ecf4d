use Rattle.std.proofs.Common.{Err, string_bytes, ap, ◌∙◌}
use Rattle.pool_run.specs.Built.{broken_rule}
use Rattle.pool_run.specs.Validity.{is_valid}
use Rattle.pool_cli.proofs.Endings.{load_not_run}
use Rattle.pool_cli.proofs.LoadReplies.{load_counted, load_done, load_unmade}
use Rattle.pool_cli.proofs.stages.load.Goals as goal

pub load_text-requires : goal.load_text-requires
load_text-requires g c = record {
  few = load_counted _ c.args.seed c.in-Ok.input _ c.in-Ok-run_schedule.output c.in-Ok.ensures.input c.in-Ok.ensures.valid c.in-Ok-run_schedule.ensures.ok;
}

pub returns-in-Err : goal.returns-in-Err
returns-in-Err g c source =
    let input = c.in-Ok.input in
    load_not_run _ _ c.args.seed (is_valid input) (broken_rule input) c.in-Err.fault c.run_failure.result source
    (ap is_valid c.in-Ok.ensures.input ∙ c.in-Ok.ensures.valid) (ap broken_rule c.in-Ok.ensures.input ∙ c.in-Ok.ensures.rules)
    c.in-Err.ensures.bad_input c.in-Err.ensures.bad_config
    (λ is. load_unmade _ c.args.seed input source _ _ c.in-Ok.ensures.input (c.in-Err.ensures.fault (ap Err is)))
    c.run_failure.ensures

pub returns-in-Ok-load_text : goal.returns-in-Ok-load_text
returns-in-Ok-load_text g c source =
    load_done _ c.args.seed c.in-Ok.input c.in-Ok-run_schedule.output (string_bytes c.in-Ok-load_text.text) source _ _
    c.in-Ok.ensures.input c.in-Ok.ensures.valid c.in-Ok.ensures.rules
    c.in-Ok-run_schedule.ensures.ok c.in-Ok-run_schedule.ensures.only c.in-Ok-run_schedule.ensures.throughout c.in-Ok-run_schedule.ensures.faults c.in-Ok-load_text.ensures
