use Rattle.pool_load.proofs.Valid.{load_rules}
use Rattle.pool_load.proofs.input.load_input.Goals as goal

pub returns-in_err-modules-clause-rules : goal.returns-in_err-modules-clause-rules
returns-in_err-modules-clause-rules c = load_rules c.args.seed

pub returns-in_err-parties-clause-rules : goal.returns-in_err-parties-clause-rules
returns-in_err-parties-clause-rules c = load_rules c.args.seed

pub returns-in_err-schedule-clause-rules : goal.returns-in_err-schedule-clause-rules
returns-in_err-schedule-clause-rules c = load_rules c.args.seed

pub returns-clause-rules : goal.returns-clause-rules
returns-clause-rules c = load_rules c.args.seed
