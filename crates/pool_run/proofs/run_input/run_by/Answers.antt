use Rattle.pool_run.specs.Built.{broken_rule}
use Rattle.pool_run.proofs.RulesNamed.{ok_has, memory_named}
use Rattle.pool_run.proofs.run_input.run_by.Goals as goal

pub returns-in-Ok-clause-rules : goal.returns-in-Ok-clause-rules
returns-in-Ok-clause-rules g c = ok_has c.run_to_end.result c.in-Ok.ensures.rules

pub returns-in-Ok-clause-refused : goal.returns-in-Ok-clause-refused
returns-in-Ok-clause-refused g c = memory_named (broken_rule c.args.input.now) c.run_to_end.result c.in-Ok.ensures.rules c.run_to_end.ensures.memory

pub returns-in-Ok-clause-same : goal.returns-in-Ok-clause-same
returns-in-Ok-clause-same g c = ok_has c.run_to_end.result c.in-Ok.ensures.same
