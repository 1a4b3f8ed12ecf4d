use Rattle.std.proofs.Common.{◌≡◌, true, false, sym}
use Rattle.pool_run.proofs.RulesNamed.{page_named}
use Rattle.pool_workers.proofs.threads.run_threads_with.Goals as goal

pub returns-in-Err-clause-bad_config : goal.returns-in-Err-clause-bad_config
returns-in-Err-clause-bad_config g c e = page_named c.args.input.now c.in-Err.rule e (sym c.if-not-is_valid.ensures) c.in-Err.ensures.err (λ sized. let wrong : false ≡ true = c.in-Err.ensures.valid.1 sized in absurd cc)
