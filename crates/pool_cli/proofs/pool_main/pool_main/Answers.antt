use Rattle.pool_cli.specs.Words.{task_of}
use Rattle.pool_cli.proofs.Endings.{ends_load, follows_run, follows_on_demand, follows_threads, follows_shared}
use Rattle.pool_cli.proofs.pool_main.pool_main.Goals as goal

pub returns-clause-load_words : goal.returns-clause-load_words
returns-clause-load_words g c seed asked = ends_load _ (task_of c.args.words.now) c.go.result _ _ _ _ _ _ seed c.go.ensures asked

pub returns-clause-by_bytes : goal.returns-clause-by_bytes
returns-clause-by_bytes g c asked = follows_run _ (task_of c.args.words.now) c.go.result _ _ _ _ _ _ c.go.ensures asked

pub returns-clause-by_shared_bytes : goal.returns-clause-by_shared_bytes
returns-clause-by_shared_bytes g c asked = follows_shared _ (task_of c.args.words.now) c.go.result _ _ _ _ _ _ c.go.ensures asked

pub returns-clause-by_bytes_on_demand : goal.returns-clause-by_bytes_on_demand
returns-clause-by_bytes_on_demand g c asked = follows_on_demand _ (task_of c.args.words.now) c.go.result _ _ _ _ _ _ c.go.ensures asked

pub returns-clause-by_bytes_on_threads : goal.returns-clause-by_bytes_on_threads
returns-clause-by_bytes_on_threads g c asked = follows_threads _ (task_of c.args.words.now) c.go.result _ _ _ _ _ _ c.go.ensures asked
