use Rattle.pool_run_on_demand.proofs.Imports.{All-set, HasType}
use Rattle.pool_run_on_demand.proofs.tables.act_in_list.Goals as goal

pub returns-clause-held : goal.returns-clause-held
returns-clause-held g c = All-set (λ l. HasType l.table) c.args.tables.now.items c.args.table _ c.act_on_table.ensures.held c.requires.held
