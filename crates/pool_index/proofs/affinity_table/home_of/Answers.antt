use Rattle.std.proofs.Common.{◌∙◌, rules, sym, ap}
use Rattle.pool_index.specs.Table.{home}
use Rattle.pool_index.proofs.Tables.{home_none}
use Rattle.pool_index.proofs.affinity_table.home_of.Goals as goal

pub returns-in-Some-clause-value : goal.returns-in-Some-clause-value
unfolding home
returns-in-Some-clause-value c = search rules

pub returns-in-None-clause-value : goal.returns-in-None-clause-value
returns-in-None-clause-value c = sym (ap (home c.args.len) c.in-None.is ∙ home_none c.args.len)
