use Rattle.std.proofs.Common.{rules, ◌≡◌, ◌∙◌, sym, None}
use Rattle.pool_types.specs.Count.{IsPageSize}
use Rattle.pool_types.specs.SettingsRules.{first_broken_rule}
use Rattle.pool_types.proofs.ConfigRules.{within_rules}
use Rattle.pool_types.proofs.config.PoolingAllocationConfig.check_rules.Goals as goal

pub returns-in-None-clause-within : goal.returns-in-None-clause-within
returns-in-None-clause-within c =
    let sized : IsPageSize c.args.page = search rules in
    let none : first_broken_rule c.args.self.now c.args.tunables.now c.args.page c.args.shards c.args.offered.now ≡ None = rw c.in-Ok.ensures.ok at (sym c.first_broken_of_page.ensures ∙ c.in-None.is) in
    within_rules c.args.self.now c.args.tunables.now c.args.page c.args.shards c.args.offered.now sized none
