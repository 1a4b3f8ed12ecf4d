use Rattle.std.proofs.Common.{ℕ, ◌<◌, subst}
use denote.Exit.{no}
use denote.Param.{param}
use denote.Param.Send.{arg_send, arg_sync, param_send, param_sync}
use Rattle.pool_workers.proofs.Sent.{commands_sync, worker_send}
use Rattle.pool_workers.proofs.workers.work.Goals as goal

pub all_at_once-requires-send-W : goal.all_at_once-requires-send-W
all_at_once-requires-send-W g c κs within = param_send 0 _ (arg_send _ no _ (worker_send (param 0 g.row.P) (param 1 g.row.M) g.P.Pages c.type_bounds.send-P))

pub all_at_once-requires-sync-J : goal.all_at_once-requires-sync-J
all_at_once-requires-sync-J g c κs within = param_sync 1 _ (arg_sync _ no _ (commands_sync (param 0 g.row.P) (param 1 g.row.M) g.P.Pages c.type_bounds.send-P _ _ (param 2 g.row.R) (param 3 g.row.G) c.type_bounds.sync-R c.type_bounds.sync-G))

pub all_at_once-requires-clause-ready : goal.all_at_once-requires-clause-ready
all_at_once-requires-clause-ready g c κs within k d below = (c.requires.ground, c.requires.ready k d below)

pub returns-clause-back : goal.returns-clause-back
returns-clause-back g c k d below = (c.all_at_once.ensures.back k d (subst (λ (n : ℕ). k < n) c.all_at_once.ensures.count below)).0

pub returns-clause-numbers : goal.returns-clause-numbers
returns-clause-numbers g c i d below = (c.all_at_once.ensures.back i d below).1
