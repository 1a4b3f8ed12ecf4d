use Rattle.pool_shared.proofs.Lawful.{early_are_marked, marks_the_first, takes_first, keeps_other_lists}
use Rattle.pool_shared.proofs.laws.notified_waiters_come_first.Goals as goal

pub returns-clause-early : goal.returns-clause-early
returns-clause-early c = early_are_marked

pub returns-clause-marked : goal.returns-clause-marked
returns-clause-marked c = marks_the_first

pub returns-clause-taken : goal.returns-clause-taken
returns-clause-taken c = takes_first

pub returns-clause-elsewhere : goal.returns-clause-elsewhere
returns-clause-elsewhere c = keeps_other_lists
