use Rattle.std.proofs.Common.{rules}
use Rattle.pool_run.proofs.turn.step_under.Goals as goal

pub step_into-requires : goal.step_into-requires
step_into-requires g c κs within = (search rules, (search rules, (search rules, (search rules, (c.requires.1.0, (c.requires.1.1.0, c.requires.1.1.1))))))

pub step_into-requires-in-Some : goal.step_into-requires-in-Some
step_into-requires-in-Some g c κs within = (search rules, (search rules, (search rules, (search rules, (c.requires.1.0, (c.requires.1.1.0, c.requires.1.1.1))))))
