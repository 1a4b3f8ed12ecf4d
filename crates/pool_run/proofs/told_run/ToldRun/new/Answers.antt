use Rattle.std.proofs.Common.{List, ap}
use Rattle.pool_run.specs.Folds.{told_state}
use Rattle.pool_run.specs.declared.reply.Reply.{Reply}
use Rattle.pool_run.proofs.Telling.{none_told, room_made}
use Rattle.pool_run.proofs.told_run.ToldRun.new.Goals as goal

pub invariant_of-result : goal.invariant_of-result
invariant_of-result g c = room_made c.args.run.core.settings c.args.parties.now c.args.run.parties c.in_ok-told.told.items c.requires.parties c.in_ok-told.ensures

pub returns : goal.returns
returns g c = ap (λ (told : List (List Reply)). told_state c.args.run told) (none_told c.args.parties.now c.in_ok-told.told.items c.in_ok-told.ensures)
