use Rattle.pool_run_shared.proofs.Moves.{write_done, write_traps}
use Rattle.pool_run_shared.proofs.events.write.Goals as goal

pub returns-in-Ok : goal.returns-in-Ok
returns-in-Ok g c = write_done c.args.at c.args.bytes.now c.args.state.now c.write.new.self c.in-Ok.field-0 c.requires c.in-Ok.ensures.answer c.in-Ok.ensures.written

pub returns-in-Err : goal.returns-in-Err
returns-in-Err g c = write_traps c.args.at c.args.bytes.now c.args.state.now c.write.new.self c.in-Err.trap c.requires c.in-Err.ensures.answer c.in-Err.ensures.same
