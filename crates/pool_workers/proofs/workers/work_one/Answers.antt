use Rattle.std.proofs.Common.{sym, subst, Option, List}
use Rattle.pool_run.specs.declared.reply.Reply.{Reply}
use Rattle.pool_workers.specs.Workers.{IsBack}
use Rattle.pool_workers.proofs.Told.{worker_back}
use Rattle.pool_workers.proofs.workers.work_one.Goals as goal

pub returns-clause-back : goal.returns-clause-back
returns-clause-back g c =
    let told = c.run_party-told.ensures in
    subst (λ (o : Option (List Reply)). IsBack g.M.PageMaker.told c.args.input.now c.args.modules.now c.args.pool.now (record { number = c.args.worker.now.number; seat = c.run_party-told.new.seat; party = c.run_party-told.new.running; replies = o })) (sym c.ok.ensures.value)
    (worker_back g.M.PageMaker.told c.args.input.now c.args.modules.now c.args.pool.now c.args.worker.now.seat c.args.worker.now.number c.run_party-told.new.seat c.run_party-told.new.running c.run_party-told.result c.requires.ready.inside c.requires.ready.view_is told.own told.free told.told told.all told.named told.growths told.notes told.work told.idle)
