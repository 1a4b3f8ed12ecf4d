use Rattle.pool_view.proofs.Tracing.{whole_written}
use Rattle.pool_view.proofs.view_main.write_whole.Goals as goal

pub returns : goal.returns
returns g c = whole_written c.args.question c.args.bytes.now c.answer_to-answer.result _ _ c.write_made.result c.requires c.answer_to-answer.ensures c.write_made.ensures
