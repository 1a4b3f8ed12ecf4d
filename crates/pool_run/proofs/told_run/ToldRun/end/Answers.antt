use Rattle.std.proofs.Common.{length, ap, arith}
use Rattle.pool_run.proofs.Imports.{length-map, Reserved}
use Rattle.pool_run.specs.Folds.{RunState}
use Rattle.pool_run.specs.declared.reply.Reply.{Reply}
use Rattle.pool_run.proofs.told_run.ToldRun.end.Goals as goal

pub into_lists-requires-clause-room : goal.into_lists-requires-clause-room
into_lists-requires-clause-room g c =
    let P : Type 0 = g.row.P.Denot in
    omega (arith, length-map c.self.inside.told.items (λ (l : Reserved Reply). l.items), ap (λ (s : RunState P). length s.replies) c.self.view_is, c.requires.room)
