use Rattle.std.proofs.Common.{string_bytes}
use Rattle.pool_cli.specs.Words.{task_of}
use Rattle.pool_cli.proofs.Endings.{ends_with_text, ends_with_line}
use Rattle.pool_cli.proofs.pool_main.go.Goals as goal

pub returns-in-Ok : goal.returns-in-Ok
returns-in-Ok g c =
    ends_with_text _ (task_of c.args.words.now) (string_bytes c.in-Ok.text) c.finish.result
    (g.S.Source.told c.args.source.now) (g.S.Source.told c.prepare.new.source)
    (g.K.Sink.told c.args.sink.now) (g.K.Sink.told c.finish.new.sink)
    (g.M.PageMaker.told c.args.pages.now) (g.M.PageMaker.told c.prepare.new.pages)
    c.in-Ok.ensures (rw c.as_str.ensures.value at c.finish.ensures)

pub returns-in-Err : goal.returns-in-Err
returns-in-Err g c =
    ends_with_line _ (task_of c.args.words.now) c.in-Err.failure c.finish-in-Err.result
    (g.S.Source.told c.args.source.now) (g.S.Source.told c.prepare.new.source)
    (g.K.Sink.told c.args.sink.now) (g.K.Sink.told c.finish-in-Err.new.sink)
    (g.M.PageMaker.told c.args.pages.now) (g.M.PageMaker.told c.prepare.new.pages)
    c.in-Err.ensures (rw (c.line.ensures, c.status.ensures) at c.finish-in-Err.ensures)
