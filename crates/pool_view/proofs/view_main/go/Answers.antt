use Rattle.std.proofs.Common.{List, ℕ, subst}
use Rattle.pool_view.specs.Answers.{WritesAnswer}
use Rattle.pool_view.proofs.Endings.{ends_with_answer}
use Rattle.pool_view.proofs.view_main.go.Goals as goal

pub returns-in-Ok : goal.returns-in-Ok
returns-in-Ok g c =
    let W : List ℕ → Type 0 = λ bytes. WritesAnswer c.args.question bytes (g.K.Sink.told c.args.printer.now.sink) (g.K.Sink.told c.write_answer.new.printer.sink) c.write_answer.result in
    ends_with_answer c.args.question c.in-Ok.bytes c.write_answer.result (g.S.Source.told c.args.source.now) (g.S.Source.told c.read_all.new.source) (g.K.Sink.told c.args.printer.now.sink) (g.K.Sink.told c.write_answer.new.printer.sink)
    c.in-Ok.ensures (subst W c.as_slice.ensures c.write_answer.ensures)
