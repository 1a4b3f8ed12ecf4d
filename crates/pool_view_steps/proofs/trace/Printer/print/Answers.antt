use Rattle.std.proofs.Common.{ℕ, List, sym, subst}
use Rattle.pool_view_steps.specs.Lines.{IsLine}
use Rattle.pool_view_steps.proofs.Printing.{printed_as}
use Rattle.pool_view_steps.proofs.trace.Printer.print.Goals as goal

pub returns-in-Ok : goal.returns-in-Ok
returns-in-Ok g c =
    let Of : List ℕ → Type 0 = λ line. IsLine c.args.input.now c.saturating_add-number.result (record { party = c.args.party; run = c.args.run.now; reply = c.args.reply.now }) line in
    printed_as g.K.Sink.told c.args.input.now (record { party = c.args.party; run = c.args.run.now; reply = c.args.reply.now }) c.saturating_add-number.result c.as_str.result.now c.args.self.now c.write_line.new.self c.write_line.new.self.fault
    c.saturating_add-number.ensures (subst Of (sym c.as_str.ensures.value) c.in-Ok.ensures) c.write_line.ensures
