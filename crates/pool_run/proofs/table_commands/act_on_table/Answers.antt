use Rattle.std.proofs.Common.{◌≡◌, List, Option, Some, None, sym, ◌∙◌, slice_index_or}
use Rattle.pool_run.proofs.Imports.{Grant, PlainHeap}
use Rattle.pool_run.specs.AtOnce.{given_table_op}
use Rattle.pool_run.specs.PartyRules.{rule_of}
use Rattle.pool_run.specs.Turns.{MovesTable, table_leases}
use Rattle.pool_run.proofs.Named.{taken_moved}
use Rattle.pool_run.proofs.table_commands.act_on_table.Goals as goal

pub returns-in-Some-clause-moves : goal.returns-in-Some-clause-moves
returns-in-Some-clause-moves g c =
    let G : Type 0 = Grant g.row.P.Denot PlainHeap in
    let live : List (Option G) = c.args.live.now in
    let has : slice_index_or live c.args.of None ≡ Some c.in-Some.grant = sym c.take.ensures.value ∙ c.in-Some.is in
    taken_moved table_leases (MovesTable (given_table_op c.args.op.now) (rule_of c.args.limits) c.args.store.now c.act_on_taken.new.store) c.args.of c.args.table live c.take.new.self c.act_on_taken.new.live c.act_on_taken.result c.in-Some.grant has c.take.ensures.rest c.act_on_taken.ensures.moves
