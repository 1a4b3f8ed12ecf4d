use Rattle.std.proofs.Common.{◌≡◌, List, Option, Some, None, sym, ◌∙◌, slice_index_or}
use Rattle.pool_run.proofs.Imports.{Grant, PlainHeap}
use Rattle.pool_run.specs.AtOnce.{given_op}
use Rattle.pool_run.specs.PartyRules.{rule_of}
use Rattle.pool_run.proofs.BytesMoved.{bytes_taken, bytes_none}
use Rattle.pool_run.proofs.at_once.act_on_bytes.Goals as goal

pub returns-in-Some : goal.returns-in-Some
returns-in-Some g c =
    let G : Type 0 = Grant g.row.P.Denot PlainHeap in
    let live : List (Option G) = c.args.live.now in
    let has : slice_index_or live c.args.of None ≡ Some c.in-Some.grant = sym c.take.ensures.value ∙ c.in-Some.is in
    bytes_taken (given_op c.args.op.now) (rule_of c.args.limits) c.args.of c.args.memory live c.take.new.self c.act_on_taken.new.live c.act_on_taken.result c.in-Some.grant has c.take.ensures.rest c.act_on_taken.ensures

pub returns-in-None : goal.returns-in-None
returns-in-None g c =
    let G : Type 0 = Grant g.row.P.Denot PlainHeap in
    let live : List (Option G) = c.args.live.now in
    let has : slice_index_or live c.args.of None ≡ None = sym c.take.ensures.value ∙ c.in-None.is in
    bytes_none (given_op c.args.op.now) (rule_of c.args.limits) c.args.of c.args.memory live c.take.new.self has c.take.ensures.rest
