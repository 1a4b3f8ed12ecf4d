use Rattle.std.proofs.Common.{rules, None, sym, ap, ◌∙◌, subst, arith, length, slice_get}
use Rattle.pool_run_on_demand.proofs.Imports.{option_and_then, length-set, given_table_op, rule_of, taken_moved}
use Rattle.pool_run_on_demand.specs.Seen.{AreLive, TableLeaseMovesOnDemand, made_tables}
use Rattle.pool_run_on_demand.proofs.Parties.{taken_below, live_at, live_without}
use Rattle.pool_run_on_demand.proofs.Live.{taken_keeps, none_keeps}
use Rattle.pool_run_on_demand.proofs.tables.act_on_table_on_demand.Goals as goal

pub act_on_taken-requires : goal.act_on_taken-requires
act_on_taken-requires g c κs within =
    let live = c.args.live.now.items in
    let taken = sym c.take_from.ensures.value ∙ c.in-Some.is in (
      search rules,
      (
        search rules,
        (
          omega (arith, taken_below live c.args.of c.in-Some.grant taken, ap length c.take_from.ensures.rest, length-set live c.args.of None),
          (live_at g.tells live c.args.of c.in-Some.grant c.requires.1.1 taken, subst (AreLive g.tells) (sym c.take_from.ensures.rest) (live_without g.tells live c.args.of c.requires.1.1)),
        ),
      ),
    )

pub returns-in-Some-clause-moves : goal.returns-in-Some-clause-moves
returns-in-Some-clause-moves g c =
    taken_moved made_tables (TableLeaseMovesOnDemand (given_table_op c.args.op.now) (rule_of c.args.limits) c.args.store.now c.act_on_taken.new.store) c.args.of c.args.table c.args.live.now.items c.take_from.new.places.items c.act_on_taken.new.live.items c.act_on_taken.result c.in-Some.grant (sym c.take_from.ensures.value ∙ c.in-Some.is) c.take_from.ensures.rest c.act_on_taken.ensures.moves

pub returns-in-Some-clause-unasked : goal.returns-in-Some-clause-unasked
returns-in-Some-clause-unasked g c none =
    c.act_on_taken.ensures.unasked (sym (ap (option_and_then (λ g. slice_get (made_tables.in_grant g) c.args.table)) (sym c.take_from.ensures.value ∙ c.in-Some.is)) ∙ none)

pub returns-in-None-clause-memories : goal.returns-in-None-clause-memories
returns-in-None-clause-memories g c = none_keeps c.args.live.now.items c.args.of c.take_from.new.places.items (sym c.take_from.ensures.value ∙ c.in-None.is) c.take_from.ensures.rest

pub returns-in-Some-clause-memories : goal.returns-in-Some-clause-memories
returns-in-Some-clause-memories g c = taken_keeps c.args.live.now.items c.args.of c.take_from.new.places.items c.act_on_taken.new.live.items c.in-Some.grant (sym c.take_from.ensures.value ∙ c.in-Some.is) c.take_from.ensures.rest c.act_on_taken.ensures.memories
