use Rattle.std.proofs.Common.{◌≡◌, true, length, is_some, None, refl, rules, sym, subst, ◌∙◌}
use Rattle.pool_hall.specs.Seat.{made_with, view}
use Rattle.pool_driver.specs.Driving.{Given, IsDriven}
use Rattle.pool_driver.specs.Pools.{IsSharedOf}
use Rattle.pool_threads.specs.Working.{IsJob, StandsSomewhere}
use Rattle.pool_threads.proofs.Adds.{grows_still}
use Rattle.pool_threads.proofs.CallEnds.{same_on}
use Rattle.pool_threads.proofs.Performs.{none_is}
use Rattle.pool_threads.proofs.StepMade.{made_ended, made_goes, made_grows, made_left, made_memories, made_notes, made_place, made_reserved, made_tables, made_went}
use Rattle.pool_threads.proofs.party.run_call.Goals as goal

pub step_under-requires : goal.step_under-requires
step_under-requires g c κs within =
    let pool : IsSharedOf g.M.PageMaker.told g.of.given.about c.args.pool.now = search rules in
    let driven : IsDriven (length (made_with c.args.pool.now.hall)) g.of.given (view c.loop.seat) c.loop.party.frame None =
    subst (λ (x : Given). IsDriven (length (made_with c.args.pool.now.hall)) x (view c.loop.seat) c.loop.party.frame None) (sym c.loop.invariant.given) c.loop.invariant.work.driven in
    let somewhere : StandsSomewhere g.of.given c.loop.party.frame = subst (λ (x : Given). StandsSomewhere x c.loop.party.frame) (sym c.loop.invariant.given) (c.loop.invariant.work.core, c.loop.invariant.work.stands) in
    (search rules, (search rules, (search rules, (search rules, (pool, (c.loop.invariant.own, (c.loop.invariant.free, (driven, (c.loop.invariant.unanswered, somewhere)))))))))

pub answer-requires-clause-place : goal.answer-requires-clause-place
answer-requires-clause-place g c =
    let is : IsJob g.row.P.Denot g.of.job = search rules in
    made_place g.of.job (length (made_with c.args.pool.now.hall)) g.of.given (view c.loop.seat) (view c.step_under.new.seat) c.loop.party c.step_under.new.heaps c.step_under.new.frame c.step_under.new.outcome is c.loop.invariant.work c.loop.invariant.keyed c.loop.invariant.given c.step_under.ensures.steps c.step_under.ensures.tells c.step_under.ensures.driven

pub answer-requires-clause-memories : goal.answer-requires-clause-memories
answer-requires-clause-memories g c =
    let is : IsJob g.row.P.Denot g.of.job = search rules in
    made_memories g.of.job (length (made_with c.args.pool.now.hall)) g.of.given (view c.loop.seat) (view c.step_under.new.seat) c.loop.party c.step_under.new.heaps c.step_under.new.frame c.step_under.new.outcome is c.loop.invariant.work c.loop.invariant.keyed c.loop.invariant.given c.step_under.ensures.steps c.step_under.ensures.tells c.step_under.ensures.driven c.loop.slots c.loop.invariant.reserved

pub answer-requires-clause-tables : goal.answer-requires-clause-tables
answer-requires-clause-tables g c =
    let is : IsJob g.row.P.Denot g.of.job = search rules in
    made_tables g.of.job (length (made_with c.args.pool.now.hall)) g.of.given (view c.loop.seat) (view c.step_under.new.seat) c.loop.party c.step_under.new.heaps c.step_under.new.frame c.step_under.new.outcome is c.loop.invariant.work c.loop.invariant.keyed c.loop.invariant.given c.step_under.ensures.steps c.step_under.ensures.tells c.step_under.ensures.driven c.loop.slots c.loop.invariant.reserved

pub returns-then-is_some-clause-work : goal.returns-then-is_some-clause-work
returns-then-is_some-clause-work g c =
    let is : IsJob g.row.P.Denot g.of.job = search rules in
    let some' : is_some c.step_under.new.outcome ≡ true = search rules in
    (made_ended g.of.job (length (made_with c.args.pool.now.hall)) g.of.given (view c.loop.seat) (view c.step_under.new.seat) c.loop.party c.step_under.new.heaps c.step_under.new.frame c.step_under.new.outcome is c.loop.invariant.work c.loop.invariant.keyed c.loop.invariant.given c.step_under.ensures.steps c.step_under.ensures.tells c.step_under.ensures.driven some' c.answer.new.party c.answer.result c.answer.ensures.answered).at_work

pub returns-then-is_some-clause-told : goal.returns-then-is_some-clause-told
returns-then-is_some-clause-told g c =
    let is : IsJob g.row.P.Denot g.of.job = search rules in
    let some' : is_some c.step_under.new.outcome ≡ true = search rules in
    λ commands before told. (made_ended g.of.job (length (made_with c.args.pool.now.hall)) g.of.given (view c.loop.seat) (view c.step_under.new.seat) c.loop.party c.step_under.new.heaps c.step_under.new.frame c.step_under.new.outcome is c.loop.invariant.work c.loop.invariant.keyed c.loop.invariant.given c.step_under.ensures.steps c.step_under.ensures.tells c.step_under.ensures.driven some' c.answer.new.party c.answer.result c.answer.ensures.answered).told commands before (c.loop.invariant.told commands before told)

pub returns-then-is_some-clause-idle : goal.returns-then-is_some-clause-idle
returns-then-is_some-clause-idle g c =
    let is : IsJob g.row.P.Denot g.of.job = search rules in
    let some' : is_some c.step_under.new.outcome ≡ true = search rules in
    (made_ended g.of.job (length (made_with c.args.pool.now.hall)) g.of.given (view c.loop.seat) (view c.step_under.new.seat) c.loop.party c.step_under.new.heaps c.step_under.new.frame c.step_under.new.outcome is c.loop.invariant.work c.loop.invariant.keyed c.loop.invariant.given c.step_under.ensures.steps c.step_under.ensures.tells c.step_under.ensures.driven some' c.answer.new.party c.answer.result c.answer.ensures.answered).idle

pub returns-then-is_some-clause-keyed : goal.returns-then-is_some-clause-keyed
returns-then-is_some-clause-keyed g c =
    let is : IsJob g.row.P.Denot g.of.job = search rules in
    let some' : is_some c.step_under.new.outcome ≡ true = search rules in
    (made_ended g.of.job (length (made_with c.args.pool.now.hall)) g.of.given (view c.loop.seat) (view c.step_under.new.seat) c.loop.party c.step_under.new.heaps c.step_under.new.frame c.step_under.new.outcome is c.loop.invariant.work c.loop.invariant.keyed c.loop.invariant.given c.step_under.ensures.steps c.step_under.ensures.tells c.step_under.ensures.driven some' c.answer.new.party c.answer.result c.answer.ensures.answered).drawn

pub returns-then-is_some-clause-replied : goal.returns-then-is_some-clause-replied
returns-then-is_some-clause-replied g c =
    let is : IsJob g.row.P.Denot g.of.job = search rules in
    let some' : is_some c.step_under.new.outcome ≡ true = search rules in
    (made_ended g.of.job (length (made_with c.args.pool.now.hall)) g.of.given (view c.loop.seat) (view c.step_under.new.seat) c.loop.party c.step_under.new.heaps c.step_under.new.frame c.step_under.new.outcome is c.loop.invariant.work c.loop.invariant.keyed c.loop.invariant.given c.step_under.ensures.steps c.step_under.ensures.tells c.step_under.ensures.driven some' c.answer.new.party c.answer.result c.answer.ensures.answered).replied ∙ c.loop.invariant.same

pub returns-then-is_some-clause-stays : goal.returns-then-is_some-clause-stays
returns-then-is_some-clause-stays g c =
    let is : IsJob g.row.P.Denot g.of.job = search rules in
    let some' : is_some c.step_under.new.outcome ≡ true = search rules in
    same_on c.args.party.now c.loop.party c.answer.new.party (λ drawn. c.loop.invariant.same ∙ drawn) c.loop.invariant.stays (made_ended g.of.job (length (made_with c.args.pool.now.hall)) g.of.given (view c.loop.seat) (view c.step_under.new.seat) c.loop.party c.step_under.new.heaps c.step_under.new.frame c.step_under.new.outcome is c.loop.invariant.work c.loop.invariant.keyed c.loop.invariant.given c.step_under.ensures.steps c.step_under.ensures.tells c.step_under.ensures.driven some' c.answer.new.party c.answer.result c.answer.ensures.answered).same

pub returns-then-is_some-clause-home : goal.returns-then-is_some-clause-home
returns-then-is_some-clause-home g c =
    let is : IsJob g.row.P.Denot g.of.job = search rules in
    let some' : is_some c.step_under.new.outcome ≡ true = search rules in
    (made_notes g.of.job (length (made_with c.args.pool.now.hall)) g.of.given (view c.loop.seat) (view c.step_under.new.seat) c.loop.party c.step_under.new.heaps c.step_under.new.frame c.step_under.new.outcome is c.loop.invariant.work c.loop.invariant.keyed c.loop.invariant.given c.step_under.ensures.steps c.step_under.ensures.tells c.step_under.ensures.driven some' c.answer.new.party c.answer.result c.answer.ensures.answered (view c.args.seat.now) c.args.party.now.frame c.loop.invariant.goes c.loop.invariant.grows).0

pub returns-then-is_some-clause-notes : goal.returns-then-is_some-clause-notes
returns-then-is_some-clause-notes g c =
    let is : IsJob g.row.P.Denot g.of.job = search rules in
    let some' : is_some c.step_under.new.outcome ≡ true = search rules in
    (made_notes g.of.job (length (made_with c.args.pool.now.hall)) g.of.given (view c.loop.seat) (view c.step_under.new.seat) c.loop.party c.step_under.new.heaps c.step_under.new.frame c.step_under.new.outcome is c.loop.invariant.work c.loop.invariant.keyed c.loop.invariant.given c.step_under.ensures.steps c.step_under.ensures.tells c.step_under.ensures.driven some' c.answer.new.party c.answer.result c.answer.ensures.answered (view c.args.seat.now) c.args.party.now.frame c.loop.invariant.goes c.loop.invariant.grows).1

pub returns-then-is_some-clause-reserved : goal.returns-then-is_some-clause-reserved
returns-then-is_some-clause-reserved g c =
    let is : IsJob g.row.P.Denot g.of.job = search rules in
    let some' : is_some c.step_under.new.outcome ≡ true = search rules in
    made_left g.of.job (length (made_with c.args.pool.now.hall)) g.of.given (view c.loop.seat) (view c.step_under.new.seat) c.loop.party c.step_under.new.heaps c.step_under.new.frame c.step_under.new.outcome is c.loop.invariant.work c.loop.invariant.keyed c.loop.invariant.given c.step_under.ensures.steps c.step_under.ensures.tells c.step_under.ensures.driven some' c.answer.new.party c.answer.result c.answer.ensures.answered c.loop.slots c.answer.new.slots c.loop.invariant.reserved c.answer.ensures.slots

pub loop-init : goal.loop-init
loop-init g c =
    record {
      own = search rules;
      free = search rules;
      unanswered = refl;
      work = search rules;
      given = search rules;
      keyed = search rules;
      same = refl;
      done = refl;
      goes = search rules;
      grows = grows_still (view c.args.seat.now);
      stays = record { host = refl; stripe = λ drawn. refl };
      told = λ commands before told. told;
      reserved = search rules;
    }

pub loop-preserved : goal.loop-preserved
loop-preserved g c =
    let is : IsJob g.row.P.Denot g.of.job = search rules in
    let none : c.step_under.new.outcome ≡ None = none_is c.step_under.new.outcome (search rules) in
    let went = made_went g.of.job (length (made_with c.args.pool.now.hall)) g.of.given (view c.loop.seat) (view c.step_under.new.seat) c.loop.party c.step_under.new.heaps c.step_under.new.frame c.step_under.new.outcome is c.loop.invariant.work c.loop.invariant.keyed c.loop.invariant.given c.step_under.ensures.steps c.step_under.ensures.tells c.step_under.ensures.driven none in
    record {
      own = c.step_under.ensures.own;
      free = c.step_under.ensures.free;
      unanswered = none;
      work = went.at_work;
      given = c.loop.invariant.given;
      keyed = went.drawn;
      same = c.loop.invariant.same;
      done = c.loop.invariant.done;
      goes = made_goes g.of.job (length (made_with c.args.pool.now.hall)) g.of.given (view c.loop.seat) (view c.step_under.new.seat) c.loop.party c.step_under.new.heaps c.step_under.new.frame c.step_under.new.outcome is c.loop.invariant.work c.loop.invariant.keyed c.loop.invariant.given c.step_under.ensures.steps c.step_under.ensures.tells c.step_under.ensures.driven (view c.args.seat.now) c.args.party.now.frame c.loop.invariant.goes none;
      grows = made_grows g.of.job (length (made_with c.args.pool.now.hall)) g.of.given (view c.loop.seat) (view c.step_under.new.seat) c.loop.party c.step_under.new.heaps c.step_under.new.frame c.step_under.new.outcome is c.loop.invariant.work c.loop.invariant.keyed c.loop.invariant.given c.step_under.ensures.steps c.step_under.ensures.tells c.step_under.ensures.driven (view c.args.seat.now) c.loop.invariant.grows;
      stays = same_on c.args.party.now c.loop.party _ (λ drawn. c.loop.invariant.same ∙ drawn) c.loop.invariant.stays went.same;
      told = λ commands before told. went.told commands before (c.loop.invariant.told commands before told);
      reserved = made_reserved g.of.job (length (made_with c.args.pool.now.hall)) g.of.given (view c.loop.seat) (view c.step_under.new.seat) c.loop.party c.step_under.new.heaps c.step_under.new.frame c.step_under.new.outcome is c.loop.invariant.work c.loop.invariant.keyed c.loop.invariant.given c.step_under.ensures.steps c.step_under.ensures.tells c.step_under.ensures.driven c.loop.slots c.loop.invariant.reserved none;
    }
