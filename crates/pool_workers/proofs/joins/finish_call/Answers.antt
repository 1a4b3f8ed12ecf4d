use Rattle.std.proofs.Common.{◌≡◌, length, rules, refl, subst, sym, ◌∙◌, Option, None}
use Rattle.pool_hall.specs.Seat.{made_with, view}
use Rattle.pool_slots.specs.declared.listed_heaps.PlainHeap.{PlainHeap}
use Rattle.pool_alloc.specs.declared.frame.Outcome.{Outcome}
use Rattle.pool_driver.specs.Driving.{IsDriven}
use Rattle.pool_driver.specs.Origins.{about_of, inner_of}
use Rattle.pool_driver.specs.Pools.{IsSharedOf}
use Rattle.pool_driver.proofs.Calling.{goes_on, has_ended}
use Rattle.pool_threads.proofs.Adds.{grows_on, grows_still}
use Rattle.pool_threads.proofs.Growing.{grows_step}
use Rattle.pool_workers.proofs.joins.finish_call.Goals as goal

pub step-requires : goal.step-requires
step-requires g c κs within =
    let pool : IsSharedOf g.M.PageMaker.told g.given.about c.args.pool.now = search rules in
    let own = c.loop.invariant.own in
    let free = c.loop.invariant.free in
    let driven = c.loop.invariant.driven in
    let none = c.loop.invariant.unanswered in
    search rules

pub returns-in-Some-take-clause-ended : goal.returns-in-Some-take-clause-ended
returns-in-Some-take-clause-ended g c =
    has_ended (about_of g.M.PageMaker.told) inner_of _ _ _ g.given.about (view c.args.seat.now) (view c.loop.seat) (view c.step.new.seat) c.args.party.now.frame c.loop.party.frame c.step.new.frame c.step.new.outcome c.loop.invariant.goes c.step.ensures.sees c.loop.invariant.driven.keeps c.in-Some-take.answer (sym c.take.ensures.value ∙ c.in-Some-take.is)

pub returns-in-Some-take-clause-grows : goal.returns-in-Some-take-clause-grows
returns-in-Some-take-clause-grows g c =
    grows_on (view c.args.seat.now) (view c.loop.seat) (view c.step.new.seat) c.loop.invariant.grows
    (grows_step (about_of g.M.PageMaker.told) inner_of (view c.loop.seat) _ _ _ g.given.about (view c.step.new.seat) c.loop.party.frame c.step.new.frame c.step.new.outcome c.step.ensures.sees)

pub loop-init : goal.loop-init
loop-init g c =
    record {
      own = search rules;
      free = search rules;
      unanswered = refl;
      driven = search rules;
      goes = search rules;
      grows = grows_still (view c.args.seat.now);
      live = refl;
    }

pub loop-preserved : goal.loop-preserved
loop-preserved g c =
    let none : c.take.result ≡ None = search rules in
    let left : c.step.new.outcome ≡ None = sym c.take.ensures.value ∙ none in
    record {
      own = c.step.ensures.own;
      free = c.step.ensures.free;
      unanswered = c.take.ensures.after;
      driven = subst (λ (o : Option (Outcome g.row.P.Denot PlainHeap)). IsDriven (length (made_with c.args.pool.now.hall)) g.given (view c.step.new.seat) c.step.new.frame o) left c.step.ensures.driven;
      goes = goes_on (about_of g.M.PageMaker.told) inner_of _ _ _ g.given.about (view c.args.seat.now) (view c.loop.seat) (view c.step.new.seat) c.args.party.now.frame c.loop.party.frame c.step.new.frame c.step.new.outcome c.loop.invariant.goes c.step.ensures.sees c.loop.invariant.driven.keeps left;
      grows = grows_on (view c.args.seat.now) (view c.loop.seat) (view c.step.new.seat) c.loop.invariant.grows
          (grows_step (about_of g.M.PageMaker.told) inner_of (view c.loop.seat) _ _ _ g.given.about (view c.step.new.seat) c.loop.party.frame c.step.new.frame c.step.new.outcome c.step.ensures.sees);
      live = c.loop.invariant.live;
    }
