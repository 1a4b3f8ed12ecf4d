use Rattle.std.proofs.Common.{◌≡◌, ◌⊎◌, inl, inr, ℕ, ◌+◌, ◌<◌, length, rules, refl, ap, subst, sym, ◌∙◌, arith, All, IfSome, List, Option, None, slice_index_or, slice_set}
use Rattle.std.proofs.lemmas.Bool.{cases_lt}
use Rattle.std.proofs.lemmas.List.{length-set}
use Rattle.std.proofs.lemmas.List.Elements.{All-set}
use Rattle.pool_hall.specs.Seat.{made_with, view}
use Rattle.pool_slots.specs.declared.listed_heaps.PlainHeap.{PlainHeap}
use Rattle.pool_alloc.specs.Calls.{IsGrant}
use Rattle.pool_alloc.specs.declared.frame.Grant.{Grant}
use Rattle.pool_driver.specs.Faults.{GrantKeeps}
use Rattle.pool_workers.proofs.Driving.{emptied, even_now, units_none}
use Rattle.pool_workers.proofs.Sparing.{spares_on, spares_still}
use Rattle.pool_workers.proofs.joins.give_back_all.Goals as goal

pub loop-at-init : goal.loop-at-init
loop-at-init g c =
    record {
      own = search rules;
      free = search rules;
      idle = search rules;
      driven = search rules;
      keeps = search rules;
      grants = search rules;
      none = λ i below. absurd (omega (arith, below));
      long = refl;
      spares = spares_still g.job.plan (view c.args.seat.now);
    }

pub loop-at-preserved : goal.loop-at-preserved
loop-at-preserved g c =
    let Keeps : Option (Grant g.row.P.Denot PlainHeap) → Type 0 = λ x. IfSome x GrantKeeps in
    let Is : Option (Grant g.row.P.Denot PlainHeap) → Type 0 = λ x. IfSome x (IsGrant g.job.world.maker g.job.settings g.job.plan) in
    record {
      own = c.give_back_at.ensures.own;
      free = c.give_back_at.ensures.free;
      idle = c.give_back_at.ensures.idle;
      driven = c.give_back_at.ensures.driven;
      keeps = subst (All Keeps) (sym c.give_back_at.ensures.live) (All-set Keeps c.loop-at.party.live c.loop-at.at None tt c.loop-at.invariant.keeps);
      grants = subst (All Is) (sym c.give_back_at.ensures.live) (All-set Is c.loop-at.party.live c.loop-at.at None tt c.loop-at.invariant.grants);
      none = λ i below.
          subst (λ (live : List (Option (Grant g.row.P.Denot PlainHeap))). slice_index_or live i None ≡ None) (sym c.give_back_at.ensures.live)
          (emptied c.loop-at.party.live c.loop-at.at i (elim (cases_lt i c.loop-at.at) [ inl earlier ↦ inl (c.loop-at.invariant.none i earlier) | inr last ↦ inr (omega (arith, last, below)) ]));
      long = ap (λ (live : List (Option (Grant g.row.P.Denot PlainHeap))). length live) c.give_back_at.ensures.live ∙ length-set c.loop-at.party.live c.loop-at.at None ∙ c.loop-at.invariant.long;
      spares = spares_on g.job.plan (view c.args.seat.now) (view c.loop-at.seat) (view c.give_back_at.new.seat) c.loop-at.invariant.spares c.give_back_at.ensures.spares;
    }

pub returns-clause-units : goal.returns-clause-units
returns-clause-units g c =
    units_none g.job (length (made_with c.args.pool.now.hall)) (view c.loop-at.seat) c.loop-at.party.frame c.loop-at.party.live c.loop-at.invariant.idle (λ i below. c.loop-at.invariant.none i (omega (arith, below, c.loop-at.invariant.long))) c.loop-at.invariant.driven

pub returns-clause-even : goal.returns-clause-even
returns-clause-even g c =
    even_now g.job (length (made_with c.args.pool.now.hall)) (view c.loop-at.seat) c.loop-at.party.frame c.loop-at.party.live c.loop-at.invariant.idle (λ i below. c.loop-at.invariant.none i (omega (arith, below, c.loop-at.invariant.long))) c.loop-at.invariant.driven
