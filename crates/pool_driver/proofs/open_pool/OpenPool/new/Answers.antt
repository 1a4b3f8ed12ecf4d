use Rattle.std.proofs.Common.{◌≡◌, length, map, refl, ap, sym, ◌∙◌, subst, arith, None, Some}
use Rattle.std.proofs.lemmas.Option.{same_Some}
use Rattle.pool_hall.specs.Seat.{made_with, view}
use Rattle.pool_hall.specs.declared.view.View.{View}
use Rattle.pool_alloc.specs.Calls.{frame_made}
use Rattle.pool_driver.specs.Driving.{IsDriven, alone_of}
use Rattle.pool_driver.specs.Origins.{about_of, inner_of}
use Rattle.pool_driver.specs.Placed.{About, about_made}
use Rattle.pool_driver.specs.Pools.{IsPool, about_core}
use Rattle.pool_driver.specs.declared.part.HallPart.{HallPart}
use Rattle.pool_driver.proofs.Cores.{map_length}
use Rattle.pool_driver.proofs.FirstFrames.{first_driven}
use Rattle.pool_driver.proofs.Fresh.{all_fresh, of_core, is_pool}
use Rattle.pool_driver.proofs.open_pool.OpenPool.new.Goals as goal

pub new-requires-clause-few : goal.new-requires-clause-few
new-requires-clause-few g c =
    let xs = c.with_origin-wrapped.result.items in
    let parts : map inner_of xs ≡ c.args.core.parts = c.with_origin-wrapped.ensures.parts ∙ c.into_list-list.ensures in
    omega (arith, c.with_origin-wrapped.result.ok.0, c.in_ok-limits.limits.ok.0, map_length (about_of g.M.PageMaker.told) inner_of xs, ap length parts, ap length c.in_ok-limits.ensures, c.requires.few)

pub new-requires-clause-fresh : goal.new-requires-clause-fresh
new-requires-clause-fresh g c =
    all_fresh (about_of g.M.PageMaker.told) inner_of (g.M.PageMaker.told c.args.maker.now) c.requires.made.0 c.args.core c.requires.made.1 c.requires.core c.requires.untouched
    c.with_origin-wrapped.result.items c.in_ok-limits.limits.items (c.with_origin-wrapped.ensures.parts ∙ c.into_list-list.ensures) c.with_origin-wrapped.ensures.about

pub returns-clause-open : goal.returns-clause-open
returns-clause-open g c =
    let maker = g.M.PageMaker.told c.args.maker.now in
    let core = c.args.core in
    let a : About = about_core maker core in
    let xs = c.with_origin-wrapped.result.items in
    let parts : map inner_of xs ≡ core.parts = c.with_origin-wrapped.ensures.parts ∙ c.into_list-list.ensures in
    let made : made_with c.in_ok-hall.hall ≡ xs = c.in_ok-hall.ensures.parts in
    record {
      pool = record {
        hall = record {
          made = ap (about_made (about_of g.M.PageMaker.told)) made ∙ of_core (about_of g.M.PageMaker.told) inner_of maker c.requires.made.0 core c.requires.made.1 c.requires.core c.requires.untouched xs c.in_ok-limits.limits.items parts c.with_origin-wrapped.ensures.about;
          pool = subst (IsPool a) (ap length (sym made)) (is_pool (about_of g.M.PageMaker.told) inner_of maker c.requires.made.0 core c.requires.made.1 c.requires.core c.requires.untouched xs c.in_ok-limits.limits.items parts c.with_origin-wrapped.ensures.about);
          limits = c.in_ok-hall.ensures.limits ∙ c.in_ok-limits.ensures;
        };
        settings = refl;
        plan = refl;
      };
      lists = same_Some _ _ (sym c.in-Some.is ∙ c.requires.made.1.spare);
      empty = c.in_ok-room.ensures.items;
      room = omega (arith, ap length made, map_length (about_of g.M.PageMaker.told) inner_of xs, ap length parts, ap length c.into_list-list.ensures, c.into_list-list.result.ok.0, c.len.ensures, c.in_ok-room.ensures.capacity);
      own = c.in_ok-hall.ensures.own.0;
      free = c.in_ok-hall.ensures.own.1;
    }

pub returns-clause-drives : goal.returns-clause-drives
returns-clause-drives g c = λ a opened home.
    let maker = g.M.PageMaker.told c.args.maker.now in
    let core = c.args.core in
    let xs = c.with_origin-wrapped.result.items in
    let parts : map inner_of xs ≡ core.parts = c.with_origin-wrapped.ensures.parts ∙ c.into_list-list.ensures in
    let made : made_with c.in_ok-hall.hall ≡ xs = c.in_ok-hall.ensures.parts in
    let long : length core.parts ≡ length (made_with c.in_ok-hall.hall) = omega (arith, ap length (sym parts), map_length (about_of g.M.PageMaker.told) inner_of xs, ap length made) in
    let own : about_made (about_of g.M.PageMaker.told) (made_with c.in_ok-hall.hall) ≡ Some (about_core maker core) =
    ap (about_made (about_of g.M.PageMaker.told)) made ∙ of_core (about_of g.M.PageMaker.told) inner_of maker c.requires.made.0 core c.requires.made.1 c.requires.core c.requires.untouched xs c.in_ok-limits.limits.items parts c.with_origin-wrapped.ensures.about in
    let same : about_core maker core ≡ a = same_Some _ _ (sym own ∙ opened.pool.hall.made) in
    subst (λ (b : About). IsDriven {P = g.row.P.Denot} {H = g.row.H.Denot} (length (made_with c.in_ok-hall.hall)) (alone_of b) (view c.in_ok-hall.seat) (frame_made home b.settings) None) same
    (subst (λ (v : View (HallPart g.row.P.Denot g.row.H.Denot g.row.M.Denot)). IsDriven {P = g.row.P.Denot} {H = g.row.H.Denot} (length (made_with c.in_ok-hall.hall)) (alone_of (about_core maker core)) v (frame_made home core.settings) None) (sym c.in_ok-hall.ensures.view)
    (first_driven maker c.requires.made.0 core c.requires.made.1 c.requires.core c.requires.untouched (length (made_with c.in_ok-hall.hall)) long xs c.in_ok-limits.limits.items home))
