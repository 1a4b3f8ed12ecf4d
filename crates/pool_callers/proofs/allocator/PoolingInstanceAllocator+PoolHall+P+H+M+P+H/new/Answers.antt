use Rattle.std.proofs.Common.{◌≡◌, ℕ, ◌<◌, length, refl, ap, arith, subst, sym, ◌∙◌, None}
use Rattle.pool_types.specs.SettingsRules.{slab_stripes}
use Rattle.pool_slots.specs.declared.slab.SlabLayout.{SlabLayout}
use Rattle.pool_slots.proofs.Settings.{settings_speak}
use Rattle.pool_pages.specs.MakerTold.{MakerTold}
use Rattle.pool_hall.specs.Seat.{limits_of, made_with, view}
use Rattle.pool_alloc.specs.Calls.{frame_made, lists_made}
use Rattle.pool_alloc.specs.Made.{fails_slots}
use Rattle.pool_alloc.specs.declared.frame.Frame.{Frame}
use Rattle.pool_alloc.specs.declared.pool_core.Settings.{Settings}
use Rattle.pool_alloc.proofs.Striping.{slab_kept}
use Rattle.pool_driver.specs.Driving.{IsDriven, alone_of}
use Rattle.pool_driver.specs.Placed.{About}
use Rattle.pool_driver.specs.Pools.{IsOpen, IsSharedOf, about_core}
use Rattle.pool_driver.proofs.Makers.{memory_unlisted}
use Rattle.pool_callers.specs.Callers.{Allocator, about_pool, given_in}
use Rattle.pool_callers.proofs.Seats.{about_is, first_nothing}
use Rattle.pool_callers.proofs.Settling.{settled}
use Rattle.pool_callers.proofs.allocator.PoolingInstanceAllocator+PoolHall+P+H+M+P+H.new.Goals as goal

pub returns-in-Err-new-clause-planned : goal.returns-in-Err-new-clause-planned
returns-in-Err-new-clause-planned g c =
    memory_unlisted (g.M.PageMaker.told c.args.maker.now).plan (fails_slots c.args.page c.args.config.now c.args.tunables.now c.args.offered.now c.args.shards)

pub returns-clause-pool : goal.returns-clause-pool
returns-clause-pool g c =
    let told : g.row.M.Denot → MakerTold = g.M.PageMaker.told in
    let made = c.in-Ok.ensures.made in
    let a : About = about_core (g.M.PageMaker.told c.args.maker.now) made.core in
    let p : Allocator g.row.P.Denot g.row.H.Denot g.row.M.Denot = record { pool = c.in-Ok.open.pool; config = c.args.config.now; has_keys = c.uses_keys.result; layout = c.slab_layout.result; lists = c.in-Ok.open.lists; room = c.in-Ok.open.room } in
    let is_open : IsOpen {R = g.row.P.Denot} told a c.in-Ok.open = made.is_open in
    let same : about_pool told p ≡ a = about_is told a p is_open.pool in
    let some : 0 < c.args.page = omega (arith, c.requires.page, is_open.pool.hall.pool.page, ap (λ (s : Settings). s.page) is_open.pool.settings, is_open.pool.hall.pool.settings.page.at_least) in
    let stripes : slab_stripes c.args.config.now c.args.tunables.now c.args.page c.args.offered.now ≡ p.pool.settings.num_stripes =
    ap (λ (n : ℕ). slab_stripes c.args.config.now c.args.tunables.now n c.args.offered.now) c.requires.page
    ∙ sym (ap (λ (s : Settings). s.num_stripes) (is_open.pool.settings ∙ made.made.settings)) in
    record {
      pool = subst (λ (x : About). IsSharedOf told x p.pool) (sym same) is_open.pool;
      layout = c.slab_layout.ensures.sound;
      stripes = ap (λ (l : SlabLayout). l.num_stripes) c.slab_layout.ensures.value ∙ sym (settings_speak c.args.config.now c.args.tunables.now c.args.page c.args.offered.now some).stripes ∙ stripes;
      lists = is_open.lists ∙ ap (λ (s : Settings). lists_made s) (sym is_open.pool.settings);
      empty = is_open.empty;
      room = is_open.room;
    }

pub returns-clause-seat : goal.returns-clause-seat
returns-clause-seat g c =
    let told : g.row.M.Denot → MakerTold = g.M.PageMaker.told in
    let made = c.in-Ok.ensures.made in
    let a : About = about_core (g.M.PageMaker.told c.args.maker.now) made.core in
    let p : Allocator g.row.P.Denot g.row.H.Denot g.row.M.Denot = record { pool = c.in-Ok.open.pool; config = c.args.config.now; has_keys = c.uses_keys.result; layout = c.slab_layout.result; lists = c.in-Ok.open.lists; room = c.in-Ok.open.room } in
    let is_open : IsOpen {R = g.row.P.Denot} told a c.in-Ok.open = made.is_open in
    let same : about_pool told p ≡ a = about_is told a p is_open.pool in
    let frame : c.in-Ok-new.frame ≡ frame_made {P = g.row.P.Denot} {H = g.row.H.Denot} 0 a.settings = c.in-Ok-new.ensures.made ∙ ap (λ (s : Settings). frame_made {P = g.row.P.Denot} {H = g.row.H.Denot} 0 s) is_open.pool.settings in
    let first : IsDriven (length (made_with p.pool.hall)) (alone_of a) (view c.in-Ok.open.seat) (frame_made {P = g.row.P.Denot} {H = g.row.H.Denot} 0 a.settings) None = c.in-Ok.ensures.drives a is_open 0 in
    record {
      own = is_open.own;
      free = is_open.free;
      idle = ap (λ (f : Frame g.row.P.Denot g.row.H.Denot). f.phase) frame;
      driven = subst (λ (f : Frame g.row.P.Denot g.row.H.Denot). IsDriven (length (made_with p.pool.hall)) (given_in (about_pool told p) (view c.in-Ok.open.seat)) (view c.in-Ok.open.seat) f None) (sym frame)
          (subst (λ (x : About). IsDriven (length (made_with p.pool.hall)) (given_in x (view c.in-Ok.open.seat)) (view c.in-Ok.open.seat) (frame_made {P = g.row.P.Denot} {H = g.row.H.Denot} 0 a.settings) None) (sym same)
          (settled (length (made_with p.pool.hall)) (alone_of a) (view c.in-Ok.open.seat) (frame_made {P = g.row.P.Denot} {H = g.row.H.Denot} 0 a.settings) None first refl));
    }

pub returns-clause-nothing : goal.returns-clause-nothing
returns-clause-nothing g c = (first_nothing (view c.in-Ok.open.seat) (made_with c.in-Ok.open.pool.hall) (limits_of c.in-Ok.open.pool.hall) c.in-Ok.ensures.made.view).0

pub slab_layout-requires : goal.slab_layout-requires
slab_layout-requires g c = slab_kept c.args.config.now c.args.tunables.now c.args.page c.args.shards c.args.offered.now c.in-Ok.ensures.rules
