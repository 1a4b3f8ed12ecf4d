use Rattle.std.proofs.Common.{◌≡◌, List, [], rules, refl, subst, sym}
use Rattle.pool_hall.specs.Rule.{first_view}
use Rattle.pool_hall.specs.Seat.{limits_of, made_with, view, IsFree, IsSeatOf}
use Rattle.pool_hall.specs.Tally.{all_portions}
use Rattle.pool_slots.specs.declared.listed_heaps.PlainHeap.{PlainHeap}
use Rattle.pool_driver.specs.Counts.{IsEven}
use Rattle.pool_driver.specs.Pools.{IsOpen}
use Rattle.pool_driver.specs.declared.open_pool.OpenPool.{OpenPool}
use Rattle.pool_callers.specs.Callers.{about_shared}
use Rattle.pool_run.specs.Made.{calls_made}
use Rattle.pool_run.specs.declared.reply.Reply.{Reply}
use Rattle.pool_threads.specs.Sharing.{IsGround, job_of}
use Rattle.pool_threads.specs.Working.{about_job}
use Rattle.pool_workers.specs.Joined.{shared_by}
use Rattle.pool_workers.specs.Threads.{HaveRunBeside}
use Rattle.pool_workers.specs.Workers.{DrivesWorkers}
use Rattle.pool_workers.proofs.Beside.{have_run}
use Rattle.pool_workers.proofs.threads.run_over.Goals as goal

pub side_by_side-requires : goal.side_by_side-requires
side_by_side-requires g c κs within =
    let told = g.M.PageMaker.told in
    let is_open : IsOpen {R = g.row.P.Denot} told (about_job (job_of told c.args.input.now c.args.opened.pool)) c.args.opened = search rules in
    let ground : IsGround told c.args.input.now c.args.modules.now c.args.opened.pool = search rules in
    let drives : DrivesWorkers told c.args.input.now c.args.opened.pool = search rules in
    let own : IsSeatOf c.args.opened.pool.hall c.args.opened.seat = is_open.own in
    let free : IsFree c.args.opened.seat = is_open.free in
    let first : view c.args.opened.seat ≡ first_view (made_with c.args.opened.pool.hall) (limits_of c.args.opened.pool.hall) = search rules in
    (search rules, (search rules, (search rules, (search rules, (search rules, (search rules, (search rules, (search rules, (refl, (ground, (drives, (own, (free, first)))))))))))))

pub close-requires : goal.close-requires
close-requires g c κs within =
    let told = g.M.PageMaker.told in
    let was_open : IsOpen {R = g.row.P.Denot} told (about_job (job_of told c.args.input.now c.args.opened.pool)) c.args.opened = search rules in
    let o : OpenPool g.row.P.Denot PlainHeap g.row.M.Denot g.row.P.Denot = record { pool = c.args.opened.pool; seat = c.side_by_side.new.seat; lists = c.args.opened.lists; room = c.args.opened.room } in
    let is_open : IsOpen {R = g.row.P.Denot} told (about_shared told c.args.opened.pool) o = record { pool = was_open.pool; lists = was_open.lists; empty = was_open.empty; room = was_open.room; own = c.side_by_side.ensures.own; free = c.side_by_side.ensures.free } in
    let portions : (view c.side_by_side.new.seat).portions ≡ all_portions = c.in-Ok.ensures.portions in
    let units : (view c.side_by_side.new.seat).units ≡ [] = c.in-Ok.ensures.joined.units in
    let even : IsEven (view c.side_by_side.new.seat) = c.in-Ok.ensures.joined.even in
    (search rules, (search rules, (search rules, (search rules, (is_open, (portions, (units, even)))))))

pub returns-clause-ran : goal.returns-clause-ran
returns-clause-ran g c =
    let ground : IsGround g.M.PageMaker.told c.args.input.now c.args.modules.now c.args.opened.pool = search rules in
    let same : (job_of g.M.PageMaker.told c.args.input.now c.args.opened.pool).world.maker ≡ g.maker = search rules in
    let calls : c.args.modules.now ≡ calls_made c.args.input.now.tunables g.maker.page 0 c.args.input.now.modules = search rules in
    subst (λ (rs : List (List Reply)). HaveRunBeside c.args.input.now g.maker rs) (sym c.output_of.ensures.replies)
    (have_run g.M.PageMaker.told c.args.input.now c.args.modules.now c.args.opened.pool (view c.side_by_side.new.seat) c.in-Ok.replies.items g.maker ground c.in-Ok.ensures.joined c.close.ensures.noted c.in-Ok.ensures.count same calls)
