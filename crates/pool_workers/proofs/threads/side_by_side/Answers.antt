use Rattle.std.proofs.Common.{◌≡◌, ◌≤◌, List, [], length, rules, true, ap, subst, sym, ◌∙◌, arith, vec_capacity}
use Rattle.pool_hall.specs.Rule.{first_view}
use Rattle.pool_hall.specs.Seat.{limits_of, made_with, view, IsFree, IsSeatOf}
use Rattle.pool_run.specs.declared.input.Party.{Party}
use Rattle.pool_threads.specs.Sharing.{IsGround}
use Rattle.pool_workers.specs.Joined.{IsJoined, Shared, shared_by}
use Rattle.pool_workers.specs.Workers.{AreBack}
use Rattle.pool_workers.proofs.Sides.{enough_portions, left_unjoined, whole_again}
use Rattle.pool_workers.proofs.threads.side_by_side.Goals as goal

pub make_workers-requires-clause-valid : goal.make_workers-requires-clause-valid
make_workers-requires-clause-valid g c =
    let ground : IsGround g.M.PageMaker.told c.args.input.now c.args.modules.now c.args.pool.now = search rules in
    ground.valid

pub make_workers-requires-clause-batch : goal.make_workers-requires-clause-batch
make_workers-requires-clause-batch g c =
    let ground : IsGround g.M.PageMaker.told c.args.input.now c.args.modules.now c.args.pool.now = search rules in
    ground.shared.hall.pool.settings.batch.1

pub make_workers-requires-clause-some : goal.make_workers-requires-clause-some
make_workers-requires-clause-some g c =
    let ground : IsGround g.M.PageMaker.told c.args.input.now c.args.modules.now c.args.pool.now = search rules in
    let first : view c.args.seat.now ≡ first_view (made_with c.args.pool.now.hall) (limits_of c.args.pool.now.hall) = search rules in
    enough_portions g.M.PageMaker.told c.args.input.now c.args.modules.now c.args.pool.now (view c.args.seat.now) ground first

pub join_all-done-requires : goal.join_all-done-requires
join_all-done-requires g c κs within =
    let told = g.M.PageMaker.told in
    let input = c.args.input.now in
    let pool = c.args.pool.now in
    let workers = c.in-Ok-work_list.workers.items in
    let its : IsGround told input c.args.modules.now pool = search rules in
    let first : view c.args.seat.now ≡ first_view (made_with pool.hall) (limits_of pool.hall) = c.requires.1.1.1.1.1.1.1.1.1.1.1.1.1 in
    let all : g.all ≡ shared_by input c.args.modules.now = c.requires.1.1.1.1.1.1.1.1.0 in
    let its_back : AreBack told input c.args.modules.now pool workers = search rules in
    let reserved : length input.parties ≤ vec_capacity c.in-Ok-with_capacity.replies = omega (arith, c.in-Ok-with_capacity.ensures.capacity, ap (λ (ps : List Party). length ps) c.as_slice-count.ensures) in
    let ground : IsGround told g.all.input g.all.modules pool = subst (λ (a : Shared). IsGround told a.input a.modules pool) (sym all) its in
    let own : IsSeatOf pool.hall c.make_workers.new.seat = c.make_workers.ensures.own in
    let free : IsFree c.make_workers.new.seat = c.make_workers.ensures.free in
    let back : AreBack told g.all.input g.all.modules pool workers = subst (λ (a : Shared). AreBack told a.input a.modules pool workers) (sym all) its_back in
    let joined : IsJoined told g.all pool (view c.make_workers.new.seat) [] = left_unjoined told input c.args.modules.now pool (view c.args.seat.now) its first (view c.make_workers.new.seat) c.in-Ok.ensures.left g.all in
    let empty : c.in-Ok-with_capacity.replies.items ≡ [] = c.in-Ok-with_capacity.ensures.items in
    let room : length workers ≤ vec_capacity c.in-Ok-with_capacity.replies = omega (arith, its_back.count, reserved) in
    (search rules, (search rules, (search rules, (search rules, (ground, (own, (free, (back, (joined, (empty, room))))))))))

pub returns-clause-joined : goal.returns-clause-joined
returns-clause-joined g c =
    let done : c.join_all-done.result ≡ true = search rules in
    c.join_all-done.ensures.joined done

pub returns-clause-count : goal.returns-clause-count
returns-clause-count g c =
    let done : c.join_all-done.result ≡ true = search rules in
    let back : AreBack g.M.PageMaker.told c.args.input.now c.args.modules.now c.args.pool.now c.in-Ok-work_list.workers.items = search rules in
    c.join_all-done.ensures.count done ∙ back.count

pub returns-clause-portions : goal.returns-clause-portions
returns-clause-portions g c =
    let ground : IsGround g.M.PageMaker.told c.args.input.now c.args.modules.now c.args.pool.now = search rules in
    let first : view c.args.seat.now ≡ first_view (made_with c.args.pool.now.hall) (limits_of c.args.pool.now.hall) = search rules in
    let done : c.join_all-done.result ≡ true = search rules in
    let back : AreBack g.M.PageMaker.told c.args.input.now c.args.modules.now c.args.pool.now c.in-Ok-work_list.workers.items = search rules in
    whole_again g.M.PageMaker.told c.args.input.now c.args.modules.now c.args.pool.now (view c.args.seat.now) ground first (view c.make_workers.new.seat) c.in-Ok.ensures.left (view c.join_all-done.new.seat).portions (length c.in-Ok-work_list.workers.items) (c.join_all-done.ensures.portions done) back.count
