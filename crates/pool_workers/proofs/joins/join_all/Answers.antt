use Rattle.std.proofs.Common.{◌≡◌, ℕ, ◌+◌, ◌<◌, ◌≤◌, ◌++◌, [], ◌∷◌, length, rules, refl, ap, subst, sym, ◌∙◌, arith, All, List, slice_index_or, vec_capacity}
use Rattle.std.specs.Vec.Iter.{into_iter_items}
use Rattle.std.proofs.lemmas.List.{nil_from_length}
use Rattle.pool_hall.specs.Seat.{view}
use Rattle.pool_hall.specs.declared.hall.HallSeat.{HallSeat}
use Rattle.pool_slots.specs.declared.listed_heaps.PlainHeap.{PlainHeap}
use Rattle.pool_driver.specs.declared.part.HallPart.{HallPart}
use Rattle.pool_run.specs.declared.reply.Reply.{Reply}
use Rattle.pool_threads.specs.Sharing.{IsGround}
use Rattle.pool_workers.specs.Joined.{IsJoined, Joins}
use Rattle.pool_workers.specs.Workers.{AreBack, IsBack}
use Rattle.pool_workers.specs.declared.worker.Worker.{Worker}
use Rattle.pool_workers.proofs.Joined.{one_joined}
use Rattle.pool_workers.proofs.JoinedAll.{new_long, next_is, next_number, rest_are, rest_left, rest_numbers}
use Rattle.pool_workers.proofs.joins.join_all.Goals as goal

pub loop-worker-init : goal.loop-worker-init
loop-worker-init g c =
    let W : Type 0 = Worker (HallSeat (HallPart g.row.P.Denot PlainHeap g.row.M.Denot)) g.row.P.Denot in
    let told = g.M.PageMaker.told in
    let pool = c.args.pool.now in
    let items : into_iter_items c.into_iter-worker-iterator.result ≡ c.args.workers.items = search rules in
    let back : AreBack told g.all.input g.all.modules pool c.args.workers.items = search rules in
    let none : c.args.replies.now.items ≡ [] = c.requires.1.1.1.1.1.1.1.1.1.0 in
    let enough : length c.args.workers.items ≤ vec_capacity c.args.replies.now = c.requires.1.1.1.1.1.1.1.1.1.1 in
    let joined : IsJoined told g.all pool (view c.args.seat.now) [] = search rules in
    let many : length (into_iter_items c.into_iter-worker-iterator.result) ≡ length c.args.workers.items = ap (λ (ws : List W). length ws) items in
    let no_more : length c.args.replies.now.items ≡ 0 = ap (λ (rs : List (List Reply)). length rs) none in
    record {
      own = c.requires.1.1.1.1.1.0;
      free = c.requires.1.1.1.1.1.1.0;
      joined = subst (λ (rs : List (List Reply)). IsJoined told g.all pool (view c.args.seat.now) rs) (sym none) joined;
      left = omega (arith, many, no_more);
      back = subst (λ (ws : List W). All (IsBack told g.all.input g.all.modules pool) ws) (sym items) back.each;
      numbers = subst (λ (ws : List W). (i : ℕ) (d : W) → i < length ws → (slice_index_or ws i d).number ≡ length c.args.replies.now.items + i) (sym items) (λ i d below. omega (arith, back.numbers i d below, no_more));
      room = omega (arith, many, no_more, enough);
      portions = omega (arith, no_more);
    }

pub join_one-requires : goal.join_one-requires
join_one-requires g c κs within =
    let W : Type 0 = Worker (HallSeat (HallPart g.row.P.Denot PlainHeap g.row.M.Denot)) g.row.P.Denot in
    let told = g.M.PageMaker.told in
    let pool = c.args.pool.now in
    let Back : W → Type 0 = IsBack told g.all.input g.all.modules pool in
    let had : List (List Reply) = c.loop-worker.replies.items in
    let inv = c.loop-worker.invariant in
    let ground : IsGround told g.all.input g.all.modules pool = search rules in
    let back : Back c.in-Some.worker = next_is Back (λ (w : W). w.number) c.in-Some.worker (into_iter_items c.loop-worker.worker-iterator) (into_iter_items c.next.new.self) had (had ++ [] ∷ []) [] c.in-Some.ensures.steps.0 refl inv.back in
    (search rules, (search rules, (search rules, (search rules, (ground, (inv.own, (inv.free, (back, (inv.joined.units, (inv.joined.even, inv.joined.lower))))))))))

pub loop-worker-preserved : goal.loop-worker-preserved
loop-worker-preserved g c =
    let W : Type 0 = Worker (HallSeat (HallPart g.row.P.Denot PlainHeap g.row.M.Denot)) g.row.P.Denot in
    let told = g.M.PageMaker.told in
    let pool = c.args.pool.now in
    let Back : W → Type 0 = IsBack told g.all.input g.all.modules pool in
    let number : W → ℕ = λ w. w.number in
    let x : W = c.in-Some.worker in
    let left : List W = into_iter_items c.loop-worker.worker-iterator in
    let rest : List W = into_iter_items c.next.new.self in
    let had : List (List Reply) = c.loop-worker.replies.items in
    let new : List (List Reply) = c.push_reserved.new.self.items in
    let y : List Reply = c.in-Some-join_one.told in
    let next : left ≡ x ∷ rest = c.in-Some.ensures.steps.0 in
    let pushed : new ≡ had ++ y ∷ [] = c.push_reserved.ensures.items in
    let inv = c.loop-worker.invariant in
    let back : Back x = next_is Back number x left rest had new y next pushed inv.back in
    let its : number x ≡ length had = next_number Back number x left rest had new y next pushed inv.numbers in
    let joins : Joins told g.all pool (view c.loop-worker.seat) (view c.join_one.new.seat) x.number y = c.in-Some-join_one.ensures.joins in
    record {
      own = c.join_one.ensures.own;
      free = c.join_one.ensures.free;
      joined = subst (λ (rs : List (List Reply)). IsJoined told g.all pool (view c.join_one.new.seat) rs) (sym pushed)
          (one_joined told g.all pool (view c.loop-worker.seat) (view c.join_one.new.seat) had y x.number (sym its) back.inside inv.joined joins);
      left = rest_left Back number x left rest had new y next pushed (length c.args.workers.items) inv.left;
      back = rest_are Back number x left rest had new y next pushed inv.back;
      numbers = rest_numbers Back number x left rest had new y next pushed inv.numbers;
      room = omega (arith, inv.room, c.push_reserved.ensures.capacity, rest_left Back number x left rest had new y next pushed (length had + length left) refl);
      portions = omega (arith, joins.portions, inv.portions, new_long Back number x left rest had new y next pushed);
    }

pub returns-clause-joined : goal.returns-clause-joined
returns-clause-joined g c = λ done. c.loop-worker.invariant.joined

pub returns-clause-count : goal.returns-clause-count
returns-clause-count g c =
    let none : length (into_iter_items c.loop-worker.worker-iterator) ≡ 0 = sym c.loop-worker.worker-iterator.rest.ok.0 ∙ c.in-None.ensures.steps.0 in
    λ done. omega (arith, c.loop-worker.invariant.left, none)

pub returns-clause-portions : goal.returns-clause-portions
returns-clause-portions g c =
    let none : length (into_iter_items c.loop-worker.worker-iterator) ≡ 0 = sym c.loop-worker.worker-iterator.rest.ok.0 ∙ c.in-None.ensures.steps.0 in
    λ done. omega (arith, c.loop-worker.invariant.left, c.loop-worker.invariant.portions, none)
