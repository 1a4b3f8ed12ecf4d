-- What a worker that comes back adds to the seat to which its own is joined.
use Rattle.std.proofs.Common.{◌≡◌, ◌⊎◌, inl, inr, ℕ, ◌+◌, ◌<◌, ◌≤◌, List, [], length, refl, sym, ap, subst, ◌∙◌, arith}
use Rattle.pool_pages.specs.MakerTold.{MakerTold}
use Rattle.pool_hall.specs.Seat.{made_with, view}
use Rattle.pool_hall.specs.Step.{joined}
use Rattle.pool_hall.specs.Tally.{additions, low_additions, number}
use Rattle.pool_hall.specs.declared.hall.Hall.{Hall}
use Rattle.pool_hall.specs.declared.hall.HallSeat.{HallSeat}
use Rattle.pool_hall.specs.declared.view.View.{View}
use Rattle.pool_slots.specs.Plans.{shard_tried}
use Rattle.pool_slots.specs.declared.listed_heaps.PlainHeap.{PlainHeap}
use Rattle.pool_slots.specs.declared.plan.Plan.{Plan}
use Rattle.pool_alloc.specs.StepReads.{allocator_of}
use Rattle.pool_driver.specs.Counts.{IsEven}
use Rattle.pool_driver.specs.Telling.{component_counter, instance_counter}
use Rattle.pool_driver.specs.declared.part.HallPart.{HallPart}
use Rattle.pool_driver.specs.declared.shared_pool.SharedPool.{SharedPool}
use Rattle.pool_run.specs.declared.command.Command.{Command}
use Rattle.pool_run.specs.declared.reply.Reply.{Reply}
use Rattle.pool_threads.specs.Asked.{Scarce, slots, instances, components, asked, faulted, refused}
use Rattle.pool_threads.specs.Noted.{HasNotedCell, Notes, fault_rise, memory_faults, spent}
use Rattle.pool_threads.specs.Sharing.{party_in}
use Rattle.pool_workers.specs.Joined.{HasRun, Joins, Shared}
use Rattle.pool_workers.specs.Sparing.{Spares}
use Rattle.pool_workers.specs.Workers.{HasWorked, worker_view}
use Rattle.pool_workers.specs.declared.worker.Worker.{Worker}
use Rattle.pool_workers.proofs.JoinedViews.{notes_join, with_more}

-- more portions are no more of anything else
spent_more : {T : Type 0} (plan : Plan) (k : Scarce) (n : ℕ) (v : View T) → spent plan k (with_more n v) ≡ spent plan k v
spent_more plan (slots kind) n v = refl
spent_more plan instances n v = refl
spent_more plan components n v = refl

module _ {P M : Type 0} (told : M → MakerTold) (all : Shared) (pool : SharedPool (Hall (HallPart P PlainHeap M))) (v w : View (HallPart P PlainHeap M)) (worker : Worker (HallSeat (HallPart P PlainHeap M)) P) (replies : List Reply)
    (worked : HasWorked told all.input all.modules pool worker replies) (spares : Spares pool.plan (joined v (view worker.seat)) w) (lower : (c : ℕ) → number (low_additions c) v ≤ number (additions c) v) where
  abbrev commands : List Command
  commands = (party_in all.input worker.number).commands

  noted : Notes pool.plan (party_in all.input worker.number).home worker.party.frame.stripe (λ k. asked k all.modules commands replies) (λ k. refused k commands replies) (faulted commands replies) (with_more (view worker.seat).portions v) (joined v (view worker.seat))
  noted = notes_join pool.plan (party_in all.input worker.number).home worker.party.frame.stripe (worker_view pool.hall) v (view worker.seat) 1 (λ k. asked k all.modules commands replies) (λ k. refused k commands replies) (faulted commands replies) worked.notes

  ran : HasRun told all pool w worker.number replies
  ran = record {
    stripe = worker.party.frame.stripe;
    inside = worked.work.driven.frame.stripe;
    run = worked.run;
    whole = worked.all;
    growths = worked.growths;
    full = λ kind some' j below. omega (arith, (noted.room kind).noted some' j below, spares.grows.noted (shard_tried (allocator_of pool.plan kind worker.party.frame.stripe) (party_in all.input worker.number).home j));
    over_instances = λ some'. omega (arith, some', noted.over_instances.over, spares.grows.over instance_counter, lower instance_counter);
    over_components = λ some'. omega (arith, some', noted.over_components.over, spares.grows.over component_counter, lower component_counter);
  }

  pub joins_made : w.units ≡ [] → IsEven w → Joins told all pool v w worker.number replies
  joins_made units even = record {
    units = units;
    even = even;
    portions = spares.grows.portions ∙ ap (λ (n : ℕ). v.portions + n) worked.notes.grows.portions;
    noted = λ q. omega (arith, noted.grows.noted q, spares.grows.noted q);
    over = λ c. omega (arith, noted.grows.over c, spares.grows.over c);
    within = λ k. omega (arith, noted.within k, spares.within k, spent_more pool.plan k (view worker.seat).portions v);
    ran = ran;
    faults = elim noted.faults [
      | inl more ↦ inl (omega (arith, more, spares.grows.rises (fault_rise pool.plan)))
      | inr is ↦ inr (record { slot = is.slot; kind = is.kind; place = is.place; cell = is.cell; noted = omega (arith, is.noted, spares.grows.noted is.place) })
    ];
  }
