-- A worker that was told its replies, or for which there was no memory.
use Rattle.std.proofs.Common.{◌≡◌, ℕ, ◌<◌, List, length, subst, IfOk, Result, Ok, Err}
use Rattle.std.specs.Result.{result_ok}
use Rattle.pool_pages.specs.MakerTold.{MakerTold}
use Rattle.pool_hall.specs.Seat.{made_with, view, IsFree, IsSeatOf}
use Rattle.pool_hall.specs.declared.hall.Hall.{Hall}
use Rattle.pool_hall.specs.declared.hall.HallSeat.{HallSeat}
use Rattle.pool_hall.specs.declared.view.View.{View}
use Rattle.pool_slots.specs.declared.listed_heaps.PlainHeap.{PlainHeap}
use Rattle.pool_alloc.specs.Calls.{IsIdle}
use Rattle.pool_alloc.specs.PlainModules.{ModuleAsked}
use Rattle.pool_driver.specs.declared.part.HallPart.{HallPart}
use Rattle.pool_driver.specs.declared.shared_pool.SharedPool.{SharedPool}
use Rattle.pool_run.specs.Rooms.{IsPooledRun}
use Rattle.pool_run.specs.declared.input.Input.{Input}
use Rattle.pool_run.specs.declared.reply.Reply.{Reply}
use Rattle.pool_run.specs.declared.running_party.RunningParty.{RunningParty}
use Rattle.pool_threads.specs.GrowthFaults.{AreGrowthsPlanned}
use Rattle.pool_threads.specs.Sharing.{NotesOf, job_of, party_in, party_world}
use Rattle.pool_threads.specs.Working.{IsAtWork, NamesLive}
use Rattle.pool_workers.specs.Workers.{IsBack, worker_view}

module _ {P M : Type 0} (told : M → MakerTold) (input : Input) (modules : List ModuleAsked) (pool : SharedPool (Hall (HallPart P PlainHeap M)))
    (before : HallSeat (HallPart P PlainHeap M)) (number : ℕ) (seat : HallSeat (HallPart P PlainHeap M)) (party : RunningParty P) where
  -- Where there are replies, all is so of them that is so of a worker that has them.
  pub worker_back : {E : Type 0} (r : Result (List Reply) E) → number < length input.parties → view before ≡ worker_view pool.hall → IsSeatOf pool.hall seat → IsFree seat
      → IfOk r (λ replies. IsPooledRun (party_world (job_of told input pool) (party_in input number) party.frame.stripe) (party_in input number).commands replies)
      → IfOk r (λ replies. length replies ≡ length (party_in input number).commands)
      → IfOk r (λ replies. NamesLive replies party.live)
      → IfOk r (λ replies. AreGrowthsPlanned (party_world (job_of told input pool) (party_in input number) party.frame.stripe) (party_in input number).commands replies)
      → IfOk r (λ replies. NotesOf pool.plan modules (party_in input number) party.frame.stripe replies (view before) (view seat))
      → IfOk r (λ _. IsAtWork (job_of told input pool) (length (made_with pool.hall)) (view seat) party)
      → IfOk r (λ _. IsIdle party.frame)
      → IsBack told input modules pool (record { number = number; seat = seat; party = party; replies = result_ok r })
  worker_back (Ok replies) below first own free run all named growths notes work idle = record {
    inside = below;
    own = own;
    free = free;
    worked = record {
      run = run;
      all = all;
      named = named;
      growths = growths;
      notes = subst (λ (v : View (HallPart P PlainHeap M)). NotesOf pool.plan modules (party_in input number) party.frame.stripe replies v (view seat)) first notes;
      work = work;
      idle = idle;
    };
  }
  worker_back (Err e) below first own free run all named growths notes work idle = record { inside = below; own = own; free = free; worked = tt }
