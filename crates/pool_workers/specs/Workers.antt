-- Workers, each of which makes the commands of one party: what they begin with, and what they come back with.
use Rattle.std.specs.Prelude.{◌≡◌, ℕ, ◌<◌, List, [], length, All, None, IfSome, slice_index_or}
use Rattle.pool_pages.specs.MakerTold.{MakerTold}
use Rattle.pool_hall.specs.Seat.{made_with, limits_of, view, IsFree, IsSeatOf}
use Rattle.pool_hall.specs.declared.hall.Hall.{Hall}
use Rattle.pool_hall.specs.declared.hall.HallSeat.{HallSeat}
use Rattle.pool_hall.specs.declared.view.View.{View}
use Rattle.pool_slots.specs.declared.listed_heaps.PlainHeap.{PlainHeap}
use Rattle.pool_alloc.specs.Calls.{IsIdle, frame_made}
use Rattle.pool_alloc.specs.PlainModules.{ModuleAsked}
use Rattle.pool_driver.specs.Driving.{IsDriven, alone_of}
use Rattle.pool_driver.specs.declared.part.HallPart.{HallPart}
use Rattle.pool_driver.specs.declared.shared_pool.SharedPool.{SharedPool}
use Rattle.pool_callers.specs.Callers.{about_shared}
use Rattle.pool_run.specs.Rooms.{IsPooledRun}
use Rattle.pool_run.specs.RunsMade.{party_made_for}
use Rattle.pool_run.specs.declared.input.Input.{Input}
use Rattle.pool_run.specs.declared.reply.Reply.{Reply}
use Rattle.pool_threads.specs.GrowthFaults.{AreGrowthsPlanned}
use Rattle.pool_threads.specs.Sharing.{NotesOf, job_of, party_in, party_world}
use Rattle.pool_threads.specs.Working.{IsAtWork, NamesLive}
use Rattle.pool_workers.specs.declared.worker.Worker.{Worker}

-- What the seat of a worker knows first: with what the hall was made. It has a portion, and nothing else.
abbrev pub worker_view : {T : Type 0} → Hall T → View T
worker_view h = record { parts = made_with h; limits = limits_of h; held = None; units = []; rises = []; topped = []; added = []; low = []; subtracted = []; portions = 1 }

module _ {P M : Type 0} (told : M → MakerTold) (input : Input) where
  -- A seat that knows no more may drive each frame as it is made.
  abbrev pub DrivesWorkers : SharedPool (Hall (HallPart P PlainHeap M)) → Type 0
  DrivesWorkers pool = (home : ℕ) → IsDriven {P = P} {H = PlainHeap} (length (made_with pool.hall)) (alone_of (about_shared told pool)) (worker_view pool.hall) (frame_made home pool.settings) None

  -- A worker that may begin: its party is one of the input, and as it is made.
  pub record IsReady (pool : SharedPool (Hall (HallPart P PlainHeap M))) (w : Worker (HallSeat (HallPart P PlainHeap M)) P) : Type 0 where
    pub inside : w.number < length input.parties
    pub own : IsSeatOf pool.hall w.seat
    pub free : IsFree w.seat
    pub view_is : view w.seat ≡ worker_view pool.hall
    pub made : w.party ≡ party_made_for pool.settings (party_in input w.number)
    pub nothing : IsDriven (length (made_with pool.hall)) (alone_of (about_shared told pool)) (view w.seat) w.party.frame None
    pub untold : w.replies ≡ None

  -- What it was told is a private run of its party's commands, whatever others did meanwhile. No call of its is under way.
  pub record HasWorked (modules : List ModuleAsked) (pool : SharedPool (Hall (HallPart P PlainHeap M))) (w : Worker (HallSeat (HallPart P PlainHeap M)) P) (replies : List Reply) : Type 0 where
    pub run : IsPooledRun (party_world (job_of told input pool) (party_in input w.number) w.party.frame.stripe) (party_in input w.number).commands replies
    pub all : length replies ≡ length (party_in input w.number).commands
    pub named : NamesLive replies w.party.live
    -- Growths met no more faults than plans allow.
    pub growths : AreGrowthsPlanned (party_world (job_of told input pool) (party_in input w.number) w.party.frame.stripe) (party_in input w.number).commands replies
    -- Its seat has noted what it used up and why it was refused, and has what the party's live grants are of.
    pub notes : NotesOf pool.plan modules (party_in input w.number) w.party.frame.stripe replies (worker_view pool.hall) (view w.seat)
    pub work : IsAtWork (job_of told input pool) (length (made_with pool.hall)) (view w.seat) w.party
    pub idle : IsIdle w.party.frame

  -- A worker that has come back: where there was memory for the replies, it has them all.
  pub record IsBack (modules : List ModuleAsked) (pool : SharedPool (Hall (HallPart P PlainHeap M))) (w : Worker (HallSeat (HallPart P PlainHeap M)) P) : Type 0 where
    pub inside : w.number < length input.parties
    pub own : IsSeatOf pool.hall w.seat
    pub free : IsFree w.seat
    pub worked : IfSome w.replies (HasWorked modules pool w)

  -- The workers may begin, one for each party, in order.
  pub record AreReady (pool : SharedPool (Hall (HallPart P PlainHeap M))) (ws : List (Worker (HallSeat (HallPart P PlainHeap M)) P)) : Type 0 where
    pub count : length ws ≡ length input.parties
    pub each : All (IsReady pool) ws
    pub numbers : (i : ℕ) (d : Worker (HallSeat (HallPart P PlainHeap M)) P) → i < length ws → (slice_index_or ws i d).number ≡ i

  -- They have come back, in the same order.
  pub record AreBack (modules : List ModuleAsked) (pool : SharedPool (Hall (HallPart P PlainHeap M))) (ws : List (Worker (HallSeat (HallPart P PlainHeap M)) P)) : Type 0 where
    pub count : length ws ≡ length input.parties
    pub each : All (IsBack modules pool) ws
    pub numbers : (i : ℕ) (d : Worker (HallSeat (HallPart P PlainHeap M)) P) → i < length ws → (slice_index_or ws i d).number ≡ i
