-- What all parties rely on, of a pool that was made for their input.
use Rattle.std.proofs.Common.{◌≡◌, ℕ, zero, suc, ◌+◌, ◌<◌, true, List, [], ◌∷◌, length, refl, sym, ap, subst, ◌∙◌, arith, None}
use Rattle.pool_pages.specs.MakerTold.{MakerTold}
use Rattle.pool_hall.specs.Rule.{first_view}
use Rattle.pool_hall.specs.Seat.{made_with, limits_of, view, IsFree, IsSeatOf}
use Rattle.pool_hall.specs.Step.{newcomer}
use Rattle.pool_hall.specs.declared.hall.Hall.{Hall}
use Rattle.pool_hall.specs.declared.hall.HallSeat.{HallSeat}
use Rattle.pool_hall.specs.declared.view.View.{View}
use Rattle.pool_types.specs.declared.module_types.Tunables.{Tunables}
use Rattle.pool_types.specs.declared.module_types.ModuleInfo.{ModuleInfo}
use Rattle.pool_slots.specs.declared.listed_heaps.PlainHeap.{PlainHeap}
use Rattle.pool_alloc.specs.BetweenSteps.{IsCore}
use Rattle.pool_alloc.specs.Calls.{frame_made}
use Rattle.pool_alloc.specs.Made.{IsMadeCore}
use Rattle.pool_alloc.specs.PlainModules.{ModuleAsked}
use Rattle.pool_alloc.specs.declared.frame.Frame.{Frame}
use Rattle.pool_alloc.specs.declared.pool_core.PoolCore.{PoolCore}
use Rattle.pool_alloc.specs.declared.pool_core.Settings.{Settings}
use Rattle.pool_driver.specs.Driving.{Given, IsDriven, alone_of}
use Rattle.pool_driver.specs.Placed.{About}
use Rattle.pool_driver.specs.Pools.{IsSharedOf, about_core}
use Rattle.pool_driver.specs.declared.part.HallPart.{HallPart}
use Rattle.pool_driver.specs.declared.shared_pool.SharedPool.{SharedPool}
use Rattle.pool_callers.specs.Callers.{about_shared, maker_in}
use Rattle.pool_run.specs.Built.{is_built}
use Rattle.pool_run.specs.Made.{calls_made}
use Rattle.pool_run.specs.Runs.{world_of}
use Rattle.pool_run.specs.RunsMade.{party_made_for}
use Rattle.pool_run.specs.Validity.{is_valid}
use Rattle.pool_run.specs.Worlds.{AreCallsFor, IsWorldOf}
use Rattle.pool_run.specs.declared.input.Input.{Input}
use Rattle.pool_run.specs.declared.running_party.RunningParty.{RunningParty}
use Rattle.pool_run.proofs.BuiltInputs.{built_modules}
use Rattle.pool_run.proofs.Folding.{world_over}
use Rattle.pool_run.proofs.WorldsMade.{are_calls_for, is_world}
use Rattle.pool_threads.specs.Sharing.{IsGround, job_of, party_in, shared_world}
use Rattle.pool_threads.specs.Working.{IsJob, Job, about_job, bare_pool}
use Rattle.pool_workers.specs.Workers.{DrivesWorkers, IsReady, worker_view}
use Rattle.pool_workers.specs.declared.worker.Worker.{Worker}

-- there is a call for each module
calls_count : (tunables : Tunables) (page n : ℕ) (ms : List ModuleInfo) → length (calls_made tunables page n ms) ≡ length ms
calls_count tunables page n [] = refl
calls_count tunables page n (m ∷ ms) = omega (arith, calls_count tunables page (n + 1) ms)

-- The pool that callers share is the one that it is.
pub shared_is : {P M : Type 0} (told : M → MakerTold) (a : About) (pool : SharedPool (Hall (HallPart P PlainHeap M))) → IsSharedOf told a pool → about_shared told pool ≡ a
shared_is told a pool of = λ i. record { maker = ap maker_in of.hall.made i; settings = of.settings i; plan = of.plan i }

module _ {P M : Type 0} (told : M → MakerTold) (input : Input) (maker : MakerTold) (core : PoolCore P PlainHeap) (modules : List ModuleAsked) (pool : SharedPool (Hall (HallPart P PlainHeap M)))
    (valid : is_valid input ≡ true) (built : is_built input ≡ true) (sound : IsCore maker core) (made : IsMadeCore maker input.config input.tunables input.offered input.shards core) (calls : modules ≡ calls_made input.tunables maker.page 0 input.modules) (shared : IsSharedOf told (about_core maker core) pool) where
  same : about_shared told pool ≡ about_core maker core
  same = shared_is told (about_core maker core) pool shared

  -- what parties work on in a pool
  abbrev in_pool : About → Job
  in_pool a = record { world = shared_world input a.maker; settings = a.settings; plan = a.plan }

  made_world : IsWorldOf (shared_world input maker) core
  made_world = let w = is_world input maker core (omega (arith, sound.page, sound.settings.page.at_least)) made in record { tells = w.tells; settings = w.settings; plan = w.plan; tables = w.tables; heaps = w.heaps; stacks = w.stacks }

  made_job : IsJob P (in_pool (about_core maker core))
  made_job = record { world = world_over (shared_world input maker) core (bare_pool (in_pool (about_core maker core))) (record { settings = refl; plan = refl }) made_world; alone = refl; counts = refl }

  made_calls : AreCallsFor (in_pool (about_core maker core)).world.terms core.settings modules
  made_calls = are_calls_for (world_of input maker).terms core.settings modules (built_modules input built) sound.page (omega (arith, sound.settings.page.at_least)) calls

  -- All parties may rely on it,
  pub ground_made : IsGround told input modules pool
  ground_made = record {
    valid = valid;
    shared = subst (λ (a : About). IsSharedOf told a pool) (sym same) shared;
    job = subst (λ (a : About). IsJob P (in_pool a)) (sym same) made_job;
    calls = subst (λ (a : About). AreCallsFor (in_pool a).world.terms a.settings modules) (sym same) made_calls;
    count = ap (λ (ms : List ModuleAsked). length ms) calls ∙ calls_count input.tunables maker.page 0 input.modules;
  }

  -- and its maker is the one that made it.
  pub ground_maker : (job_of told input pool).world.maker ≡ maker
  ground_maker = ap (λ (a : About). a.maker) same

-- A seat that knows as little as the first drives what that drives.
worker_driven : {T P H : Type 0} (places : ℕ) (g : Given) (h : Hall T) (f : Frame P H) → IsDriven places g (first_view (made_with h) (limits_of h)) f None → IsDriven places g (worker_view h) f None
worker_driven places g h f driven = record { frame = driven.frame; keeps = driven.keeps; answer = driven.answer; carries = record { units = driven.carries.units; beside = driven.carries.beside }; counted = driven.counted; stands = driven.stands }

module _ {P M : Type 0} (told : M → MakerTold) (input : Input) (pool : SharedPool (Hall (HallPart P PlainHeap M))) where
  -- So workers may be driven where the first seat may be.
  pub drives_workers : (v : View (HallPart P PlainHeap M)) → v ≡ first_view (made_with pool.hall) (limits_of pool.hall)
      → ((home : ℕ) → IsDriven {P = P} {H = PlainHeap} (length (made_with pool.hall)) (alone_of (about_shared told pool)) v (frame_made home pool.settings) None) → DrivesWorkers told input pool
  drives_workers v first drives home = worker_driven (length (made_with pool.hall)) (alone_of (about_shared told pool)) pool.hall (frame_made home pool.settings) (subst (λ (w : View (HallPart P PlainHeap M)). IsDriven {P = P} {H = PlainHeap} (length (made_with pool.hall)) (alone_of (about_shared told pool)) w (frame_made home pool.settings) None) first (drives home))

  -- A seat that was cut off knows what a worker knows first.
  pub newcomer_is : (s : HallSeat (HallPart P PlainHeap M)) → IsSeatOf pool.hall s → newcomer 1 (view s) ≡ worker_view pool.hall
  newcomer_is s own = λ i. record { parts = own.parts i; limits = own.limits i; held = None; units = []; rises = []; topped = []; added = []; low = []; subtracted = []; portions = 1 }

  -- A worker with such a seat, and with a party as it is made, may begin.
  pub worker_ready : (number : ℕ) (seat : HallSeat (HallPart P PlainHeap M)) (party : RunningParty P) → number < length input.parties → IsSeatOf pool.hall seat → IsFree seat → view seat ≡ worker_view pool.hall → party ≡ party_made_for pool.settings (party_in input number) → DrivesWorkers told input pool → IsReady told input pool (record { number = number; seat = seat; party = party; replies = None })
  worker_ready number seat party below own free first made drives = record {
    inside = below;
    own = own;
    free = free;
    view_is = first;
    made = made;
    nothing =
        subst (λ (p : RunningParty P). IsDriven (length (made_with pool.hall)) (alone_of (about_shared told pool)) (view seat) p.frame None) (sym made)
        (subst (λ (v : View (HallPart P PlainHeap M)). IsDriven (length (made_with pool.hall)) (alone_of (about_shared told pool)) v (party_made_for {P = P} pool.settings (party_in input number)).frame None) (sym first) (drives (party_in input number).home));
    untold = refl;
  }
