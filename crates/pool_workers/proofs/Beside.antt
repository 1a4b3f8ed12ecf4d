-- What all parties were told, once all seats are one and the pool is closed.
use Rattle.std.proofs.Common.{◌≡◌, ℕ, ◌+◌, ◌^◌, ◌<◌, ◌≤◌, List, [], length, refl, sym, ap, subst, ◌∙◌, arith, slice_index_or, map}
use Rattle.std.proofs.lemmas.List.{get_or-map}
use Rattle.pool_pages.specs.MakerTold.{MakerTold}
use Rattle.pool_hall.specs.Seat.{made_with}
use Rattle.pool_hall.specs.declared.hall.Hall.{Hall}
use Rattle.pool_hall.specs.declared.view.View.{View}
use Rattle.pool_slots.specs.declared.listed_heaps.PlainHeap.{PlainHeap}
use Rattle.pool_alloc.specs.PlainModules.{ModuleAsked}
use Rattle.pool_alloc.specs.declared.pool_core.Settings.{Settings}
use Rattle.pool_driver.specs.Ending.{HasNoted}
use Rattle.pool_driver.specs.ListedCalls.{AllEndBeforeLast, listed_on}
use Rattle.pool_driver.specs.declared.part.HallPart.{HallPart}
use Rattle.pool_driver.specs.declared.shared_pool.SharedPool.{SharedPool}
use Rattle.pool_run.specs.Made.{calls_made}
use Rattle.pool_run.specs.PartyRules.{host_for}
use Rattle.pool_run.specs.PrivateTables.{Host}
use Rattle.pool_run.specs.Rooms.{IsPooledRun, World, in_stripe, open_host, under, world_at}
use Rattle.pool_run.specs.declared.input.Input.{Input}
use Rattle.pool_run.specs.declared.input.Party.{Party}
use Rattle.pool_run.specs.declared.reply.Reply.{Reply}
use Rattle.pool_threads.specs.Asked.{Scarce, refused}
use Rattle.pool_threads.specs.GrowthFaults.{AreGrowthsPlanned}
use Rattle.pool_threads.specs.Sharing.{IsGround, job_of, no_party, party_in, party_world, shared_world}
use Rattle.pool_threads.specs.Working.{about_job}
use Rattle.pool_workers.specs.Joined.{HasRun, IsJoined, asked_by_all, faulted_of_all, limit_of, shared_by}
use Rattle.pool_workers.specs.Threads.{HasRunBeside, HaveRunBeside}
use Rattle.pool_workers.proofs.AllListed.{all_listed}
use Rattle.pool_workers.proofs.FewFaults.{few_faulted}
use Rattle.pool_workers.proofs.Refusals.{refused_asked}

module _ {P M T : Type 0} (told : M → MakerTold) (input : Input) (modules : List ModuleAsked) (pool : SharedPool (Hall (HallPart P PlainHeap M))) (v : View T) (replies : List (List Reply)) (maker : MakerTold)
    (ground : IsGround told input modules pool) (joined : IsJoined told (shared_by input modules) pool v replies) (noted : HasNoted (about_job (job_of told input pool)) (length (made_with pool.hall)) v)
    (count : length replies ≡ length input.parties) (same : (job_of told input pool).world.maker ≡ maker) (calls : modules ≡ calls_made input.tunables maker.page 0 input.modules) where
  host_is : (i : ℕ) → i < length input.parties → slice_index_or (map host_for input.parties) i open_host ≡ host_for (party_in input i)
  host_is i below = get_or-map host_for input.parties i no_party open_host below

  world_is : (i stripe : ℕ) → i < length input.parties → party_world (job_of told input pool) (party_in input i) stripe ≡ world_at (shared_world input maker) i stripe
  world_is i stripe below =
      ap (λ (m : MakerTold). in_stripe stripe (under (host_for (party_in input i)) (shared_world input m))) same
      ∙ ap (λ (h : Host). in_stripe stripe (under h (shared_world input maker))) (sym (host_is i below))

  has_run : (i : ℕ) → i < length input.parties → HasRunBeside input maker replies i
  has_run i below =
      let inside : i < length replies = omega (arith, below, count) in
      let ran : HasRun told (shared_by input modules) pool v i (slice_index_or replies i []) = joined.each i inside in
      let is : party_world (job_of told input pool) (party_in input i) ran.stripe ≡ world_at (shared_world input maker) i ran.stripe = world_is i ran.stripe below in
      let stripes : ran.stripe < (job_of told input pool).world.terms.settings.num_stripes = omega (arith, ran.inside, ground.shared.hall.pool.stripes, ap (λ (s : Settings). s.num_stripes) ground.job.world.settings) in
      record {
        stripe = ran.stripe;
        inside = subst (λ (m : MakerTold). ran.stripe < (shared_world input m).terms.settings.num_stripes) same stripes;
        run = subst (λ (w : World). IsPooledRun w (party_in input i).commands (slice_index_or replies i [])) is ran.run;
        whole = ran.whole;
        growths = subst (λ (w : World). AreGrowthsPlanned w (party_in input i).commands (slice_index_or replies i [])) is ran.growths;
        refused_asked = λ k some'.
            subst (λ (ms : List ModuleAsked). limit_of (world_at (shared_world input maker) i ran.stripe).terms k ≤ asked_by_all k ms input.parties replies) calls
            (subst (λ (w : World). limit_of w.terms k ≤ asked_by_all k modules input.parties replies) is (refused_asked told (shared_by input modules) pool v replies ground joined noted i inside ran k some'));
      }

  few_faults : AllEndBeforeLast maker input.config.limits.total_memories → faulted_of_all input.parties replies ≤ listed_on maker input.config.limits.total_memories
  few_faults planned =
      let met : ℕ = faulted_of_all input.parties replies in
      let slots : pool.plan.totals.memory ≡ input.config.limits.total_memories = sym ground.job.world.plan.total in
      let few : met + 1 < 2 ^ 64 = few_faulted input replies ground.valid in
      let here : AllEndBeforeLast (job_of told input pool).world.maker pool.plan.totals.memory =
      subst (λ (m : MakerTold). AllEndBeforeLast m pool.plan.totals.memory) (sym same) (subst (λ (n : ℕ). AllEndBeforeLast maker n) (sym slots) planned) in
      let all : met ≤ listed_on (job_of told input pool).world.maker pool.plan.totals.memory =
      all_listed (about_job (job_of told input pool)) (length (made_with pool.hall)) v met ground.shared.hall.pool.plan noted here (omega (arith, few)) joined.faults in
      subst (λ (n : ℕ). met ≤ listed_on maker n) slots (subst (λ (m : MakerTold). met ≤ listed_on m pool.plan.totals.memory) same all)

  pub have_run : HaveRunBeside input maker replies
  have_run = record { count = count; each = has_run; faults = few_faults }
