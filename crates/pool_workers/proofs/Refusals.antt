-- A request is refused for want of something only where all parties together ask for at least as much as there is.
use Rattle.std.proofs.Common.{◌≡◌, ℕ, ◌+◌, ◌<◌, ◌≤◌, List, [], length, refl, sym, ap, subst, ◌∙◌, arith, slice_index, slice_index_or}
use Rattle.pool_pages.specs.MakerTold.{MakerTold}
use Rattle.pool_hall.specs.Seat.{made_with}
use Rattle.pool_hall.specs.declared.hall.Hall.{Hall}
use Rattle.pool_hall.specs.declared.unit_name.SlotKind.{SlotKind}
use Rattle.pool_hall.specs.declared.unit_name.SlotKind.TheVariants.{Memory as memory_kind, Table as table_kind, Stack as stack_kind, Heap as heap_kind}
use Rattle.pool_hall.specs.declared.view.View.{View}
use Rattle.pool_slots.specs.declared.listed_heaps.PlainHeap.{PlainHeap}
use Rattle.pool_alloc.specs.StepReads.{allocator_of}
use Rattle.pool_alloc.specs.declared.pool_core.Settings.{Settings}
use Rattle.pool_driver.specs.Counts.{counter_limits}
use Rattle.pool_driver.specs.Ending.{HasNoted}
use Rattle.pool_driver.specs.Telling.{component_counter, instance_counter}
use Rattle.pool_driver.specs.declared.part.HallPart.{HallPart}
use Rattle.pool_driver.specs.declared.shared_pool.SharedPool.{SharedPool}
use Rattle.pool_run.specs.Worlds.{IsWorldOf}
use Rattle.pool_run.specs.declared.reply.Reply.{Reply}
use Rattle.pool_threads.specs.Asked.{Scarce, slots, instances, components, refused}
use Rattle.pool_threads.specs.Sharing.{IsGround, job_of, party_in, party_world}
use Rattle.pool_threads.specs.Working.{Job, about_job, bare_pool}
use Rattle.pool_workers.specs.Joined.{HasRun, IsJoined, Shared, asked_by_all, limit_of}
use Rattle.pool_workers.proofs.Limits.{all_cold}

module _ {P : Type 0} (j : Job) (world : IsWorldOf {P = P} j.world (bare_pool j)) where
  -- a party's limit on slots of a kind is what the allocator has that it searches
  slots_limit : (kind : SlotKind) (stripe : ℕ) → stripe < j.settings.num_stripes → limit_of (record j.world.terms { stripe = stripe }) (slots kind) ≡ (allocator_of j.plan kind stripe).capacity
  slots_limit memory_kind stripe below = sym (world.plan.room stripe (subst (λ (s : Settings). stripe < s.num_stripes) (sym world.settings) below))
  slots_limit table_kind stripe below = sym world.tables.room
  slots_limit stack_kind stripe below = sym world.stacks.room
  slots_limit heap_kind stripe below = sym world.heaps.room

  instances_limit : (stripe : ℕ) → limit_of (record j.world.terms { stripe = stripe }) instances ≡ slice_index (counter_limits j.settings) instance_counter
  instances_limit stripe = ap (λ (s : Settings). s.max_core_instances) world.settings

  components_limit : (stripe : ℕ) → limit_of (record j.world.terms { stripe = stripe }) components ≡ slice_index (counter_limits j.settings) component_counter
  components_limit stripe = ap (λ (s : Settings). s.max_component_instances) world.settings

module _ {P M T : Type 0} (told : M → MakerTold) (all : Shared) (pool : SharedPool (Hall (HallPart P PlainHeap M))) (v : View T) (replies : List (List Reply)) (ground : IsGround told all.input all.modules pool) (joined : IsJoined told all pool v replies) (noted : HasNoted (about_job (job_of told all.input pool)) (length (made_with pool.hall)) v) where
  -- of slots, as each of them was taken once,
  slots_asked : (kind : SlotKind) (i : ℕ) (below : i < length replies) (ran : HasRun told all pool v i (slice_index_or replies i [])) → 0 < refused (slots kind) (party_in all.input i).commands (slice_index_or replies i []) → limit_of (party_world (job_of told all.input pool) (party_in all.input i) ran.stripe).terms (slots kind) ≤ asked_by_all (slots kind) all.modules all.input.parties replies
  slots_asked kind i below ran some' =
      let stripes : length pool.plan.memories ≡ pool.settings.num_stripes = ground.shared.hall.pool.stripes in
      let same : limit_of (record (job_of told all.input pool).world.terms { stripe = ran.stripe }) (slots kind) ≡ (allocator_of pool.plan kind ran.stripe).capacity = slots_limit (job_of told all.input pool) ground.job.world kind ran.stripe (omega (arith, ran.inside, stripes)) in
      let cold = all_cold (about_job (job_of told all.input pool)) (length (made_with pool.hall)) v kind ran.stripe (party_in all.input i).home ground.shared.hall.pool.plan ran.inside noted (ran.full kind some') in
      omega (arith, with_host kind ran.stripe, same, cold, joined.within (slots kind))
    where
      with_host : (kind : SlotKind) (stripe : ℕ) → limit_of (party_world (job_of told all.input pool) (party_in all.input i) stripe).terms (slots kind) ≡ limit_of (record (job_of told all.input pool).world.terms { stripe = stripe }) (slots kind)
      with_host memory_kind stripe = refl
      with_host table_kind stripe = refl
      with_host stack_kind stripe = refl
      with_host heap_kind stripe = refl

  -- and of instances and components, as so many were counted.
  pub refused_asked : (i : ℕ) (below : i < length replies) (ran : HasRun told all pool v i (slice_index_or replies i [])) (k : Scarce) → 0 < refused k (party_in all.input i).commands (slice_index_or replies i []) → limit_of (party_world (job_of told all.input pool) (party_in all.input i) ran.stripe).terms k ≤ asked_by_all k all.modules all.input.parties replies
  refused_asked i below ran (slots kind) some' = slots_asked kind i below ran some'
  refused_asked i below ran instances some' =
      omega (arith, instances_limit (job_of told all.input pool) ground.job.world ran.stripe, noted.counters instance_counter (ran.over_instances some'), joined.within instances)
  refused_asked i below ran components some' =
      omega (arith, components_limit (job_of told all.input pool) ground.job.world ran.stripe, noted.counters component_counter (ran.over_components some'), joined.within components)
