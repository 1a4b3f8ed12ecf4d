-- A party as it is made, whose seat has nothing, may work.
use Rattle.std.proofs.Common.{◌≡◌, ℕ, zero, suc, [], length, replicate, Option, Some, None, refl, sym, arith, subst, IfSome, slice_get, slice_index_or, List, true≢false}
use Rattle.std.proofs.lemmas.List.{length-replicate}
use Rattle.std.proofs.lemmas.List.Elements.{All-replicate}
use Rattle.pool_hall.specs.declared.view.View.{View}
use Rattle.pool_slots.specs.declared.listed_heaps.PlainHeap.{PlainHeap}
use Rattle.pool_alloc.specs.Calls.{IsIdle}
use Rattle.pool_alloc.specs.Places.{of_units, only}
use Rattle.pool_alloc.specs.Stepping.{grant_count, grant_counted}
use Rattle.pool_alloc.specs.declared.frame.Grant.{Grant}
use Rattle.pool_alloc.proofs.Weights.{frame_units}
use Rattle.pool_driver.specs.Driving.{IsDriven, StandsOn, alone_of}
use Rattle.pool_driver.specs.Faults.{GrantKeeps}
use Rattle.pool_driver.specs.Pools.{core_of}
use Rattle.pool_run.specs.Folds.{seen_by}
use Rattle.pool_run.specs.PrivateTables.{Host}
use Rattle.pool_run.specs.Rooms.{IsPooledRun, in_stripe, under}
use Rattle.pool_run.specs.RunsMade.{party_made_for}
use Rattle.pool_run.specs.Ties.{IsReserved}
use Rattle.pool_run.specs.Turns.{granted_reply, host_of_party, no_lists}
use Rattle.pool_run.specs.declared.command.Command.{Command}
use Rattle.pool_run.specs.declared.input.Party.{Party}
use Rattle.pool_run.specs.declared.reply.Reply.{Reply}
use Rattle.pool_run.specs.declared.running_party.RunningParty.{RunningParty}
use Rattle.pool_run.proofs.Running.{party_over}
use Rattle.pool_run.proofs.Started.{none_live, party_is_private, party_is_sound}
use Rattle.pool_threads.specs.GrowthFaults.{AreGrowthsPlanned}
use Rattle.pool_threads.specs.Working.{IsAtWork, IsToldSoFar, Job, about_job, bare_pool, given_by}
use Rattle.pool_threads.proofs.GrowthRuns.{growths_planned}
use Rattle.pool_threads.proofs.LiveUnits.{live_beside, live_weigh}
use Rattle.pool_threads.proofs.Regiven.{driven_over}

-- no place has anything
nothing_at : {X : Type 0} (n k : ℕ) → slice_index_or (replicate {A = Option X} n None) k None ≡ None
nothing_at zero k = refl
nothing_at (suc n) zero = refl
nothing_at (suc n) (suc k) = nothing_at n k

module _ {T P : Type 0} (j : Job) (places : ℕ) (v : View T) (party : Party) where
  abbrev made : RunningParty P
  made = party_made_for j.settings party

  -- It is at work,
  pub starts_work : IsDriven places (alone_of (about_job j)) v made.frame None → IsAtWork j places v made
  starts_work driven =
      let s : StandsOn (about_job j) places made.frame = driven.stands in
      let core = core_of (about_job j) s.counters None s.parts in
      record {
        core = core;
        stands = record {
          settings = refl;
          plan = refl;
          can = s.can;
          away = λ t. omega (arith, s.can.fits.once (of_units t), frame_units t made.frame, live_weigh t made.live, none_live (grant_count {P = P} {H = PlainHeap} t) (length party.commands));
        };
        party = party_over j.world.maker core (bare_pool j) made (record { settings = refl; plan = refl }) (party_is_sound j.world.maker party.home (length party.commands) party.limits party.gc_faults party.heap_faults core s.can.core);
        driven = driven_over places (alone_of (about_job j)) (given_by j made.live) v made.frame None None refl (live_beside made.live)
            (λ t. omega (arith, live_weigh t made.live, none_live (grant_count {P = P} {H = PlainHeap} t) (length party.commands)))
            (λ k. omega (arith, none_live (grant_counted {P = P} {H = PlainHeap} (only k)) (length party.commands))) tt driven;
        keeps = All-replicate (λ (g : Option (Grant P PlainHeap)). IfSome g GrantKeeps) (length party.commands) None tt;
      }

  -- and was told nothing.
  pub starts_untold : IsToldSoFar {P = P} j party.commands [] made
  starts_untold = record {
    room = length-replicate (length party.commands) None;
    private = party_is_private P (seen_by made j.world) party.commands party.home party.limits party.gc_faults party.heap_faults j.settings;
    named = λ i. subst (λ (o : Option (Grant P PlainHeap)). IfSome o (λ g. slice_get [] i ≡ Some (granted_reply g))) (sym (nothing_at (length party.commands) i)) tt;
    growths = λ end run of k. tt;
    fresh = λ none. refl;
  }

  -- No call is under way, and the lists for its slots have nothing.
  pub starts_idle : IsIdle made.frame
  starts_idle = refl

  pub starts_reserved : IsReserved made.frame no_lists
  starts_reserved = record {
    memories = record { empty = refl; room = λ asked. absurd (true≢false (sym asked)) };
    tables = record { empty = refl; room = λ asked. absurd (true≢false (sym asked)) };
  }

-- What a party was told is a run of its commands, as its host and its stripe would have it.
pub pooled_run : {P : Type 0} (j : Job) (commands : List Command) (replies : List Reply) (p : RunningParty P) (host : Host) → host_of_party p ≡ host → IsToldSoFar j commands replies p → IsPooledRun (in_stripe p.frame.stripe (under host j.world)) commands replies
pooled_run j commands replies p host same told = subst (λ (h : Host). IsPooledRun (in_stripe p.frame.stripe (under h j.world)) commands replies) same (told.private.told, told.private.run)

-- In each run that has these replies its growths that met a fault are no more than the plans list.
pub planned_run : {P : Type 0} (j : Job) (commands : List Command) (replies : List Reply) (p : RunningParty P) (host : Host) → host_of_party p ≡ host → IsToldSoFar j commands replies p → AreGrowthsPlanned (in_stripe p.frame.stripe (under host j.world)) commands replies
planned_run j commands replies p host same told = subst (λ (h : Host). AreGrowthsPlanned (in_stripe p.frame.stripe (under h j.world)) commands replies) same (growths_planned (seen_by p j.world) commands replies p.live told.growths)
