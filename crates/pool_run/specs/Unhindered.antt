-- Requests that nothing hinders: in which states a request of a party is one, and how it is answered then.
use Rattle.std.specs.Prelude.{◌≡◌, ℕ, ◌+◌, ◌<◌, ◌≤◌, List, length, replicate, slice_get, sum_by, true, Some, IfSome}
use Rattle.pool_run.specs.Imports.{MakerTold, IsIdle}
use Rattle.pool_slots.specs.declared.errors.AllocError.TheVariants as alloc
use Rattle.pool_run.specs.Acts.{Wanted, requests, act_at}
use Rattle.pool_run.specs.Agreeing.{IsRunnable}
use Rattle.pool_run.specs.Folds.{RunParts, RunState, Folds, commands_of, replies_to, told_state}
pub use Rattle.pool_run.specs.Needs.{in_one_stripe, stripe_count, memories_needed, tables_needed, stacks_needed, heaps_needed, instances_needed, components_needed, MayBeGranted}
use Rattle.pool_run.specs.Private.{Grants, stripe_slots}
use Rattle.pool_run.specs.Rooms.{World, SomeMayFault, table_count, stack_count, heap_count, instance_count, component_count}
use Rattle.pool_run.specs.Runs.{IsMadeRun, world_seen}
use Rattle.pool_run.specs.RunsMade.{commands_in, nothing_told}
use Rattle.pool_run.specs.Turns.{grants_of}
use Rattle.pool_run.specs.declared.command.Command.{Command}
use Rattle.pool_run.specs.declared.input.Input.{Input}
use Rattle.pool_run.specs.declared.reply.Reply.{Reply}
use Rattle.pool_run.specs.declared.reply.Reply.TheVariants.{Refused}
use Rattle.pool_run.specs.declared.reply.Refusal.TheVariants.{Alloc}
use Rattle.pool_run.specs.declared.running_party.RunningParty.{RunningParty}

-- A request is granted; or there was no memory for it; or a page call failed, which the plan of some region lists, or the making of
-- a heap did.
abbrev pub IsServed : World → Reply → Type 0
IsServed w (Refused (Alloc alloc.Memory)) = Unit {0}
IsServed w (Refused (Alloc alloc.PageFault)) = SomeMayFault w
IsServed w (Refused (Alloc alloc.HeapFault)) = Unit {0}
IsServed w (Refused _) = ⊥
IsServed w _ = Unit {0}

module _ {P : Type 0} where
  -- What all parties have live, by this number of the grants of each.
  abbrev pub all_live : (Grants → ℕ) → List (RunningParty P) → ℕ
  all_live of parties = sum_by (λ p. of (grants_of p.live)) parties

  -- Of the slots of the party's stripe, of those of each other kind, of the instances and of the components that there may be, at
  -- least as many are not live as the request needs.
  pub record LeavesEnough (w : World) (parties : List (RunningParty P)) (wanted : Wanted) : Type 0 where
    pub memories : all_live (stripe_count w.terms.settings.num_stripes w.terms.stripe) parties + memories_needed w.terms.modules wanted ≤ stripe_slots w.terms
    pub tables : all_live table_count parties + tables_needed w.terms.modules wanted ≤ w.terms.table_slots
    pub stacks : all_live stack_count parties + stacks_needed wanted ≤ w.terms.stacks.slots
    pub heaps : all_live heap_count parties + heaps_needed wanted ≤ w.terms.heap_slots
    pub instances : all_live instance_count parties + instances_needed wanted ≤ w.terms.settings.max_core_instances
    pub components : all_live component_count parties + components_needed wanted ≤ w.terms.settings.max_component_instances

  -- The next command of party i requests this, and the party has its stripe.
  pub record IsNextOf (commands : List Command) (wanted : Wanted) (p : RunningParty P) : Type 0 where
    pub keyed : p.keyed ≡ true
    pub asks : act_at commands p.done ≡ Some (requests wanted)

  -- In this state nothing hinders party i's next command, which requests this, if the party turns alone from here on: nobody is in
  -- the middle of a call, the request breaks no rule and isn't denied, and enough of all that it needs is not live.
  pub record IsUnhindered (w : World) (commands : List Command) (i : ℕ) (wanted : Wanted) (s : RunState P) : Type 0 where
    pub idle : (k : ℕ) → IfSome (slice_get s.parties k) (λ p. IsIdle p.frame)
    pub next : (p : RunningParty P) → slice_get s.parties i ≡ Some p → IsNextOf commands wanted p
    pub allowed : MayBeGranted w.terms wanted
    pub enough : LeavesEnough w s.parties wanted

-- From a run as it is made of the input, after whatever turns: where nothing hinders the next command of a party, which then turns
-- alone, its reply is that it is served.
abbrev pub ServesFromStart : Type 0 → Input → MakerTold → Type 0
ServesFromStart P input maker =
    (run : RunParts P) → IsMadeRun input maker run → (before : List ℕ) (i turns : ℕ) (s end : RunState P) (wanted : Wanted) (reply : Reply)
    → i < length input.parties
    → Folds run.modules (commands_in input.parties) before (told_state run (nothing_told input.parties)) s
    → IsUnhindered (world_seen input maker s.parties i) (commands_of (commands_in input.parties) i) i wanted s
    → Folds run.modules (commands_in input.parties) (replicate turns i) s end
    → slice_get (replies_to i end.replies) (length (replies_to i s.replies)) ≡ Some reply
    → IsServed (world_seen input maker s.parties i) reply

-- A request that nothing hinders is served, in each run of each input that can be run.
abbrev pub UnhinderedAreServed : Type 0 → Type 0
UnhinderedAreServed P = (input : Input) (maker : MakerTold) → IsRunnable input maker → ServesFromStart P input maker
