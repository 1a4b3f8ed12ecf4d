-- What the beginning of a command leaves of a party's growths that met a fault.
use Rattle.std.proofs.Common.{◌≡◌, ℕ, Bool, true, false, List, Option, Some, None, refl, sym, subst, inl, inr, slice_get, slice_index_or}
use Rattle.pool_pages.specs.MakerTold.{MakerTold}
use Rattle.pool_slots.specs.declared.listed_heaps.PlainHeap.{PlainHeap}
use Rattle.pool_slots.specs.declared.errors.AllocError.TheVariants as alloc
use Rattle.pool_alloc.specs.PlainModules.{ModuleAsked}
use Rattle.pool_alloc.specs.declared.frame.Grant.{Grant}
use Rattle.pool_alloc.specs.declared.pool_core.PoolCore.{PoolCore}
use Rattle.pool_run.specs.Acts.{Act, requests, on_memory, on_table, drops, purges, releases, act_of, Wanted, an_instance, a_component, a_stack, a_heap}
use Rattle.pool_run.specs.PartyRules.{rule_of}
use Rattle.pool_run.specs.Ties.{IsSoundParty}
use Rattle.pool_run.specs.Turns.{Opening, OpensAct, OpensNext, OpensRequest, OpensWanted, drop_opening, makes_step, replies, rests}
use Rattle.pool_run.specs.declared.command.Command.{Command}
use Rattle.pool_run.specs.declared.reply.Reply.TheVariants.{Refused}
use Rattle.pool_run.specs.declared.reply.Refusal.TheVariants.{Alloc, NoSuchGrant}
use Rattle.pool_run.specs.declared.running_party.RunningParty.{RunningParty}
use Rattle.pool_threads.proofs.LiveGrowths.{Counts, Loses, bytes_counts, counts_none, loses_gone, loses_same, table_loses}

module _ {P : Type 0} (maker : MakerTold) (c : PoolCore P PlainHeap) (p : RunningParty P) (sound : IsSoundParty maker c p) where
  -- By what a command opens with: one that ends at once counts what it met, and a call takes no more than a grant along.
  abbrev ActCounts : Act → Opening P → Type 0
  ActCounts act rests = Unit {0}
  ActCounts act (replies reply live store) = Counts maker (rule_of p.limits) act reply p.live live
  ActCounts act (makes_step frame live) = Loses p.live live

  same : Loses p.live p.live
  same = loses_same p.live p.live refl

  drop_counts : (of : ℕ) (x : Option (Grant P PlainHeap)) → slice_index_or p.live of None ≡ x → ActCounts (drops of) (drop_opening x of p)
  drop_counts of None has = counts_none maker (rule_of p.limits) (drops of) (Refused NoSuchGrant) p.live p.live (λ grant k. refl) same
  drop_counts of (Some grant) has = loses_gone p.live of grant has

  request_counts : (number : ℕ) (kept : Option ModuleAsked) (o : Opening P) → OpensRequest kept p o → ActCounts (requests (an_instance number)) o
  request_counts number None o opens = absurd opens
  request_counts number (Some kept) o opens =
      elim opens [
        | inl ends ↦ subst (ActCounts (requests (an_instance number))) (sym ends) (counts_none maker (rule_of p.limits) (requests (an_instance number)) (Refused (Alloc alloc.Memory)) p.live p.live (λ grant k. refl) same)
        | inr begins ↦ subst (ActCounts (requests (an_instance number))) (sym begins) same
      ]

  wanted_counts : (modules : List ModuleAsked) (wanted : Wanted) (o : Opening P) → OpensWanted modules wanted p o → ActCounts (requests wanted) o
  wanted_counts modules (an_instance number) o opens = request_counts number (slice_get modules number) o opens
  wanted_counts modules (a_component info) o opens = subst (ActCounts (requests (a_component info))) (sym opens) same
  wanted_counts modules a_stack o opens = subst (ActCounts (requests a_stack)) (sym opens) same
  wanted_counts modules (a_heap limits) o opens = subst (ActCounts (requests (a_heap limits))) (sym opens) same

  act_counts : (modules : List ModuleAsked) (act : Act) (o : Opening P) → OpensAct modules act p o → ActCounts act o
  act_counts modules (requests wanted) o opens = wanted_counts modules wanted o opens
  act_counts modules (on_memory of k op) o opens = subst (ActCounts (on_memory of k op)) (sym opens.3) (bytes_counts maker c p sound (slice_index_or p.live of None) op of k opens.1 opens.0 refl opens.2)
  act_counts modules (on_table of k op) o opens = subst (ActCounts (on_table of k op)) (sym opens.5) (counts_none maker (rule_of p.limits) (on_table of k op) opens.0 p.live opens.1 (λ grant n. refl) (table_loses maker c p sound op of k opens.1 opens.2 opens.0 opens.3))
  act_counts modules (drops of) o opens = subst (ActCounts (drops of)) (sym opens) (drop_counts of (slice_index_or p.live of None) refl)
  act_counts modules (purges number) o opens = subst (ActCounts (purges number)) (sym opens) same
  act_counts modules releases o opens = subst (ActCounts releases) (sym opens) same

  -- So of the next command, which is there where it ends at once.
  abbrev pub NextCounts : Option Command → Opening P → Type 0
  NextCounts next rests = Unit {0}
  NextCounts next (replies reply live store) = (command : Command) × (next ≡ Some command) × Counts maker (rule_of p.limits) (act_of command) reply p.live live
  NextCounts next (makes_step frame live) = Loses p.live live

  as_next : (command : Command) (o : Opening P) → ActCounts (act_of command) o → NextCounts (Some command) o
  as_next command rests is = tt
  as_next command (replies reply live store) is = (command, refl, is)
  as_next command (makes_step frame live) is = is

  pub next_counts : (modules : List ModuleAsked) (next : Option Command) (keyed : Bool) (o : Opening P) → OpensNext modules next keyed p o → NextCounts next o
  next_counts modules None keyed o opens = subst (NextCounts None) (sym opens) tt
  next_counts modules (Some command) false o opens = subst (NextCounts (Some command)) (sym opens) same
  next_counts modules (Some command) true o opens = as_next command o (act_counts modules (act_of command) o opens)
