-- What a command begins with: which call, and what that asks for; or a reply that refuses nothing.
use Rattle.std.proofs.Common.{◌≡◌, inl, inr, ℕ, ◌≤◌, Bool, true, false, List, [], ◌∷◌, Option, Some, None, refl, sym, ap, subst, ◌∙◌, arith, slice_get, slice_index_or}
use Rattle.std.specs.Option.{option_map_or}
use Rattle.pool_slots.specs.declared.listed_heaps.PlainHeap.{PlainHeap}
use Rattle.pool_alloc.specs.CallStages.{stage_of}
use Rattle.pool_alloc.specs.Calls.{begun_call}
use Rattle.pool_alloc.specs.Leases.{Lease}
use Rattle.pool_alloc.specs.PlainModules.{ModuleAsked}
use Rattle.pool_alloc.specs.TableLeases.{LeasedTable}
use Rattle.pool_alloc.specs.Turns.{all_returned, returned_next}
use Rattle.pool_alloc.specs.declared.frame.Asked.{Asked}
use Rattle.pool_alloc.specs.declared.frame.Asked.TheVariants.{Nothing as nothing_asked, Module as module_asked, Memory as memory_asked, Table as table_asked, Stack as stack_asked, Heap as heap_asked, HeapOver as heap_over_asked}
use Rattle.pool_alloc.specs.declared.frame.Call.{Call}
use Rattle.pool_alloc.specs.declared.frame.Call.TheVariants as call
use Rattle.pool_alloc.specs.declared.frame.Ending.TheVariants.{Returned as returned}
use Rattle.pool_alloc.specs.declared.frame.Frame.{Frame}
use Rattle.pool_alloc.specs.declared.frame.Grant.{Grant}
use Rattle.pool_alloc.specs.declared.frame.Grant.TheVariants.{Instance, Component, Memory, Table, Stack, Heap, HeapOver}
use Rattle.pool_driver.specs.Calling.{CallKind, asks_for, asks_component, components_of, draws_key, gives_back, instances_of, kind_at, objects_of, purges as purges_kind, releases as releases_kind}
use Rattle.pool_driver.proofs.Calling.{begun_kind}
use Rattle.pool_run.specs.Acts.{Act, requests, on_memory, on_table, drops, purges, releases, act_of, Wanted, an_instance, a_component, a_stack, a_heap, heap_type}
use Rattle.pool_run.specs.Turns.{Opening, OpensAct, OpensNext, OpensRequest, OpensWanted, drop_opening, makes_step, replies, rests}
use Rattle.pool_run.specs.declared.command.Command.{Command}
use Rattle.pool_run.specs.declared.running_party.RunningParty.{RunningParty}
use Rattle.pool_threads.specs.Asked.{Scarce, slots, instances, components, asked_by, asked_next, asked_with, at_next, faulted_by, objects_asked, one_component, refused_by}
use Rattle.pool_threads.specs.Noted.{call_asks}

-- a call of a kind asks for so much
abbrev by_kind : CallKind → Asked → Scarce → ℕ
by_kind kind what (slots k) = objects_of kind k what
by_kind kind what instances = instances_of kind what
by_kind kind what components = components_of kind

for_objects : (what : Asked) (k : Scarce) → by_kind asks_for what k ≡ objects_asked k what
for_objects what (slots k) = refl
for_objects what instances = refl
for_objects what components = refl

for_component : (what : Asked) (k : Scarce) → by_kind asks_component what k ≡ one_component k
for_component what (slots k) = refl
for_component what instances = refl
for_component what components = refl

-- a call of these kinds asks for nothing
key_none : (what : Asked) (k : Scarce) → by_kind draws_key what k ≡ 0
key_none what (slots k) = refl
key_none what instances = refl
key_none what components = refl

back_none : (what : Asked) (k : Scarce) → by_kind gives_back what k ≡ 0
back_none what (slots k) = refl
back_none what instances = refl
back_none what components = refl

purge_none : (what : Asked) (k : Scarce) → by_kind purges_kind what k ≡ 0
purge_none what (slots k) = refl
purge_none what instances = refl
purge_none what components = refl

release_none : (what : Asked) (k : Scarce) → by_kind releases_kind what k ≡ 0
release_none what (slots k) = refl
release_none what instances = refl
release_none what components = refl

at_most : (m n : ℕ) → m ≡ n → m ≤ n
at_most m n same = omega (arith, same)

module _ {P : Type 0} where
  all_home : (what : Asked) (f : Frame P PlainHeap) → (all_returned what f).frame.home ≡ f.home
  all_home (memory_asked m) f = refl
  all_home (table_asked ty) f = refl
  all_home stack_asked f = refl
  all_home nothing_asked f = refl
  all_home (module_asked m) f = refl
  all_home (heap_asked ty) f = refl
  all_home (heap_over_asked memory) f = refl

  returned_home : (ms : List Lease) (ts : List LeasedTable) (f : Frame P PlainHeap) → (returned_next ms ts f).frame.home ≡ f.home
  returned_home (l ∷ ls) ts f = refl
  returned_home [] (l ∷ ls) f = refl
  returned_home [] [] f = all_home f.asked f

  -- It searches from where the frame is at home.
  pub begun_home : (c : Call P PlainHeap) (f : Frame P PlainHeap) → (begun_call c f).home ≡ f.home
  begun_home call.Key f = refl
  begun_home (call.Module m) f = refl
  begun_home (call.Purge id) f = refl
  begun_home call.Release f = refl
  begun_home (call.Component info) f = refl
  begun_home (call.Memory m) f = refl
  begun_home (call.Table ty) f = refl
  begun_home call.Stack f = refl
  begun_home (call.Heap ty) f = refl
  begun_home (call.HeapOver memory) f = refl
  begun_home (call.GiveBack (Memory lease)) f = refl
  begun_home (call.GiveBack (Table lease)) f = refl
  begun_home (call.GiveBack (Stack lease)) f = refl
  begun_home (call.GiveBack Component) f = refl
  begun_home (call.GiveBack (Heap lease memory)) f = refl
  begun_home (call.GiveBack (HeapOver lease)) f = refl
  begun_home (call.GiveBack (Instance lease)) f = returned_home lease.memories.items lease.tables.items (record f { asked = nothing_asked; objects = lease; ending = returned })

  is_by_kind : (f : Frame P PlainHeap) (k : Scarce) → call_asks f k ≡ by_kind (kind_at (stage_of f)) f.asked k
  is_by_kind f (slots k) = refl
  is_by_kind f instances = refl
  is_by_kind f components = refl

  of_call : (c : Call P PlainHeap) (f : Frame P PlainHeap) (kind : CallKind) → kind_at (stage_of (begun_call c f)) ≡ kind → (k : Scarce) → call_asks (begun_call c f) k ≡ by_kind kind (begun_call c f).asked k
  of_call c f kind is k = is_by_kind (begun_call c f) k ∙ ap (λ (x : CallKind). by_kind x (begun_call c f).asked k) is

  -- What a call asks for that an opening begins.
  abbrev pub AsksAtMost : (Scarce → ℕ) → Opening P → Type 0
  AsksAtMost most rests = Unit {0}
  AsksAtMost most (replies reply live store) = Unit {0}
  AsksAtMost most (makes_step frame live) = (k : Scarce) → call_asks frame k ≤ most k

  module _ (p : RunningParty P) where
    -- A command's call asks for no more than the command.
    module _ (modules : List ModuleAsked) where
      drop_asks : (of : ℕ) (x : Option (Grant P PlainHeap)) → AsksAtMost (λ k. asked_by k modules (drops of)) (drop_opening x of p)
      drop_asks of None = tt
      drop_asks of (Some grant) = λ k. at_most _ _ (of_call (call.GiveBack grant) p.frame gives_back (begun_kind (call.GiveBack grant) p.frame) k ∙ back_none (begun_call (call.GiveBack grant) p.frame).asked k)

      request_asks : (number : ℕ) (kept : Option ModuleAsked) (o : Opening P) → slice_get modules number ≡ kept → OpensRequest kept p o → AsksAtMost (λ k. asked_by k modules (requests (an_instance number))) o
      request_asks number None o is opens = absurd opens
      request_asks number (Some kept) o is opens =
          elim opens [
            | inl ends ↦ subst (AsksAtMost (λ k. asked_by k modules (requests (an_instance number)))) (sym ends) tt
            | inr begins ↦ subst (AsksAtMost (λ k. asked_by k modules (requests (an_instance number)))) (sym begins) (λ k.
                let there : asked_with k modules (an_instance number) ≡ objects_asked k (module_asked kept) = ap (λ (x : Option ModuleAsked). option_map_or (λ (m : ModuleAsked). objects_asked k (module_asked m)) x 0) is in
                at_most _ _ (of_call (call.Module kept) p.frame asks_for (begun_kind (call.Module kept) p.frame) k ∙ for_objects (module_asked kept) k ∙ sym there))
          ]

      wanted_asks : (wanted : Wanted) (o : Opening P) → OpensWanted modules wanted p o → AsksAtMost (λ k. asked_by k modules (requests wanted)) o
      wanted_asks (an_instance number) o opens = request_asks number (slice_get modules number) o refl opens
      wanted_asks (a_component info) o opens = subst (AsksAtMost (λ k. asked_by k modules (requests (a_component info)))) (sym opens) (λ k. at_most _ _ (of_call (call.Component info) p.frame asks_component (begun_kind (call.Component info) p.frame) k ∙ for_component p.frame.asked k))
      wanted_asks a_stack o opens = subst (AsksAtMost (λ k. asked_by k modules (requests a_stack))) (sym opens) (λ k. at_most _ _ (of_call call.Stack p.frame asks_for (begun_kind call.Stack p.frame) k ∙ for_objects stack_asked k))
      wanted_asks (a_heap limits) o opens = subst (AsksAtMost (λ k. asked_by k modules (requests (a_heap limits)))) (sym opens) (λ k. at_most _ _ (of_call (call.Heap (heap_type limits)) p.frame asks_for (begun_kind (call.Heap (heap_type limits)) p.frame) k ∙ for_objects (heap_asked (heap_type limits)) k))

      act_asks : (act : Act) (o : Opening P) → OpensAct modules act p o → AsksAtMost (λ k. asked_by k modules act) o
      act_asks (requests wanted) o opens = wanted_asks wanted o opens
      act_asks (on_memory of n op) o opens = subst (AsksAtMost (λ k. 0)) (sym opens.3) tt
      act_asks (on_table of n op) o opens = subst (AsksAtMost (λ k. 0)) (sym opens.5) tt
      act_asks (drops of) o opens = subst (AsksAtMost (λ k. asked_by k modules (drops of))) (sym opens) (drop_asks of (slice_index_or p.live of None))
      act_asks (purges number) o opens = subst (AsksAtMost (λ k. asked_by k modules (purges number))) (sym opens) (λ k. at_most _ _ (of_call (call.Purge (record { 0 = number })) p.frame purges_kind (begun_kind (call.Purge (record { 0 = number })) p.frame) k ∙ purge_none p.frame.asked k))
      act_asks releases o opens = subst (AsksAtMost (λ k. asked_by k modules releases)) (sym opens) (λ k. at_most _ _ (of_call call.Release p.frame releases_kind (begun_kind call.Release p.frame) k ∙ release_none p.frame.asked k))

      pub next_asks : (next : Option Command) (keyed : Bool) (o : Opening P) → OpensNext modules next keyed p o → AsksAtMost (λ k. asked_next k modules keyed next) o
      next_asks None keyed o opens = subst (AsksAtMost (λ k. asked_next k modules keyed None)) (sym opens) tt
      next_asks (Some command) false o opens = subst (AsksAtMost (λ k. 0)) (sym opens) (λ k. at_most _ _ (of_call call.Key p.frame draws_key (begun_kind call.Key p.frame) k ∙ key_none p.frame.asked k))
      next_asks (Some command) true o opens = act_asks (act_of command) o opens

      -- What opens with a step has begun a call.
      abbrev pub BeginsCall : Opening P → Type 0
      BeginsCall rests = Unit {0}
      BeginsCall (replies reply live store) = Unit {0}
      BeginsCall (makes_step frame live) = (c : Call P PlainHeap) × (frame ≡ begun_call c p.frame)

      at_call : (c : Call P PlainHeap) (live : List (Option (Grant P PlainHeap))) (o : Opening P) → o ≡ makes_step (begun_call c p.frame) live → BeginsCall o
      at_call c live o opens = subst BeginsCall (sym opens) (c, refl)

      drop_call : (of : ℕ) (x : Option (Grant P PlainHeap)) → BeginsCall (drop_opening x of p)
      drop_call of None = tt
      drop_call of (Some grant) = (call.GiveBack grant, refl)

      request_call : (kept : Option ModuleAsked) (o : Opening P) → OpensRequest kept p o → BeginsCall o
      request_call None o opens = absurd opens
      request_call (Some kept) o opens = elim opens [ inl ends ↦ subst BeginsCall (sym ends) tt | inr begins ↦ at_call (call.Module kept) p.live o begins ]

      wanted_call : (wanted : Wanted) (o : Opening P) → OpensWanted modules wanted p o → BeginsCall o
      wanted_call (an_instance number) o opens = request_call (slice_get modules number) o opens
      wanted_call (a_component info) o opens = at_call (call.Component info) p.live o opens
      wanted_call a_stack o opens = at_call call.Stack p.live o opens
      wanted_call (a_heap limits) o opens = at_call (call.Heap (heap_type limits)) p.live o opens

      act_call : (act : Act) (o : Opening P) → OpensAct modules act p o → BeginsCall o
      act_call (requests wanted) o opens = wanted_call wanted o opens
      act_call (on_memory of n op) o opens = subst BeginsCall (sym opens.3) tt
      act_call (on_table of n op) o opens = subst BeginsCall (sym opens.5) tt
      act_call (drops of) o opens = subst BeginsCall (sym opens) (drop_call of (slice_index_or p.live of None))
      act_call (purges number) o opens = at_call (call.Purge (record { 0 = number })) p.live o opens
      act_call releases o opens = at_call call.Release p.live o opens

      pub next_call : (next : Option Command) (keyed : Bool) (o : Opening P) → OpensNext modules next keyed p o → BeginsCall o
      next_call None keyed o opens = subst BeginsCall (sym opens) tt
      next_call (Some command) false o opens = at_call call.Key p.live o opens
      next_call (Some command) true o opens = act_call (act_of command) o opens

      -- A command that ends at once isn't refused for want of anything, and not for a failed page call.
      abbrev IsQuiet : Act → Opening P → Type 0
      IsQuiet act rests = Unit {0}
      IsQuiet act (replies reply live store) = ((k : Scarce) → refused_by k act reply ≡ 0) × (faulted_by act reply ≡ 0)
      IsQuiet act (makes_step frame live) = Unit {0}

      drop_quiet : (of : ℕ) (x : Option (Grant P PlainHeap)) → IsQuiet (drops of) (drop_opening x of p)
      drop_quiet of None = ((λ k. refl), refl)
      drop_quiet of (Some grant) = tt

      request_quiet : (number : ℕ) (kept : Option ModuleAsked) (o : Opening P) → OpensRequest kept p o → IsQuiet (requests (an_instance number)) o
      request_quiet number None o opens = absurd opens
      request_quiet number (Some kept) o opens =
          elim opens [
            | inl ends ↦ subst (IsQuiet (requests (an_instance number))) (sym ends) ((λ k. refl), refl)
            | inr begins ↦ subst (IsQuiet (requests (an_instance number))) (sym begins) tt
          ]

      wanted_quiet : (wanted : Wanted) (o : Opening P) → OpensWanted modules wanted p o → IsQuiet (requests wanted) o
      wanted_quiet (an_instance number) o opens = request_quiet number (slice_get modules number) o opens
      wanted_quiet (a_component info) o opens = subst (IsQuiet (requests (a_component info))) (sym opens) tt
      wanted_quiet a_stack o opens = subst (IsQuiet (requests a_stack)) (sym opens) tt
      wanted_quiet (a_heap limits) o opens = subst (IsQuiet (requests (a_heap limits))) (sym opens) tt

      act_quiet : (act : Act) (o : Opening P) → OpensAct modules act p o → IsQuiet act o
      act_quiet (requests wanted) o opens = wanted_quiet wanted o opens
      act_quiet (on_memory of n op) o opens = subst (IsQuiet (on_memory of n op)) (sym opens.3) ((λ k. refl), refl)
      act_quiet (on_table of n op) o opens = subst (IsQuiet (on_table of n op)) (sym opens.5) ((λ k. refl), refl)
      act_quiet (drops of) o opens = subst (IsQuiet (drops of)) (sym opens) (drop_quiet of (slice_index_or p.live of None))
      act_quiet (purges number) o opens = subst (IsQuiet (purges number)) (sym opens) tt
      act_quiet releases o opens = subst (IsQuiet releases) (sym opens) tt

      abbrev pub NextIsQuiet : Option Command → Opening P → Type 0
      NextIsQuiet next rests = Unit {0}
      NextIsQuiet next (replies reply live store) = ((k : Scarce) → at_next (refused_by k) next reply ≡ 0) × (at_next faulted_by next reply ≡ 0)
      NextIsQuiet next (makes_step frame live) = Unit {0}

      as_next : (command : Command) (o : Opening P) → IsQuiet (act_of command) o → NextIsQuiet (Some command) o
      as_next command rests is = tt
      as_next command (replies reply live store) is = is
      as_next command (makes_step frame live) is = tt

      pub next_quiet : (next : Option Command) (keyed : Bool) (o : Opening P) → OpensNext modules next keyed p o → NextIsQuiet next o
      next_quiet None keyed o opens = subst (NextIsQuiet None) (sym opens) tt
      next_quiet (Some command) false o opens = subst (NextIsQuiet (Some command)) (sym opens) tt
      next_quiet (Some command) true o opens = as_next command o (act_quiet (act_of command) o opens)
