-- What a party was told stays within the plans of its memories' regions, command by command.
use Rattle.std.proofs.Common.{◌≡◌, ℕ, ◌<◌, ◌++◌, ◌∷◌, [], Bool, true, false, not, List, length, Option, Some, None, is_some, refl, sym, ap, ◌∙◌, subst, inl, arith, option_map, slice_get, slice_set, true≢false}
use Rattle.std.specs.Option.{option_and_then}
use Rattle.std.proofs.lemmas.Bool.{and_parts, false≢true, not-true}
use Rattle.std.proofs.lemmas.Option.{slice_get_within}
use Rattle.pool_pages.specs.MakerTold.{plan_for}
use Rattle.pool_pages.specs.declared.pages.RegionName.TheVariants.{Memory as memory_region}
use Rattle.pool_limits.specs.Growth.{GrowthRule}
use Rattle.pool_slots.specs.declared.listed_heaps.ListedHeaps.{ListedHeaps}
use Rattle.pool_slots.specs.declared.listed_heaps.PlainHeap.{PlainHeap}
use Rattle.pool_alloc.specs.CallStages.{Progress, Stage, admitted, asks, counts_component, counts_heap, keys, no_call, purging, refusing, releasing, reserving, returning, seeks_heap, seeks_single, seeks_stack, stage_at, stage_of, tests_component, tests_heap, uncounted, untested}
use Rattle.pool_alloc.specs.Calls.{IsIdle}
use Rattle.pool_alloc.specs.Objects.{objects_in}
use Rattle.pool_alloc.specs.declared.frame.Asked.{Asked}
use Rattle.pool_alloc.specs.declared.frame.Frame.{Frame}
use Rattle.pool_alloc.specs.declared.frame.Grant.{Grant}
use Rattle.pool_alloc.specs.declared.frame.Outcome.{Outcome}
use Rattle.pool_alloc.specs.declared.frame.Outcome.TheVariants as answer
use Rattle.pool_alloc.specs.declared.frame.Phase.{Phase}
use Rattle.pool_alloc.specs.declared.pool_core.PoolCore.{PoolCore}
use Rattle.pool_run.specs.Acts.{Act, requests, on_memory, on_table, drops, purges, releases, act_at, act_of}
use Rattle.pool_run.specs.Objects.{object_at}
use Rattle.pool_run.specs.Private.{Grants, PrivateState, no_grants}
use Rattle.pool_run.specs.Rooms.{World}
use Rattle.pool_run.specs.RunsMade.{is_drawing}
use Rattle.pool_run.specs.Ties.{IsPrivate, TiedAs, seen_by_party}
use Rattle.pool_run.specs.Turns.{answered, grants_of, granted_reply, memory_leases, with_reply}
use Rattle.pool_run.specs.declared.command.Command.{Command}
use Rattle.pool_run.specs.declared.reply.Reply.{Reply}
use Rattle.pool_run.specs.declared.reply.Reply.TheVariants as reply
use Rattle.pool_run.specs.declared.reply.Refusal.TheVariants.{Alloc}
use Rattle.pool_run.specs.declared.running_party.RunningParty.{RunningParty}
use Rattle.pool_run.proofs.StageSteps.{IsStagedStep, is_key, is_none}
use Rattle.pool_threads.specs.GrowthFaults.{AreGrowthsListed, met_at, slot_in, slot_named}
use Rattle.pool_threads.specs.Working.{NamesLive}
use Rattle.pool_threads.proofs.GrowthRuns.{Adds, none_more, one_more}
use Rattle.pool_threads.proofs.LiveGrowths.{Counts, Loses, earlier_kept, slot_of_lease, still_listed}
use Rattle.pool_threads.proofs.Optional.{if_all}

-- It is no operation on a memory.
abbrev calls_pool : Act → Bool
calls_pool (on_memory of k op) = false
calls_pool _ = true

calls_met : (act : Act) → calls_pool act ≡ true → (rule : GrowthRule) (of k : ℕ) (grants : Grants) (reply : Reply) → met_at rule of k grants act reply ≡ 0
calls_met (on_memory grant place op) is rule of k grants reply = absurd (false≢true is)
calls_met (requests wanted) is rule of k grants reply = refl
calls_met (on_table grant place op) is rule of k grants reply = refl
calls_met (drops grant) is rule of k grants reply = refl
calls_met (purges number) is rule of k grants reply = refl
calls_met releases is rule of k grants reply = refl

-- The command of a call is none.
abbrev IsCalling : List Command → ℕ → Type 0
IsCalling commands done = (act : Act) × (act_at commands done ≡ Some act) × (calls_pool act ≡ true)

progress_calls : (w : World) (progress : Progress) (commands : List Command) (done : ℕ) (asked : Asked) (now told : PrivateState) → TiedAs w (asks progress) commands done asked now told → IsCalling commands done
progress_calls w seeks_stack commands done asked now told tied = (_, tied.1, refl)
progress_calls w tests_heap commands done asked now told tied = (_, tied.3, refl)
progress_calls w (seeks_heap n) commands done asked now told tied = (_, tied.1.act, refl)
progress_calls w counts_heap commands done asked now told tied = (_, tied.1.act, refl)
progress_calls w untested commands done asked now told tied = (_, tied.1.act, refl)
progress_calls w uncounted commands done asked now told tied = (_, tied.1.act, refl)
progress_calls w (admitted n) commands done asked now told tied = (_, tied.1.act, refl)
progress_calls w (seeks_single n) commands done asked now told tied = (_, tied.1.act, refl)

stage_calls : (w : World) (s : Stage) (commands : List Command) (done : ℕ) (asked : Asked) (now told : PrivateState) → TiedAs w s commands done asked now told → is_none s ≡ false → is_drawing s ≡ false → IsCalling commands done
stage_calls w no_call commands done asked now told tied some' undrawn = absurd (true≢false some')
stage_calls w keys commands done asked now told tied some' undrawn = absurd (true≢false undrawn)
stage_calls w (asks progress) commands done asked now told tied some' undrawn = progress_calls w progress commands done asked now told tied
stage_calls w (tests_component info) commands done asked now told tied some' undrawn = (_, tied.1, refl)
stage_calls w counts_component commands done asked now told tied some' undrawn = (_, tied.1.act, refl)
stage_calls w returning commands done asked now told tied some' undrawn = (_, tied.1.act, refl)
stage_calls w (refusing e) commands done asked now told tied some' undrawn = (_, tied.1.act, refl)
stage_calls w purging commands done asked now told tied some' undrawn = (_, tied.1.act, refl)
stage_calls w reserving commands done asked now told tied some' undrawn = (_, tied.1, refl)
stage_calls w releasing commands done asked now told tied some' undrawn = (_, tied.1, refl)

command_of : (o : Option Command) (act : Act) → option_map act_of o ≡ Some act → (command : Command) × (o ≡ Some command) × (act_of command ≡ act)
command_of None act is = absurd cc
command_of (Some command) act is = (command, refl, cc)

-- what a slot was named for is a command with a reply
named_before : (replies : List Reply) (of k slot : ℕ) → slot_named of k replies ≡ Some slot → of < length replies
named_before replies of k slot is = replied_there (slice_get replies of) refl is
  where
    replied_there : (o : Option Reply) → slice_get replies of ≡ o → option_and_then (slot_in k) o ≡ Some slot → of < length replies
    replied_there None has named = absurd cc
    replied_there (Some r) has named = slice_get_within replies of r has

module _ {P : Type 0} (w : World) (commands : List Command) (before : List Reply) (p : RunningParty P) (private : IsPrivate w (no_grants commands) commands before p) (listed : AreGrowthsListed w commands before p.live) where
  -- A command that ended at once.
  pub ended_growths : (live : List (Option (Grant P PlainHeap))) (reply : Reply) (command : Command) → IsIdle p.frame → NamesLive before p.live → slice_get commands p.done ≡ Some command → Counts w.maker w.terms.host.rule (act_of command) reply p.live live → AreGrowthsListed w commands (before ++ reply ∷ []) live
  ended_growths live reply command idle names next counts =
      let none : stage_of p.frame ≡ no_call = ap (λ (phase : Phase P PlainHeap). stage_at phase p.frame.asked p.frame.ending (objects_in p.frame.objects)) idle in
      let whole : seen_by_party p ≡ private.told = subst (λ (s : Stage). TiedAs w s commands p.done p.frame.asked (seen_by_party p) private.told) none private.tied in
      let told : grants_of p.live ≡ private.told.grants = ap (λ (s : PrivateState). s.grants) whole in
      let adds : Adds w commands before p.live live (λ of k. met_at w.terms.host.rule of k (grants_of p.live) (act_of command) reply) =
      λ of k slot named. counts of k slot (λ l there. slot_of_lease before p.live of k slot l names named there) in
      one_more w commands before p.live live reply command private.told private.run (ap (slice_get commands) private.count ∙ next) listed
      (subst (λ (grants : Grants). Adds w commands before p.live live (λ of k. met_at w.terms.host.rule of k grants (act_of command) reply)) told adds)

  -- A call that has begun.
  pub begun_growths : (live : List (Option (Grant P PlainHeap))) → Loses p.live live → AreGrowthsListed w commands before live
  begun_growths live loses = none_more w commands before p.live live listed (λ of k slot named. if_all _ (plan_for (memory_region slot) w.maker) (λ plan met few. still_listed of k p.live live 0 plan (loses of k) refl met few))

  -- A call that ended with this reply, and left the grants of earlier commands.
  called_growths : (live : List (Option (Grant P PlainHeap))) (reply : Reply) → IsCalling commands p.done → ((of k : ℕ) → of < p.done → object_at memory_leases of k live ≡ object_at memory_leases of k p.live) → AreGrowthsListed w commands (before ++ reply ∷ []) live
  called_growths live reply calling keeps =
      let found = command_of (slice_get commands p.done) calling.0 calling.1 in
      let none : (of k : ℕ) → met_at w.terms.host.rule of k private.told.grants (act_of found.0) reply ≡ 0 =
      λ of k. ap (λ (act : Act). met_at w.terms.host.rule of k private.told.grants act reply) found.2 ∙ calls_met calling.0 calling.2 w.terms.host.rule of k private.told.grants reply in
      one_more w commands before p.live live reply found.0 private.told private.run (ap (slice_get commands) private.count ∙ found.1) listed
      (λ of k slot named. if_all _ (plan_for (memory_region slot) w.maker) (λ plan met few.
      still_listed of k p.live live (met_at w.terms.host.rule of k private.told.grants (act_of found.0) reply) plan (inl (keeps of k (omega (arith, private.count, named_before before of k slot named)))) (none of k) met few))

  -- So of each answer.
  answered_by : (o : Option (Outcome P PlainHeap)) (c : PoolCore P PlainHeap) (f : Frame P PlainHeap) (heaps : ListedHeaps) → (is_some o ≡ true → is_key o ≡ false → IsCalling commands p.done) → AreGrowthsListed w commands (with_reply (answered o c (record p { frame = f; heaps = heaps })).reply before) (answered o c (record p { frame = f; heaps = heaps })).party.live
  answered_by None c f heaps calling = listed
  answered_by (Some answer.Key) c f heaps calling = listed
  answered_by (Some (answer.Granted grant)) c f heaps calling = called_growths (slice_set p.live p.done (Some grant)) (granted_reply grant) (calling refl refl) (λ of k below. earlier_kept p.live p.done of k (Some grant) below)
  answered_by (Some answer.Returned) c f heaps calling = called_growths p.live reply.Returned (calling refl refl) (λ of k below. refl)
  answered_by (Some (answer.Purged n)) c f heaps calling = called_growths p.live (reply.Purged n) (calling refl refl) (λ of k below. refl)
  answered_by (Some (answer.Released n)) c f heaps calling = called_growths p.live (reply.Released n) (calling refl refl) (λ of k below. refl)
  answered_by (Some (answer.Refused e)) c f heaps calling = called_growths p.live (reply.Refused (Alloc e)) (calling refl refl) (λ of k below. refl)

  pub answered_growths : (o : Option (Outcome P PlainHeap)) (c : PoolCore P PlainHeap) (f : Frame P PlainHeap) (heaps : ListedHeaps) → IsStagedStep (stage_of p.frame) (stage_of f) o → AreGrowthsListed w commands (with_reply (answered o c (record p { frame = f; heaps = heaps })).reply before) (answered o c (record p { frame = f; heaps = heaps })).party.live
  answered_growths o c f heaps staged =
      answered_by o c f heaps (λ some' other.
      stage_calls w (stage_of p.frame) commands p.done p.frame.asked (seen_by_party p) private.told private.tied
      (not-true (is_none (stage_of p.frame)) (and_parts (not (is_none (stage_of p.frame))) (is_none (stage_of f)) (sym staged.answer ∙ some')).0) (sym staged.key ∙ other))
