-- Two runs of one input, in which the same commands find no memory, give the same.
use Rattle.std.proofs.Common.{◌≡◌, ℕ, zero, suc, ◌<◌, Bool, true, false, List, [], ◌∷◌, length, IsSome, Option, Some, None, Result, Ok, Err, refl, sym, ap, ◌∙◌, subst, arith, IfOk, OnOk, IfSome, slice_get, slice_index_or}
use Rattle.pool_run.proofs.Imports.{MakerTold, PoolingAllocationConfig, Tunables, Offered, PageCalls, ModuleAsked, lists_made, FrameLists, IsMadeCore, plan_settings, part_settings, metrics_of, Metrics, Counters, PoolCore, Settings, SlotKind, IsCellMade, IsMadeAs, AreMadeTo, Role, shard_role, cell_role, queue_role, heaps_role, no_role, role_at, places_planned, divided, stripe_allocators, PartSettings, StripedPlanSettings, one_plan_with, part_at, Plan, PoolPart, PlainHeap}
use Rattle.pool_run.specs.Agreeing.{IsRunnable, WantAlike, IsOnlyRun, RunsAgree}
use Rattle.pool_run.specs.Built.{is_built, broken_rule}
use Rattle.pool_run.specs.Folds.{RunParts, RunState, told_state, IsUnderWay}
use Rattle.pool_run.specs.Numbers.{calls_of_run}
use Rattle.pool_run.specs.Rooms.{World}
use Rattle.pool_run.specs.Runs.{Performs, IsMadeRun, IsRun, HoldsFromStart, world_of}
use Rattle.pool_run.specs.RunsMade.{commands_in, nothing_told, parties_made}
use Rattle.pool_run.specs.Schedules.{turns_of}
use Rattle.pool_run.specs.declared.command.Command.{Command}
use Rattle.pool_run.specs.declared.input.Input.{Input}
use Rattle.pool_run.specs.declared.input.Party.{Party}
use Rattle.pool_run.specs.declared.output.RunFault.{RunFault}
use Rattle.pool_run.specs.declared.output.RunOutput.{RunOutput}
use Rattle.pool_run.specs.declared.reply.Reply.{Reply}
use Rattle.pool_run.specs.declared.running_party.RunningParty.{RunningParty}
use Rattle.pool_run.proofs.InputsRun.{made_under_way, holds_from_start}
use Rattle.pool_run.proofs.SameFolds.{AllClear, folds_same, runs_same}
use Rattle.pool_run.proofs.Cleared.{IsClearIdle}
use Rattle.pool_hall.specs.declared.unit_name.SlotKind.TheVariants as of_slot

-- lists with the same elements in each place are one
places_same : {X : Type 0} (xs ys : List X) (d : X) → length xs ≡ length ys → ((i : ℕ) → i < length xs → slice_index_or xs i d ≡ slice_index_or ys i d) → xs ≡ ys
places_same [] [] d long each = refl
places_same [] (y ∷ ys) d long each = absurd (omega (arith, long))
places_same (x ∷ xs) [] d long each = absurd (omega (arith, long))
places_same {X = X} (x ∷ xs) (y ∷ ys) d long each =
    ap (λ (z : X). z ∷ xs) (each 0 (omega arith)) ∙ ap (λ (zs : List X). y ∷ zs) (places_same xs ys d (omega (arith, long)) (λ i below. each (suc i) (omega (arith, below))))

-- no call is under way where it is made
made_clear : (P : Type 0) (settings : Settings) (parties : List Party) (k : ℕ) → IfSome (slice_get (parties_made {P = P} settings parties) k) (λ q. IsClearIdle q.frame)
made_clear P settings [] k = tt
made_clear P settings (x ∷ xs) zero = λ idle. record { asked_for = refl; aim = refl; none_taken = refl }
made_clear P settings (x ∷ xs) (suc k) = made_clear P settings xs k

module _ {P : Type 0} where
  -- parts that are made alike for a place are one
  cells_same : (stripes : ℕ) (maker : MakerTold) (ps : PartSettings) (kind : SlotKind) (slot : ℕ) (x y : PoolPart P PlainHeap) → IsCellMade stripes maker ps kind slot x → IsCellMade stripes maker ps kind slot y → x ≡ y
  cells_same stripes maker ps of_slot.Memory slot x y one two = one ∙ sym two
  cells_same stripes maker ps of_slot.Table slot x y one two = one ∙ sym two
  cells_same stripes maker ps of_slot.Stack slot x y one two = one ∙ sym two
  cells_same stripes maker ps of_slot.Heap slot x y one two = absurd one

  made_same : (stripes : ℕ) (maker : MakerTold) (ps : PartSettings) (r : Role) (x y : PoolPart P PlainHeap) → IsMadeAs stripes maker ps r x → IsMadeAs stripes maker ps r y → x ≡ y
  made_same stripes maker ps (shard_role a j) x y one two = one.1 ∙ sym two.1
  made_same stripes maker ps (cell_role name) x y one two = cells_same stripes maker ps name.kind name.slot x y one two
  made_same stripes maker ps queue_role x y one two = one ∙ sym two
  made_same stripes maker ps (heaps_role n) x y one two = one ∙ sym two
  made_same stripes maker ps no_role x y one two = absurd one

  -- A pool is made in one way,
  core_same : (maker : MakerTold) (config : PoolingAllocationConfig) (tunables : Tunables) (offered : Offered) (shards : ℕ) (a b : PoolCore P PlainHeap) → IsMadeCore maker config tunables offered shards a → IsMadeCore maker config tunables offered shards b → a ≡ b
  core_same maker config tunables offered shards a b one two =
      let z : StripedPlanSettings = plan_settings maker.page config tunables offered shards in
      let ps : PartSettings = part_settings maker.page config offered in
      let settings : a.settings ≡ b.settings = one.settings ∙ sym two.settings in
      let plans : a.plan ≡ b.plan = one_plan_with (divided z) (stripe_allocators z) a.plan b.plan one.plan two.plan in
      let others : AreMadeTo a.plan z.num_stripes maker ps (places_planned (divided z)) b.parts = subst (λ plan. AreMadeTo plan z.num_stripes maker ps (places_planned (divided z)) b.parts) (sym plans) two.parts in
      let parts : a.parts ≡ b.parts = places_same a.parts b.parts (part_at 0 []) (one.parts.count ∙ sym two.parts.count) (λ p below. made_same z.num_stripes maker ps (role_at a.plan p) (part_at p a.parts) (part_at p b.parts) (one.parts.each p (omega (arith, below, one.parts.count))) (others.each p (omega (arith, below, one.parts.count)))) in
      let spare : a.spare ≡ b.spare = one.spare ∙ ap (λ (s : Settings). Some (lists_made {P = P} s)) settings ∙ sym two.spare in
      let C : List (PoolPart P PlainHeap) → Counters → Settings → Plan → Option (FrameLists P) → PoolCore P PlainHeap = λ ps n s plan spare. record { parts = ps; counters = n; settings = s; plan = plan; spare = spare } in
      ap (λ (ps : List (PoolPart P PlainHeap)). C ps a.counters a.settings a.plan a.spare) parts
      ∙ ap (λ (n : Counters). C b.parts n a.settings a.plan a.spare) (one.counters ∙ sym two.counters)
      ∙ ap (λ (s : Settings). C b.parts b.counters s a.plan a.spare) settings
      ∙ ap (λ (plan : Plan). C b.parts b.counters b.settings plan a.spare) plans ∙ ap (C b.parts b.counters b.settings b.plan) spare

  -- and so is a run.
  start_same : (input : Input) (maker : MakerTold) (a b : RunParts P) → IsMadeRun input maker a → IsMadeRun input maker b → a ≡ b
  start_same input maker a b one two =
      let core : a.core ≡ b.core = core_same maker input.config input.tunables input.offered input.shards a.core b.core one.made two.made in
      let R : PoolCore P PlainHeap → List ModuleAsked → List (RunningParty P) → RunParts P = λ c ms ps. record { core = c; modules = ms; parties = ps } in
      let parties : a.parties ≡ b.parties = one.parties ∙ ap (λ (c : PoolCore P PlainHeap). parties_made c.settings input.parties) core ∙ sym two.parties in
      ap (λ (c : PoolCore P PlainHeap). R c a.modules a.parties) core ∙ ap (λ (ms : List ModuleAsked). R b.core ms a.parties) (one.calls ∙ sym two.calls) ∙ ap (R b.core b.modules) parties

  start_clear : (input : Input) (maker : MakerTold) (run : RunParts P) (w : World) → IsMadeRun input maker run → AllClear w run.modules (commands_in input.parties) (told_state run (nothing_told input.parties))
  start_clear input maker run w made k =
      let C : List (RunningParty P) → Type 0 = λ ps. IfSome (slice_get ps k) (λ q. IsClearIdle q.frame) in
      subst C (sym made.parties) (made_clear P run.core.settings input.parties k)

  performed_same : (finish : Bool) (w : World) → w.maker.tells ≡ true → IsSome w.maker.plan → (modules : List ModuleAsked) (inputs : List (List Command)) (schedule : List ℕ) (s end other : RunState P) → IsUnderWay w modules inputs s → AllClear w modules inputs s → Performs finish modules inputs schedule s end → Performs finish modules inputs schedule s other → WantAlike end.replies other.replies → end ≡ other
  performed_same true w tells planned modules inputs schedule s end other way clear one two alike = runs_same w tells planned modules inputs end other alike schedule s way clear one two
  performed_same false w tells planned modules inputs schedule s end other way clear one two alike = folds_same w tells planned modules inputs end other alike schedule s way clear one two

-- The law.
pub runs_agree : (P : Type 0) → RunsAgree P
runs_agree P input maker b runnable two tells planned a one alike =
    let start : one.start ≡ two.start = start_same input maker one.start two.start one.made two.made in
    let From : RunParts P → Type 0 = λ x. Performs {P = P} input.finish x.modules (commands_in input.parties) (turns_of input.schedule) (told_state x (nothing_told input.parties)) two.end in
    let end : one.end ≡ two.end =
    performed_same input.finish (world_of input maker) tells planned one.start.modules (commands_in input.parties) (turns_of input.schedule) (told_state one.start (nothing_told input.parties)) one.end two.end
    (made_under_way input maker one.start runnable one.made) (start_clear input maker one.start (world_of input maker) one.made) one.performed (subst From (sym start) two.performed) (subst (λ rs. WantAlike rs two.end.replies) one.replies (subst (λ rs. WantAlike a.replies rs) two.replies (λ i n. ((alike i n).1, (alike i n).0)))) in
    let O : List (List Reply) → Metrics → PageCalls → RunOutput = λ rs m n. record { replies = rs; metrics = m; calls = n } in
    let replies : a.replies ≡ b.replies = one.replies ∙ ap (λ (s : RunState P). s.replies) end ∙ sym two.replies in
    let metrics : a.metrics ≡ b.metrics = one.metrics ∙ ap (λ (s : RunState P). metrics_of s.core) end ∙ sym two.metrics in
    let calls : a.calls ≡ b.calls = one.calls_made ∙ ap (λ (s : RunState P). calls_of_run s.core s.parties) end ∙ sym two.calls_made in
    ap (λ (rs : List (List Reply)). O rs a.metrics a.calls) replies ∙ ap (λ (m : Metrics). O b.replies m a.calls) metrics ∙ ap (O b.replies b.metrics) calls

-- So the answer to a call that runs is the only one.
pub runnable_so : (input : Input) (maker : MakerTold) → is_built input ≡ true → broken_rule input ≡ None → maker.page ≡ input.page → IsRunnable input maker
runnable_so input maker built rules page = record { built = built; rules = rules; page = page }

pub only_ok : (P : Type 0) (input : Input) (maker told : MakerTold) (r : Result RunOutput RunFault) → told ≡ maker → maker.page ≡ input.page → is_built input ≡ true → OnOk r (broken_rule input ≡ None) → IfOk r (IsRun P input told) → IfOk r (IsOnlyRun P input maker)
only_ok P input maker told (Ok output) same page built rules is = let Run : MakerTold → Type 0 = λ m. IsRun P input m output in runs_agree P input maker output (runnable_so input maker built rules page) (subst Run same is)
only_ok P input maker told (Err fault) same page built rules is = tt

-- And between any two turns from its start all is sound.
pub holds_ok : (P : Type 0) (input : Input) (maker : MakerTold) (r : Result RunOutput RunFault) → maker.page ≡ input.page → is_built input ≡ true → OnOk r (broken_rule input ≡ None) → OnOk r (HoldsFromStart P input maker)
holds_ok P input maker (Ok output) page built rules = holds_from_start input maker (runnable_so input maker built rules page)
holds_ok P input maker (Err fault) page built rules = tt
