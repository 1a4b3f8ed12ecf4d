-- How many growths met a fault in a run, with one reply more.
use Rattle.std.proofs.Common.{◌≡◌, ℕ, zero, suc, ◌+◌, ◌<◌, ◌≤◌, ◌++◌, ◌∷◌, [], List, length, Option, Some, refl, sym, ap, ◌∙◌, subst, inl, inr, arith, IfSome, slice_get}
use Rattle.std.specs.Option.{option_and_then}
use Rattle.std.proofs.lemmas.Bool.{cases_lt}
use Rattle.std.proofs.lemmas.Option.{same_Some}
use Rattle.pool_pages.specs.MakerTold.{plan_for}
use Rattle.pool_pages.specs.declared.pages.RegionName.TheVariants.{Memory as memory_region}
use Rattle.pool_slots.specs.declared.listed_heaps.PlainHeap.{PlainHeap}
use Rattle.pool_alloc.specs.declared.frame.Grant.{Grant}
use Rattle.pool_driver.specs.ListedCalls.{AreAtMost, calls_listed}
use Rattle.pool_run.specs.Acts.{act_of}
use Rattle.pool_run.specs.Private.{PrivateState, StepsBy, no_grants, with_grants}
use Rattle.pool_run.specs.Rooms.{PooledStep, World}
use Rattle.pool_run.specs.declared.command.Command.{Command}
use Rattle.pool_run.specs.declared.reply.Reply.{Reply}
use Rattle.pool_threads.specs.GrowthFaults.{AreGrowthsListed, AreGrowthsPlanned, calls_on_memory, growths_met, listed_of, met_at, slot_in, slot_named}
use Rattle.pool_threads.proofs.GrowthShapes.{IsNoneAt, met_same, none_at, none_first, none_yet, same_shapes}
use Rattle.pool_threads.proofs.ListedCalls.{listed_within, none_met, still_most}
use Rattle.pool_threads.proofs.Optional.{if_all, if_both, if_some}

module _ (w : World) where
  -- A run with one reply more is one without it, and a step.
  record Splits (n : ℕ) (commands : List Command) (before : List Reply) (reply : Reply) (s end : PrivateState) (run : StepsBy (PooledStep w) n commands (before ++ reply ∷ []) s end) : Type 0 where
    command : Command
    mid : PrivateState
    first : StepsBy (PooledStep w) n commands before s mid
    next : slice_get commands (length before) ≡ Some command
    count : (of k : ℕ) → growths_met w of k n commands (before ++ reply ∷ []) s end run ≡ growths_met w of k n commands before s mid first + met_at w.terms.host.rule of k mid.grants (act_of command) reply

  splits : (n : ℕ) (commands : List Command) (before : List Reply) (reply : Reply) (s end : PrivateState) (run : StepsBy (PooledStep w) n commands (before ++ reply ∷ []) s end) → Splits n commands before reply s end run
  splits n [] [] reply s end run = absurd run
  splits n [] (b ∷ bs) reply s end run = absurd run
  splits n (c ∷ cs) [] reply s end run = record { command = c; mid = s; first = refl; next = refl; count = λ of k. omega arith }
  splits n (c ∷ cs) (b ∷ bs) reply s end run =
      let rest = splits (n + 1) cs bs reply run.0 end run.2 in
      record { command = rest.command; mid = rest.mid; first = (run.0, run.1, rest.first); next = rest.next; count = λ of k. omega (arith, rest.count of k) }

  -- A grant that isn't there yet has met none.
  none_before : (n : ℕ) (commands : List Command) (replies : List Reply) (s end : PrivateState) (of k : ℕ) (run : StepsBy (PooledStep w) n commands replies s end) → n + length replies ≤ of → IsNoneAt of s.grants → growths_met w of k n commands replies s end run ≡ 0
  none_before n commands [] s end of k run later none = refl
  none_before n [] (r ∷ rs) s end of k run later none = refl
  none_before n (c ∷ cs) (r ∷ rs) s end of k run later none =
      omega (
        arith,
        none_at w.terms.host.rule of k s.grants (act_of c) r none,
        none_before (n + 1) cs rs run.0 end of k run.2 (omega (arith, later)) (none_yet w n (c ∷ []) (r ∷ []) s run.0 of (run.0, run.1, refl) (omega (arith, later)) none),
      )

-- what is there stays there
get_front : (before more : List Reply) (i : ℕ) → i < length before → slice_get (before ++ more) i ≡ slice_get before i
get_front [] more i below = absurd (omega (arith, below))
get_front (b ∷ bs) more zero below = refl
get_front (b ∷ bs) more (suc i) below = get_front bs more i (omega (arith, below))

abbrev begin : List Command → PrivateState
begin commands = with_grants (no_grants commands)

module _ {P : Type 0} (w : World) (commands : List Command) (before : List Reply) where
  -- How many calls the plan lists, while these grants are live.
  abbrev Lists : List (Option (Grant P PlainHeap)) → ℕ → ℕ → List ℕ → ℕ → Type 0
  Lists live of k plan met = AreAtMost (listed_of (calls_on_memory of k live) plan) plan met

  -- So of each memory that was named, with so many faults more.
  abbrev pub Adds : List (Option (Grant P PlainHeap)) → List (Option (Grant P PlainHeap)) → (ℕ → ℕ → ℕ) → Type 0
  Adds live new more = (of k slot : ℕ) → slot_named of k before ≡ Some slot → IfSome (plan_for (memory_region slot) w.maker) (λ plan. (met : ℕ) → AreAtMost (listed_of (calls_on_memory of k live) plan) plan met → AreAtMost (listed_of (calls_on_memory of k new) plan) plan (met + more of k))

  pub one_more : (live new : List (Option (Grant P PlainHeap))) (reply : Reply) (command : Command) (told : PrivateState) → StepsBy (PooledStep w) 0 commands before (begin commands) told → slice_get commands (length before) ≡ Some command → AreGrowthsListed w commands before live
      → Adds live new (λ of k. met_at w.terms.host.rule of k told.grants (act_of command) reply) → AreGrowthsListed w commands (before ++ reply ∷ []) new
  one_more live new reply command told run next all adds end whole of k =
      let parts = splits w 0 commands before reply (begin commands) end whole in
      let met : ℕ = growths_met w of k 0 commands before (begin commands) parts.mid parts.first in
      let more : ℕ = met_at w.terms.host.rule of k told.grants (act_of command) reply in
      let same : parts.command ≡ command = same_Some parts.command command (sym parts.next ∙ next) in
      let step : met_at w.terms.host.rule of k parts.mid.grants (act_of parts.command) reply ≡ more =
      ap (λ (c : Command). met_at w.terms.host.rule of k parts.mid.grants (act_of c) reply) same ∙ met_same w.terms.host.rule of k parts.mid.grants told.grants (act_of command) reply (same_shapes w 0 commands before (begin commands) parts.mid told parts.first run) in
      let total : growths_met w of k 0 commands (before ++ reply ∷ []) (begin commands) end whole ≡ met + more = parts.count of k ∙ ap (λ (n : ℕ). met + n) step in
      let Of : ℕ → Type 0 = λ slot. IfSome (plan_for (memory_region slot) w.maker) (λ plan. Lists live of k plan met) in
      let To : ℕ → Type 0 = λ slot. IfSome (plan_for (memory_region slot) w.maker) (λ plan. Lists new of k plan (growths_met w of k 0 commands (before ++ reply ∷ []) (begin commands) end whole)) in
      elim (cases_lt of (length before)) [
        | inl earlier ↦
            subst (λ (o : Option ℕ). IfSome o To) (sym (ap (option_and_then (slot_in k)) (get_front before (reply ∷ []) of earlier)))
            (if_some Of To (slot_named of k before) (λ slot there so_far.
            if_both (λ plan. Lists live of k plan met) (λ plan. Lists new of k plan (growths_met w of k 0 commands (before ++ reply ∷ []) (begin commands) end whole)) (plan_for (memory_region slot) w.maker)
            (if_some _ _ (plan_for (memory_region slot) w.maker) (λ plan planned more_listed listed. subst (Lists new of k plan) (sym total) (more_listed met listed)) (adds of k slot there)) so_far)
            (all parts.mid parts.first of k))
        | inr later ↦
            (let none : IsNoneAt of parts.mid.grants = none_yet w 0 commands before (begin commands) parts.mid of parts.first (omega (arith, later)) (none_first commands of) in
            let zero : growths_met w of k 0 commands (before ++ reply ∷ []) (begin commands) end whole ≡ 0 = omega (arith, parts.count of k, none_before w 0 commands before (begin commands) parts.mid of k parts.first (omega (arith, later)) (none_first commands of), none_at w.terms.host.rule of k parts.mid.grants (act_of parts.command) reply none) in
            if_all To (slot_named of k (before ++ reply ∷ [])) (λ slot. if_all _ (plan_for (memory_region slot) w.maker) (λ plan. none_met (listed_of (calls_on_memory of k new) plan) plan _ zero)))
      ]

  -- With no reply more.
  pub none_more : (live new : List (Option (Grant P PlainHeap))) → AreGrowthsListed w commands before live → Adds live new (λ of k. 0) → AreGrowthsListed w commands before new
  none_more live new all adds end run of k =
      let met : ℕ = growths_met w of k 0 commands before (begin commands) end run in
      let Of : ℕ → Type 0 = λ slot. IfSome (plan_for (memory_region slot) w.maker) (λ plan. Lists live of k plan met) in
      let To : ℕ → Type 0 = λ slot. IfSome (plan_for (memory_region slot) w.maker) (λ plan. Lists new of k plan met) in
      if_some Of To (slot_named of k before) (λ slot there so_far.
      if_both (λ plan. Lists live of k plan met) (λ plan. Lists new of k plan met) (plan_for (memory_region slot) w.maker)
      (if_some _ _ (plan_for (memory_region slot) w.maker) (λ plan planned more_listed listed. subst (Lists new of k plan) (omega arith) (more_listed met listed)) (adds of k slot there)) so_far)
      (all end run of k)

  -- In all, no more than the plan lists.
  pub growths_planned : (live : List (Option (Grant P PlainHeap))) → AreGrowthsListed w commands before live → AreGrowthsPlanned w commands before
  growths_planned live all end run of k =
      let met : ℕ = growths_met w of k 0 commands before (begin commands) end run in
      let Of : ℕ → Type 0 = λ slot. IfSome (plan_for (memory_region slot) w.maker) (λ plan. Lists live of k plan met) in
      let To : ℕ → Type 0 = λ slot. IfSome (plan_for (memory_region slot) w.maker) (λ plan. AreAtMost (calls_listed plan) plan met) in
      if_some Of To (slot_named of k before) (λ slot there.
      if_some (λ plan. Lists live of k plan met) (λ plan. AreAtMost (calls_listed plan) plan met) (plan_for (memory_region slot) w.maker)
      (λ plan planned listed. still_most (listed_of (calls_on_memory of k live) plan) (calls_listed plan) plan met met (listed_within (calls_on_memory of k live) plan) (omega arith) listed))
      (all end run of k)

  -- Of no reply there is nothing to say.
  pub none_told : (live : List (Option (Grant P PlainHeap))) → before ≡ [] → AreGrowthsListed w commands before live
  none_told live none = subst (λ (rs : List Reply). AreGrowthsListed w commands rs live) (sym none) (λ end run of k. tt)
