use Rattle.std.proofs.Common.{◌≡◌, ℕ, ◌+◌, ◌<◌, ◌++◌, [], ◌∷◌, cond, filter, length, take, List, sym, ap, ◌∙◌, slice_index_or}
use Rattle.std.proofs.lemmas.List.{take_all}
use Rattle.std.proofs.lemmas.List.Elements.{filter_more}
use Rattle.pool_pages.specs.declared.fault_plan.Fault.{Fault}
use Rattle.pool_run.specs.Kept.{can_come}
use Rattle.pool_run.proofs.kept.faults_that_come.Goals as goal

-- one entry more
one_more : (d : Fault) (xs old new : List Fault) (i : ℕ) → i < length xs → old ≡ filter can_come (take i xs) → new ≡ old ++ cond (can_come (slice_index_or xs i d)) (slice_index_or xs i d ∷ []) [] → new ≡ filter can_come (take (i + 1) xs)
one_more d xs old new i below so_far step = step ∙ ap (λ l. l ++ cond (can_come (slice_index_or xs i d)) (slice_index_or xs i d ∷ []) []) so_far ∙ sym (filter_more can_come xs i d below)

pub loop-at-preserved : goal.loop-at-preserved
loop-at-preserved c = one_more _ c.args.faults.now c.loop-at.kept.items c.keep.new.kept.items c.loop-at.at c.loop-at-test.true c.loop-at.invariant c.in_ok-keep.ensures.kept

pub returns : goal.returns
returns c = record { kept = c.loop-at.invariant ∙ ap (filter can_come) (take_all c.loop-at.at c.args.faults.now c.loop-at-test.false) }
