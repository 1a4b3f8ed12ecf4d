-- A party's live grants as it sees them; and one more reply of a private run.
use Rattle.std.proofs.Common.{◌≡◌, ℕ, zero, suc, ◌+◌, List, [], ◌∷◌, ◌++◌, length, map, Option, Some, None, refl, sym, ap, ◌∙◌, subst, arith, option_map, slice_get, slice_set, slice_index_or}
use Rattle.pool_run.proofs.Imports.{map-set, Grant, PlainHeap}
use Rattle.pool_run.specs.Private.{Grants, grant_at, PrivateState, PrivateStep, StepsBy, with_grants, no_grants, IsPrivateRun}
use Rattle.pool_run.specs.Rooms.{World, PooledStep, IsPooledRun}
use Rattle.pool_run.specs.Turns.{private_grant, grants_of}
use Rattle.pool_run.specs.declared.command.Command.{Command}
use Rattle.pool_run.specs.declared.reply.Reply.{Reply}

-- a party with these grants, which called its store and its maker of heaps so often
abbrev pub state_of : Grants → ℕ → ℕ → PrivateState
state_of grants stores heaps = record { grants = grants; stores = stores; heaps = heaps }

-- a place that is there, among the maps of those that are
pub mapped_at : {A B : Type 0} (f : A → B) (xs : List (Option A)) (i : ℕ) → slice_index_or (map (option_map f) xs) i None ≡ option_map f (slice_index_or xs i None)
mapped_at f [] i = refl
mapped_at f (x ∷ xs) zero = refl
mapped_at f (x ∷ xs) (suc i) = mapped_at f xs i

module _ {P : Type 0} where
  -- a change of one place changes that grant alone
  pub grants_set : (live : List (Option (Grant P PlainHeap))) (i : ℕ) (x : Option (Grant P PlainHeap)) → grants_of (slice_set live i x) ≡ slice_set (grants_of live) i (option_map private_grant x)
  grants_set live i x = map-set (option_map private_grant) live i x

  pub grants_at : (live : List (Option (Grant P PlainHeap))) (i : ℕ) → grant_at (grants_of live) i ≡ option_map private_grant (slice_index_or live i None)
  grants_at live i = mapped_at private_grant live i

  -- what the party sees in a place, where it has a grant there or none
  pub told_at : (live : List (Option (Grant P PlainHeap))) (told : Grants) (i : ℕ) (x : Option (Grant P PlainHeap)) → grants_of live ≡ told → slice_index_or live i None ≡ x → grant_at told i ≡ option_map private_grant x
  told_at live told i x is has = ap (λ (g : Grants). grant_at g i) (sym is) ∙ grants_at live i ∙ ap (option_map private_grant) has

-- one reply more
pub one_more : (Step : ℕ → PrivateState → Command → Reply → PrivateState → Type 0) (n : ℕ) (commands : List Command) (replies : List Reply) (command : Command) (reply : Reply) (start mid end : PrivateState) → StepsBy Step n commands replies start mid → slice_get commands (length replies) ≡ Some command → Step (n + length replies) mid command reply end → StepsBy Step n commands (replies ++ reply ∷ []) start end
one_more Step n [] [] command reply start mid end run is step = absurd cc
one_more Step n [] (r ∷ replies) command reply start mid end run is step = absurd run
one_more Step n (c ∷ commands) [] command reply start mid end run is step =
    let P : ℕ → PrivateState → Command → Type 0 = λ k s d. Step k s d reply end in
    let here : n + 0 ≡ n = omega arith in
    let same : command ≡ c = cc in
    (end, subst (λ (d : Command). P n start d) same (subst (λ (s : PrivateState). P n s command) run (subst (λ (k : ℕ). P k mid command) here step)), refl)
one_more Step n (c ∷ commands) (r ∷ replies) command reply start mid end run is step =
    let P : ℕ → Type 0 = λ k. Step k mid command reply end in
    let next : n + length (r ∷ replies) ≡ (n + 1) + length replies = omega arith in
    (run.0, run.1, one_more Step (n + 1) commands replies command reply run.0 mid end run.2 is (subst P next step))

-- steps that are more are steps
pub steps_weaker : (Step Less : ℕ → PrivateState → Command → Reply → PrivateState → Type 0) → ((n : ℕ) (s : PrivateState) (command : Command) (reply : Reply) (new : PrivateState) → Step n s command reply new → Less n s command reply new) → (n : ℕ) (commands : List Command) (replies : List Reply) (start end : PrivateState) → StepsBy Step n commands replies start end → StepsBy Less n commands replies start end
steps_weaker Step Less less n commands [] start end run = run
steps_weaker Step Less less n [] (r ∷ replies) start end run = absurd run
steps_weaker Step Less less n (c ∷ commands) (r ∷ replies) start end run =
    (run.0, less n start c r run.0 run.1, steps_weaker Step Less less (n + 1) commands replies run.0 end run.2)

-- The replies of a run that tells of the pool are a private run.
pub pooled_private : (w : World) (commands : List Command) (replies : List Reply) → IsPooledRun w commands replies → IsPrivateRun w.terms commands replies
pooled_private w commands replies run = (run.0, steps_weaker (PooledStep w) (PrivateStep w.terms) (λ n s command reply new step. step.private) 0 commands replies (with_grants (no_grants commands)) run.0 run.1)
