-- The slots of one shard are freed in turns, one for each slot of the list.
use Rattle.std.proofs.Common.{◌≡◌, ℕ, ◌+◌, ◌<◌, Bool, true, false, List, [], ◌∷◌, ◌++◌, length, take, drop, get_or, refl, sym, ap, subst, ◌∙◌, arith, ◌==◌, All, IsSome, if◌then◌else◌, not, min}
use Rattle.pool_alloc.proofs.Imports.{take_more, drop_more, append-nil, append_assoc, filter-append, All-get_or, eq-eqb, ShardState, use_of, after_free, home_of, Plan}
use Rattle.pool_alloc.specs.Freeing.{AreUsedInTurn, CanFreeNext, shard_after_next, freed_after_next, CanBeFreed}
use Rattle.pool_alloc.specs.StepReads.{freed_of, freed_elsewhere, first_shard, after_frees}
use Rattle.pool_alloc.specs.declared.frame.FreedSlot.{FreedSlot}
use Rattle.pool_alloc.specs.Leases.{memory_slot}

-- with one slot more at the end
pub first_more : (plan : Plan) (xs : List FreedSlot) (x : FreedSlot) → 0 < length xs → first_shard plan (xs ++ x ∷ []) ≡ min (first_shard plan xs) (home_of plan x.name).place
first_more plan [] x some = absurd (omega arith)
first_more plan (y ∷ []) x some = refl
first_more plan (y ∷ z ∷ rest) x some = omega (arith, first_more plan (z ∷ rest) x (omega arith))

-- After i turns: the slots that are left, those of other shards behind them, and the shard.
pub record FreesSoFar (plan : Plan) (j : ℕ) (old : ShardState) (xs : List FreedSlot) (i : ℕ) (shard : ShardState) (items : List FreedSlot) : Type 0 where
  pub list : items ≡ drop i xs ++ freed_elsewhere plan j (take i xs)
  pub rest : after_frees plan (freed_of plan j (drop i xs)) shard ≡ after_frees plan (freed_of plan j xs) old
  pub used : AreUsedInTurn plan (freed_of plan j (drop i xs)) shard

record AfterTurn (plan : Plan) (of more kept : List FreedSlot) (target shard : ShardState) (items : List FreedSlot) : Type 0 where
  list : items ≡ more ++ kept
  rest : after_frees plan of shard ≡ target
  used : AreUsedInTurn plan of shard

turn : (b : Bool) (plan : Plan) (x : FreedSlot) (of more kept : List FreedSlot) (target shard : ShardState)
    → after_frees plan (if b then x ∷ of else of) shard ≡ target
    → AreUsedInTurn plan (if b then x ∷ of else of) shard
    → AfterTurn plan of more (kept ++ (if not b then x ∷ [] else [])) target (if b then after_free (home_of plan x.name).local x.bytes shard else shard) (if b then more ++ kept else more ++ kept ++ x ∷ [])
turn true plan x of more kept target shard rest used = record { list = ap (λ (l : List FreedSlot). more ++ l) (sym (append-nil kept)); rest = rest; used = used.1 }
turn false plan x of more kept target shard rest used = record { list = append_assoc more kept (x ∷ []); rest = rest; used = used }

use_now : (b : Bool) (plan : Plan) (x : FreedSlot) (of : List FreedSlot) (shard : ShardState) → AreUsedInTurn plan (if b then x ∷ of else of) shard → b ≡ true → IsSome (use_of shard (home_of plan x.name).local.0)
use_now true s x of shard used e = used.0
use_now false s x of shard used e = absurd (cc)

module _ (plan : Plan) (j : ℕ) (old : ShardState) (xs : List FreedSlot) where
  -- the next slot can be freed
  pub can_free_next : (i : ℕ) (shard : ShardState) (items : List FreedSlot) → i < length xs → All (CanBeFreed plan) xs → FreesSoFar plan j old xs i shard items → CanFreeNext plan j items shard
  can_free_next i shard items inside small so_far =
      let d : FreedSlot = record { name = memory_slot 0; bytes = 0 } in
      let x : FreedSlot = get_or xs i d in
      let more : List FreedSlot = drop (i + 1) xs in
      let left : drop i xs ≡ x ∷ more = drop_more xs i d inside in
      let U : List FreedSlot → Type 0 = λ l. AreUsedInTurn plan (freed_of plan j l) shard in
      let C : List FreedSlot → Type 0 = λ l. CanFreeNext plan j l shard in
      let used = use_now ((home_of plan x.name).place == j) plan x (freed_of plan j more) shard (subst U left so_far.used) in
      subst C (sym (so_far.list ∙ ap (λ (l : List FreedSlot). l ++ freed_elsewhere plan j (take i xs)) left))
      (λ e. used (eq-eqb (home_of plan x.name).place j e), All-get_or (CanBeFreed plan) xs i d inside small)

  -- after one turn more
  pub frees_more : (i : ℕ) (shard : ShardState) (items : List FreedSlot) → i < length xs → FreesSoFar plan j old xs i shard items → FreesSoFar plan j old xs (i + 1) (shard_after_next plan j items shard) (freed_after_next plan j items)
  frees_more i shard items inside so_far =
      let d : FreedSlot = record { name = memory_slot 0; bytes = 0 } in
      let x : FreedSlot = get_or xs i d in
      let more : List FreedSlot = drop (i + 1) xs in
      let kept : List FreedSlot = freed_elsewhere plan j (take i xs) in
      let left : drop i xs ≡ x ∷ more = drop_more xs i d inside in
      let now : items ≡ x ∷ (more ++ kept) = so_far.list ∙ ap (λ (l : List FreedSlot). l ++ kept) left in
      let b : Bool = (home_of plan x.name).place == j in
      let U : List FreedSlot → Type 0 = λ l. AreUsedInTurn plan (freed_of plan j l) shard in
      let A : List FreedSlot → Type 0 = λ l. after_frees plan (freed_of plan j l) shard ≡ after_frees plan (freed_of plan j xs) old in
      let after = turn b plan x (freed_of plan j more) more kept (after_frees plan (freed_of plan j xs) old) shard (subst A left so_far.rest) (subst U left so_far.used) in
      let elsewhere : freed_elsewhere plan j (take (i + 1) xs) ≡ kept ++ (if not b then x ∷ [] else []) =
      ap (freed_elsewhere plan j) (take_more xs i d inside) ∙ filter-append (λ (y : FreedSlot). not ((home_of plan y.name).place == j)) (take i xs) (x ∷ []) in
      let F : List FreedSlot → Type 0 = λ l. FreesSoFar plan j old xs (i + 1) (shard_after_next plan j l shard) (freed_after_next plan j l) in
      subst F (sym now) (record {
        list = after.list ∙ ap (λ (l : List FreedSlot). more ++ l) (sym elsewhere);
        rest = after.rest;
        used = after.used;
      })
