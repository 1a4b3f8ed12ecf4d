-- What is counted turn by turn is what the turns have.
use Rattle.std.proofs.Common.{◌≡◌, ℕ, ◌+◌, ◌-◌, ◌^◌, ◌<◌, ◌≤◌, Bool, true, false, List, [], ◌∷◌, length, cond, min, if◌then◌else◌, Option, Some, None, refl, sym, ap, ◌∙◌, subst, inl, inr, arith}
use Rattle.std.specs.List.{count_by}
use Rattle.std.proofs.Math.Nat.{min-eq_left, min-eq_right, min-le_right}
use Rattle.std.proofs.lemmas.Bool.{cases_lt}
use Rattle.std.proofs.lemmas.List.Recursion.{is_count_by}
use Rattle.pool_types.specs.Rising.{risen}
use Rattle.pool_run.specs.Watching.{LeadsOver, TurnTold}
use Rattle.pool_run.specs.declared.input.Input.{Input}
use Rattle.pool_run.specs.declared.reply.Reply.{Reply}
use Rattle.pool_run.specs.declared.reply.Reply.TheVariants as reply
use Rattle.pool_view_summary.specs.Counts.{at_most, cause_of, count_for, counted, CountTurns, ends_request, is_for, no_counts, refused_more, refused_with, refuses_for}
use Rattle.pool_view_summary.specs.declared.counts.Cause.{Cause}
use Rattle.pool_view_summary.specs.declared.counts.Cause.TheVariants as cause
use Rattle.pool_view_summary.specs.declared.counts.Counts.{Counts}
use Rattle.pool_view_summary.specs.declared.counts.Refusals.{Refusals}

-- one more and then so many more, up to the greatest number
add_risen : (n k : ℕ) → at_most (risen n + k) ≡ at_most (n + (1 + k))
add_risen n k =
    elim (cases_lt (2 ^ 64 - 1) (n + 1)) [
      | inl above ↦
          let full : risen n ≡ 2 ^ 64 - 1 = min-eq_right {n = 2 ^ 64 - 1} {m = n + 1} (omega (arith, above)) in
          let first : at_most (risen n + k) ≡ 2 ^ 64 - 1 = min-eq_right {n = 2 ^ 64 - 1} {m = risen n + k} (omega (arith, full)) in
          let second : at_most (n + (1 + k)) ≡ 2 ^ 64 - 1 = min-eq_right {n = 2 ^ 64 - 1} {m = n + (1 + k)} (omega (arith, above)) in
          first ∙ sym second
      | inr below ↦
          let same : risen n ≡ n + 1 = min-eq_left {n = n + 1} {m = 2 ^ 64 - 1} below in
          let sum : risen n + k ≡ n + (1 + k) = omega (arith, same) in
          ap at_most sum
    ]

-- how many of a list pass a test, from its front
abbrev tally : {T : Type 0} → (T → Bool) → List T → ℕ
tally p [] = 0
tally p (t ∷ told) = cond (p t) (1 + tally p told) (tally p told)

tally_counts : {T : Type 0} (p : T → Bool) (told : List T) → tally p told ≡ count_by p told
tally_counts p told = is_count_by (tally p) p refl (λ x xs. refl) told

-- the count behind one thing
bump_one : (b : Bool) (n k : ℕ) → at_most ((if b then risen n else n) + k) ≡ at_most (n + cond b (1 + k) k)
bump_one true n k = add_risen n k
bump_one false n k = refl

bump_small : (b : Bool) (n : ℕ) → n ≤ 2 ^ 64 - 1 → (if b then risen n else n) ≤ 2 ^ 64 - 1
bump_small true n small = min-le_right (n + 1) (2 ^ 64 - 1)
bump_small false n small = small

-- a count that rises with each thing that passes a test
tallied : {T W : Type 0} (Leads : T → W → W → Type 0) (get : W → ℕ) (p : T → Bool) → ((t : T) (a b : W) → Leads t a b → get b ≡ (if p t then risen (get a) else get a)) → (told : List T) (w out : W) → LeadsOver Leads told w out → get w ≤ 2 ^ 64 - 1
    → get out ≡ at_most (get w + tally p told)
tallied Leads get p each [] w out led small =
    let none : get w + 0 ≡ get w = omega arith in
    ap get led ∙ sym (min-eq_left {n = get w} {m = 2 ^ 64 - 1} small) ∙ ap at_most (sym none)
tallied Leads get p each (t ∷ told) w out led small =
    let step : get led.0 ≡ (if p t then risen (get w) else get w) = each t w led.0 led.1 in
    let few : get led.0 ≤ 2 ^ 64 - 1 = subst (λ (n : ℕ). n ≤ 2 ^ 64 - 1) (sym step) (bump_small (p t) (get w) small) in
    tallied Leads get p each told led.0 out led.2 few
    ∙ ap (λ (n : ℕ). at_most (n + tally p told)) step
    ∙ bump_one (p t) (get w) (tally p told)

all_pass : {T : Type 0} (told : List T) → tally (λ t. true) told ≡ length told
all_pass [] = refl
all_pass (t ∷ told) = let same : 1 + length told ≡ length (t ∷ told) = omega arith in ap (λ (n : ℕ). 1 + n) (all_pass told) ∙ same

-- the count for a cause, with one more refusal
for_cause : (why c : Cause) (r : Refusals) → count_for why (refused_with c r) ≡ (if is_for why c then risen (count_for why r) else count_for why r)
for_cause cause.NoSuchGrant cause.NoSuchGrant r = refl
for_cause cause.GcStoreFault cause.GcStoreFault r = refl
for_cause cause.NoMemory cause.NoMemory r = refl
for_cause cause.Unsupported cause.Unsupported r = refl
for_cause cause.Limit cause.Limit r = refl
for_cause cause.StacksDisabled cause.StacksDisabled r = refl
for_cause cause.HeapsDisabled cause.HeapsDisabled r = refl
for_cause cause.LimiterDenied cause.LimiterDenied r = refl
for_cause cause.LimiterFault cause.LimiterFault r = refl
for_cause cause.PageFault cause.PageFault r = refl
for_cause cause.HeapFault cause.HeapFault r = refl
for_cause why c r = refl

none_for : (why : Cause) → count_for why no_counts.refusals ≡ 0
none_for cause.NoSuchGrant = refl
none_for cause.GcStoreFault = refl
none_for cause.NoMemory = refl
none_for cause.Unsupported = refl
none_for cause.Limit = refl
none_for cause.StacksDisabled = refl
none_for cause.HeapsDisabled = refl
none_for cause.LimiterDenied = refl
none_for cause.LimiterFault = refl
none_for cause.PageFault = refl
none_for cause.HeapFault = refl

-- the count for a cause, after a reply
for_reply : (why : Cause) (o : Option Reply) (r : Refusals) → count_for why (refused_more o r) ≡ (if refuses_for why o then risen (count_for why r) else count_for why r)
for_reply why None r = refl
for_reply why (Some (reply.Refused refusal)) r = for_cause why (cause_of refusal) r
for_reply why (Some (reply.Instance m t)) r = refl
for_reply why (Some reply.Component) r = refl
for_reply why (Some (reply.Stack s)) r = refl
for_reply why (Some (reply.Heap h m)) r = refl
for_reply why (Some (reply.Bytes b)) r = refl
for_reply why (Some reply.Done) r = refl
for_reply why (Some (reply.Size s)) r = refl
for_reply why (Some (reply.Grown g)) r = refl
for_reply why (Some (reply.Element e)) r = refl
for_reply why (Some reply.Returned) r = refl
for_reply why (Some (reply.Purged n)) r = refl
for_reply why (Some (reply.Released n)) r = refl
for_reply why (Some (reply.Trap t)) r = refl

module _ {P W : Type 0} (input : Input) (get : W → Counts) where
  -- the turns that a watcher was told are counted, where it counts each
  pub counts_turns : (Leads : TurnTold P → W → W → Type 0) → ((t : TurnTold P) (a b : W) → Leads t a b → get b ≡ counted input t (get a)) → (told : List (TurnTold P)) (w out : W) → get w ≡ no_counts → LeadsOver Leads told w out → CountTurns input told (get out)
  counts_turns Leads each told w out none led = record {
    steps =
        let start : (get w).steps ≡ 0 = ap (λ (c : Counts). c.steps) none in
        let all = tallied Leads (λ v. (get v).steps) (λ t. true) (λ t a b leads. ap (λ (c : Counts). c.steps) (each t a b leads)) told w out led (omega (arith, start)) in
        let sum : (get w).steps + tally (λ (t : TurnTold P). true) told ≡ length told = omega (arith, start, all_pass told) in
        all ∙ ap at_most sum;
    requests =
        let start : (get w).requests ≡ 0 = ap (λ (c : Counts). c.requests) none in
        let all = tallied Leads (λ v. (get v).requests) (ends_request input) (λ t a b leads. ap (λ (c : Counts). c.requests) (each t a b leads)) told w out led (omega (arith, start)) in
        let sum : (get w).requests + tally (ends_request input) told ≡ count_by (ends_request input) told = omega (arith, start, tally_counts (ends_request input) told) in
        all ∙ ap at_most sum;
    refusals = λ why.
        let start : count_for why (get w).refusals ≡ 0 = ap (λ (c : Counts). count_for why c.refusals) none ∙ none_for why in
        let each_for : (t : TurnTold P) (a b : W) → Leads t a b → count_for why (get b).refusals ≡ (if refuses_for why t.reply then risen (count_for why (get a).refusals) else count_for why (get a).refusals) = λ t a b leads.
        ap (λ (c : Counts). count_for why c.refusals) (each t a b leads) ∙ for_reply why t.reply (get a).refusals in
        let all = tallied Leads (λ v. count_for why (get v).refusals) (λ t. refuses_for why t.reply) each_for told w out led (omega (arith, start)) in
        let sum : count_for why (get w).refusals + tally (λ (t : TurnTold P). refuses_for why t.reply) told ≡ count_by (λ (t : TurnTold P). refuses_for why t.reply) told = omega (arith, start, tally_counts (λ (t : TurnTold P). refuses_for why t.reply) told) in
        all ∙ ap at_most sum;
  }
