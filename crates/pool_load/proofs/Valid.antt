-- The input of a load is valid, and breaks no rule.
use Rattle.std.proofs.Common.{◌≡◌, ℕ, ◌+◌, ◌*◌, ◌<◌, ◌≤◌, zero, suc, List, [], ◌∷◌, ◌++◌, length, map, replicate, true, ◌&&◌, nat_lt, nat_le, Option, Some, None, refl, sym, ap, ◌∙◌, subst, arith}
use Rattle.std.proofs.lemmas.Bool.{and_from, lt-ltb, le-leb}
use Rattle.std.proofs.lemmas.List.{length-append}
use Rattle.std.proofs.lemmas.List.FromFn.{length-range_with_len, length-map-range_with_len}
use Rattle.std.specs.List.{flat_map, list_all, range_with_len, slice_get}
use Rattle.std.specs.Option.{option_map}
use Rattle.pool_types.specs.declared.module_types.ModuleInfo.{ModuleInfo}
use Rattle.pool_run.specs.Acts.{MemoryOp, reads, writes, grows, on_memory, drops, act_of}
use Rattle.pool_run.specs.Built.{broken_rule, is_built}
use Rattle.pool_run.specs.Schedules.{turns_of}
use Rattle.pool_run.specs.Validity.{are_valid_after, are_valid_modules, grants_bytes, has_memory, is_short, is_valid, is_valid_act, is_valid_party, is_valid_schedule, requests_grant, most_commands, most_steps}
use Rattle.pool_run.specs.declared.command.Command.{Command}
use Rattle.pool_run.specs.declared.command.Command.TheVariants.{Instantiate, Write, Grow, Read, Drop}
use Rattle.pool_run.specs.declared.input.ScheduleEntry.{ScheduleEntry}
use Rattle.pool_load.specs.Draws.{drawn, state_after}
use Rattle.pool_load.specs.Load.{load_input, load_module, load_parties, load_party, load_schedule, round, rounds}
use Rattle.pool_load.proofs.Drawing.{below_bound}

abbrev modules : List ModuleInfo
modules = map load_module (range_with_len 0 4)

-- each module has a memory
has_one : (m : ℕ) → m < 4 → has_memory (slice_get modules m) 0 ≡ true
has_one zero below = refl
has_one (suc zero) below = refl
has_one (suc (suc zero)) below = refl
has_one (suc (suc (suc zero))) below = refl
has_one (suc (suc (suc (suc m)))) below = absurd (omega (arith, below))

-- the command behind the earlier ones has their number
there : (es : List Command) (c : Command) → slice_get (es ++ c ∷ []) (length es) ≡ Some c
there [] c = refl
there (e ∷ es) c = there es c

-- a command stays as others follow
stays : (es : List Command) (k : ℕ) (c d : Command) → slice_get es k ≡ Some c → slice_get (es ++ d ∷ []) k ≡ Some c
stays [] k c d is = absurd cc
stays (e ∷ es) zero c d is = is
stays (e ∷ es) (suc k) c d is = stays es k c d is

-- what is done with the memory of an instance is valid
op_valid : (es : List Command) (of m : ℕ) (op : MemoryOp) → m < 4 → slice_get es of ≡ Some (Instantiate m) → is_short op ≡ true → is_valid_act modules es (on_memory of 0 op) ≡ true
op_valid es of m op below named short =
    let P : Option Command → Type 0 = λ o. (is_short op && grants_bytes modules op 0 (option_map act_of o)) ≡ true in
    subst P (sym named) (and_from (is_short op) (has_memory (slice_get modules m) 0) short (has_one m below))

drop_valid : (es : List Command) (of m : ℕ) → slice_get es of ≡ Some (Instantiate m) → is_valid_act modules es (drops of) ≡ true
drop_valid es of m named =
    let P : Option Command → Type 0 = λ o. requests_grant (option_map act_of o) ≡ true in
    subst P (sym named) refl

-- the commands of a round, with what follows
valid_five : (es rest : List Command) (of m at byte pages from : ℕ) → of ≡ length es → m < 4
    → are_valid_after modules (((((es ++ Instantiate m ∷ []) ++ Write of 0 at (replicate 8 byte) ∷ []) ++ Grow of 0 pages ∷ []) ++ Read of 0 from 16 ∷ []) ++ Drop of ∷ []) rest ≡ true
    → are_valid_after modules es (Instantiate m ∷ Write of 0 at (replicate 8 byte) ∷ Grow of 0 pages ∷ Read of 0 from 16 ∷ Drop of ∷ rest) ≡ true
valid_five es rest of m at byte pages from is below last =
    let e1 : List Command = es ++ Instantiate m ∷ [] in
    let e2 : List Command = e1 ++ Write of 0 at (replicate 8 byte) ∷ [] in
    let e3 : List Command = e2 ++ Grow of 0 pages ∷ [] in
    let e4 : List Command = e3 ++ Read of 0 from 16 ∷ [] in
    let n1 : slice_get e1 of ≡ Some (Instantiate m) = ap (slice_get e1) is ∙ there es (Instantiate m) in
    let n2 : slice_get e2 of ≡ Some (Instantiate m) = stays e1 of (Instantiate m) (Write of 0 at (replicate 8 byte)) n1 in
    let n3 : slice_get e3 of ≡ Some (Instantiate m) = stays e2 of (Instantiate m) (Grow of 0 pages) n2 in
    let n4 : slice_get e4 of ≡ Some (Instantiate m) = stays e3 of (Instantiate m) (Read of 0 from 16) n3 in
    and_from _ _ (lt-ltb m 4 below)
    (and_from _ _ (op_valid e1 of m (writes at (replicate 8 byte)) below n1 refl)
    (and_from _ _ (op_valid e2 of m (grows pages) below n2 refl)
    (and_from _ _ (op_valid e3 of m (reads from 16) below n3 refl)
    (and_from _ _ (drop_valid e4 of m n4) last))))

round_valid : (es rest : List Command) (of x : ℕ) → of ≡ length es → ((later : List Command) → length later ≡ length es + 5 → are_valid_after modules later rest ≡ true) → are_valid_after modules es (round of x ++ rest) ≡ true
unfolding round
round_valid es rest of x is last =
    let m : ℕ = drawn 4 1 x in
    let at : ℕ = drawn 65000 2 x in
    let byte : ℕ = drawn 256 3 x in
    let pages : ℕ = drawn 6 4 x in
    let from : ℕ = drawn 65000 5 x in
    let e1 : List Command = es ++ Instantiate m ∷ [] in
    let e2 : List Command = e1 ++ Write of 0 at (replicate 8 byte) ∷ [] in
    let e3 : List Command = e2 ++ Grow of 0 pages ∷ [] in
    let e4 : List Command = e3 ++ Read of 0 from 16 ∷ [] in
    let e5 : List Command = e4 ++ Drop of ∷ [] in
    let long : length e5 ≡ length es + 5 = omega (arith, length-append es (Instantiate m ∷ []), length-append e1 (Write of 0 at (replicate 8 byte) ∷ []), length-append e2 (Grow of 0 pages ∷ []), length-append e3 (Read of 0 from 16 ∷ []), length-append e4 (Drop of ∷ [])) in
    valid_five es rest of m at byte pages from is (below_bound 4 (state_after 1 x) (omega arith)) (last e5 long)

-- the commands of round r of a party
abbrev round_at : ℕ → ℕ → List Command
round_at x r = round (5 * r) (state_after (5 * r) x)

rounds_valid : (x n r : ℕ) (es : List Command) → length es ≡ 5 * r → are_valid_after modules es (flat_map (round_at x) (range_with_len r n)) ≡ true
rounds_valid x zero r es long = refl
rounds_valid x (suc n) r es long =
    round_valid es (flat_map (round_at x) (range_with_len (r + 1) n)) (5 * r) (state_after (5 * r) x) (sym long)
    (λ later is. rounds_valid x n (r + 1) later (omega (arith, is, long)))

round_long : (of x : ℕ) → length (round of x) ≡ 5
unfolding round
round_long of x = refl

rounds_long : (x n r : ℕ) → length (flat_map (round_at x) (range_with_len r n)) ≡ 5 * n
rounds_long x zero r = refl
rounds_long x (suc n) r =
    omega (arith, length-append (round_at x r) (flat_map (round_at x) (range_with_len (r + 1) n)), round_long (5 * r) (state_after (5 * r) x), rounds_long x n (r + 1))

commands_valid : (x : ℕ) → are_valid_after modules [] (rounds 50 x) ≡ true
unfolding rounds
commands_valid x = rounds_valid x 50 0 [] refl

few_commands : (x : ℕ) → nat_le (length (rounds 50 x)) most_commands ≡ true
unfolding rounds
few_commands x = le-leb (length (flat_map (round_at x) (range_with_len 0 50))) most_commands (omega (arith, rounds_long x 50 0))

party_valid : (x p : ℕ) → p < 8 → is_valid_party modules (load_party x p) ≡ true
unfolding load_party
party_valid x p below =
    and_from _ _ (lt-ltb p 65536 (omega (arith, below)))
    (and_from _ _ (few_commands (state_after (250 * p) x)) (commands_valid (state_after (250 * p) x)))

parties_valid : (x n p : ℕ) → p + n ≤ 8 → list_all (is_valid_party modules) (map (load_party x) (range_with_len p n)) ≡ true
parties_valid x zero p below = refl
parties_valid x (suc n) p below =
    and_from _ _ (party_valid x p (omega (arith, below))) (parties_valid x n (p + 1) (omega (arith, below)))

-- an entry that draws a party, for one step
abbrev step_at : ℕ → ℕ → ScheduleEntry
step_at x i = record { party = drawn 8 (i + 1) x; times = 1 }

turns_long : (x : ℕ) (is : List ℕ) → length (turns_of (map (step_at x) is)) ≡ length is
turns_long x [] = refl
turns_long x (i ∷ is) = ap suc (turns_long x is)

entries_valid : (x : ℕ) (is : List ℕ) → list_all (λ (entry : ScheduleEntry). nat_lt entry.party 8) (map (step_at x) is) ≡ true
entries_valid x [] = refl
entries_valid x (i ∷ is) = and_from _ _ (lt-ltb (drawn 8 (i + 1) x) 8 (below_bound 8 (state_after (i + 1) x) (omega arith))) (entries_valid x is)

schedule_valid : (n x : ℕ) → n ≤ most_steps → is_valid_schedule 8 (load_schedule n x) ≡ true
unfolding load_schedule
schedule_valid n x few =
    and_from _ _
    (le-leb (length (turns_of (map (step_at x) (range_with_len 0 n)))) most_steps (omega (arith, turns_long x (range_with_len 0 n), length-range_with_len 0 n, few)))
    (entries_valid x (range_with_len 0 n))

parties_count : (n x : ℕ) → length (load_parties n x) ≡ n
unfolding load_parties
parties_count n x = length-map-range_with_len (load_party x) 0 n

all_parties_valid : (x : ℕ) → list_all (is_valid_party modules) (load_parties 8 x) ≡ true
unfolding load_parties
all_parties_valid x = parties_valid x 8 0 (omega arith)

pub load_valid : (seed : ℕ) → is_valid (load_input seed) ≡ true
unfolding load_input
load_valid seed =
    let count : 8 ≡ length (load_parties 8 seed) = sym (parties_count 8 seed) in
    let S : ℕ → Type 0 = λ n. is_valid_schedule n (load_schedule 20000 (state_after 2000 seed)) ≡ true in
    and_from (are_valid_modules modules) _ refl
    (and_from _ _ (le-leb (length (load_parties 8 seed)) 64 (omega (arith, count)))
    (and_from _ _ (subst S count (schedule_valid 20000 (state_after 2000 seed) (omega arith))) (all_parties_valid seed)))

pub load_built : (seed : ℕ) → is_built (load_input seed) ≡ true
unfolding load_input
load_built seed = refl

pub load_rules : (seed : ℕ) → broken_rule (load_input seed) ≡ None
unfolding load_input lib.Count.ones
load_rules seed = refl

pub ruleset load_accepted = (load_built, load_valid, load_rules)
