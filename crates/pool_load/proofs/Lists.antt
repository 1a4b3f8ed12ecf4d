-- The lists that a load is made of, one item more at a time.
use Rattle.std.proofs.Common.{◌≡◌, ℕ, ◌+◌, ◌*◌, zero, suc, List, [], ◌∷◌, ◌++◌, map, replicate, refl, ap, ◌∙◌, arith, append_assoc}
use Rattle.std.proofs.lemmas.List.{append-nil, map-append}
use Rattle.std.proofs.lemmas.Grind.{flat_map-append}
use Rattle.std.specs.List.{flat_map, range_with_len}
use Rattle.pool_run.specs.declared.command.Command.{Command}
use Rattle.pool_run.specs.declared.command.Command.TheVariants.{Instantiate, Write, Grow, Read, Drop}
use Rattle.pool_load.proofs.Drawing.{draw_more, draws_of_more, no_draw}
use Rattle.pool_load.specs.Draws.{drawn, next_state, number_of, state_after}
use Rattle.pool_load.specs.Load.{load_module, load_parties, load_party, load_schedule, round, rounds}

range_more : (a n : ℕ) → range_with_len a (n + 1) ≡ range_with_len a n ++ (a + n) ∷ []
range_more a zero =
    let same : a ≡ a + 0 = omega arith in
    ap (λ (i : ℕ). i ∷ []) same
range_more a (suc n) =
    let one : suc n + 1 ≡ suc (n + 1) = omega arith in
    let same : (a + 1) + n ≡ a + suc n = omega arith in
    ap (range_with_len a) one
    ∙ ap (λ (ns : List ℕ). a ∷ ns) (range_more (a + 1) n ∙ ap (λ (i : ℕ). range_with_len (a + 1) n ++ i ∷ []) same)

range_from_0 : (n : ℕ) → range_with_len 0 (n + 1) ≡ range_with_len 0 n ++ n ∷ []
range_from_0 n =
    let same : 0 + n ≡ n = omega arith in
    range_more 0 n ∙ ap (λ (i : ℕ). range_with_len 0 n ++ i ∷ []) same

map_range_more : {X : Type 0} (f : ℕ → X) (n : ℕ) → map f (range_with_len 0 (n + 1)) ≡ map f (range_with_len 0 n) ++ f n ∷ []
map_range_more f n = ap (map f) (range_from_0 n) ∙ map-append f (range_with_len 0 n) (n ∷ [])

flat_range_more : {X : Type 0} (f : ℕ → List X) (n : ℕ) → flat_map f (range_with_len 0 (n + 1)) ≡ flat_map f (range_with_len 0 n) ++ f n
flat_range_more {X} f n =
    ap (flat_map f) (range_from_0 n) ∙ flat_map-append f (range_with_len 0 n) (n ∷ [])
    ∙ ap (λ (last : List X). flat_map f (range_with_len 0 n) ++ last) (append-nil (f n))

-- one module more
pub modules_more : (n : ℕ) → map load_module (range_with_len 0 (n + 1)) ≡ map load_module (range_with_len 0 n) ++ load_module n ∷ []
modules_more n = map_range_more load_module n

pub no_rounds : (x : ℕ) → rounds 0 x ≡ []
unfolding rounds
no_rounds x = refl

-- one round more
pub rounds_more : (n x : ℕ) → rounds (n + 1) x ≡ rounds n x ++ round (5 * n) (state_after (5 * n) x)
unfolding rounds
rounds_more n x = flat_range_more (λ r. round (5 * r) (state_after (5 * r) x)) n

pub no_parties : (x : ℕ) → load_parties 0 x ≡ []
unfolding load_parties
no_parties x = refl

-- one party more
pub parties_more : (n x : ℕ) → load_parties (n + 1) x ≡ load_parties n x ++ load_party x n ∷ []
unfolding load_parties
parties_more n x = map_range_more (load_party x) n

pub no_steps : (x : ℕ) → load_schedule 0 x ≡ []
unfolding load_schedule
no_steps x = refl

-- one step more
pub steps_more : (n x : ℕ) → load_schedule (n + 1) x ≡ load_schedule n x ++ (record { party = drawn 8 (n + 1) x; times = 1 }) ∷ []
unfolding load_schedule
steps_more n x = map_range_more (λ i. record { party = drawn 8 (i + 1) x; times = 1 }) n

-- a round is what its five draws give, one command after another
pub round_pushed : (of x s1 s2 s3 s4 s5 m at byte pages from : ℕ) (hex : List ℕ) (c0 c1 c2 c3 c4 c5 : List Command)
    → s1 ≡ next_state x → s2 ≡ next_state s1 → s3 ≡ next_state s2 → s4 ≡ next_state s3 → s5 ≡ next_state s4
    → m ≡ number_of 4 (next_state x) → at ≡ number_of 65000 (next_state s1) → byte ≡ number_of 256 (next_state s2) → pages ≡ number_of 6 (next_state s3) → from ≡ number_of 65000 (next_state s4)
    → hex ≡ replicate 8 byte
    → c1 ≡ c0 ++ Instantiate m ∷ [] → c2 ≡ c1 ++ Write of 0 at hex ∷ [] → c3 ≡ c2 ++ Grow of 0 pages ∷ [] → c4 ≡ c3 ++ Read of 0 from 16 ∷ [] → c5 ≡ c4 ++ Drop of ∷ []
    → c5 ≡ c0 ++ round of x
unfolding round state_after
round_pushed of x s1 s2 s3 s4 s5 m at byte pages from hex c0 c1 c2 c3 c4 c5 d1 d2 d3 d4 d5 n1 n2 n3 n4 n5 h p1 p2 p3 p4 p5 =
    p5 ∙ rw (p4, p3, p2, p1, h, n5, n4, n3, n2, n1, d4, d3, d2, d1) (simp append_assoc)

pub five_draws : (x s1 s2 s3 s4 s5 : ℕ) → s1 ≡ next_state x → s2 ≡ next_state s1 → s3 ≡ next_state s2 → s4 ≡ next_state s3 → s5 ≡ next_state s4 → s5 ≡ state_after 5 x
unfolding state_after
five_draws x s1 s2 s3 s4 s5 d1 d2 d3 d4 d5 = rw (d5, d4, d3, d2, d1) refl

-- what a loop over rounds, parties or steps needs
pub ruleset round_by_round = (no_rounds, no_draw, rounds_more, draws_of_more)

pub ruleset party_by_party = (no_parties, no_draw, parties_more, draws_of_more)

pub ruleset step_by_step = (no_steps, no_draw, steps_more, draw_more)
