-- Steps of parties on demand, one after another: each party has as many replies more as it had steps, up to the number of its
-- commands.
use Rattle.std.proofs.Common.{◌≡◌, ◌≢◌, ℕ, zero, suc, ◌+◌, ◌*◌, ◌<◌, ◌≤◌, Bool, true, false, List, [], ◌∷◌, ◌++◌, length, map, min, replicate, Option, Some, None, inl, inr, refl, sym, ap, ◌∙◌, subst, arith, ◌-◌, ◌==◌, if◌then◌else◌, IfSome, slice_get, slice_index_or, slice_set, sum}
use Rattle.pool_run_on_demand.proofs.Imports.{min-eq_left, min-eq_right, cases_eq, cases_lt, nat_tests, get_or-set_at, get_or-set_other, get_or-map, get_or_append_left, get_or-append-add, length-append, length-set, length-map, length-replicate, sum_by-replicate, get_or-le-sum_by, sum_by-append, sum_by-set, MakerTold, Tunables, IsSameMaker, ModuleAsked, commands_of, replies_to, Terms, PrivateState, with_grants, no_grants, host_for, host_of, Host, World, under, open_host, world_of, commands_in, Command, Input, Party, Reply}
use Rattle.pool_run_on_demand.specs.Faults.{StepsMeeting, ends_before_last, listed_from}
use Rattle.pool_run_on_demand.specs.Left.{Spends, live_left}
use Rattle.pool_run_on_demand.specs.Seen.{number_of, IsCallOnDemand, AreCallsOnDemand, state_seen}
use Rattle.pool_run_on_demand.specs.Runs.{party_terms, parties_left, IsPartyReady, IsPartyOnDemand, IsPartyTurned, ArePartiesOnDemand, HaveStepped, HaveNone, HaveAll, replies_told, replies_due, steps_in, steps_of, steps_given, AreToldOnDemand}
use Rattle.pool_run_on_demand.specs.declared.party.PartyOnDemand.{PartyOnDemand}
use Rattle.pool_run_on_demand.proofs.Refused.{still_same}
use Rattle.pool_run_on_demand.proofs.Reached.{counted_paid}
use Rattle.pool_run_on_demand.proofs.Requests.{same_twice}
use Rattle.pool_run_on_demand.proofs.Spending.{spends_none, spends_then, spends_beside, told_from}

-- a number of replies grows twice, up to a bound
min_twice : (a s r n : ℕ) → min (min (a + s) n + r) n ≡ min (a + (s + r)) n
min_twice a s r n =
    elim (cases_lt n (a + s)) [
      | inl past ↦
          let first : min (a + s) n ≡ n = min-eq_right {n = n} {m = a + s} (omega (arith, past)) in
          ap (λ (k : ℕ). min (k + r) n) first ∙ min-eq_right {n = n} {m = n + r} (omega arith) ∙ sym (min-eq_right {n = n} {m = a + (s + r)} (omega (arith, past)))
      | inr within ↦
          let first : min (a + s) n ≡ a + s = min-eq_left {n = a + s} {m = n} within in
          ap (λ (k : ℕ). min (k + r) n) first ∙ ap (λ (k : ℕ). min k n) {x = a + s + r} {y = a + (s + r)} (omega arith)
    ]

-- what goes past the bound doesn't count
min_full : (a k times n : ℕ) → k ≡ min times (n - a) → min (a + k) n ≡ min (a + times) n
min_full a k times n is =
    elim (cases_lt times (n - a)) [
      | inl under ↦ ap (λ (m : ℕ). min (a + m) n) (is ∙ min-eq_left {n = times} {m = n - a} (omega (arith, under)))
      | inr over ↦
          let most : k ≡ n - a = is ∙ min-eq_right {n = n - a} {m = times} over in
          min-eq_right {n = n} {m = a + k} (omega (arith, most)) ∙ sym (min-eq_right {n = n} {m = a + times} (omega (arith, over)))
    ]

-- the steps of one party, one more and none
steps_more : (i k j : ℕ) → steps_of i k j + steps_of i 1 j ≡ steps_of i (k + 1) j
steps_more i k j = by_test (i == j)
  where
    by_test : (b : Bool) → (if b then k else 0) + (if b then 1 else 0) ≡ (if b then k + 1 else 0)
    by_test true = refl
    by_test false = refl

pub steps_none : (i j : ℕ) → steps_of i 0 j ≡ 0
steps_none i j = by_test (i == j)
  where
    by_test : (b : Bool) → ◌≡◌ {A = ℕ} (if b then 0 else 0) 0
    by_test true = refl
    by_test false = refl

steps_own : (i k j : ℕ) → j ≡ i → steps_of i k j ≡ k
steps_own i k j same = let is : (i == j) ≡ true = grind (arith, nat_tests, same) in ap (λ (b : Bool). if b then k else 0) is

steps_other : (i k j : ℕ) → j ≢ i → steps_of i k j ≡ 0
steps_other i k j other = let is : (i == j) ≡ false = grind (arith, nat_tests, other) in ap (λ (b : Bool). if b then k else 0) is

-- a place that is there reads the same by any default
get_or-any : {X : Type 0} (xs : List X) (i : ℕ) (d e : X) → i < length xs → slice_index_or xs i d ≡ slice_index_or xs i e
get_or-any [] i d e below = absurd (omega (arith, below))
get_or-any (x ∷ xs) zero d e below = refl
get_or-any (x ∷ xs) (suc i) d e below = get_or-any xs i d e (omega (arith, below))

-- the calls are the same for each host
pub calls_under : (host : Host) (w : World) (tunables : Tunables) (calls : List ModuleAsked) → AreCallsOnDemand w.terms tunables calls → AreCallsOnDemand (under host w).terms tunables calls
calls_under host w tunables calls are = record { settings = are.settings; each = λ number. call_under number (slice_get calls number) (are.each number) }
  where
    call_under : (number : ℕ) (o : Option ModuleAsked) → IfSome o (λ call. (number_of call ≡ number) × IsCallOnDemand w.terms tunables call) → IfSome o (λ call. (number_of call ≡ number) × IsCallOnDemand (under host w).terms tunables call)
    call_under number None is = tt
    call_under number (Some call) is = (is.0, record { settings = is.1.settings; info = is.1.info; images = is.1.images; usable = is.1.usable })

-- those of turns, with so many of one party more
pub steps_added : (turns : List ℕ) (i k j : ℕ) → steps_in (turns ++ replicate k i) j ≡ steps_in turns j + steps_of i k j
steps_added turns i k j =
    let One : ℕ → ℕ = λ party. if party == j then 1 else 0 in
    sum_by-append One turns (replicate k i) ∙ ap (λ (n : ℕ). steps_in turns j + n) (sum_by-replicate One k i ∙ by_test (i == j))
  where
    by_test : (b : Bool) → k * (if b then 1 else 0) ≡ (if b then k else 0)
    by_test true = omega arith
    by_test false = omega arith

-- parties, and the commands of one
abbrev Parties : Type 0 → Type 0 → Type 0
Parties M P = List (PartyOnDemand M P)

abbrev commands_at : Input → ℕ → List Command
commands_at input i = commands_of (commands_in input.parties) i

-- the host of a party is that of its number
pub hosted : (input : Input) (w : World) (i : ℕ) (d : Party) → w.hosts ≡ map host_for input.parties → i < length input.parties → (party_terms w i).host ≡ host_for (slice_index_or input.parties i d)
hosted input w i d hosts below = ap (λ (hs : List Host). slice_index_or hs i open_host) hosts ∙ get_or-map host_for input.parties i d open_host below

module _ {M P : Type 0} (input : Input) where
  pub stepped_then : (s r : ℕ → ℕ) (old mid new : Parties M P) → HaveStepped input s old mid → HaveStepped input r mid new → HaveStepped input (λ j. s j + r j) old new
  stepped_then s r old mid new first second i d below =
      second i d below ∙ ap (λ (k : ℕ). min (k + r i) (length (commands_at input i))) (first i d below) ∙ min_twice (replies_told old i d) (s i) (r i) (length (commands_at input i))

  pub stepped_same : (s r : ℕ → ℕ) (old new : Parties M P) → ((j : ℕ) → s j ≡ r j) → HaveStepped input s old new → HaveStepped input r old new
  stepped_same s r old new same is i d below = is i d below ∙ ap (λ (k : ℕ). min (replies_told old i d + k) (length (commands_at input i))) (same i)

  module _ (w : World) where
    abbrev Are : MakerTold → Parties M P → Type 0
    Are now parties = ArePartiesOnDemand w input now parties

    -- party i, which met so many faults
    abbrev IsAt : ℕ → ℕ → PartyOnDemand M P → Type 0
    IsAt i met p = IsPartyOnDemand (party_terms w i) w.maker (commands_at input i) met p

    few : (now : MakerTold) (parties : Parties M P) → Are now parties → (i : ℕ) (d : PartyOnDemand M P) → i < length input.parties → replies_told parties i d ≤ length (commands_at input i)
    few now parties are i d below = (are.each i d below).ready.told

    -- no step changes nothing
    pub stepped_none : (now : MakerTold) (s : ℕ → ℕ) (parties : Parties M P) → Are now parties → ((j : ℕ) → s j ≡ 0) → HaveStepped input s parties parties
    stepped_none now s parties are none i d below =
        sym (min-eq_left {n = replies_told parties i d} {m = length (commands_at input i)} (few now parties are i d below)) ∙ ap (λ (k : ℕ). min k (length (commands_at input i))) {x = replies_told parties i d} {y = replies_told parties i d + s i} (omega (arith, none i))

    -- a step of party i, which has these commands
    module _ (now : MakerTold) (parties : Parties M P) (are : Are now parties) (i : ℕ) (p : PartyOnDemand M P) (commands : List Command) (inside : i < length input.parties) (here : p ≡ slice_index_or parties i p) (same : commands ≡ commands_at input i) where
      abbrev met_so_far : ℕ
      met_so_far = slice_index_or are.met i 0

      is_there : IsAt i met_so_far p
      is_there = subst (IsAt i met_so_far) (sym here) (are.each i p inside)

      -- by its own host it is as by that of its number
      abbrev own_terms : Terms
      own_terms = (under (host_of p.limits p.store.failing p.heaps.failing) w).terms

      terms_same : party_terms w i ≡ own_terms
      terms_same = ap (λ (h : Host). (under h w).terms) is_there.ready.host

      step_party : IsPartyOnDemand own_terms w.maker commands met_so_far p
      step_party =
          let Is : List Command → Type 0 = λ cs. IsPartyOnDemand own_terms w.maker cs met_so_far p in
          subst Is (sym same) (subst (λ (t : Terms). IsPartyOnDemand t w.maker (commands_at input i) met_so_far p) terms_same is_there)

      pub step_ready : IsPartyReady own_terms commands p
      step_ready = step_party.ready

      -- what it leaves
      module _ (after : MakerTold) (q : PartyOnDemand M P) where
        abbrev turned : Parties M P
        turned = slice_set parties i q

        there : (j : ℕ) (d : PartyOnDemand M P) → j ≡ i → slice_index_or turned j d ≡ q
        there j d is = get_or-set_at parties i j q d is (omega (arith, inside, are.count))

        abbrev left : PartyOnDemand M P → ℕ
        left x = live_left x.live.items

        left_here : left (slice_index_or parties i p) ≡ left p
        left_here = ap left (sym here)

        left_turned : parties_left turned + left p ≡ parties_left parties + left q
        left_turned = let all = sum_by-set left parties i q p (omega (arith, inside, are.count)) in omega (arith, all, left_here)

        left_within : left p ≤ parties_left parties
        left_within = let all = get_or-le-sum_by left parties i p (omega (arith, inside, are.count)) in omega (arith, all, left_here)

        -- the plan pays for what this party met too
        spent_turned : (more : ℕ) → Spends now after more (left p) (left q) → Spends w.maker after (sum are.met + more) 0 (parties_left turned)
        spent_turned more paid =
            let rest : ℕ = parties_left parties - left p in
            let before : rest + left p ≡ parties_left parties = omega (arith, left_within) in
            let behind : rest + left q ≡ parties_left turned = omega (arith, left_within, left_turned) in
            let Before : ℕ → Type 0 = λ n. Spends now after more n (rest + left q) in
            let Behind : ℕ → Type 0 = λ n. Spends now after more (parties_left parties) n in
            spends_then w.maker now after (sum are.met) more 0 (parties_left parties) (parties_left turned) (ap (λ (m : MakerTold). m.plan) are.maker.same) are.spent
            (subst Behind behind (subst Before before (spends_beside now after more (left p) (left q) rest paid)))

        are_turned : IsSameMaker now after → IsPartyTurned (party_terms w i) w.maker (commands_at input i) met_so_far now after p q → Are after turned
        are_turned still is =
            let met : List ℕ = slice_set are.met i (met_so_far + is.more) in
            let listed : i < length are.met = omega (arith, inside, are.numbered) in
            let Spent : ℕ → Type 0 = λ n. Spends w.maker after n 0 (parties_left turned) in
            let counted = sum_by-set (λ (n : ℕ). n) are.met i (met_so_far + is.more) 0 listed in
            let all : sum are.met + is.more ≡ sum met = omega (arith, counted) in
            record {
              count = length-set parties i q ∙ are.count;
              met = met;
              numbered = length-set are.met i (met_so_far + is.more) ∙ are.numbered;
              each = λ j d below.
                  let Is : PartyOnDemand M P → Type 0 = IsAt j (slice_index_or met j 0) in
                  elim (cases_eq j i) [
                    | inl own ↦
                        let At : ℕ → Type 0 = λ k. IsAt k (met_so_far + is.more) q in
                        let reads : slice_index_or met j 0 ≡ met_so_far + is.more = get_or-set_at are.met i j (met_so_far + is.more) 0 own listed in
                        subst Is (sym (there j d own)) (subst (λ (n : ℕ). IsAt j n q) (sym reads) (subst At (sym own) is.party))
                    | inr other ↦
                        subst Is (sym (get_or-set_other parties i j q d other)) (subst (λ (n : ℕ). IsAt j n (slice_index_or parties j d)) (sym (get_or-set_other are.met i j (met_so_far + is.more) 0 other)) (are.each j d below))
                  ];
              maker = same_twice w.maker now after are.maker still;
              spent = subst Spent all (spent_turned is.more is.spent);
            }

        pub step_are : IsSameMaker now after → ((s : MakerTold) (met : ℕ) → now.plan ≡ s.plan → IsPartyOnDemand own_terms s commands met p → IsPartyTurned own_terms s commands met now after p q) → Are after turned
        step_are still clause =
            let Is : List Command → Type 0 = λ cs. IsPartyTurned own_terms w.maker cs met_so_far now after p q in
            are_turned still
            (subst (λ (t : Terms). IsPartyTurned t w.maker (commands_at input i) met_so_far now after p q) (sym terms_same) (subst Is same (clause w.maker met_so_far (ap (λ (m : MakerTold). m.plan) are.maker.same) step_party)))

        one_stepped : ((d : PartyOnDemand M P) → length q.told.items ≡ min (replies_told parties i d + 1) (length (commands_at input i))) → HaveStepped input (steps_of i 1) parties turned
        one_stepped told j d below =
            elim (cases_eq j i) [
              | inl own ↦
                  let At : ℕ → ℕ → Type 0 = λ k n. length q.told.items ≡ min (replies_told parties k d + n) (length (commands_at input k)) in
                  ap (λ (x : PartyOnDemand M P). length x.told.items) (there j d own) ∙ subst (At j) (sym (steps_own i 1 j own)) (subst (λ (k : ℕ). At k 1) (sym own) (told d))
              | inr other ↦
                  ap (λ (x : PartyOnDemand M P). length x.told.items) (get_or-set_other parties i j q d other) ∙ stepped_none now (λ k. 0) parties are (λ k. refl) j d below ∙ ap (λ (k : ℕ). min (replies_told parties j d + k) (length (commands_at input j))) (sym (steps_other i 1 j other))
            ]

        step_told : length q.told.items ≡ min (length p.told.items + 1) (length commands) → (d : PartyOnDemand M P) → length q.told.items ≡ min (replies_told parties i d + 1) (length (commands_at input i))
        step_told is d =
            let one : p ≡ slice_index_or parties i d = here ∙ get_or-any parties i p d (omega (arith, inside, are.count)) in
            is ∙ ap (λ (x : PartyOnDemand M P). min (length x.told.items + 1) (length commands)) one ∙ ap (λ (cs : List Command). min (replies_told parties i d + 1) (length cs)) same

        pub step_stepped : length q.told.items ≡ min (length p.told.items + 1) (length commands) → HaveStepped input (steps_of i 1) parties turned
        step_stepped is = one_stepped (step_told is)

  -- one more step of a party, of which so many were made
  pub repeated : (i k : ℕ) (old mid new : Parties M P) → HaveStepped input (steps_of i k) old mid → HaveStepped input (steps_of i 1) mid new → HaveStepped input (steps_of i (k + 1)) old new
  repeated i k old mid new first second = stepped_same (λ j. steps_of i k j + steps_of i 1 j) (steps_of i (k + 1)) old new (steps_more i k) (stepped_then (steps_of i k) (steps_of i 1) old mid new first second)

  -- as many as it has commands left are as good as all of its steps
  pub stepped_all : (i k times : ℕ) (p : PartyOnDemand M P) (old new : Parties M P) → i < length old → p ≡ slice_index_or old i p → k ≡ min times (length (commands_at input i) - length p.told.items) → HaveStepped input (steps_of i k) old new → HaveStepped input (steps_of i times) old new
  stepped_all i k times p old new inside here few stepped j d below =
      let n : ℕ = length (commands_at input j) in
      let More : ℕ → ℕ = λ m. min (replies_told old j d + m) n in
      stepped j d below
      ∙ elim (cases_eq j i) [
        | inl own ↦
            let told : replies_told old j d ≡ length p.told.items = ap (λ (m : ℕ). replies_told old m d) own ∙ ap (λ (x : PartyOnDemand M P). length x.told.items) (get_or-any old i d p inside ∙ sym here) in
            let most : n ≡ length (commands_at input i) = ap (λ (m : ℕ). length (commands_at input m)) own in
            let is : k ≡ min times (n - replies_told old j d) = few ∙ sym (λ x. min times (most x - told x)) in
            ap More (steps_own i k j own) ∙ min_full (replies_told old j d) k times n is ∙ sym (ap More (steps_own i times j own))
        | inr other ↦ ap More (steps_other i k j other ∙ sym (steps_other i times j other))
      ]

  -- the steps of one more entry
  pub followed : (turns more : List ℕ) (i k : ℕ) (old mid new : Parties M P) → turns ++ replicate k i ≡ more → HaveStepped input (steps_in turns) old mid → HaveStepped input (steps_of i k) mid new → HaveStepped input (steps_in more) old new
  followed turns more i k old mid new all first second =
      stepped_same (λ j. steps_in turns j + steps_of i k j) (steps_in more) old new (λ j. sym (steps_added turns i k j) ∙ ap (λ (ts : List ℕ). steps_in ts j) all) (stepped_then (steps_in turns) (steps_of i k) old mid new first second)

  -- all steps of one more party
  pub finished : (i : ℕ) (mid new : Parties M P) → i < length input.parties → HaveAll input i mid → HaveStepped input (steps_of i (length (commands_at input i))) mid new → HaveAll input (i + 1) new
  finished i mid new inside all stepped j d below =
      let n : ℕ = length (commands_at input j) in
      let there : j < length input.parties = omega (arith, below, inside) in
      elim (cases_eq j i) [
        | inl same ↦
            let own : steps_of i (length (commands_at input i)) j ≡ n = steps_own i (length (commands_at input i)) j same ∙ ap (λ (k : ℕ). length (commands_at input k)) (sym same) in
            stepped j d there ∙ ap (λ (k : ℕ). min (replies_told mid j d + k) n) own ∙ min-eq_right {n = n} {m = replies_told mid j d + n} (omega arith)
        | inr other ↦
            let before : replies_told mid j d ≡ n = all j d (below_other below other) in
            stepped j d there ∙ ap (λ (k : ℕ). min (k + steps_of i (length (commands_at input i)) j) n) before ∙ min-eq_right {n = n} {m = n + steps_of i (length (commands_at input i)) j} (omega arith)
      ]
    where
      below_other : j < i + 1 → j ≢ i → j < i
      below_other less other = elim (cases_lt j i) [
        | inl is ↦ is
        | inr past ↦ absurd (other (omega (arith, less, past)))
      ]

  -- The first so many parties as they are made.
  pub record AreBegun (w : World) (count : ℕ) (parties : Parties M P) : Type 0 where
    pub long : length parties ≡ count
    pub each : (i : ℕ) (d : PartyOnDemand M P) → i < count → IsPartyOnDemand (party_terms w i) w.maker (commands_at input i) 0 (slice_index_or parties i d) × (replies_told parties i d ≡ 0)
    pub left : parties_left parties ≡ 0

  module _ (w : World) where
    pub begun_more : (count : ℕ) (parties : Parties M P) (q : PartyOnDemand M P) → AreBegun w count parties → IsPartyOnDemand (party_terms w count) w.maker (commands_at input count) 0 q → length q.told.items ≡ 0 → live_left q.live.items ≡ 0 → AreBegun w (count + 1) (parties ++ q ∷ [])
    begun_more count parties q are is none spare = record {
      long = length-append parties (q ∷ []) ∙ ap (λ (n : ℕ). n + 1) are.long;
      each = λ i d below.
          let Is : PartyOnDemand M P → Type 0 = λ p. IsPartyOnDemand (party_terms w i) w.maker (commands_at input i) 0 p × (length p.told.items ≡ 0) in
          elim (cases_lt i count) [
            | inl less ↦ subst Is (sym (get_or_append_left parties (q ∷ []) d i (omega (arith, less, are.long)))) (are.each i d less)
            | inr past ↦
                let last : i ≡ length parties + 0 = omega (arith, past, below, are.long) in
                let At : ℕ → Type 0 = λ k. IsPartyOnDemand (party_terms w k) w.maker (commands_at input k) 0 q × (length q.told.items ≡ 0) in
                let same : count ≡ i = omega (arith, past, below) in
                subst Is (sym (ap (λ (k : ℕ). slice_index_or (parties ++ q ∷ []) k d) last ∙ get_or-append-add parties (q ∷ []) 0 d)) (subst At same (is, none))
          ];
      left =
          let all = sum_by-append (λ (p : PartyOnDemand M P). live_left p.live.items) parties (q ∷ []) in
          let one : parties_left (q ∷ []) ≡ 0 = omega (arith, spare) in
          omega (arith, all, one, are.left);
    }

    -- none of them met a fault
    pub begun_are : (count : ℕ) (parties : Parties M P) → AreBegun w count parties → count ≡ length input.parties → ArePartiesOnDemand w input w.maker parties
    begun_are count parties are all =
        let met : List ℕ = replicate (length input.parties) 0 in
        let Spent : ℕ → ℕ → Type 0 = λ k n. Spends w.maker w.maker k 0 n in
        let none : sum met ≡ 0 = sum_by-replicate (λ (n : ℕ). n) (length input.parties) 0 ∙ omega arith in
        record {
          count = are.long ∙ all;
          met = met;
          numbered = length-replicate (length input.parties) 0;
          each = λ i d below.
              let Is : ℕ → Type 0 = λ k. IsPartyOnDemand (party_terms w i) w.maker (commands_at input i) k (slice_index_or parties i d) in
              subst Is (sym (zero_at (length input.parties) i)) (are.each i d (omega (arith, below, all))).0;
          maker = still_same w.maker;
          spent = subst (λ (k : ℕ). Spent k (parties_left parties)) (sym none) (subst (Spent 0) (sym are.left) (spends_none w.maker 0));
        }
      where
        zero_at : (n i : ℕ) → slice_index_or {A = ℕ} (replicate n 0) i 0 ≡ 0
        zero_at zero i = refl
        zero_at (suc n) zero = refl
        zero_at (suc n) (suc i) = zero_at n i

    pub begun_told : (count : ℕ) (parties : Parties M P) → AreBegun w count parties → count ≡ length input.parties → HaveNone input parties
    begun_told count parties are all i d below = (are.each i d (omega (arith, below, all))).1

  -- What the parties were told at the end.
  module _ (maker now : MakerTold) (own : ends_before_last maker.listed ≡ true) (parties : Parties M P) (are : ArePartiesOnDemand (world_of input maker) input now parties) where
    abbrev replies_of : List (List Reply)
    replies_of = map (λ p. p.told.items) parties

    told_at : (i : ℕ) (d : PartyOnDemand M P) → i < length input.parties → replies_to i replies_of ≡ (slice_index_or parties i d).told.items
    told_at i d below = get_or-map (λ (p : PartyOnDemand M P). p.told.items) parties i d [] (omega (arith, below, are.count))

    some_party : (i : ℕ) → i < length input.parties → PartyOnDemand M P
    some_party i below = first parties (omega (arith, below, are.count))
      where
        first : (ps : Parties M P) → 0 < length ps → PartyOnDemand M P
        first [] some = absurd (omega (arith, some))
        first (p ∷ ps) some = p

    pub are_told : (i_due : (i : ℕ) (d : PartyOnDemand M P) → i < length input.parties → replies_told parties i d ≡ replies_due input.finish (steps_given input i) (length (commands_at input i))) → AreToldOnDemand input maker replies_of
    are_told i_due = record {
      count = length-map parties (λ (p : PartyOnDemand M P). p.told.items) ∙ are.count;
      met = are.met;
      numbered = are.numbered;
      told = λ i below.
          let d = some_party i below in
          let p : PartyOnDemand M P = slice_index_or parties i d in
          let t : Terms = party_terms (world_of input maker) i in
          let end : PrivateState = state_seen t.tells p.live.items p.store p.heaps in
          let Run : List Reply → Type 0 = λ replies. StepsMeeting t 0 (commands_at input i) replies (with_grants (no_grants (commands_at input i))) (slice_index_or are.met i 0) end in
          (end, subst Run (sym (told_at i d below)) (are.each i d below).run);
      few = told_from maker.plan _ _ (λ plan paid counted. counted_paid maker plan (sum are.met) (parties_left parties) (listed_from now.next plan) own paid counted) are.spent;
      due = λ i below. let d = some_party i below in ap (λ (replies : List Reply). length replies) (told_at i d below) ∙ i_due i d below;
    }

    -- with `finish` each command is made, and without as many as there are steps
    pub due_by : (finish : Bool) (begun : Parties M P) → HaveNone input begun → (finish ≡ true → HaveAll input (length input.parties) parties) → (finish ≡ false → HaveStepped input (steps_given input) begun parties) → (i : ℕ) (d : PartyOnDemand M P) → i < length input.parties → replies_told parties i d ≡ replies_due finish (steps_given input i) (length (commands_at input i))
    due_by true begun none all stepped i d below = all refl i d below
    due_by false begun none all stepped i d below =
        stepped refl i d below ∙ ap (λ (k : ℕ). min (k + steps_given input i) (length (commands_at input i))) (none i d below)
        ∙ ap (λ (k : ℕ). min k (length (commands_at input i))) {x = 0 + steps_given input i} {y = steps_given input i} (omega arith)

-- What holds once the steps of the schedule are made, and with `finish` those that were left.
pub record IsAtEnd {M P : Type 0} (w : World) (input : Input) (begun parties : List (PartyOnDemand M P)) : Type 0 where
  pub now : MakerTold
  pub are : ArePartiesOnDemand w input now parties
  pub all : input.finish ≡ true → HaveAll input (length input.parties) parties
  pub stepped : input.finish ≡ false → HaveStepped input (steps_given input) begun parties

pub told_at_end : {M P : Type 0} (input : Input) (maker : MakerTold) → ends_before_last maker.listed ≡ true → (begun parties : List (PartyOnDemand M P)) → HaveNone input begun → IsAtEnd (world_of input maker) input begun parties → AreToldOnDemand input maker (map (λ p. p.told.items) parties)
told_at_end input maker own begun parties none end = are_told input maker end.now own parties end.are (due_by input maker end.now own parties end.are input.finish begun none end.all end.stepped)
