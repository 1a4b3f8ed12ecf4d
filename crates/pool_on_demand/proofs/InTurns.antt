-- Things that are allocated one after the other, by a loop.
use Rattle.std.proofs.Common.{◌≡◌, ℕ, ◌+◌, ◌<◌, ◌≤◌, List, [], ◌∷◌, ◌++◌, length, take, drop, get_or, refl, sym, ap, ◌∙◌, subst, inl, inr, arith, Result, Ok, Err}
use Rattle.pool_on_demand.proofs.Imports.{append_assoc, length-take-le, take_more, take-append-drop, take-length, AllocError}
use Rattle.pool_on_demand.specs.InTurn.{InTurn, StopsAtOne}

module _ {D X S : Type 0} (One : ℕ → D → Result X AllocError → S → S → Type 0) where
  -- one more was allocated
  then_one : (k : ℕ) (done : List D) (d : D) (xs : List X) (x : X) (from mid to : S) → InTurn One k done xs from mid → One (k + length done) d (Ok x) mid to → InTurn One k (done ++ d ∷ []) (xs ++ x ∷ []) from to
  then_one k [] d [] x from mid to turn one =
      let first : One k d (Ok x) mid to = subst (λ (n : ℕ). One n d (Ok x) mid to) (omega arith) one in
      (to, (subst (λ (s : S). One k d (Ok x) s to) turn first, refl))
  then_one k [] d (y ∷ ys) x from mid to turn one = absurd turn
  then_one k (c ∷ cs) d [] x from mid to turn one = absurd turn
  then_one k (c ∷ cs) d (y ∷ ys) x from mid to turn one =
      let next : One (k + 1 + length cs) d (Ok x) mid to = subst (λ (n : ℕ). One n d (Ok x) mid to) (omega arith) one in
      (turn.0, (turn.1.0, then_one (k + 1) cs d ys x turn.0 mid to turn.1.1 next))

  -- one was refused
  then_none : (k : ℕ) (done : List D) (d : D) (rest : List D) (xs : List X) (e : AllocError) (from mid to : S) → InTurn One k done xs from mid → One (k + length done) d (Err e) mid to → StopsAtOne One k (done ++ d ∷ rest) e from to
  then_none k [] d rest [] e from mid to turn one =
      let first : One k d (Err e) mid to = subst (λ (n : ℕ). One n d (Err e) mid to) (omega arith) one in
      inl (subst (λ (s : S). One k d (Err e) s to) turn first)
  then_none k [] d rest (y ∷ ys) e from mid to turn one = absurd turn
  then_none k (c ∷ cs) d rest [] e from mid to turn one = absurd turn
  then_none k (c ∷ cs) d rest (y ∷ ys) e from mid to turn one =
      let next : One (k + 1 + length cs) d (Err e) mid to = subst (λ (n : ℕ). One n d (Err e) mid to) (omega arith) one in
      inr (y, (turn.0, (turn.1.0, then_none (k + 1) cs d rest ys e turn.0 mid to turn.1.1 next)))

  length_done : (ds : List D) (n : ℕ) → n < length ds → length (take n ds) ≡ n
  length_done ds n below = length-take-le n ds (omega arith)

  -- a step of the loop
  pub step_on : (ds : List D) (n : ℕ) (d own : D) (xs ys : List X) (x : X) (from mid to : S) → n < length ds → ys ≡ xs ++ x ∷ [] → own ≡ get_or ds n d → InTurn One 0 (take n ds) xs from mid → One n own (Ok x) mid to → InTurn One 0 (take (n + 1) ds) ys from to
  step_on ds n d own xs ys x from mid to below more at_n turn one =
      let count : n ≡ 0 + length (take n ds) = omega (arith, length_done ds n below) in
      let one_there : One (0 + length (take n ds)) (get_or ds n d) (Ok x) mid to = subst (λ (i : ℕ). One i (get_or ds n d) (Ok x) mid to) count (subst (λ (c : D). One n c (Ok x) mid to) at_n one) in
      subst (λ (l : List D). InTurn One 0 l ys from to) (sym (take_more ds n d below))
      (subst (λ (l : List X). InTurn One 0 (take n ds ++ get_or ds n d ∷ []) l from to) (sym more) (then_one 0 (take n ds) (get_or ds n d) xs x from mid to turn one_there))

  -- its end at a refusal
  pub step_off : (ds : List D) (n : ℕ) (d own : D) (xs : List X) (e : AllocError) (from mid to : S) → n < length ds → own ≡ get_or ds n d → InTurn One 0 (take n ds) xs from mid → One n own (Err e) mid to → StopsAtOne One 0 ds e from to
  step_off ds n d own xs e from mid to below at_n turn one =
      let count : n ≡ 0 + length (take n ds) = omega (arith, length_done ds n below) in
      let one_there : One (0 + length (take n ds)) (get_or ds n d) (Err e) mid to = subst (λ (i : ℕ). One i (get_or ds n d) (Err e) mid to) count (subst (λ (c : D). One n c (Err e) mid to) at_n one) in
      let all : take n ds ++ get_or ds n d ∷ drop (n + 1) ds ≡ ds =
      sym (append_assoc (take n ds) (get_or ds n d ∷ []) (drop (n + 1) ds)) ∙ ap (λ (l : List D). l ++ drop (n + 1) ds) (sym (take_more ds n d below)) ∙ take-append-drop (n + 1) ds in
      subst (λ (l : List D). StopsAtOne One 0 l e from to) all (then_none 0 (take n ds) (get_or ds n d) (drop (n + 1) ds) xs e from mid to turn one_there)

  pub step_end : (ds : List D) (n : ℕ) (xs : List X) (from to : S) → length ds ≤ n → n ≤ length ds → InTurn One 0 (take n ds) xs from to → InTurn One 0 ds xs from to
  step_end ds n xs from to past within turn =
      let all : take n ds ≡ ds = ap (λ (i : ℕ). take i ds) {x = n} {y = length ds} (omega arith) ∙ take-length ds in
      subst (λ (l : List D). InTurn One 0 l xs from to) all turn

  -- as many were allocated as there were to be
  pub as_many : (k : ℕ) (ds : List D) (xs : List X) (from to : S) → InTurn One k ds xs from to → length xs ≡ length ds
  as_many k [] [] from to turn = refl
  as_many k [] (x ∷ xs) from to turn = absurd turn
  as_many k (d ∷ ds) [] from to turn = absurd turn
  as_many k (d ∷ ds) (x ∷ xs) from to turn = omega (arith, as_many (k + 1) ds xs turn.0 to turn.1.1)
