-- Events one after another, and the calls that fail in them.
use Rattle.std.proofs.Common.{◌≡◌, ℕ, ◌+◌, ◌-◌, ◌^◌, ◌<◌, ◌≤◌, Bool, true, false, List, [], ◌∷◌, ◌++◌, length, Option, Some, None, refl, sym, ◌∙◌, subst, arith, ◌==◌, ◌||◌, nat_lt, if◌then◌else◌, IfSome}
use Rattle.pool_run_shared.proofs.Imports.{filter, list_any, nat_tests, places, first_true, second_true, MakerTold, Planned, calls_of, part_of, plan_for, RegionName, MemoryState, next_name, leb-true, Shared}
use Rattle.pool_run_shared.specs.Events.{SharedView, Happens, view_of}
use Rattle.pool_run_shared.specs.Runs.{Happen, IsSharedRun, count_true}
use Rattle.pool_run_shared.specs.Steps.{CountsFault, CountsFaults, IsKept, IsMadeShared, MakesOf, MakesOfAll, calls_made, later, plan_of}
use Rattle.pool_run_shared.specs.Validity.{is_valid_shared, most_events}
use Rattle.pool_run_shared.specs.declared.input.SharedInput.{SharedInput}
use Rattle.pool_run_shared.specs.declared.input.SharedEvent.{SharedEvent}
use Rattle.pool_run_shared.specs.declared.reply.SharedReply.{SharedReply}

-- One more event.
happen_more : (events : List SharedEvent) (event : SharedEvent) (faults : List Bool) (fault : Bool) (replies : List SharedReply) (reply : SharedReply) (v mid end : SharedView) → Happen events faults replies v mid → Happens event fault mid end reply → Happen (events ++ event ∷ []) (faults ++ fault ∷ []) (replies ++ reply ∷ []) v end
happen_more [] event [] fault [] reply v mid end before last =
    let H : SharedView → Type 0 = λ w. Happens event fault w end reply in
    (end, subst H before last, refl)
happen_more [] event [] fault (r ∷ replies) reply v mid end before last = absurd before
happen_more [] event (f ∷ faults) fault replies reply v mid end before last = absurd before
happen_more (e ∷ events) event [] fault replies reply v mid end before last = absurd before
happen_more (e ∷ events) event (f ∷ faults) fault [] reply v mid end before last = absurd before
happen_more (e ∷ events) event (f ∷ faults) fault (r ∷ replies) reply v mid end before last =
    (before.0, before.1, happen_more events event faults fault replies reply before.0 mid end before.2 last)

-- calls that come after more calls are no more
less_by : (a b x : ℕ) (xs : List ℕ) (p q : Bool) → nat_lt b x ≡ p → nat_lt a x ≡ q → a ≤ b → later b xs ≤ later a xs → length (if p then x ∷ filter (λ n. nat_lt b n) xs else filter (λ n. nat_lt b n) xs) ≤ length (if q then x ∷ filter (λ n. nat_lt a n) xs else filter (λ n. nat_lt a n) xs)
less_by a b x xs true true p q le rest = omega (arith, rest)
less_by a b x xs false true p q le rest = omega (arith, rest)
less_by a b x xs false false p q le rest = rest
less_by a b x xs true false p q le rest = absurd (grind (arith, nat_tests, p, q, le))

later_less : (plan : List ℕ) (a b : ℕ) → a ≤ b → later b plan ≤ later a plan
later_less [] a b le = omega arith
later_less (x ∷ xs) a b le = less_by a b x xs (nat_lt b x) (nat_lt a x) refl refl le (later_less xs a b le)

-- the next call is one of those that come after the others
next_here : (a x : ℕ) (xs : List ℕ) (p q : Bool) → nat_lt (a + 1) x ≡ p → nat_lt a x ≡ q → x ≡ a + 1 → length (if p then x ∷ filter (λ n. nat_lt (a + 1) n) xs else filter (λ n. nat_lt (a + 1) n) xs) + 1 ≤ length (if q then x ∷ filter (λ n. nat_lt a n) xs else filter (λ n. nat_lt a n) xs)
next_here a x xs true q p is same = absurd (grind (arith, nat_tests, p, same))
next_here a x xs false true p is same = let rest : later (a + 1) xs ≤ later a xs = later_less xs a (a + 1) (omega arith) in omega (arith, rest)
next_here a x xs false false p is same = absurd (grind (arith, nat_tests, is, same))

next_there : (a x : ℕ) (xs : List ℕ) (p q : Bool) → nat_lt (a + 1) x ≡ p → nat_lt a x ≡ q → later (a + 1) xs + 1 ≤ later a xs → length (if p then x ∷ filter (λ n. nat_lt (a + 1) n) xs else filter (λ n. nat_lt (a + 1) n) xs) + 1 ≤ length (if q then x ∷ filter (λ n. nat_lt a n) xs else filter (λ n. nat_lt a n) xs)
next_there a x xs true true p q rest = omega (arith, rest)
next_there a x xs true false p q rest = absurd (grind (arith, nat_tests, p, q))
next_there a x xs false true p q rest = omega (arith, rest)
next_there a x xs false false p q rest = rest

next_by : (a x : ℕ) (xs : List ℕ) (b : Bool) → (x == a + 1) ≡ b → (b || list_any (λ n. n == a + 1) xs) ≡ true → (list_any (λ n. n == a + 1) xs ≡ true → later (a + 1) xs + 1 ≤ later a xs) → later (a + 1) (x ∷ xs) + 1 ≤ later a (x ∷ xs)
next_by a x xs true here any rest = next_here a x xs (nat_lt (a + 1) x) (nat_lt a x) refl refl (grind (arith, nat_tests, here))
next_by a x xs false here any rest = next_there a x xs (nat_lt (a + 1) x) (nat_lt a x) refl refl (rest any)

later_next : (plan : List ℕ) (a : ℕ) → list_any (λ n. n == a + 1) plan ≡ true → later (a + 1) plan + 1 ≤ later a plan
later_next [] a any = absurd (cc any)
later_next (x ∷ xs) a any = next_by a x xs (x == a + 1) refl any (later_next xs a)

count_more : (faults : List Bool) (fault : Bool) → count_true (faults ++ fault ∷ []) ≡ count_true faults + (if fault then 1 else 0)
count_more [] true = refl
count_more [] false = refl
count_more (true ∷ faults) fault = omega (arith, count_more faults fault)
count_more (false ∷ faults) fault = count_more faults fault

-- The count once one more event happened.
listed_more : (o : Option (List ℕ)) (faults : List Bool) (fault : Bool) (a b c : ℕ) → b < 2 ^ 64 - 1 → (b < 2 ^ 64 → b ≤ c) → (fault ≡ true → b < 2 ^ 64 - 1 → (c ≡ b + 1) × IfSome o (λ plan. list_any (λ n. n == c) plan ≡ true)) → IfSome o (λ plan. count_true faults + later b plan ≤ later a plan) → IfSome o (λ plan. count_true (faults ++ fault ∷ []) + later c plan ≤ later a plan)
listed_more None faults fault a b c small least listed before = tt
listed_more (Some plan) faults true a b c small least listed before =
    let next = listed refl small in
    let P : ℕ → Type 0 = λ k. list_any (λ n. n == k) plan ≡ true in
    let Q : ℕ → Type 0 = λ k. later k plan + 1 ≤ later b plan in
    let less : later c plan + 1 ≤ later b plan = subst Q (sym next.0) (later_next plan b (subst P next.0 next.1)) in
    omega (arith, count_more faults true, less, before)
listed_more (Some plan) faults false a b c small least listed before =
    omega (arith, count_more faults false, later_less plan b c (least (omega (arith, small))), before)

counts_more : (n : ℕ) (faults : List Bool) (fault : Bool) (old mid new : MemoryState) → CountsFaults n faults old mid → CountsFault fault mid new → CountsFaults (n + 1) (faults ++ fault ∷ []) old new
counts_more n faults fault old mid new before last = record {
  plan = last.plan ∙ before.plan;
  most = omega (arith, before.most, last.most);
  listed = λ h.
      let L : Option (List ℕ) → Type 0 = λ o. fault ≡ true → calls_made mid < 2 ^ 64 - 1 → (calls_made new ≡ calls_made mid + 1) × IfSome o (λ plan. list_any (λ n. n == calls_made new) plan ≡ true) in
      listed_more (plan_of old) faults fault (calls_made old) (calls_made mid) (calls_made new) (omega (arith, h, before.most)) last.least (subst L before.plan last.listed) (before.listed (omega (arith, h)));
}

same_listed : (o : Option (List ℕ)) (a : ℕ) → IfSome o (λ plan. count_true [] + later a plan ≤ later a plan)
same_listed None a = tt
same_listed (Some plan) a = omega arith

-- No event has happened, and one more has.
pub none_made : (s : Shared) → IsKept s.memory → MakesOfAll [] s s []
none_made s kept = record {
  faults = [];
  happen = refl;
  counts = record { plan = refl; most = omega arith; listed = λ h. same_listed (plan_of s.memory) (calls_made s.memory) };
  kept = kept;
}

pub one_more : (events : List SharedEvent) (event : SharedEvent) (replies : List SharedReply) (reply : SharedReply) (old mid new : Shared) → MakesOfAll events old mid replies → MakesOf event mid new reply → MakesOfAll (events ++ event ∷ []) old new (replies ++ reply ∷ [])
one_more events event replies reply old mid new before last =
    let N : ℕ → Type 0 = λ n. CountsFaults n (before.faults ++ last.fault ∷ []) old.memory new.memory in
    let longer : length events + 1 ≡ length (events ++ event ∷ []) = grind (arith, places) in
    record {
      faults = before.faults ++ last.fault ∷ [];
      happen = happen_more events event before.faults last.fault replies reply (view_of old) (view_of mid) (view_of new) before.happen last.happens;
      counts = subst N longer (counts_more (length events) before.faults last.fault old.memory mid.memory new.memory before.counts last.counts);
      kept = last.kept;
    }

-- A run to its end, of a memory of whose region at most one call was asked.
most_by : (made x : ℕ) (xs : List ℕ) (b : Bool) → later made xs ≤ length xs → length (if b then x ∷ filter (λ n. nat_lt made n) xs else filter (λ n. nat_lt made n) xs) ≤ length (x ∷ xs)
most_by made x xs true rest = omega (arith, rest)
most_by made x xs false rest = omega (arith, rest)

later_most : (plan : List ℕ) (made : ℕ) → later made plan ≤ length plan
later_most [] made = omega arith
later_most (x ∷ xs) made = most_by made x xs (nat_lt made x) (later_most xs made)

listed_at_end : (o : Option (List ℕ)) (n a b : ℕ) → IfSome o (λ plan. n + later b plan ≤ later a plan) → IfSome o (λ plan. n ≤ length plan)
listed_at_end None n a b is = tt
listed_at_end (Some plan) n a b is = omega (arith, is, later_most plan a)

plan_at_end : (maker : MakerTold) (name : RegionName) (o : Option (List Planned)) (n : ℕ) → IfSome (part_of name o maker.layers) (λ plan. n ≤ length plan) → IfSome o (λ plan. n ≤ length (calls_of name plan))
plan_at_end maker name None n is = tt
plan_at_end maker name (Some plan) n is = is

pub run_made : (input : SharedInput) (maker left : MakerTold) (s end : Shared) (replies : List SharedReply) → is_valid_shared input ≡ true → IsMadeShared input maker left s → MakesOfAll input.events s end replies → IsSharedRun input maker replies
run_made input maker left s end replies valid made makes =
    let H : SharedView → Type 0 = λ v. Happen input.events makes.faults replies v (view_of end) in
    let few : length input.events ≤ most_events = leb-true (length input.events) most_events (first_true _ _ (second_true _ _ valid)) in
    let counted = makes.counts.listed (omega (arith, few, made.calls)) in
    let P : Option (List ℕ) → Type 0 = λ o. IfSome o (λ plan. count_true makes.faults ≤ length plan) in
    let listed : P (plan_for (next_name maker) maker) = subst P made.plan (listed_at_end (plan_of s.memory) (count_true makes.faults) (calls_made s.memory) (calls_made end.memory) counted) in
    record {
      left = left;
      made = made.made;
      faults = makes.faults;
      end = view_of end;
      happen = subst H made.view makes.happen;
      listed = plan_at_end maker (next_name maker) maker.plan (count_true makes.faults) listed;
    }
