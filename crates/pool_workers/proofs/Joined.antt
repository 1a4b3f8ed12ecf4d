-- One party more is joined.
use Rattle.std.proofs.Common.{◌≡◌, ◌⊎◌, inl, inr, ℕ, zero, suc, ◌+◌, ◌<◌, ◌≤◌, ◌++◌, List, [], ◌∷◌, length, refl, sym, ap, subst, ◌∙◌, arith, slice_index_or}
use Rattle.std.proofs.lemmas.Bool.{cases_lt}
use Rattle.std.proofs.lemmas.List.{get_or_append_left, length-append}
use Rattle.pool_pages.specs.MakerTold.{MakerTold}
use Rattle.pool_hall.specs.Sum.{often, total}
use Rattle.pool_hall.specs.Tally.{additions, low_additions, number}
use Rattle.pool_hall.specs.declared.hall.Hall.{Hall}
use Rattle.pool_hall.specs.declared.view.View.{View}
use Rattle.pool_slots.specs.Plans.{shard_tried}
use Rattle.pool_slots.specs.declared.listed_heaps.PlainHeap.{PlainHeap}
use Rattle.pool_slots.specs.declared.plan.Plan.{Plan}
use Rattle.pool_alloc.specs.StepReads.{allocator_of}
use Rattle.pool_driver.specs.Spending.{cold_rise}
use Rattle.pool_driver.specs.Telling.{component_counter, instance_counter}
use Rattle.pool_driver.specs.declared.part.HallPart.{HallPart}
use Rattle.pool_driver.specs.declared.shared_pool.SharedPool.{SharedPool}
use Rattle.pool_run.specs.declared.command.Command.{Command}
use Rattle.pool_run.specs.declared.input.Party.{Party}
use Rattle.pool_run.specs.declared.reply.Reply.{Reply}
use Rattle.pool_threads.specs.Asked.{Scarce, slots, instances, components, asked, faulted}
use Rattle.pool_threads.specs.Noted.{HasNotedCell, memory_faults, spent}
use Rattle.pool_threads.specs.Sharing.{no_party, party_in}
use Rattle.pool_workers.specs.Joined.{HasRun, IsJoined, Joins, Shared, faulted_of_all, over_all}

all_none : (f : List Command → List Reply → ℕ) (parties : List Party) → over_all f parties [] ≡ 0
all_none f [] = refl
all_none f (p ∷ ps) = refl

-- what it comes to with the replies of one party more
one_party : (f : List Command → List Reply → ℕ) (parties : List Party) (replies : List (List Reply)) (told : List Reply) → length replies < length parties → over_all f parties (replies ++ told ∷ []) ≡ over_all f parties replies + f (slice_index_or parties (length replies) no_party).commands told
one_party f [] replies told below = absurd (omega (arith, below))
one_party f (p ∷ ps) [] told below = omega (arith, all_none f ps)
one_party f (p ∷ ps) (r ∷ rs) told below = omega (arith, one_party f ps rs told (omega (arith, below)))

last_of : {X : Type 0} (xs : List X) (x d : X) → slice_index_or (xs ++ x ∷ []) (length xs) d ≡ x
last_of [] x d = refl
last_of (y ∷ ys) x d = last_of ys x d

module _ {P M T : Type 0} (told : M → MakerTold) (all : Shared) (pool : SharedPool (Hall (HallPart P PlainHeap M))) where
  -- What is so of a party stays so as its seat forgets nothing.
  still_ran : (v w : View T) (i : ℕ) (replies : List Reply) → ((q : ℕ) → often q v.topped ≤ often q w.topped) → ((c : ℕ) → number (additions c) v + number (low_additions c) w ≤ number (additions c) w + number (low_additions c) v) → HasRun told all pool v i replies → HasRun told all pool w i replies
  still_ran v w i replies noted over ran = record {
    stripe = ran.stripe;
    inside = ran.inside;
    run = ran.run;
    whole = ran.whole;
    growths = ran.growths;
    full = λ kind some' j below. omega (arith, ran.full kind some' j below, noted (shard_tried (allocator_of pool.plan kind ran.stripe) (party_in all.input i).home j));
    over_instances = λ some'. omega (arith, ran.over_instances some', over instance_counter);
    over_components = λ some'. omega (arith, ran.over_components some', over component_counter);
  }

  cell_still : (v w : View T) → ((q : ℕ) → often q v.topped ≤ often q w.topped) → HasNotedCell pool.plan v → HasNotedCell pool.plan w
  cell_still v w noted is = record { slot = is.slot; kind = is.kind; place = is.place; cell = is.cell; noted = omega (arith, is.noted, noted is.place) }

  faults_more : (v w : View T) (m n : ℕ) → ((q : ℕ) → often q v.topped ≤ often q w.topped) → (m ≤ memory_faults pool.plan v) ⊎ HasNotedCell pool.plan v → (memory_faults pool.plan v + n ≤ memory_faults pool.plan w) ⊎ HasNotedCell pool.plan w → (m + n ≤ memory_faults pool.plan w) ⊎ HasNotedCell pool.plan w
  faults_more v w m n noted (inr one) two = inr (cell_still v w noted one)
  faults_more v w m n noted (inl one) (inr two) = inr two
  faults_more v w m n noted (inl one) (inl two) = inl (omega (arith, one, two))

  -- Nothing is joined yet.
  pub none_joined : (v : View T) → v.units ≡ [] → v.rises ≡ [] → v.added ≡ [] → v.low ≡ [] → v.subtracted ≡ [] → IsJoined told all pool v []
  none_joined v units rises added low subtracted = record {
    units = units;
    even = λ c some' below. ap (often c) (added ∙ sym subtracted);
    lower = λ c. omega (arith, ap (often c) (low ∙ sym added));
    within = λ k. none_spent k;
    each = λ i below. absurd (omega (arith, below));
    faults = inl (omega (arith, all_none faulted all.input.parties));
  }
    where
      none_spent : (k : Scarce) → spent pool.plan k v ≤ over_all (asked k all.modules) all.input.parties []
      none_spent (slots kind) = omega (arith, ap (total (cold_rise pool.plan kind)) rises)
      none_spent instances = omega (arith, ap (often instance_counter) low)
      none_spent components = omega (arith, ap (often component_counter) low)

  -- One party more.
  pub one_joined : (v w : View T) (before : List (List Reply)) (replies : List Reply) (n : ℕ) → length before ≡ n → n < length all.input.parties → IsJoined told all pool v before → Joins told all pool v w n replies → IsJoined told all pool w (before ++ replies ∷ [])
  one_joined v w before replies n count below so_far joins =
      let here : length before < length all.input.parties = omega (arith, count, below) in
      let more : (f : List Command → List Reply → ℕ) → over_all f all.input.parties (before ++ replies ∷ []) ≡ over_all f all.input.parties before + f (slice_index_or all.input.parties n no_party).commands replies =
      λ f. one_party f all.input.parties before replies here ∙ ap (λ (m : ℕ). over_all f all.input.parties before + f (slice_index_or all.input.parties m no_party).commands replies) count in
      record {
        units = joins.units;
        even = joins.even;
        lower = λ c. omega (arith, so_far.lower c, joins.over c);
        within = λ k. omega (arith, so_far.within k, joins.within k, more (asked k all.modules));
        each = λ i inside.
            elim (cases_lt i n) [
              | inl earlier ↦ subst (λ (r : List Reply). HasRun told all pool w i r) (sym (get_or_append_left before (replies ∷ []) [] i (omega (arith, earlier, count)))) (still_ran v w i (slice_index_or before i []) joins.noted joins.over (so_far.each i (omega (arith, earlier, count))))
              | inr last ↦
                  let is : n ≡ i = omega (arith, last, inside, count, length-append before (replies ∷ [])) in
                  let its : slice_index_or (before ++ replies ∷ []) n [] ≡ replies = ap (λ (m : ℕ). slice_index_or (before ++ replies ∷ []) m []) (sym count) ∙ last_of before replies [] in
                  subst (λ (m : ℕ). HasRun told all pool w m (slice_index_or (before ++ replies ∷ []) m [])) is (subst (HasRun told all pool w n) (sym its) joins.ran)
            ];
        faults = subst (λ (m : ℕ). (m ≤ memory_faults pool.plan w) ⊎ HasNotedCell pool.plan w) (sym (more faulted)) (faults_more v w (faulted_of_all all.input.parties before) (faulted (slice_index_or all.input.parties n no_party).commands replies) joins.noted so_far.faults joins.faults);
      }
