-- What a change of a table's lease is as a move that its party sees.
use Rattle.std.proofs.Common.{◌≡◌, ℕ, zero, suc, ◌+◌, ◌<◌, List, [], Bool, true, false, Option, Some, None, Result, Ok, Err, ◌⊎◌, inl, inr, refl, sym, ap, ◌∙◌, subst, arith, ◌==◌, ◌-◌, ◌^◌, nat_lt, if◌then◌else◌, IfSome, option_map, unwrap_or, is_ok}
use Rattle.pool_run.proofs.Imports.{ltb-false, ltb-true, Told, risen, GrowthRule, always, limited_by, table_answer, table_failure, LimiterTold, Exchange, GrowthGiven, report_result, result_by, MakesBy, GrowError, GrowFault, LimiterError, Fault, TableOutOfBounds, ElementKind, functions, gc_refs, continuations, type_of, gc_ref, IsTableGrowth, StoreTold, StoreCall, store_calls, stored_answer, StoredFill, StorePassed, StoreRefused, LetsThrough, TableView, FillsTable, GrowsTable, IfRegions, GcTableError, ListedStore, LeasedTable, SetsElements, IsSet, IsFilled, IsElementAt, IsLengthened, Element}
use Rattle.pool_limits.specs.declared.errors.GrowFault.TheVariants as fault
use Rattle.pool_table.specs.Elements as elem
use Rattle.pool_table.specs.declared.gc_store.GcTableError.TheVariants as failed
use Rattle.pool_run.specs.Acts.{gets, sets, lengthens, asks_length}
use Rattle.pool_run.specs.AtOnce.{element_reply, fill_reply, growth_reply, LengthensUnder, store_told}
use Rattle.pool_run.specs.GrowthEnds.{GrowthEnd, as_it_was, has_grown, if_allowed, reported}
use Rattle.pool_run.specs.PrivateTables.{PrivateTable, StoredTable, TableMoves, calls_after, goes_through, calls_through, elements_set, table_filled, stored_fill, kind_filled, table_grown, table_growth, table_left}
use Rattle.pool_run.specs.TableValues.{element_for, reference_of}
use Rattle.pool_run.specs.Turns.{private_table, stored_as, region_set, faults_left, MovesTable}
use Rattle.pool_run.specs.declared.command.TableValue.{TableValue}
use Rattle.pool_run.specs.declared.reply.Reply.{Reply}
use Rattle.pool_run.specs.declared.reply.Reply.TheVariants.{Done, Size, Grown, Refused, Trap}
use Rattle.pool_run.specs.declared.reply.Refusal.TheVariants.{GcStoreFault}

-- Of a list of calls so many go through, up to the end or to one that doesn't.
later : (n made : ℕ) → calls_after n (risen made) ≡ risen (calls_after n made)
later zero made = refl
later (suc n) made = ap risen (later n made)

last_of : (failing : List ℕ) (made n d : ℕ) → (suc d ≡ suc n) ⊎ ((suc d < suc n) × (goes_through failing (calls_after (suc d) made) ≡ false)) → (d ≡ n) ⊎ ((d < n) × (goes_through failing (calls_after d (risen made)) ≡ false))
last_of failing made n d (inl same) = inl (omega arith)
last_of failing made n d (inr fails) = inr (omega arith, ap (goes_through failing) (later d made) ∙ fails.1)

pub calls_end : (failing : List ℕ) (made count done : ℕ) → ((k : ℕ) → k < done → goes_through failing (calls_after k made) ≡ true)
    → (done ≡ count) ⊎ ((done < count) × (goes_through failing (calls_after done made) ≡ false)) → calls_through failing made count ≡ done
calls_end failing made zero zero through end = refl
calls_end failing made zero (suc d) through (inl same) = absurd (omega arith)
calls_end failing made zero (suc d) through (inr fails) = absurd (omega arith)
calls_end failing made (suc n) zero through (inl same) = absurd (omega arith)
calls_end failing made (suc n) zero through (inr fails) = rw fails.1
calls_end failing made (suc n) (suc d) through end =
    let first : goes_through failing made ≡ true = through 0 (omega arith) in
    let rest : (k : ℕ) → k < d → goes_through failing (calls_after k (risen made)) ≡ true = λ k below. ap (goes_through failing) (later k made) ∙ through (suc k) (omega arith) in
    let At : Bool → ℕ = λ b. if b then 1 + calls_through failing (risen made) n else 0 in
    let last : (d ≡ n) ⊎ ((d < n) × (goes_through failing (calls_after d (risen made)) ≡ false)) = last_of failing made n d end in
    let is : calls_through failing (risen made) n ≡ d = calls_end failing (risen made) n d rest last in
    ap At first ∙ (omega arith)

-- what a store with a list tells after calls that went through
calls_made : (n : ℕ) (t : StoreTold) → (store_calls n t).made ≡ calls_after n t.made
calls_made zero t = refl
calls_made (suc n) t = ap risen (calls_made n t)

calls_plan : (n : ℕ) (t : StoreTold) → (store_calls n t).plan ≡ t.plan
calls_plan zero t = refl
calls_plan (suc n) t = calls_plan n t

calls_faults : (n : ℕ) (t : StoreTold) → (store_calls n t).faults ≡ t.faults
calls_faults zero t = refl
calls_faults (suc n) t = calls_faults n t

-- of a store that tells its list, whether the next call goes through
told_through : (b : Bool) (failing : List ℕ) (n : ℕ) (t : StoreTold) → t.plan ≡ Some failing → LetsThrough b (store_calls n t) → goes_through failing (calls_after n t.made) ≡ b
told_through b failing n t plan lets =
    let Through : Option (List ℕ) → Type 0 = λ p. IfSome p (λ failing. goes_through failing (store_calls n t).made ≡ b) in
    let is : goes_through failing (store_calls n t).made ≡ b = subst Through (calls_plan n t ∙ plan) lets in
    ap (goes_through failing) (sym (calls_made n t)) ∙ is

less_not : (a b : ℕ) → a < b → (a == b) ≡ false
less_not a b below = grind (arith)

-- what became of a region, where there is one
regions_are : (f : Told → Told) (o new : Option Told) → IfRegions (λ old after. after ≡ f old) o new → new ≡ option_map f o
regions_are f None None is = refl
regions_are f None (Some r) is = absurd is
regions_are f (Some r) None is = absurd is
regions_are f (Some r) (Some s) is = ap Some is

region_stays : (o : Option Told) → o ≡ option_map (λ (r : Told). r) o
region_stays None = refl
region_stays (Some r) = refl

module _ (l n : LeasedTable) (same : n ≡ record l { table = n.table }) where
  -- the table as its party sees it, in the slot of the lease
  abbrev seen : TableView → PrivateTable
  seen t = record { slot = l.index; kind = t.kind; size = t.size; maximum = t.maximum; elements = t.elements }

  seen_new : private_table n ≡ seen n.table
  seen_new = ap private_table same

  seen_filled : (at count : ℕ) (e : elem.Element) → FillsTable at count e l.table n.table → private_table n ≡ table_filled at count e (private_table l)
  seen_filled at count e fills = seen_new ∙ ap seen fills.same ∙ ap (λ (es : Option (List elem.Element)). record (private_table l) { elements = es }) fills.elements

  seen_same : n.table ≡ l.table → private_table n ≡ private_table l
  seen_same is = seen_new ∙ ap seen is

  module _ (before after : ListedStore) (at count : ℕ) (value : TableValue) (result : Result (Unit {0}) GcTableError) where
    -- what the party sees after the fill, and its reply
    abbrev filled : StoredTable × Reply
    filled = (stored_as n after, fill_reply result)

    -- that, what became of the table's region, and of the store
    record SetsSo (f : Told → Told) (moved : StoredTable × Reply) : Type 0 where
      seen_so : filled ≡ moved
      region : n.table.region ≡ option_map f l.table.region
      store : after ≡ record before { made = after.made; faults = faults_left (fill_reply result) before.faults }

    abbrev by_answer : PrivateTable → ListedStore → Result (Unit {0}) GcTableError → StoredTable × Reply
    by_answer t s answer = (record { table = t; calls = s.made }, fill_reply answer)

    -- where no store is asked
    unasked : (answer : Result (Unit {0}) GcTableError) → result ≡ answer → faults_left (fill_reply answer) before.faults ≡ before.faults → after ≡ before → after ≡ record before { made = after.made; faults = faults_left (fill_reply result) before.faults }
    unasked answer is none kept =
        let faults : faults_left (fill_reply result) before.faults ≡ before.faults = ap (λ (x : Result (Unit {0}) GcTableError). faults_left (fill_reply x) before.faults) is ∙ none in
        kept ∙ ap (λ (x : ℕ). record before { made = x }) (ap (λ (x : ListedStore). x.made) (sym kept)) ∙ ap (λ (x : ℕ). record before { made = after.made; faults = x }) (sym faults)

    filled_region : (done : ℕ) (e : elem.Element) → FillsTable at done e l.table n.table → n.table.region ≡ option_map (region_set at done e l.table.kind) l.table.region
    filled_region done e fills = regions_are (region_set at done e l.table.kind) l.table.region n.table.region fills.words

    plainly : (e : elem.Element) → (result ≡ Ok tt) × FillsTable at count e l.table n.table × (after ≡ before) → SetsSo (region_set at count e l.table.kind) (record (stored_as l before) { table = table_filled at count e (private_table l) }, Done)
    plainly e is = record {
      seen_so = ap (λ (t : PrivateTable). by_answer t after result) (seen_filled at count e is.1) ∙ ap (λ (s : ListedStore). by_answer (table_filled at count e (private_table l)) s result) is.2 ∙ ap (by_answer (table_filled at count e (private_table l)) before) is.0;
      region = filled_region count e is.1;
      store = unasked (Ok tt) is.0 refl is.2;
    }

    module _ (leads : ListedStore → StoreCall → ListedStore → Type 0) (r : Option ℕ) where
      abbrev through : ℕ
      through = calls_through before.failing before.made count

      abbrev fill_stored : StoredTable × Reply
      fill_stored = stored_fill through at count (gc_ref r) (stored_as l before)

      -- what is seen after so many elements were set, and so many calls made
      abbrev filled_part : ℕ → ℕ → Reply → StoredTable × Reply
      filled_part done calls reply = (record { table = table_filled at done (gc_ref r) (private_table l); calls = calls }, reply)

      abbrev ends_by : ℕ → Bool → StoredTable × Reply
      ends_by done whole = if whole then filled_part count (calls_after count before.made) Done else filled_part done (risen (calls_after done before.made)) (Refused GcStoreFault)

      module _ (done : ℕ) (between : ListedStore) (asked : StorePassed store_told leads at done r l.table.elements before between) where
        passed : (k : ℕ) → k < done → goes_through before.failing (calls_after k before.made) ≡ true
        passed k below = told_through true before.failing k (store_told before) refl (asked.through k below)

        made_between : between.made ≡ calls_after done before.made
        made_between = ap (λ (t : StoreTold). t.made) asked.tells ∙ calls_made done (store_told before)

        plan_between : between.failing ≡ before.failing
        plan_between = ap (λ (t : StoreTold). unwrap_or t.plan []) asked.tells ∙ ap (λ (p : Option (List ℕ)). unwrap_or p []) (calls_plan done (store_told before))

        faults_between : between.faults ≡ before.faults
        faults_between = ap (λ (t : StoreTold). t.faults) asked.tells ∙ calls_faults done (store_told before)

        fails_between : StoreRefused store_told leads (at + done) r l.table.elements between after → goes_through before.failing (calls_after done before.made) ≡ false
        fails_between refused =
            let there : goes_through between.failing between.made ≡ false = refused.refused in
            ap (λ (f : List ℕ). goes_through f (calls_after done before.made)) (sym plan_between) ∙ ap (goes_through between.failing) (sym made_between) ∙ there

      -- after so many elements
      stored_so : (done calls : ℕ) (reply : Reply) (whole : Bool) → fill_reply result ≡ reply → FillsTable at done (gc_ref r) l.table n.table → after.made ≡ calls → through ≡ done → filled_part done calls reply ≡ ends_by done whole → (done == count) ≡ whole
          → after.failing ≡ before.failing → after.faults ≡ faults_left reply before.faults → SetsSo (region_set at through (gc_ref r) l.table.kind) fill_stored
      stored_so done calls reply whole replied fills made is ends here failing faults =
          let e : elem.Element = gc_ref r in
          let Left : Reply → ℕ = λ x. faults_left x before.faults in
          record {
            seen_so =
                ap (λ (x : PrivateTable). (record { table = x; calls = after.made }, fill_reply result)) (seen_filled at done e fills)
                ∙ ap (λ (c : ℕ). filled_part done c (fill_reply result)) made
                ∙ ap (filled_part done calls) replied
                ∙ ends
                ∙ sym (ap (ends_by done) here)
                ∙ sym (ap (λ (d : ℕ). stored_fill d at count e (stored_as l before)) is);
            region = filled_region done e fills ∙ sym (ap (λ (d : ℕ). option_map (region_set at d e l.table.kind) l.table.region) is);
            store =
                ap (λ (f : List ℕ). record { failing = f; made = after.made; faults = after.faults }) failing
                ∙ ap (λ (n : ℕ). record { failing = before.failing; made = after.made; faults = n }) (faults ∙ sym (ap Left replied));
          }

      stored_whole : result ≡ Ok tt → StoredFill store_told leads at count r l.table n.table before after true → SetsSo (region_set at through (gc_ref r) l.table.kind) fill_stored
      stored_whole answer is =
          let done : ℕ = is.0 in
          let between : ListedStore = is.1.1.0 in
          let asked = is.1.1.1.0 in
          let all : done ≡ count = is.1.1.1.1.0 in
          let kept : after ≡ between = is.1.1.1.1.1 in
          let here : (done == count) ≡ true = grind (arith) in
          stored_so done (calls_after done before.made) Done true
          (ap fill_reply answer)
          is.1.0
          (ap (λ (s : ListedStore). s.made) kept ∙ made_between done between asked)
          (calls_end before.failing before.made count done (passed done between asked) (inl all))
          (ap (λ (d : ℕ). filled_part d (calls_after d before.made) Done) all)
          here
          (ap (λ (s : ListedStore). s.failing) kept ∙ plan_between done between asked)
          (ap (λ (s : ListedStore). s.faults) kept ∙ faults_between done between asked)

      stored_part : result ≡ Err failed.GcStoreFault → StoredFill store_told leads at count r l.table n.table before after false → SetsSo (region_set at through (gc_ref r) l.table.kind) fill_stored
      stored_part answer is =
          let done : ℕ = is.0 in
          let between : ListedStore = is.1.1.0 in
          let asked = is.1.1.1.0 in
          let below : done < count = is.1.1.1.1.0 in
          let refused = is.1.1.1.1.1 in
          let stops : goes_through before.failing (calls_after done before.made) ≡ false = fails_between done between asked refused in
          stored_so done (risen (calls_after done before.made)) (Refused GcStoreFault) false
          (ap fill_reply answer)
          is.1.0
          (ap (λ (t : StoreTold). t.made) refused.faulted.same ∙ ap risen (made_between done between asked))
          (calls_end before.failing before.made count done (passed done between asked) (inr (below, stops)))
          refl
          (less_not done count below)
          (ap (λ (t : StoreTold). unwrap_or t.plan []) refused.faulted.same ∙ plan_between done between asked)
          (refused.faulted.planned refl ∙ ap risen (faults_between done between asked))

      stored : (answer : Result (Unit {0}) GcTableError) → result ≡ answer → answer ≡ stored_answer (is_ok answer) → StoredFill store_told leads at count r l.table n.table before after (is_ok answer) → SetsSo (region_set at through (gc_ref r) l.table.kind) fill_stored
      stored (Ok u) is so fill = stored_whole is fill
      stored (Err e) is so fill = stored_part (is ∙ so) fill

    -- as the rule for its kind says
    set_kind : (leads : ListedStore → StoreCall → ListedStore → Type 0) (kind : ElementKind) → SetsElements store_told leads at count (element_for (type_of kind) value) l.table n.table before after result
        → SetsSo (region_set at (elements_set kind before.failing before.made count) (element_for (type_of kind) value) l.table.kind) (kind_filled kind before.failing at count (element_for (type_of kind) value) (stored_as l before))
    set_kind leads (functions lazy) is = plainly _ is
    set_kind leads continuations is = plainly _ is
    set_kind leads gc_refs is = stored leads (reference_of value) result refl is.0 is.1

    abbrev fills_by : Bool → StoredTable × Reply
    fills_by b = if b then (stored_as l before, Trap TableOutOfBounds) else kind_filled l.table.kind before.failing at count (element_for (type_of l.table.kind) value) (stored_as l before)

    abbrev region_by : Bool → Told → Told
    region_by b r = if b then r else region_set at (elements_set l.table.kind before.failing before.made count) (element_for (type_of l.table.kind) value) l.table.kind r

    set_by : (leads : ListedStore → StoreCall → ListedStore → Type 0) (b : Bool) → nat_lt l.table.size (at + count) ≡ b → IsSet store_told leads at count (element_for (type_of l.table.kind) value) l.table n.table before after result → SetsSo (region_by b) (fills_by b)
    set_by leads true past is =
        let out = is.outside (ltb-true _ _ past) in
        record {
          seen_so = ap (λ (t : PrivateTable). by_answer t after result) (seen_same out.1) ∙ ap (λ (s : ListedStore). by_answer (private_table l) s result) out.2 ∙ ap (by_answer (private_table l) before) out.0;
          region = ap (λ (t : TableView). t.region) out.1 ∙ region_stays l.table.region;
          store = unasked (Err (failed.Trap TableOutOfBounds)) out.0 refl out.2;
        }
    set_by leads false inside is = set_kind leads l.table.kind (is.inside (ltb-false _ _ inside))

-- A fill of a table's lease is what the party sees of it.
pub filled_moves : (leads : ListedStore → StoreCall → ListedStore → Type 0) (at count : ℕ) (value : TableValue) (rule : GrowthRule) (l n : LeasedTable) (before after : ListedStore) (result : Result (Unit {0}) GcTableError)
    → IsFilled store_told leads at count (element_for (type_of l.table.kind) value) l n before after result → MovesTable (sets at count value) rule before after l n (fill_reply result)
filled_moves leads at count value rule l n before after result is =
    let so = set_by l n is.same before after at count value result leads (nat_lt l.table.size (at + count)) refl is.set in
    record { same = is.same; move = so.seen_so; region = so.region; lies = inr is.region; store = so.store }

-- So is one of its elements alone, whose store stays the same but for its counts.
pub set_moves : (leads : ListedStore → StoreCall → ListedStore → Type 0) (at count : ℕ) (value : TableValue) (rule : GrowthRule) (l n : LeasedTable) (before after : ListedStore) (result : Result (Unit {0}) GcTableError) → n ≡ record l { table = n.table }
    → IsSet store_told leads at count (element_for (type_of l.table.kind) value) l.table n.table before after result → TableMoves (sets at count value) (record { rule = rule; failing = before.failing; unmade = [] }) (stored_as l before) (stored_as n after) (fill_reply result) × (after.failing ≡ before.failing)
set_moves leads at count value rule l n before after result same is =
    let so = set_by l n same before after at count value result leads (nat_lt l.table.size (at + count)) refl is in
    (so.seen_so, ap (λ (s : ListedStore). s.failing) so.store)

-- what a limiter answers that tells its rule
pub table_answer_told : (rule : GrowthRule) (o : Option GrowthRule) (given : Result Bool LimiterError) (size : ℕ) (most : Option ℕ) → o ≡ Some rule → given ≡ table_answer o given size most → given ≡ table_answer (Some rule) (Ok true) size most
table_answer_told always o given size most told is = let M : Option GrowthRule → Type 0 = λ r. given ≡ table_answer r given size most in subst M told is
table_answer_told (limited_by lim) o given size most told is = let M : Option GrowthRule → Type 0 = λ r. given ≡ table_answer r given size most in subst M told is

table_failure_told : (rule : GrowthRule) (o : Option GrowthRule) (given : Result (Unit {0}) LimiterError) → o ≡ Some rule → given ≡ table_failure o given → given ≡ table_failure (Some rule) (Ok tt)
table_failure_told always o given told is = let M : Option GrowthRule → Type 0 = λ r. given ≡ table_failure r given in subst M told is
table_failure_told (limited_by lim) o given told is = let M : Option GrowthRule → Type 0 = λ r. given ≡ table_failure r given in subst M told is

report_seen : (r : Result (Unit {0}) LimiterError) → growth_reply (report_result false r) ≡ reported r
report_seen (Ok u) = refl
report_seen (Err e) = refl

-- no call on a store is made
grown_faults : (answer : Result (Option ℕ) GrowFault) (n : ℕ) → faults_left (growth_reply answer) n ≡ n
grown_faults (Ok size) n = refl
grown_faults (Err fault.Memory) n = refl
grown_faults (Err (fault.LimiterFault e)) n = refl

got_faults : (answer : Result Element Fault) (n : ℕ) → faults_left (element_reply answer) n ≡ n
got_faults (Ok e) n = refl
got_faults (Err trap) n = refl

store_stays : (store : ListedStore) (reply : Reply) → faults_left reply store.faults ≡ store.faults → store ≡ record store { faults = faults_left reply store.faults }
store_stays store reply is = ap (λ (n : ℕ). record store { faults = n }) (sym is)

-- How a table's growth ends, and what it leaves.
pub record EndsTable (by : ℕ) (l n : LeasedTable) (reply : Reply) (end : GrowthEnd × Reply) : Type 0 where
  pub says : reply ≡ end.1
  pub leaves : private_table n ≡ table_left end.0 by (private_table l)
  pub there : n.table.region ≡ l.table.region

module _ (by : ℕ) (l n : LeasedTable) (same : n ≡ record l { table = n.table }) where
  abbrev grows_by : Bool → Bool → Bool → Result Bool LimiterError → Result (Unit {0}) LimiterError → GrowthEnd × Reply
  grows_by nothing past_type past answer r =
      if nothing then (as_it_was, Grown (Some l.table.size)) else (if past_type then (as_it_was, reported r) else if_allowed answer (if past then (as_it_was, reported r) else (has_grown, Grown (Some l.table.size))))

  left_as_it_was : (reply : Reply) (end : GrowthEnd × Reply) → (as_it_was, reply) ≡ end → n.table ≡ l.table → EndsTable by l n reply end
  left_as_it_was reply end is kept =
      let Left : GrowthEnd × Reply → Type 0 = λ e. EndsTable by l n reply e in
      subst Left is (record { says = refl; leaves = seen_same l n same kept; there = ap (λ (t : TableView). t.region) kept })

  seen_grown : GrowsTable by l.table n.table → private_table n ≡ table_grown by (private_table l)
  seen_grown grows = seen_new l n same ∙ ap (seen l n same) grows.same ∙ ap (λ (es : Option (List elem.Element)). record (private_table l) { size = l.table.size + by; elements = es }) grows.elements

  table_end : (nothing past_type past : Bool) (answer : Result Bool LimiterError) (failure : Option GrowError) (r : Result (Unit {0}) LimiterError)
      → MakesBy (n.table ≡ l.table) (GrowsTable by l.table n.table) (λ e. ⊥) nothing past_type past (record { answer = answer; failure = failure; report = r })
      → EndsTable by l n (growth_reply (result_by l.table.size nothing past_type past (record { answer = answer; failure = failure; report = r }))) (grows_by nothing past_type past answer r)
  table_end true past_type past answer failure r kept = left_as_it_was _ _ refl kept
  table_end false true past answer failure r kept = left_as_it_was _ _ (ap (λ (x : Reply). (as_it_was, x)) (report_seen r)) kept
  table_end false false past (Err e) failure r kept = left_as_it_was _ _ refl kept
  table_end false false past (Ok false) failure r kept = left_as_it_was _ _ refl kept
  table_end false false true (Ok true) failure r kept = left_as_it_was _ _ (ap (λ (x : Reply). (as_it_was, x)) (report_seen r)) kept
  table_end false false false (Ok true) None r grows = record { says = refl; leaves = seen_grown grows; there = ap (λ (t : TableView). t.region) grows.same }
  table_end false false false (Ok true) (Some e) r grows = absurd grows

-- A growth of it ends by the rule that its limiter told.
pub growth_ends : (rule : GrowthRule) (by : ℕ) (l n : LeasedTable) (answer : Result (Option ℕ) GrowFault) → n ≡ record l { table = n.table } → (given : GrowthGiven) × (asked : LimiterTold) × (left : LimiterTold) × (asked.rule ≡ Some rule) × IsTableGrowth given by l.table n.table asked left answer
    → EndsTable by l n (growth_reply answer) (table_growth rule by (private_table l))
growth_ends rule by l n answer same growth =
    let g : GrowthGiven = growth.0 in
    let asked : LimiterTold = growth.1 in
    let told : asked.rule ≡ Some rule = growth.3 in
    let grows : IsTableGrowth g by l.table n.table asked growth.2 answer = growth.4 in
    let size : ℕ = l.table.size + by in
    let most : Option ℕ = Some l.table.maximum in
    let nothing : Bool = by == 0 in
    let past_type : Bool = nat_lt (2 ^ 64 - 1) size in
    let past : Bool = nat_lt l.table.maximum size in
    let By : Result Bool LimiterError → Result (Unit {0}) LimiterError → GrowthEnd × Reply = grows_by by l n same nothing past_type past in
    let end : EndsTable by l n (growth_reply (result_by l.table.size nothing past_type past g)) (By g.answer g.report) = table_end by l n same nothing past_type past g.answer g.failure g.report grows.table in
    let ruled : By g.answer g.report ≡ table_growth rule by (private_table l) = ap (λ (a : Result Bool LimiterError). By a g.report) (table_answer_told rule asked.rule g.answer size most told grows.ruled.answer) ∙ ap (By (table_answer (Some rule) (Ok true) size most)) (table_failure_told rule asked.rule g.report told grows.ruled.report) in
    let Left : GrowthEnd × Reply → PrivateTable = λ e. table_left e.0 by (private_table l) in
    record { says = ap growth_reply grows.ruled.replies ∙ end.says ∙ ap (λ (e : GrowthEnd × Reply). e.1) ruled; leaves = end.leaves ∙ ap Left ruled; there = end.there }

pub lengthened_moves : (rule : GrowthRule) (by : ℕ) (store : ListedStore) (l n : LeasedTable) (answer : Result (Option ℕ) GrowFault) → LengthensUnder rule by l n answer → MovesTable (lengthens by) rule store store l n (growth_reply answer)
lengthened_moves rule by store l n answer is =
    let ends = growth_ends rule by l n answer is.same is.growth in
    record {
      same = is.same;
      move = (ap (λ (t : PrivateTable). record { table = t; calls = store.made }) ends.leaves, ends.says);
      region = ends.there ∙ region_stays l.table.region;
      lies = inr is.region;
      store = store_stays store (growth_reply answer) (grown_faults answer store.faults);
    }

-- it grows under a limiter that tells this rule
pub lengthened_under : {R : Type 0} (told : R → LimiterTold) (leads : R → Exchange → R → Type 0) (rule : GrowthRule) (by : ℕ) (l n : LeasedTable) (before after : R) (answer : Result (Option ℕ) GrowFault) → IsLengthened told leads by l n before after answer → (told before).rule ≡ Some rule → LengthensUnder rule by l n answer
lengthened_under told leads rule by l n before after answer is ruled = record { same = is.same; growth = (is.growth.0, told before, told after, ruled, is.growth.1.0); region = is.region }

-- A look leaves it as it is.
pub looks : (at : ℕ) (rule : GrowthRule) (store : ListedStore) (l : LeasedTable) (answer : Result Element Fault) → IsElementAt l.table at answer → TableMoves (gets at) (record { rule = rule; failing = store.failing; unmade = [] }) (stored_as l store) (stored_as l store) (element_reply answer)
looks at rule store l (Ok e) is = (is, refl)
looks at rule store l (Err trap) is = (is, refl)

pub got_moves : (at : ℕ) (rule : GrowthRule) (store : ListedStore) (l : LeasedTable) (answer : Result Element Fault) → IsElementAt l.table at answer → MovesTable (gets at) rule store store l l (element_reply answer)
got_moves at rule store l answer is = record { same = refl; move = looks at rule store l answer is; region = region_stays l.table.region; lies = inl refl; store = store_stays store (element_reply answer) (got_faults answer store.faults) }

pub length_moves : (rule : GrowthRule) (store : ListedStore) (l : LeasedTable) (n : ℕ) → n ≡ l.table.size → MovesTable asks_length rule store store l l (Size n)
length_moves rule store l n is = record { same = refl; move = (ap Size is, refl); region = region_stays l.table.region; lies = inl refl; store = refl }
