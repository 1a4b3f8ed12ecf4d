-- Each way that a growth of a table can go.
use Rattle.std.proofs.Common.{◌≡◌, ◌≢◌, ℕ, ◌+◌, ◌-◌, ◌*◌, ◌^◌, ◌<◌, ◌≤◌, ◌==◌, ◌++◌, nat_lt, Bool, true, false, List, replicate, refl, sym, ap, ◌∙◌, subst, arith, inl, inr, Option, Some, None, Result, Ok, Err, IfSome, option_map}
use Rattle.pool_table.proofs.Imports.{mul-le-mul_right, eq-eqb, lt-ltb, nat_tests, zeros_within, Contents, table_answer, LimiterTold, after_answer, GrowthQuestion, Exchange, may_grow, Exchanged, Obstacles, GrowthGiven, growth_exchanges, IsRuled, IsAllowed, IsReported, GrowthMakes, LimiterError, TypeLimit, GrowFault, unasked, ruled_nothing, ruled_past_type, ruled_error, ruled_no, ruled_yes}
use Rattle.pool_limits.specs.declared.growing.Growable.TheVariants.{Table}
use Rattle.pool_limits.specs.declared.errors.GrowFault.TheVariants as fault
use Rattle.pool_table.specs.Elements.{ElementKind, Element, width, empty}
use Rattle.pool_table.specs.Tables.{TableState, IsTable, IsRoom, GrowsBy, elements, elements_in}
use Rattle.pool_table.specs.Views.{TableView, GrowsTable}
use Rattle.pool_table.specs.Growing.{table_question, table_obstacles, TableGrowsAsking, IsAllowedTableGrowth, TableGrows, AllowedTableGrows}
use Rattle.pool_table.proofs.Listed.{elements_grown}
use Rattle.pool_table.proofs.Words.{zero_is_empty}

-- over a limiter
module _ {R : Type 0} (told : R → LimiterTold) (leads : R → Exchange → R → Type 0) (delta : ℕ) (old : TableView) where
  abbrev Grows : TableView → R → R → Result (Option ℕ) GrowFault → Type 0
  Grows new before after r = TableGrowsAsking told leads delta old new (Some before) (Some after) r

  abbrev question : GrowthQuestion
  question = table_question delta old

  abbrev past_room : Bool
  past_room = nat_lt old.maximum (old.size + delta)

  growth_of : (new : TableView) (before after : R) (r : Result (Option ℕ) GrowFault) (o : Obstacles) (g : GrowthGiven) → table_obstacles delta old ≡ o → IsRuled question o g old.size (told before) (told after) r → GrowthMakes (new ≡ old) (GrowsTable delta old new) (λ e. ⊥) o g → Exchanged leads (growth_exchanges question o g) before after → Grows new before after r
  growth_of new before after r o g at ruled table exchanged = (
    g,
    (
      record {
        ruled = let P : Obstacles → Type 0 = λ k. IsRuled question k g old.size (told before) (told after) r in subst P (sym at) ruled;
        table = let P : Obstacles → Type 0 = λ k. GrowthMakes (new ≡ old) (GrowsTable delta old new) (λ e. ⊥) k g in subst P (sym at) table;
      },
      let P : Obstacles → Type 0 = λ k. Exchanged leads (growth_exchanges question k g) before after in subst P (sym at) exchanged,
    ),
  )

  seen : (a b : Bool) → (delta == 0) ≡ a → nat_lt (2 ^ 64 - 1) (old.size + delta) ≡ b → table_obstacles delta old ≡ record { nothing = a; past_type = b; past_room = past_room }
  seen a b first second =
      ap (λ (n : Bool). record { nothing = n; past_type = nat_lt (2 ^ 64 - 1) (old.size + delta); past_room = past_room }) first
      ∙ ap (λ (n : Bool). record { nothing = a; past_type = n; past_room = past_room }) second

  some_delta : delta ≢ 0 → (delta == 0) ≡ false
  some_delta some = grind (arith, nat_tests)

  fits : old.size + delta < 2 ^ 64 → nat_lt (2 ^ 64 - 1) (old.size + delta) ≡ false
  fits below = grind (arith, nat_tests)

  -- by nothing
  pub grown_nothing : (l : R) → delta ≡ 0 → Grows old l l (Ok (Some old.size))
  grown_nothing l none =
      let past : Bool = nat_lt (2 ^ 64 - 1) (old.size + delta) in
      growth_of old l l (Ok (Some old.size)) (record { nothing = true; past_type = past; past_room = past_room }) (unasked question (told l))
      (seen true past (eq-eqb delta 0 none) refl)
      (ruled_nothing question past past_room old.size (told l)) refl refl

  -- past what a size can be
  pub grown_past_type : (before after : R) (r : Result (Option ℕ) GrowFault) → delta ≢ 0 → 2 ^ 64 ≤ old.size + delta → (reported : IsReported told leads Table TypeLimit before after r) → Grows old before after r
  grown_past_type before after r some past reported =
      growth_of old before after r (record { nothing = false; past_type = true; past_room = past_room })
      (record (unasked question (told before)) { report = reported.report })
      (seen false true (some_delta some) (lt-ltb (2 ^ 64 - 1) (old.size + delta) (omega (arith, past))))
      (ruled_past_type told leads question past_room old.size before after r reported) refl (after, (reported.exchange, refl))

  -- where the limiter refuses it with an error
  pub grown_error : (before after : R) (e : LimiterError) → delta ≢ 0 → old.size + delta < 2 ^ 64 → Err e ≡ table_answer (told before).rule (Err e) (old.size + delta) (Some old.maximum) → told after ≡ after_answer (Err e) (told before) → leads before (may_grow question (Err e)) after → Grows old before after (Err (fault.LimiterFault e))
  grown_error before after e some below answer limiter exchange =
      growth_of old before after (Err (fault.LimiterFault e)) (record { nothing = false; past_type = false; past_room = past_room })
      (record (unasked question (told before)) { answer = Err e })
      (seen false false (some_delta some) (fits below))
      (ruled_error question past_room old.size (told before) (told after) e answer limiter) refl (after, (exchange, refl))

  -- where it says no
  pub grown_no : (before after : R) → delta ≢ 0 → old.size + delta < 2 ^ 64 → Ok false ≡ table_answer (told before).rule (Ok false) (old.size + delta) (Some old.maximum) → told after ≡ after_answer (Ok false) (told before) → leads before (may_grow question (Ok false)) after → Grows old before after (Ok None)
  grown_no before after some below answer limiter exchange =
      growth_of old before after (Ok None) (record { nothing = false; past_type = false; past_room = past_room })
      (record (unasked question (told before)) { answer = Ok false })
      (seen false false (some_delta some) (fits below))
      (ruled_no question past_room old.size (told before) (told after) answer limiter) refl (after, (exchange, refl))

  -- where it says yes
  pub grown_allowed : (new : TableView) (before between after : R) (r : Result (Option ℕ) GrowFault) → delta ≢ 0 → old.size + delta < 2 ^ 64 → Ok true ≡ table_answer (told before).rule (Ok true) (old.size + delta) (Some old.maximum) → told between ≡ after_answer (Ok true) (told before) → leads before (may_grow question (Ok true)) between → IsAllowedTableGrowth told leads (old.size + delta) old new between after r → Grows new before after r
  grown_allowed new before between after r some below answer limiter exchange growth =
      let more : old.size + delta - old.size ≡ delta = omega arith in
      let A : ℕ → Type 0 = λ m. IsAllowed told leads Table past_room old.size (new ≡ old) (GrowsTable m old new) (λ e. ⊥) between after r in
      let allowed : A delta = subst A more growth in
      growth_of new before after r (record { nothing = false; past_type = false; past_room = past_room })
      (record { answer = Ok true; failure = allowed.failure; report = allowed.report })
      (seen false false (some_delta some) (fits below))
      (ruled_yes told leads question past_room old.size (new ≡ old) (GrowsTable delta old new) (λ e. ⊥) (told before) between after r answer limiter allowed)
      allowed.makes (between, (exchange, allowed.exchanged))

  -- where it says yes, whether memory was found or not
  pub grown_either : (new : TableView) (before between after : R) (r : Result (Option ℕ) GrowFault) → delta ≢ 0 → old.size + delta < 2 ^ 64 → Ok true ≡ table_answer (told before).rule (Ok true) (old.size + delta) (Some old.maximum) → told between ≡ after_answer (Ok true) (told before) → leads before (may_grow question (Ok true)) between → AllowedTableGrows told leads (old.size + delta) old new between after r → TableGrows told leads delta old new (Some before) (Some after) r
  grown_either new before between after r some below answer limiter exchange growth =
      elim growth [
        | inl grown ↦ inl (grown_allowed new before between after r some below answer limiter exchange grown)
        | inr wants ↦
            let L : R → Type 0 = λ l. told l ≡ after_answer (Ok true) (told before) in
            inr (record {
              listed = wants.listed;
              some = omega (arith, some);
              within = wants.within;
              answer = answer;
              limiter = subst L (sym wants.unasked) limiter;
              exchanged = (between, (exchange, wants.unasked));
              replies = wants.replies;
              same = wants.same;
            })
      ]

-- a table that takes more elements of what it may have
taken_by : (kind : ElementKind) (size more most page len : ℕ) (o : Option Contents) → size + more ≤ most → most * width kind ≤ len → IfSome o (IsRoom page len (size * width kind) (most * width kind)) → option_map (λ c. elements_in kind (size + more) c.bytes) o ≡ option_map (λ es. es ++ replicate more (empty kind)) (option_map (λ c. elements_in kind size c.bytes) o)
taken_by kind size more most page len None inside fits room = refl
taken_by kind size more most page len (Some c) inside fits room = ap (λ (es : List Element). Some es) (elements_grown kind size more most c.bytes zero_is_empty inside (omega (arith, fits, room.shaped.bytes)) room.zeros)

pub taken : (t : TableState) (n : ℕ) → IsTable t → t.size ≤ n → n ≤ t.maximum → GrowsBy (n - t.size) t (record t { size = n })
taken t n is more inside =
    let sum : t.size + (n - t.size) ≡ n = omega arith in
    let E : ℕ → Type 0 = λ m. option_map (λ c. elements_in t.kind m c.bytes) t.region.contents ≡ option_map (λ es. es ++ replicate (n - t.size) (empty t.kind)) (elements t) in
    record {
      same = ap (λ (m : ℕ). record t { size = m }) (sym sum);
      elements = subst E sum (taken_by t.kind t.size (n - t.size) t.maximum t.region.page t.region.len t.region.contents (omega (arith, inside, more)) is.room is.contents);
    }

room_taken : (page len from further to : ℕ) (o : Option Contents) → from ≤ further → further ≤ to → to ≤ len → IfSome o (IsRoom page len from to) → IfSome o (IsRoom page len further to)
room_taken page len from further to None order inside fits room = room
room_taken page len from further to (Some c) order inside fits room = record {
  shaped = room.shaped;
  reach = room.reach;
  origin = room.origin;
  zeros = zeros_within c.bytes from to further to (omega (arith, room.shaped.bytes)) order inside (omega arith) room.zeros;
}

pub taken_is_table : (t : TableState) (n : ℕ) → IsTable t → t.size ≤ n → n ≤ t.maximum → IsTable (record t { size = n })
taken_is_table t n is more inside = record {
  within = inside;
  room = is.room;
  bounded = is.bounded;
  page = is.page;
  contents = room_taken t.region.page t.region.len (t.size * width t.kind) (n * width t.kind) (t.maximum * width t.kind) t.region.contents (mul-le-mul_right (width t.kind) more) (mul-le-mul_right (width t.kind) inside) is.room is.contents;
}
