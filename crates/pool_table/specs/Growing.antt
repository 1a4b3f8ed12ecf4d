-- How a table grows, by the rule of all growth: no call on pages is made, since what it may have lies in its region
-- already. A table in a list needs memory for more of it.
use Rattle.std.specs.Prelude.{◌≡◌, ℕ, ◌+◌, ◌-◌, ◌^◌, ◌≤◌, ◌<◌, ◌⊎◌, ◌==◌, nat_lt, [], ◌∷◌, true, Option, Some, None, Result, Ok, Err}
use Rattle.pool_limits.specs.Growth.{table_answer}
use Rattle.pool_limits.specs.LimiterTold.{LimiterTold, limiter_told, after_answer}
use Rattle.pool_limits.specs.Exchanges.{GrowthQuestion, question_of, Exchange, may_grow, IfExchanged}
use Rattle.pool_limits.specs.Growing.{Obstacles, GrowthGiven, growth_exchanges, IsRuled, IsAllowed, GrowthMakes}
use Rattle.pool_limits.specs.declared.growing.Growable.TheVariants.{Table}
use Rattle.pool_limits.specs.declared.errors.GrowFault.{GrowFault}
use Rattle.pool_limits.specs.declared.errors.GrowFault.TheVariants as fault
use Rattle.pool_table.specs.Views.{TableView, GrowsTable}

-- what the limiter is asked: the greatest size is the table's own
abbrev pub table_question : ℕ → TableView → GrowthQuestion
table_question delta t = question_of Table t.size (t.size + delta) (Some t.maximum)

-- what is found out on the way of a growth by so many elements
abbrev pub table_obstacles : ℕ → TableView → Obstacles
table_obstacles delta t = record {
  nothing = delta == 0;
  past_type = nat_lt (2 ^ 64 - 1) (t.size + delta);
  past_room = nat_lt t.maximum (t.size + delta);
}

-- A growth by so many elements, over a limiter that told this and tells that at the end, and its result.
pub record IsTableGrowth (given : GrowthGiven) (delta : ℕ) (old new : TableView) (asked left : LimiterTold) (result : Result (Option ℕ) GrowFault) : Type 0 where
  pub ruled : IsRuled (table_question delta old) (table_obstacles delta old) given old.size asked left result
  pub table : GrowthMakes (new ≡ old) (GrowsTable delta old new) (λ e. ⊥) (table_obstacles delta old) given

-- The same, with what passed between the growth and the limiter, which need not be there: that and no more.
abbrev pub TableGrowsAsking : {R : Type 0} → (R → LimiterTold) → (R → Exchange → R → Type 0) → ℕ → TableView → TableView → Option R → Option R → Result (Option ℕ) GrowFault → Type 0
TableGrowsAsking told leads delta old new before after result =
    (given : GrowthGiven) × (IsTableGrowth given delta old new (limiter_told told before) (limiter_told told after) result × IfExchanged leads (growth_exchanges (table_question delta old) (table_obstacles delta old) given) before after)

-- A table in a list found no memory for elements that it may have and that the limiter allowed. It is as it was, and the
-- limiter isn't told.
pub record WantsMemory {R : Type 0} (told : R → LimiterTold) (leads : R → Exchange → R → Type 0) (delta : ℕ) (old new : TableView) (before after : Option R) (result : Result (Option ℕ) GrowFault) : Type 0 where
  pub listed : old.region ≡ None
  pub some : 0 < delta
  pub within : old.size + delta ≤ old.maximum
  pub answer : Ok true ≡ table_answer (limiter_told told before).rule (Ok true) (old.size + delta) (Some old.maximum)
  pub limiter : limiter_told told after ≡ after_answer (Ok true) (limiter_told told before)
  pub exchanged : IfExchanged leads (may_grow (table_question delta old) (Ok true) ∷ []) before after
  pub replies : result ≡ Err fault.Memory
  pub same : new ≡ old

-- a growth goes by the rule, or a table in a list finds no memory
abbrev pub TableGrows : {R : Type 0} → (R → LimiterTold) → (R → Exchange → R → Type 0) → ℕ → TableView → TableView → Option R → Option R → Result (Option ℕ) GrowFault → Type 0
TableGrows told leads delta old new before after result =
    TableGrowsAsking told leads delta old new before after result ⊎ WantsMemory told leads delta old new before after result

-- what is left to say of a growth to a size that the limiter allowed
abbrev pub IsAllowedTableGrowth : {R : Type 0} → (R → LimiterTold) → (R → Exchange → R → Type 0) → ℕ → TableView → TableView → R → R → Result (Option ℕ) GrowFault → Type 0
IsAllowedTableGrowth told leads size old new before after result =
    IsAllowed told leads Table (nat_lt old.maximum size) old.size (new ≡ old) (GrowsTable (size - old.size) old new) (λ e. ⊥) before after result

-- A growth that the limiter allowed found no memory for a table in a list, which is as it was.
pub record WantsAllowed {R : Type 0} (size : ℕ) (old new : TableView) (before after : R) (result : Result (Option ℕ) GrowFault) : Type 0 where
  pub listed : old.region ≡ None
  pub within : size ≤ old.maximum
  pub replies : result ≡ Err fault.Memory
  pub same : new ≡ old
  pub unasked : after ≡ before

-- A growth that the limiter allowed went by the rule, or found no memory for a table in a list.
abbrev pub AllowedTableGrows : {R : Type 0} → (R → LimiterTold) → (R → Exchange → R → Type 0) → ℕ → TableView → TableView → R → R → Result (Option ℕ) GrowFault → Type 0
AllowedTableGrows told leads size old new before after result =
    IsAllowedTableGrowth told leads size old new before after result ⊎ WantsAllowed size old new before after result
