-- Seats after a call.
use Rattle.std.proofs.Common.{◌≡◌, ℕ, ◌<◌, sym, ◌∙◌, subst}
use Rattle.pool_hall.specs.declared.hall.Hall.{Hall}
use Rattle.pool_hall.specs.declared.hall.HallSeat.{HallSeat}
use Rattle.pool_hall.specs.Seat.{view, IsSeatOf}

module _ {T : Type 0} where
  -- a seat that stays one of the hall's: its portions and what it carries stay
  pub stays : (h : Hall T) (s t : HallSeat T) → IsSeatOf h s → t.seat.table_id ≡ s.seat.table_id → (view t).portions ≡ (view s).portions → (view t).parts ≡ (view s).parts → (view t).limits ≡ (view s).limits → IsSeatOf h t
  stays h s t own table portions parts limits = record { table = table ∙ own.table; portion = subst (λ (n : ℕ). 0 < n) (sym portions) own.portion; parts = parts ∙ own.parts; limits = limits ∙ own.limits }
