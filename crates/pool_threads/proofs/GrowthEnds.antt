-- How a growth ended, by its reply: by its rules alone, or by a fault.
use Rattle.std.proofs.Common.{◌≡◌, ℕ, Bool, true, false, Some, Result, Ok, Err, refl, subst, ◌==◌, ◌||◌, ◌&&◌, not, nat_lt, if◌then◌else◌}
use Rattle.std.proofs.lemmas.Bool.{false≢true}
use Rattle.pool_types.specs.MemoryTypes.{allow_growth_to}
use Rattle.pool_limits.specs.Growth.{GrowthRule, memory_answer, memory_failure}
use Rattle.pool_limits.specs.declared.errors.LimiterError.{LimiterError}
use Rattle.pool_memory.specs.Growing.{exceeds}
use Rattle.pool_memory.specs.Making.{maximum_asked}
use Rattle.pool_run.specs.GrowthEnds.{could_not}
use Rattle.pool_run.specs.Private.{PrivateMemory, growth, left_of, size_wanted}
use Rattle.pool_run.specs.declared.reply.Reply.{Reply}
use Rattle.pool_run.proofs.Growths.{ended_by}
use Rattle.pool_threads.specs.GrowthFaults.{growth_met, is_growing, says_grown}

met_end : (old : ℕ) (nothing past_type past : Bool) (answer : Result Bool LimiterError) (r : Result (Unit {0}) LimiterError) (fault : Bool) → (is_growing (ended_by old nothing past_type past answer r false).0 && not (says_grown (ended_by old nothing past_type past answer r fault).1)) ≡ true → (ended_by old nothing past_type past answer r fault).0 ≡ could_not
met_end old true past_type past answer r fault is = absurd (false≢true is)
met_end old false true past answer r fault is = absurd (false≢true is)
met_end old false false past (Err e) r fault is = absurd (false≢true is)
met_end old false false past (Ok false) r fault is = absurd (false≢true is)
met_end old false false true (Ok true) r fault is = absurd (false≢true is)
met_end old false false false (Ok true) r true is = refl
met_end old false false false (Ok true) r false is = absurd (false≢true is)

-- A growth that met a fault could not be made.
pub met_could_not : (rule : GrowthRule) (fault : Bool) (pages : ℕ) (m : PrivateMemory) (reply : Reply) → reply ≡ (growth rule fault pages m).1 → growth_met rule pages m reply ≡ true → (growth rule fault pages m).0 ≡ could_not
met_could_not rule fault pages m reply said met =
    let size : ℕ = size_wanted pages m in
    met_end m.size (pages == 0) (not (allow_growth_to m.ty size)) (exceeds (maximum_asked m.ty) size || nat_lt m.capacity size) (memory_answer (Some rule) (Ok true) size (maximum_asked m.ty)) (memory_failure (Some rule) (Ok tt)) fault
    (subst (λ (r : Reply). growth_met rule pages m r ≡ true) said met)

grown_end : (old size : ℕ) (m : PrivateMemory) (nothing past_type past : Bool) (answer : Result Bool LimiterError) (r : Result (Unit {0}) LimiterError) (fault : Bool)
    → left_of (ended_by old nothing past_type past answer r fault).0 size m ≡ (if says_grown (ended_by old nothing past_type past answer r fault).1 then left_of (ended_by old nothing past_type past answer r false).0 size m else m)
grown_end old size m true past_type past answer r fault = refl
grown_end old size m false true past answer (Ok u) fault = refl
grown_end old size m false true past answer (Err e) fault = refl
grown_end old size m false false past (Err f) r fault = refl
grown_end old size m false false past (Ok false) r fault = refl
grown_end old size m false false true (Ok true) (Ok u) fault = refl
grown_end old size m false false true (Ok true) (Err e) fault = refl
grown_end old size m false false false (Ok true) (Ok u) true = refl
grown_end old size m false false false (Ok true) (Err e) true = refl
grown_end old size m false false false (Ok true) r false = refl

-- What a growth with this reply leaves of a memory: it has grown where the reply says so, and is as it was else.
abbrev pub grown_so : GrowthRule → ℕ → PrivateMemory → Reply → PrivateMemory
grown_so rule pages m reply = if says_grown reply then left_of (growth rule false pages m).0 (size_wanted pages m) m else m

pub reply_tells : (rule : GrowthRule) (fault : Bool) (pages : ℕ) (m : PrivateMemory) → left_of (growth rule fault pages m).0 (size_wanted pages m) m ≡ grown_so rule pages m (growth rule fault pages m).1
reply_tells rule fault pages m =
    let size : ℕ = size_wanted pages m in
    grown_end m.size size m (pages == 0) (not (allow_growth_to m.ty size)) (exceeds (maximum_asked m.ty) size || nat_lt m.capacity size) (memory_answer (Some rule) (Ok true) size (maximum_asked m.ty)) (memory_failure (Some rule) (Ok tt)) fault
