-- A growth without a limiter of a memory that stays where it is.
use Rattle.std.proofs.Common.{◌≡◌, ℕ, ◌+◌, ◌^◌, ◌≤◌, Bool, true, false, refl, sym, ap, ◌∙◌, subst, arith, nat_lt, Option, Some, None, Result, Ok, Err, ◌==◌, ◌||◌, ◌&&◌, not}
use Rattle.std.proofs.lemmas.Bool.Decides.{nat_tests}
use Rattle.pool_pages.specs.MakerTold.{MakerTold}
use Rattle.pool_types.specs.MemoryTypes.{page_size, allow_growth_to}
use Rattle.pool_limits.specs.LimiterTold.{LimiterTold}
use Rattle.pool_limits.specs.Exchanges.{Exchange}
use Rattle.pool_limits.specs.Growing.{GrowthGiven, PagesMake, MakesBy, pages_result, result_by}
use Rattle.pool_limits.specs.declared.errors.LimiterError.{LimiterError}
use Rattle.pool_limits.specs.declared.errors.GrowError.{GrowError}
use Rattle.pool_limits.specs.declared.errors.GrowError.TheVariants as failed
use Rattle.pool_limits.specs.declared.errors.GrowFault.{GrowFault}
use Rattle.pool_memory.specs.Linear.{Linear, Storage, in_slot, stored}
use Rattle.pool_memory.specs.Growing.{GrowsTo, IsUngrown, FailsInPlace, GrowsMoving, grown_size, past_room, exceeds}
use Rattle.pool_memory.specs.Making.{maximum_asked}
use Rattle.pool_memory.specs.Memories.{MemoryState}
use Rattle.pool_memory.specs.Moving.{MakerLeft, CallLeaves}
use Rattle.pool_shared.specs.Shared.{Grows, GrowsBy, PagesGrow, is_forbidden}

-- in its place only a call on pages fails
page_fault : (e : GrowError) (size : ℕ) (s t : Storage) → FailsInPlace e size s t → e ≡ failed.PageFault
page_fault e size (in_slot s) (in_slot t) fails = fails.0
page_fault e size (in_slot s) (stored len bytes) fails = absurd fails
page_fault e size (stored len bytes) new fails = absurd fails

-- and the maker isn't called
maker_same : (failure : Option GrowError) (size : ℕ) (old new : Linear) (maker left : Option MakerTold) → nat_lt old.capacity size ≡ false → MakerLeft failure size old new maker left → left ≡ maker
maker_same failure size old new None None fits leaves = refl
maker_same failure size old new None (Some after) fits leaves = absurd leaves
maker_same failure size old new (Some before) None fits leaves = absurd leaves
maker_same failure size old new (Some before) (Some after) fits leaves = ap Some (subst (λ (b : Bool). CallLeaves b failure size old new before after) fits leaves)

-- what a growth without a limiter makes
abbrev Outcome : Bool → Bool → Bool → ℕ → Linear → Linear → Option MakerTold → Option MakerTold → Result (Option (ℕ × ℕ)) GrowFault → Type 0
Outcome nothing past_type past_room size old new maker left r = GrowsBy nothing (past_type || past_room) size old new r × (left ≡ maker)

-- over sizes of a memory, and a maker
module _ (size : ℕ) (old new : Linear) (maker left : Option MakerTold) (r : Result (Option (ℕ × ℕ)) GrowFault) where
  abbrev granted : ℕ × ℕ
  granted = (old.size, size)

  abbrev Leaves : Option GrowError → Type 0
  Leaves failure = MakerLeft failure size old new maker left

  pages_grow : (failure : Option GrowError) → nat_lt old.capacity size ≡ false → r ≡ pages_result granted failure (Ok tt) → PagesMake (GrowsTo size old new) (λ e. IsUngrown e size old new) failure → PagesMake (Leaves None) (λ e. Leaves (Some e)) failure → Outcome false false false size old new maker left r
  pages_grow None fits is grown leaves =
      let P : Result (Option (ℕ × ℕ)) GrowFault → Type 0 = λ k. PagesGrow size old new k in
      (subst P (sym is) (refl, grown), maker_same None size old new maker left fits leaves)
  pages_grow (Some e) fits is ungrown leaves =
      let P : Result (Option (ℕ × ℕ)) GrowFault → Type 0 = λ k. PagesGrow size old new k in
      let fault : e ≡ failed.PageFault = page_fault e size old.storage new.storage (ungrown.in_place (grind (arith, nat_tests))) in
      let none : r ≡ Ok None = is ∙ ap (λ (k : GrowError). pages_result granted (Some k) (Ok tt)) fault in
      let failed : IsUngrown failed.PageFault size old new = subst (λ (k : GrowError). IsUngrown k size old new) fault ungrown in
      (subst P (sym none) failed, maker_same (Some e) size old new maker left fits leaves)

  grows_by : (nothing past_type past_room : Bool) (failure : Option GrowError) → (nothing ≡ true → size ≡ old.size) → (past_room ≡ false → nat_lt old.capacity size ≡ false)
      → r ≡ result_by granted nothing past_type past_room (record { answer = Ok true; failure = failure; report = Ok tt })
      → MakesBy (new ≡ old) (GrowsTo size old new) (λ e. IsUngrown e size old new) nothing past_type past_room (record { answer = Ok true; failure = failure; report = Ok tt })
      → MakesBy (left ≡ maker) (Leaves None) (λ e. Leaves (Some e)) nothing past_type past_room (record { answer = Ok true; failure = failure; report = Ok tt })
      → Outcome nothing past_type past_room size old new maker left r
  grows_by true past_type past_room failure none room is same makers = ((is ∙ ap (λ (n : ℕ). Ok (Some (old.size, n))) (none refl), same), makers)
  grows_by false true past_room failure none room is same makers = ((is, same), makers)
  grows_by false false true failure none room is same makers = ((is, same), makers)
  grows_by false false false failure none room is made makers = pages_grow failure (room refl) is made makers

or_right : (a b : Bool) → (a || (true && b)) ≡ false → b ≡ false
or_right false b none = none
or_right true b none = absurd (let no : true ≡ false = none in cc no)

fixed_room : (pages : ℕ) (m : MemoryState) → m.may_move ≡ false → past_room (grown_size pages m) m ≡ false → nat_lt m.linear.capacity (grown_size pages m) ≡ false
fixed_room pages m fixed within = or_right (exceeds (maximum_asked m.ty) (grown_size pages m)) (nat_lt m.linear.capacity (grown_size pages m)) (subst (λ (b : Bool). (exceeds (maximum_asked m.ty) (grown_size pages m) || (not b && nat_lt m.linear.capacity (grown_size pages m))) ≡ false) fixed within)

same_size : (pages : ℕ) (m : MemoryState) → m.linear.size + page_size m.ty ≤ 2 ^ 64 → (pages == 0) ≡ true → grown_size pages m ≡ m.linear.size
same_size pages m room none =
    let zero : pages ≡ 0 = grind (arith, nat_tests) in
    ap (λ (n : ℕ). grown_size n m) zero ∙ omega (arith, room)

-- a growth without a limiter, by what the memory tells of it
pub grows_alone : {R : Type 0} (told : R → LimiterTold) (leads : R → Exchange → R → Type 0) (pages : ℕ) (old new : MemoryState) (maker left : Option MakerTold) (r : Result (Option (ℕ × ℕ)) GrowFault) → old.may_move ≡ false → old.linear.size + page_size old.ty ≤ 2 ^ 64
    → GrowsMoving told leads pages (old.linear.size, grown_size pages old) old new maker left None None r → Grows pages old new r × (left ≡ maker)
grows_alone told leads pages old new maker left r fixed room grows =
    let size : ℕ = grown_size pages old in
    let past_type : Bool = not (allow_growth_to old.ty size) in
    let past : Bool = past_room size old in
    let g : GrowthGiven = grows.0 in
    let h : GrowthGiven = record { answer = Ok true; failure = g.failure; report = Ok tt } in
    let same : g ≡ h = ap (λ (a : Result Bool LimiterError). record { answer = a; failure = g.failure; report = g.report }) grows.1.0.ruled.answer ∙ ap (λ (b : Result (Unit {0}) LimiterError). record { answer = Ok true; failure = g.failure; report = b }) grows.1.0.ruled.report in
    let P : GrowthGiven → Type 0 = λ k. MakesBy (new.linear ≡ old.linear) (GrowsTo size old.linear new.linear) (λ e. IsUngrown e size old.linear new.linear) (pages == 0) past_type past k in
    let Q : GrowthGiven → Type 0 = λ k. MakesBy (left ≡ maker) (MakerLeft None size old.linear new.linear maker left) (λ e. MakerLeft (Some e) size old.linear new.linear maker left) (pages == 0) past_type past k in
    grows_by size old.linear new.linear maker left r (pages == 0) past_type past g.failure (same_size pages old room) (fixed_room pages old fixed)
    (grows.1.0.ruled.replies ∙ ap (λ (k : GrowthGiven). result_by (old.linear.size, size) (pages == 0) past_type past k) same)
    (subst P same grows.1.0.linear)
    (subst Q same grows.1.1.1)

more_by : (nothing forbidden : Bool) (size least : ℕ) (old new : Linear) (r : Result (Option (ℕ × ℕ)) GrowFault) → least ≤ old.size → old.size ≤ size → GrowsBy nothing forbidden size old new r → least ≤ new.size
more_by true forbidden size least old new r made more grows = omega (arith, ap (λ (l : Linear). l.size) grows.1)
more_by false true size least old new r made more grows = omega (arith, ap (λ (l : Linear). l.size) grows.1)
more_by false false size least old new (Ok (Some sizes)) made more grows = omega (arith, grows.1.same_size)
more_by false false size least old new (Ok None) made more grows = omega (arith, grows.same_size)
more_by false false size least old new (Err e) made more grows = absurd grows

-- it has no fewer bytes than before
pub grows_more : (least pages : ℕ) (old new : MemoryState) (r : Result (Option (ℕ × ℕ)) GrowFault) → least ≤ old.linear.size → old.linear.size + page_size old.ty ≤ 2 ^ 64 → Grows pages old new r → least ≤ new.linear.size
grows_more least pages old new r made room grows = more_by (pages == 0) (is_forbidden pages old) (grown_size pages old) least old.linear new.linear r made (omega (arith, room)) grows
