-- A stack behind its guard page.
use Rattle.std.proofs.Common.{◌≡◌, ℕ, ◌+◌, ◌-◌, ◌*◌, ◌/◌, ◌%◌, ◌^◌, ◌<◌, length, refl, sym, ap, ◌∙◌, subst, slice_range, replicate, get_or, ◌++◌, option_map}
use Rattle.pool_on_demand.proofs.Imports.{zero-div, le-div_iff_mul-le, length-replicate, get_or-replicate, get_or_append_left, count, IsPageSize, Contents, CanReach, hidden, put_all, fresh, Told, TellsShaped, hiding, succeeded, page_below, sub_whole, IsFresh, HasColour, fresh_keeps, fresh_clean, marked_above, range-zeros, rounded_same, followed, IsPlain, plain_slot, IsOpen, guarded, guarded_plain}

-- the same of the region as the call leaves it
pub guarded_region : (t u : Told) (first len : ℕ) → first ≡ 0 → len ≡ t.page → u ≡ succeeded (hiding first len) t → u ≡ guarded t
guarded_region t u first len none one is = is ∙ ap (λ (n : ℕ). succeeded (hiding n len) t) none ∙ ap (λ (n : ℕ). succeeded (hiding 0 n) t) one

pub region_plain : (t u : Told) (len : ℕ) → len ≡ t.page → u ≡ guarded t → IsOpen t → IsPageSize t.page → t.len < 2 ^ 64 → TellsShaped u → IsPlain (plain_slot len u)
region_plain t u len one is made sized bounded shaped =
    let plain : IsPlain (plain_slot t.page (guarded t)) = guarded_plain t made sized bounded (subst TellsShaped is shaped) in
    subst (λ (n : ℕ). IsPlain (plain_slot n u)) (sym one) (subst (λ (x : Told). IsPlain (plain_slot t.page x)) (sym is) plain)
