-- What a region under the other behaviour tells of a call, by what the region that it stands on tells.
use Rattle.std.proofs.Common.{◌≡◌, ℕ, Bool, true, false, List, [], Option, Some, refl, sym, ap, subst, ◌∙◌, ◌==◌, ◌||◌}
use Rattle.std.specs.Option.{IfSome}
use Rattle.pool_pages.specs.Told.{Told, PageCall, passes, zeroing}

pub zeroing_planned : (ok : Bool) (call : PageCall) (inner t : Told) → zeroing inner ≡ t → IfSome inner.plan (λ plan. ok ≡ passes plan call inner) → IfSome t.plan (λ plan. ok ≡ passes plan call t)
zeroing_planned ok call inner t is h =
    let P : Told → Type 0 = λ t. IfSome t.plan (λ plan. ok ≡ passes plan call t) in subst P is h

-- a call that no plan lists
nothing_refuses : (call : PageCall) (t : Told) → true ≡ passes [] call t
nothing_refuses call t = elim (call.len == 0) as (λ b. true ≡ (b || true)) [ true ↦ refl | false ↦ refl ]

pub never_refused : (call : PageCall) (inner t : Told) → zeroing inner ≡ t → inner.plan ≡ Some [] → IfSome t.plan (λ plan. true ≡ passes plan call t)
never_refused call inner t is none =
    let P : Option (List ℕ) → Type 0 = λ p. IfSome p (λ plan. true ≡ passes plan call t) in
    subst P (sym none ∙ ap (λ x. x.plan) is) (nothing_refuses call t)
