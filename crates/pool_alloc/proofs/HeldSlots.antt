-- What the slot of a memory keeps of the region that was made for it, whatever colour that has.
use Rattle.std.proofs.Common.{◌≡◌, ℕ, Option, Some, None, refl, ap, ◌∙◌, is_some}
use Rattle.pool_alloc.proofs.Imports.{count, rounded_up, MakerTold, made_region, plan_for, Told, Slot, SlotIdentity, coloured, told_same, stripe_colour}
use Rattle.pool_pages.proofs.Small.{told_if}
use Rattle.pool_pages.specs.declared.pages.RegionName.TheVariants.{Memory}
use Rattle.pool_alloc.specs.BetweenSteps.{IsPoolSlot}
use Rattle.pool_alloc.specs.declared.pool_core.Settings.{Settings}

coloured_name : (colour : Option ℕ) (start len : ℕ) (t : Told) → (coloured colour start len t).name ≡ t.name
coloured_name None start len t = refl
coloured_name (Some number) start len t = refl

coloured_plan : (colour : Option ℕ) (start len : ℕ) (t : Told) → (coloured colour start len t).plan ≡ t.plan
coloured_plan None start len t = refl
coloured_plan (Some number) start len t = refl

coloured_tells : (colour : Option ℕ) (start len : ℕ) (t : Told) → is_some (coloured colour start len t).contents ≡ is_some t.contents
coloured_tells None start len t = refl
coloured_tells (Some number) start len t = told_same _ t.contents

module _ (maker : MakerTold) (s : Settings) (i : ℕ) (slot : Slot) (of : IsPoolSlot maker s i slot) where
  abbrev colour : Option ℕ
  colour = stripe_colour s.num_stripes i

  abbrev size : ℕ
  size = rounded_up maker.page s.max_memory_size

  abbrev made : Told
  made = made_region (Memory i) s.behaviour (count maker.page 0) (count maker.page size) maker

  pub held_name : slot.region.name ≡ Memory i
  held_name = ap (λ (z : SlotIdentity). z.name) of.same ∙ coloured_name colour 0 size made

  pub held_plan : slot.region.plan ≡ plan_for (Memory i) maker
  held_plan = ap (λ (z : SlotIdentity). z.plan) of.same ∙ coloured_plan colour 0 size made

  pub held_tells : is_some slot.region.contents ≡ maker.tells
  held_tells = ap (λ (z : SlotIdentity). z.tells) of.same ∙ coloured_tells colour 0 size made ∙ told_if maker.tells _
