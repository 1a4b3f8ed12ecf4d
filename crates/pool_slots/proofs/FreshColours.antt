-- An image slot can be made of a region that was given its colour.
use Rattle.std.proofs.Common.{◌≡◌, ℕ, ◌+◌, ◌-◌, ◌*◌, ◌/◌, ◌%◌, ◌^◌, ◌<◌, ◌≤◌, Bool, true, false, replicate, refl, ap, ◌∙◌, sym, arith, inl, inr, Option, Some, None, slice_range, IfSome}
use Rattle.pool_slots.proofs.Imports.{zero-div, zero-mod, cases_lt, rounded_is_whole, replicated, told_weaker, count, rounded_up, Contents, CanReach, recoloured, Told, MakerTold, fresh, made_region, DecommitBehavior, page_above, IsFresh, HasColour, coloured, marked_in, range-zeros}
use Rattle.pool_pages.specs.declared.pages.RegionName.TheVariants.{Memory}
use Rattle.pool_slots.specs.Colourings.{ColouredRegionsAreFresh, stripe_colour}

-- what a region tells that an image slot of a colour can be made of
pub record Tells (len : ℕ) (colour : Option ℕ) (c : Contents) : Type 0 where
  pub origin : c.origin ≡ replicate len 0
  pub zeros : slice_range c.bytes 0 (0 + len) ≡ replicate len 0
  pub reach : CanReach 0 0 c
  pub has_colour : HasColour 0 len colour c

plain_tells : (page len : ℕ) → Tells len None (fresh page 0 len)
plain_tells page len =
    let all : 0 + len - 0 ≡ len = omega arith in
    record {
      origin = refl;
      zeros = range-zeros len 0 (0 + len) (omega arith) ∙ ap (λ (n : ℕ). replicate {A = ℕ} n 0) all;
      reach = λ k from below. absurd (omega arith);
      has_colour = λ k inside. replicated (len / page) k;
    }

below_end : (page len k : ℕ) → len % page ≡ 0 → k * page < 0 + len → k < 0 / page + len / page
below_end page len k whole below =
    elim (cases_lt k (0 / page + len / page)) [
      | inl under ↦ under
      | inr from ↦ let past = page_above page 0 len k (zero-mod page) whole from in absurd (omega arith)
    ]

colour_tells : (page len colour : ℕ) → len % page ≡ 0 → Tells len (Some colour) (recoloured 0 len colour (fresh page 0 len))
colour_tells page len colour whole =
    let plain = plain_tells page len in
    let first : 0 / page ≡ 0 = zero-div page in
    record {
      origin = plain.origin;
      zeros = plain.zeros;
      reach = plain.reach;
      has_colour = λ k inside.
          let under = below_end page len k whole inside.below in
          marked_in (replicate (len / page) 0) (0 / page) (len / page) k colour 0 (omega arith) (omega arith) under;
    }

tells : (page len : ℕ) (told : Bool) (colour : Option ℕ) (behaviour : DecommitBehavior) (i : ℕ) (maker : MakerTold) → len % page ≡ 0 → maker.tells ≡ told → IfSome (coloured colour 0 len (made_region (Memory i) behaviour (count page 0) (count page len) maker)).contents (Tells len colour)
tells page len true None behaviour i maker whole is = rw is (plain_tells page len)
tells page len true (Some colour) behaviour i maker whole is = rw is (colour_tells page len colour whole)
tells page len false None behaviour i maker whole is = rw is tt
tells page len false (Some colour) behaviour i maker whole is = rw is tt

region_fresh : (colour : Option ℕ) (page static_size : ℕ) (t : Told) → static_size + page ≤ 2 ^ 64 → t.page ≡ page → t.len ≡ rounded_up page static_size → IfSome t.contents (Tells (rounded_up page static_size) colour) → IsFresh (count page 0) (count page 0) static_size colour t
region_fresh colour page static_size t bounded paged long told =
    let size : ℕ = rounded_up page static_size in
    record {
      base_page = sym paged;
      accessible_page = sym paged;
      inside = rw paged (rw long (omega arith));
      bounded = rw paged bounded;
      within = omega arith;
      origin = told_weaker (Tells size colour) (λ c. c.origin ≡ replicate t.len 0) t.contents (λ c h. rw long h.origin) told;
      zeros = told_weaker (Tells size colour) (λ c. slice_range c.bytes 0 (0 + rounded_up t.page static_size) ≡ replicate (rounded_up t.page static_size) 0) t.contents (λ c h. rw paged h.zeros) told;
      reach = told_weaker (Tells size colour) (CanReach 0 0) t.contents (λ c h. h.reach) told;
      has_colour = told_weaker (Tells size colour) (HasColour 0 (rounded_up t.page static_size) colour) t.contents (λ c h. rw paged h.has_colour) told;
    }

same_shape : (colour : Option ℕ) (start len : ℕ) (t : Told) → ((coloured colour start len t).page ≡ t.page) × ((coloured colour start len t).len ≡ t.len)
same_shape None start len t = (refl, refl)
same_shape (Some colour) start len t = (refl, refl)

pub regions_fresh : ColouredRegionsAreFresh
regions_fresh num_stripes i maker behaviour page static_size some bounded =
    let colour : Option ℕ = stripe_colour num_stripes i in
    let size : ℕ = rounded_up page static_size in
    let made : Told = made_region (Memory i) behaviour (count page 0) (count page size) maker in
    let shape = same_shape colour 0 size made in
    region_fresh colour page static_size (coloured colour 0 size made) bounded shape.0 shape.1 (tells page size maker.tells colour behaviour i maker (rounded_is_whole page static_size) refl)
