-- The arithmetic of a slab's layout.
use Rattle.std.proofs.Common.{◌≡◌, ℕ, zero, suc, ◌+◌, ◌-◌, ◌*◌, ◌/◌, ◌%◌, ◌^◌, ◌<◌, ◌≤◌, nat_lt, Bool, true, false, ◌&&◌, refl, sym, ap, ◌∙◌, subst, arith, inl, inr, max, min, nat_le, if◌then◌else◌}
use Rattle.pool_slots.proofs.Imports.{div_ceil, mul-le-mul_right, mul-mod_left, div-mul-add, div_ceil_times, cases_lt, nat_tests, rounded_up_above, rounded_up, is_address, whole, page_of, page_below}
use Rattle.pool_slots.specs.declared.slab.SlabConstraints.{SlabConstraints}
use Rattle.pool_slots.specs.declared.slab.SlabLayout.{SlabLayout}
use Rattle.pool_slots.specs.Slabs.{IsLayout, SlotsLieApart, faulting_region, has_room, is_striped, layout_of, slot_size, stripe_count, striped_slot, stripe_distance, total_bytes}

-- and stays at or below whole pages that it was at or below
pub rounded_within : (page n bound : ℕ) → 0 < page → bound % page ≡ 0 → n ≤ bound → rounded_up page n ≤ bound
rounded_within page n bound some pages below =
    let up : ℕ = (n + page - 1) / page * page in
    let near = page_of (n + page - 1) page some in
    let most : up ≤ n + page - 1 = near.0 in
    let is : page * (bound / page) ≡ bound = whole bound page pages in
    let other : bound / page * page ≡ bound = omega (arith, is) in
    elim (cases_lt bound up) [
      | inl more ↦ absurd (omega (arith, page_below (bound / page) up page (mul-mod_left ((n + page - 1) / page) page) (omega arith), below, most, other, some))
      | inr same ↦ same
    ]

-- the same by a division that is rounded up
pub rounded_by_pages : (page n : ℕ) → 0 < page → div_ceil n page * page ≡ rounded_up page n
rounded_by_pages page n some =
    let m : ℕ = div_ceil n page in
    let times = div_ceil_times n page some in
    let least : n ≤ m * page = times.0 in
    let most : m * page < n + page = times.1 in
    let rest : ℕ = n + page - 1 - m * page in
    let sum : m * page + rest ≡ n + page - 1 = omega (arith, most, some) in
    let small : rest < page = omega (arith, least, some) in
    sym (ap (λ (k : ℕ). k / page * page) (sym sum) ∙ ap (λ (k : ℕ). k * page) (div-mul-add m page rest small))

-- an equal share, rounded up, is at most the whole
pub share_within : (n parts : ℕ) → 0 < parts → div_ceil n parts ≤ n
share_within n parts some =
    let m : ℕ = div_ceil n parts in
    let times = div_ceil_times n parts some in
    let most : m * parts < n + parts = times.1 in
    elim (cases_lt n m) [
      | inl more ↦
          let order : (n + 1) * parts ≤ m * parts = mul-le-mul_right parts (omega (arith, more)) in
          let sum : (n + 1) * parts ≡ n * parts + parts = grind arith in
          let once : n * 1 ≤ n * parts = times_more n parts some in
          absurd (omega (arith, order, sum, once, most))
      | inr same ↦ same
    ] where
      times_more : (k p : ℕ) → 0 < p → k * 1 ≤ k * p
      times_more k p positive = let order : 1 * k ≤ p * k = mul-le-mul_right k (omega (arith, positive)) in omega (arith, order)

-- the tests of the striping, one by one
pub striped_facts : (c : SlabConstraints) → is_striped c ≡ true → (0 < c.guard_bytes.bytes) × ((0 < c.max_memory_bytes.bytes) × ((0 < c.num_slots) × (2 ≤ c.num_pkeys_available)))
striped_facts c is = facts (c.guard_bytes.bytes) (c.max_memory_bytes.bytes) c.num_slots c.num_pkeys_available is where
  facts : (a b d e : ℕ) → (nat_lt 0 a && (nat_lt 0 b && (nat_lt 0 d && nat_le 2 e))) ≡ true → (0 < a) × ((0 < b) × ((0 < d) × (2 ≤ e)))
  facts a b d e both = (grind (arith, nat_tests), (grind (arith, nat_tests), (grind (arith, nat_tests), grind (arith, nat_tests))))

module _ (c : SlabConstraints) (page_some : 0 < c.guard_bytes.page) (pages : faulting_region c % c.guard_bytes.page ≡ 0) where
  abbrev f : ℕ
  f = faulting_region c

  abbrev g : ℕ
  g = c.max_memory_bytes.bytes

  abbrev s : ℕ
  s = stripe_count c

  -- what is said of a slot and of stripes, however they were reckoned
  abbrev Fits : ℕ → ℕ → Type 0
  Fits slot stripes = (0 < stripes) × ((g ≤ slot) × ((slot ≤ f) × (f ≤ slot * stripes)))

  fits_striped : (slot stripes : ℕ) → 0 < stripes → slot ≡ rounded_up c.guard_bytes.page (max (div_ceil f stripes) g) → Fits slot stripes
  fits_striped slot stripes some is =
      let share : ℕ = div_ceil f stripes in
      let size : ℕ = max share g in
      let over : size ≤ rounded_up c.guard_bytes.page size = rounded_up_above c.guard_bytes.page size page_some in
      let bound : size ≤ f = omega (arith, share_within f stripes some) in
      let under : rounded_up c.guard_bytes.page size ≤ f = rounded_within c.guard_bytes.page size f page_some pages bound in
      let covers : f ≤ share * stripes = (div_ceil_times f stripes some).0 in
      let more : share * stripes ≤ slot * stripes = mul-le-mul_right stripes (omega (arith, is, over)) in
      (some, (omega (arith, is, over), (omega (arith, is, under), omega (arith, covers, more))))

  positive : (n : ℕ) → f ≤ n * g → 0 < g → 0 < n
  positive zero below some = absurd (omega (arith, below, some))
  positive (suc n) below some = omega arith

  stripes_some : 0 < s
  stripes_some = some_by (is_striped c) refl where
    some_by : (b : Bool) → is_striped c ≡ b → 0 < (if b then min c.num_pkeys_available (min (div_ceil f g) c.num_slots) else 1)
    some_by false is = omega arith
    some_by true is =
        let facts = striped_facts c is in
        let keys : 2 ≤ c.num_pkeys_available = facts.1.1.1 in
        let slots : 0 < c.num_slots = facts.1.1.0 in
        let times : f ≤ div_ceil f g * g = (div_ceil_times f g facts.1.0).0 in
        let room : 0 < div_ceil f g = positive (div_ceil f g) times facts.1.0 in
        omega (arith, keys, slots, room)

  pub slots_fit : Fits (slot_size c) s
  slots_fit = fits_by (is_striped c) refl where
    fits_by : (b : Bool) → is_striped c ≡ b → Fits (if b then striped_slot c else f) s
    fits_by true is = fits_striped (striped_slot c) s stripes_some refl
    fits_by false is =
        let one : s ≡ 1 = ap (λ (b : Bool). if b then min c.num_pkeys_available (min (div_ceil f g) c.num_slots) else 1) is in
        let P : ℕ → Type 0 = λ n. Fits f n in
        subst P (sym one) (omega arith, (omega arith, (omega arith, omega arith)))

  abbrev l : SlabLayout
  l = layout_of c

  pub lie_apart : SlotsLieApart c l
  lie_apart =
      let slot : ℕ = slot_size c in
      let within : slot ≤ f = slots_fit.1.1.0 in
      record {
        apart = λ i j before.
            let order : (i + 1) * slot ≤ j * slot = mul-le-mul_right slot (omega (arith, before)) in
            let sum : (i + 1) * slot ≡ i * slot + slot = grind arith in
            omega (arith, order, sum);
        inside = λ i below.
            let order : (i + 1) * slot ≤ c.num_slots * slot = mul-le-mul_right slot (omega (arith, below)) in
            let sum : (i + 1) * slot ≡ i * slot + slot = grind arith in
            omega (arith, order, sum, within);
        holds = slots_fit.1.0;
        within = within;
        beyond = slots_fit.1.1.1;
        striped = slots_fit.0;
      }

  -- the stripes are no more than the slots, where there are more than one
  distance_fits : total_bytes l < 2 ^ 64 → f < 2 ^ 64 → stripe_distance l < 2 ^ 64
  distance_fits total region = fits_by (is_striped c) refl where
    fits_by : (b : Bool) → is_striped c ≡ b → stripe_distance l < 2 ^ 64
    fits_by true is =
        let count : s ≡ min c.num_pkeys_available (min (div_ceil f g) c.num_slots) = ap (λ (b : Bool). if b then min c.num_pkeys_available (min (div_ceil f g) c.num_slots) else 1) is in
        let order : s * slot_size c ≤ c.num_slots * slot_size c = mul-le-mul_right (slot_size c) (omega (arith, count)) in
        omega (arith, order, total)
    fits_by false is =
        let one : s ≡ 1 = ap (λ (b : Bool). if b then min c.num_pkeys_available (min (div_ceil f g) c.num_slots) else 1) is in
        let size : slot_size c ≡ f = ap (λ (b : Bool). if b then striped_slot c else f) is in
        let P : ℕ → ℕ → Type 0 = λ n m. n * m < 2 ^ 64 in
        subst (λ (m : ℕ). P (slot_size c) m) (sym one) (subst (λ (n : ℕ). P n 1) (sym size) (omega (arith, region)))

  pub is_layout : has_room c ≡ true → IsLayout l
  is_layout room =
      let facts = both f (total_bytes l) room in
      record {
        before = refl;
        behind = refl;
        total = facts.1;
        distance = distance_fits facts.1 facts.0;
      } where
        both : (a b : ℕ) → (is_address a && is_address b) ≡ true → (a < 2 ^ 64) × (b < 2 ^ 64)
        both a b holds = (grind (arith, nat_tests), grind (arith, nat_tests))
