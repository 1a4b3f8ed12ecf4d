-- What the rules on a pool's settings say of its slab, and the layout for these settings.
use Rattle.std.proofs.Common.{◌≡◌, ℕ, ◌+◌, ◌-◌, ◌*◌, ◌%◌, ◌<◌, ◌≤◌, nat_lt, Bool, true, false, ◌&&◌, refl, sym, ap, ◌∙◌, arith, inl, inr, max, min, nat_le, if◌then◌else◌}
use Rattle.pool_slots.proofs.Imports.{div_ceil, div_ceil_times, cases_lt, nat_tests, rounded_is_whole, rounded_same, rounded_up_above, rounded_up, is_address, keys_used, may_stripe, slab_stripes, slab_slot, rounds_up, PoolingAllocationConfig, Tunables, Offered, add_whole}
use Rattle.pool_slots.specs.declared.slab.SlabConstraints.{SlabConstraints}
use Rattle.pool_slots.specs.Slabs.{SettingsSpeakOfLayouts, faulting_region, guard_before, is_striped, layout_of, settings_slab, slot_size, stripe_count, striped_slot, total_bytes}
use Rattle.pool_slots.proofs.Layouts.{rounded_within, share_within}

-- a size is above zero as it is rounded up exactly where it was
rounded_some : (page n : ℕ) → 0 < page → nat_lt 0 (rounded_up page n) ≡ nat_lt 0 n
rounded_some page n some =
    elim (cases_lt 0 n) [
      | inl more ↦
          let over : n ≤ rounded_up page n = rounded_up_above page n some in
          let up : 0 < rounded_up page n = omega (arith, over, more) in
          grind (arith, nat_tests, up, more)
      | inr none ↦
          let pages : 0 % page ≡ 0 = omega (arith, some) in
          let under : rounded_up page n ≤ 0 = rounded_within page n 0 some pages none in
          grind (arith, nat_tests, under, none)
    ]

max_whole : (a b page : ℕ) → a % page ≡ 0 → b % page ≡ 0 → max a b % page ≡ 0
max_whole a b page first second =
    elim (cases_lt a b) [
      | inl below ↦ let is : max a b ≡ b = omega (arith, below) in ap (λ (n : ℕ). n % page) is ∙ second
      | inr above ↦ let is : max a b ≡ a = omega (arith, above) in ap (λ (n : ℕ). n % page) is ∙ first
    ]

share_of_one : (n : ℕ) → div_ceil n 1 ≡ n
share_of_one n =
    let covers : n ≤ div_ceil n 1 * 1 = (div_ceil_times n 1 (omega arith)).0 in
    omega (arith, share_within n 1 (omega arith), covers)

module _ (s : PoolingAllocationConfig) (t : Tunables) (page : ℕ) (o : Offered) (some : 0 < page) where
  abbrev c : SlabConstraints
  c = settings_slab s t page o

  abbrev f : ℕ
  f = faulting_region c

  abbrev g : ℕ
  g = rounded_up page s.limits.max_memory_size

  abbrev many : ℕ
  many = min (keys_used s o) (min (div_ceil f g) s.limits.total_memories)

  same_striping : is_striped c ≡ may_stripe s t o
  same_striping =
      ap (λ (b : Bool). b && (nat_lt 0 g && (nat_lt 0 s.limits.total_memories && nat_le 2 (keys_used s o)))) (rounded_some page t.memory_guard_size some)
      ∙ ap (λ (b : Bool). nat_lt 0 t.memory_guard_size && (b && (nat_lt 0 s.limits.total_memories && nat_le 2 (keys_used s o)))) (rounded_some page s.limits.max_memory_size some)

  same_stripes : slab_stripes s t page o ≡ stripe_count c
  same_stripes = ap (λ (b : Bool). if b then many else 1) (sym same_striping)

  pages : f % page ≡ 0
  pages = add_whole (max (rounded_up page t.memory_reservation) g) (rounded_up page t.memory_guard_size) page (max_whole (rounded_up page t.memory_reservation) g page (rounded_is_whole page t.memory_reservation) (rounded_is_whole page s.limits.max_memory_size)) (rounded_is_whole page t.memory_guard_size)

  same_slot_by : (b : Bool) → is_striped c ≡ b → slab_slot s t page o ≡ slot_size c
  same_slot_by true is =
      ap (λ (n : ℕ). rounded_up page (max (div_ceil f n) g)) same_stripes
      ∙ sym (ap (λ (b : Bool). if b then striped_slot c else f) is)
  same_slot_by false is =
      let one : stripe_count c ≡ 1 = ap (λ (b : Bool). if b then many else 1) is in
      let whole : div_ceil f 1 ≡ f = share_of_one f in
      let size : max (div_ceil f 1) g ≡ f = omega (arith, whole) in
      ap (λ (n : ℕ). rounded_up page (max (div_ceil f n) g)) (same_stripes ∙ one)
      ∙ ap (rounded_up page) size
      ∙ rounded_same page f some pages
      ∙ sym (ap (λ (b : Bool). if b then striped_slot c else f) is)

  same_slot : slab_slot s t page o ≡ slot_size c
  same_slot = same_slot_by (is_striped c) refl

  same_total : guard_before c + s.limits.total_memories * slab_slot s t page o + (f - slab_slot s t page o) ≡ total_bytes (layout_of c)
  same_total =
      let n : ℕ = s.limits.total_memories in
      let size : ℕ = slot_size c in
      let swap : n * size ≡ size * n = grind arith in
      ap (λ (x : ℕ). guard_before c + n * x + (f - x)) same_slot
      ∙ ap (λ (y : ℕ). guard_before c + y + (f - size)) swap

pub settings_speak : SettingsSpeakOfLayouts
settings_speak s t page o some = record {
  stripes = same_stripes s t page o some;
  slot = same_slot s t page o some;
  total = same_total s t page o some;
  rule = ap (λ (n : ℕ). rounds_up page t.memory_reservation && (rounds_up page s.limits.max_memory_size && (rounds_up page t.memory_guard_size && (is_address (faulting_region (settings_slab s t page o)) && is_address n)))) (same_total s t page o some);
}
