-- Numbers of slots and places.
use Rattle.std.proofs.Common.{◌≡◌, ℕ, ◌+◌, ◌-◌, ◌*◌, ◌/◌, ◌<◌, ◌≤◌, ◌%◌, true, false, List, ◌∷◌, length, get_or, drop, drop-cons, add-one, refl, sym, ap, ◌∙◌, subst, arith, ◌==◌, ◌&&◌, nat_le, nat_lt, if◌then◌else◌}
use Rattle.pool_slots.proofs.Imports.{AllByRecursion, and_parts, ltb-true, div-mul-le_self, page_lt}
use Rattle.pool_slots.specs.Plans.{has_number, have_number, home_in, home_among, IsPlacedAllocator}
use Rattle.pool_slots.specs.declared.plan.Allocator.{Allocator}

pub shard_below : (a : Allocator) (n : ℕ) → IsPlacedAllocator a → has_number a n ≡ true → (n - a.first) / a.step / a.slots_per_shard < a.shards
shard_below a n placed has =
    let parts = and_parts (nat_le a.first n) (((n - a.first) % a.step == 0) && nat_lt ((n - a.first) / a.step) a.capacity) has in
    let more = and_parts ((n - a.first) % a.step == 0) (nat_lt ((n - a.first) / a.step) a.capacity) parts.1 in
    let below : (n - a.first) / a.step < a.capacity = ltb-true ((n - a.first) / a.step) a.capacity more.1 in
    let under : (n - a.first) / a.step / a.slots_per_shard * a.slots_per_shard ≤ (n - a.first) / a.step = div-mul-le_self ((n - a.first) / a.step) a.slots_per_shard in
    page_lt ((n - a.first) / a.step / a.slots_per_shard) a.shards a.slots_per_shard (omega (arith, placed.covered))

-- a search under way: none of the first has the number
pub record IsSearched (n i : ℕ) (all : List Allocator) : Type 0 where
  pub home : home_among all n ≡ home_among (drop i all) n
  pub placed : AllByRecursion IsPlacedAllocator (drop i all)
  pub some : 0 < have_number (drop i all) n

searched_from : (n i : ℕ) (all : List Allocator) (a : Allocator) (rest : List Allocator) → drop i all ≡ a ∷ rest → IsSearched n i all → (home_among all n ≡ (if has_number a n then home_in a n else home_among rest n)) × IsPlacedAllocator a × AllByRecursion IsPlacedAllocator rest × (0 < (if has_number a n then 1 else 0) + have_number rest n)
searched_from n i all a rest e s =
    let H : List Allocator → Type 0 = λ l. home_among all n ≡ home_among l n in
    let P : List Allocator → Type 0 = λ l. AllByRecursion IsPlacedAllocator l in
    let N : List Allocator → Type 0 = λ l. 0 < have_number l n in
    let placed : P (a ∷ rest) = subst P e s.placed in
    (subst H e s.home, placed.0, placed.1, subst N e s.some)

next_is : (all : List Allocator) (i : ℕ) (d : Allocator) → i < length all → drop i all ≡ get_or all i d ∷ drop (i + 1) all
next_is all i d inside = rw (add-one) (drop-cons all i d inside)

pub search_on : (n i : ℕ) (all : List Allocator) (a : Allocator) → i < length all → ((d : Allocator) → a ≡ get_or all i d) → has_number a n ≡ false → IsSearched n i all → IsSearched n (i + 1) all
search_on n i all a inside is not s =
    let e : drop i all ≡ a ∷ drop (i + 1) all = next_is all i a inside ∙ ap (λ (x : Allocator). x ∷ drop (i + 1) all) (sym (is a)) in
    let f = searched_from n i all a (drop (i + 1) all) e s in
    let none : ◌≡◌ {A = ℕ} (if has_number a n then 1 else 0) 0 = rw not refl in
    record { home = f.0 ∙ rw not refl; placed = f.2; some = omega (arith, f.3, none) }

pub search_here : (n i : ℕ) (all : List Allocator) (a : Allocator) → i < length all → ((d : Allocator) → a ≡ get_or all i d) → has_number a n ≡ true → IsSearched n i all → (home_in a n ≡ home_among all n) × IsPlacedAllocator a
search_here n i all a inside is has s =
    let e : drop i all ≡ a ∷ drop (i + 1) all = next_is all i a inside ∙ ap (λ (x : Allocator). x ∷ drop (i + 1) all) (sym (is a)) in
    let f = searched_from n i all a (drop (i + 1) all) e s in
    (sym (f.0 ∙ rw has refl), f.1)

pub placed_at : (i : ℕ) (all : List Allocator) (a : Allocator) (n : ℕ) → i < length all → ((d : Allocator) → a ≡ get_or all i d) → IsSearched n i all → IsPlacedAllocator a
placed_at i all a n inside is s =
    let e : drop i all ≡ a ∷ drop (i + 1) all = next_is all i a inside ∙ ap (λ (x : Allocator). x ∷ drop (i + 1) all) (sym (is a)) in
    (searched_from n i all a (drop (i + 1) all) e s).1
