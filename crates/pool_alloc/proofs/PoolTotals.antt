-- Sums over the parts of the pool, one part after the other, each up to the end of its type.
use Rattle.std.proofs.Common.{◌≡◌, ℕ, ◌+◌, ◌-◌, ◌^◌, ◌<◌, List, [], ◌∷◌, ◌++◌, length, take, get_or, sym, ap, ◌∙◌, arith, min, map, sum_by}
use Rattle.pool_alloc.proofs.Imports.{take_more, map-append, sum_by_push, PageCalls, both, added, all_calls, sum_at_most, same_calls, slot_of, PoolPart}
use Rattle.pool_alloc.specs.TableLeases.{LeasedTable}
use Rattle.pool_alloc.specs.PoolTotals.{calls_of_leases, part_calls, calls_of_parts, calls_of_tables, table_calls}
use Rattle.pool_alloc.specs.Leases.{Lease}

one_more : (s x t m : ℕ) → t ≡ s + x → min (min s m + x) m ≡ min t m
one_more s x t m e = omega arith

-- a sum up to some end, with one thing more
pub sum_more : {X : Type 0} (of : X → ℕ) (m : ℕ) (xs : List X) (i : ℕ) (d : X) → i < length xs → min (min (sum_by of (take i xs)) m + of (get_or xs i d)) m ≡ min (sum_by of (take (i + 1) xs)) m
sum_more of m xs i d inside = one_more _ _ _ m (ap (sum_by of) (take_more xs i d inside) ∙ sum_by_push of (take i xs) (get_or xs i d))

-- the calls of one region more, or of several
one_pushed : (of : PageCalls → ℕ) (calls : List PageCalls) (more : PageCalls) → both (sum_at_most of calls) (of more) ≡ sum_at_most of (calls ++ more ∷ [])
one_pushed of calls more = one_more _ _ _ (2 ^ 64 - 1) (sum_by_push of calls more)

calls_pushed : (calls : List PageCalls) (more : PageCalls) → added (all_calls calls) more ≡ all_calls (calls ++ more ∷ [])
calls_pushed calls more =
    same_calls (added (all_calls calls) more) (all_calls (calls ++ more ∷ []))
    (one_pushed (λ c. c.expose) calls more)
    (one_pushed (λ c. c.hide) calls more)
    (one_pushed (λ c. c.map_image) calls more)
    (one_pushed (λ c. c.remap_zeros) calls more)
    (one_pushed (λ c. c.erase) calls more)
    (one_pushed (λ c. c.recolour) calls more)
    (one_pushed (λ c. c.decommit) calls more)

-- the region of one thing more
next_added : {X : Type 0} (of : X → PageCalls) (xs : List X) (i : ℕ) (d : X) → i < length xs → added (all_calls (map of (take i xs))) (of (get_or xs i d)) ≡ all_calls (map of (take (i + 1) xs))
next_added {X} of xs i d inside =
    calls_pushed (map of (take i xs)) (of (get_or xs i d))
    ∙ ap all_calls (sym (map-append of (take i xs) (get_or xs i d ∷ [])))
    ∙ ap (λ (l : List X). all_calls (map of l)) (sym (take_more xs i d inside))

pub parts_more : {P H : Type 0} (parts : List (PoolPart P H)) (i : ℕ) (d : PoolPart P H) → i < length parts → added (calls_of_parts (take i parts)) (part_calls (get_or parts i d)) ≡ calls_of_parts (take (i + 1) parts)
parts_more parts i d inside = next_added part_calls parts i d inside

pub leases_more : (leases : List Lease) (i : ℕ) (d : Lease) → i < length leases → added (calls_of_leases (take i leases)) (slot_of (get_or leases i d).memory).region.calls ≡ calls_of_leases (take (i + 1) leases)
leases_more leases i d inside = next_added (λ (l : Lease). (slot_of l.memory).region.calls) leases i d inside

pub tables_more : (leases : List LeasedTable) (i : ℕ) (d : LeasedTable) → i < length leases → added (calls_of_tables (take i leases)) (table_calls (get_or leases i d)) ≡ calls_of_tables (take (i + 1) leases)
tables_more leases i d inside = next_added table_calls leases i d inside
