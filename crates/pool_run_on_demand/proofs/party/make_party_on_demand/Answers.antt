use Rattle.std.proofs.Common.{◌≡◌, ℕ, List, [], ◌∷◌, ◌++◌, length, replicate, None, sym, ap, ◌∙◌, arith}
use Rattle.pool_run_on_demand.proofs.Imports.{replicate_more, ListedHeaps, ListedStore, Reserved, host_of, Party, Reply}
use Rattle.pool_run_on_demand.proofs.Parties.{no_grants_left, party_begun}
use Rattle.pool_run_on_demand.proofs.party.make_party_on_demand.Goals as goal

pub returns-clause-party : goal.returns-clause-party
returns-clause-party g c t hosted start =
    let party : Party = c.args.party.now in
    let store : ListedStore = c.in_ok-store_for.field-0 in
    let heaps : ListedHeaps = c.in_ok-heaps_for.field-0 in
    let count : c.loop-place.place ≡ length party.commands = omega (arith, c.loop-place.invariant.all) in
    let live : c.loop-place.live.items ≡ replicate (length party.commands) None = c.loop-place.invariant.places ∙ ap (λ (n : ℕ). replicate n None) count in
    let failing : store.failing ≡ party.gc_faults = ap (λ (s : ListedStore). s.failing) c.in_ok-store_for.ensures ∙ c.as_slice.ensures in
    let unmade : heaps.failing ≡ party.heap_faults = ap (λ (h : ListedHeaps). h.failing) c.in_ok-heaps_for.ensures ∙ c.as_slice-2.ensures in
    let host = hosted ∙ sym (ap (λ (f : List ℕ). host_of party.limits f party.heap_faults) failing) ∙ sym (ap (host_of party.limits store.failing) unmade) in
    let Empty : ℕ → Reserved Reply = λ n. record { items = []; room = n } in
    party_begun t party.commands start _ host (ap (λ (s : ListedStore). s.made) c.in_ok-store_for.ensures) (ap (λ (h : ListedHeaps). h.made) c.in_ok-heaps_for.ensures) live (c.in_ok-with_room.ensures ∙ ap Empty c.len-count.ensures)

pub returns-clause-left : goal.returns-clause-left
returns-clause-left g c = no_grants_left _ _ _ c.loop-place.place c.loop-place.live.items c.loop-place.invariant.places

pub loop-place-preserved : goal.loop-place-preserved
loop-place-preserved g c = record { places = c.in_ok-push.ensures.items ∙ ap (λ xs. xs ++ None ∷ []) c.loop-place.invariant.places ∙ replicate_more c.loop-place.place None; all = c.loop-place.invariant.all }
