-- Workers that were padded, and are taken out again.
use Rattle.std.proofs.Common.{◌≡◌, ◌++◌, ◌<◌, ℕ, zero, suc, List, [], ◌∷◌, length, map, take, drop, All, sym, ap, subst, ◌∙◌, arith, slice_index_or}
use Rattle.std.proofs.Math.Seq.{take-append_seam}
use Rattle.std.proofs.lemmas.List.{length-map}
use Rattle.crossbeam_utils.specs.Padded.{padded_value}
use Rattle.crossbeam_utils.specs.declared.cache_padded.CachePadded.{CachePadded}
use Rattle.pool_pages.specs.MakerTold.{MakerTold}
use Rattle.pool_hall.specs.declared.hall.Hall.{Hall}
use Rattle.pool_hall.specs.declared.hall.HallSeat.{HallSeat}
use Rattle.pool_slots.specs.declared.listed_heaps.PlainHeap.{PlainHeap}
use Rattle.pool_alloc.specs.PlainModules.{ModuleAsked}
use Rattle.pool_driver.specs.declared.part.HallPart.{HallPart}
use Rattle.pool_driver.specs.declared.shared_pool.SharedPool.{SharedPool}
use Rattle.pool_run.specs.declared.input.Input.{Input}
use Rattle.pool_workers.specs.Workers.{AreBack, AreReady, IsBack, IsReady}
use Rattle.pool_workers.specs.declared.worker.Worker.{Worker}

-- What is so at each place of a list is so at each place of the list of what a function makes of its elements, and the other way round.
module _ {X Y : Type 0} (f : X → Y) where
  mapped_at : (P : ℕ → Y → Type 0) (xs : List X) → ((i : ℕ) (e : X) → i < length xs → P i (f (slice_index_or xs i e))) → (i : ℕ) (d : Y) → i < length xs → P i (slice_index_or (map f xs) i d)
  mapped_at P [] h i d below = absurd (omega (arith, below))
  mapped_at P (x ∷ xs) h zero d below = h zero x below
  mapped_at P (x ∷ xs) h (suc i) d below = mapped_at (λ n. P (suc n)) xs (λ n e small. h (suc n) e (omega (arith, small))) i d (omega (arith, below))

  unmapped_at : (P : ℕ → Y → Type 0) (xs : List X) → ((i : ℕ) (d : Y) → i < length xs → P i (slice_index_or (map f xs) i d)) → (i : ℕ) (e : X) → i < length xs → P i (f (slice_index_or xs i e))
  unmapped_at P [] h i e below = absurd (omega (arith, below))
  unmapped_at P (x ∷ xs) h zero e below = h zero (f e) below
  unmapped_at P (x ∷ xs) h (suc i) e below = unmapped_at (λ n. P (suc n)) xs (λ n d small. h (suc n) d (omega (arith, small))) i e (omega (arith, below))

-- What is written back to a list that was lent as a slice is all of the list, and as long.
module _ {X : Type 0} (len : ℕ) (xs now new : List X) (holds : len ≡ length xs) (value : now ≡ xs) (count : length new ≡ length now) where
  as_long : length new ≡ length xs
  as_long = count ∙ ap (λ (ys : List X). length ys) value

  pub written_back : take len (new ++ drop (length new) xs) ≡ new
  written_back = ap (λ n. take n (new ++ drop (length new) xs)) (holds ∙ sym as_long) ∙ take-append_seam new (drop (length new) xs)

  pub written_length : length (take len (new ++ drop (length new) xs)) ≡ length xs
  written_length = ap (λ (ys : List X). length ys) written_back ∙ as_long

-- A list of padded values is as long as that of the values.
pub padded_length : {X : Type 0} (padded : List (CachePadded X)) (values : List X) → map padded_value padded ≡ values → length padded ≡ length values
padded_length {X = X} padded values is = sym (length-map padded padded_value) ∙ ap (λ (xs : List X). length xs) is

module _ {P M : Type 0} (told : M → MakerTold) (input : Input) (pool : SharedPool (Hall (HallPart P PlainHeap M)))
    (workers : List (Worker (HallSeat (HallPart P PlainHeap M)) P)) (padded : List (CachePadded (Worker (HallSeat (HallPart P PlainHeap M)) P))) (ready : AreReady told input pool workers) (is : map padded_value padded ≡ workers) where
  abbrev W : Type 0
  W = Worker (HallSeat (HallPart P PlainHeap M)) P

  many : length padded ≡ length workers
  many = padded_length padded workers is

  their : AreReady told input pool (map padded_value padded)
  their = subst (AreReady told input pool) (sym is) ready

  -- Padded workers may begin where the workers may.
  pub padded_ready : (now : List (CachePadded W)) → now ≡ padded → All (λ (w : CachePadded W). IsReady told input pool (padded_value w)) now
  padded_ready now value = subst (λ (ws : List (CachePadded W)). All (λ (w : CachePadded W). IsReady told input pool (padded_value w)) ws) (sym value)
      (unmapped_at padded_value (λ n w. IsReady told input pool w) padded (λ n d below. their.each n d (omega (arith, below, length-map padded padded_value))))

  -- They have come back in order, and so have they once they are taken out.
  their_back : (modules : List ModuleAsked) (new : List (CachePadded W)) → length new ≡ length padded → All (λ (w : CachePadded W). IsBack told input modules pool (padded_value w)) new
      → ((i : ℕ) (d : CachePadded W) → i < length padded → (padded_value (slice_index_or new i d)).number ≡ (padded_value (slice_index_or padded i d)).number) → AreBack told input modules pool (map padded_value new)
  their_back modules new same back numbers = record {
    count = length-map new padded_value ∙ same ∙ many ∙ ready.count;
    each = λ i d below. mapped_at padded_value (λ n w. IsBack told input modules pool w) new back i d (omega (arith, below, length-map new padded_value));
    numbers = λ i d below.
        mapped_at padded_value (λ n w. w.number ≡ n) new
        (λ n e small. numbers n e (omega (arith, small, same)) ∙ unmapped_at padded_value (λ k w. w.number ≡ k) padded (λ k f few. their.numbers k f (omega (arith, few, length-map padded padded_value))) n e (omega (arith, small, same)))
        i d (omega (arith, below, length-map new padded_value));
  }

  -- The same where they were lent as a slice.
  pub padded_back : (modules : List ModuleAsked) (len : ℕ) (now new : List (CachePadded W)) (out : List W) → len ≡ length padded → now ≡ padded → length new ≡ length now → All (λ (w : CachePadded W). IsBack told input modules pool (padded_value w)) new
      → ((i : ℕ) (d : CachePadded W) → i < length now → (padded_value (slice_index_or new i d)).number ≡ (padded_value (slice_index_or now i d)).number) → out ≡ map padded_value (take len (new ++ drop (length new) padded)) → AreBack told input modules pool out
  padded_back modules len now new out holds value count back numbers is_out =
      let few : length now ≡ length padded = ap (λ (ws : List (CachePadded W)). length ws) value in
      let all : out ≡ map padded_value new = is_out ∙ ap (λ (ws : List (CachePadded W)). map padded_value ws) (written_back len padded now new holds value count) in
      subst (AreBack told input modules pool) (sym all)
      (their_back modules new (count ∙ few) back (λ i d below. numbers i d (omega (arith, below, few)) ∙ ap (λ (ws : List (CachePadded W)). (padded_value (slice_index_or ws i d)).number) value))
