-- Bytes that are copied piece by piece.
use Rattle.std.proofs.Common.{◌≡◌, ℕ, ◌+◌, ◌-◌, ◌≤◌, ◌++◌, List, [], length, drop, take, refl, sym, ap, ◌∙◌, subst, arith, slice_range, Option, Some, None, IfSome, option_map, is_some}
use Rattle.pool_memory.proofs.Imports.{length-append, take-append-drop, Contents, put, written, range_join, put-put, Slot, IsSlot, IsSound, IsReady, size_of, followed}
use Rattle.pool_memory.specs.Copying.{IsCopied}

pub tells_mapped : (f : Contents → Contents) (o : Option Contents) → is_some (option_map f o) ≡ is_some o
tells_mapped f None = refl
tells_mapped f (Some c) = refl

put_none : (i : ℕ) (xs : List ℕ) → put i [] xs ≡ xs
put_none i xs =
    let same : i + 0 ≡ i = omega arith in
    ap (λ (k : ℕ). take i xs ++ drop k xs) same ∙ take-append-drop i xs

bytes_none : (i : ℕ) (o : Option Contents) → option_map (λ c. c.bytes) o ≡ option_map (λ c. put i [] c.bytes) o
bytes_none i None = refl
bytes_none i (Some c) = ap (λ (l : List ℕ). Some l) (sym (put_none i c.bytes))

nothing_told : (base : ℕ) (o : Option Contents) → IfSome o (λ c. [] ≡ slice_range c.bytes (base + 0) (base + 0 + 0))
nothing_told base None = tt
nothing_told base (Some c) = let less : base + 0 + 0 - (base + 0) ≡ 0 = omega arith in sym (ap (λ (n : ℕ). take n (drop (base + 0) c.bytes)) less)

-- nothing yet
pub none_copied : (from old : Slot) → IfSome old.region.contents (IsReady old) → IsCopied 0 0 from old old
none_copied from old ready = record {
  written = record { tells = refl; same = refl };
  ready = ready;
  bytes = [];
  long = refl;
  told = nothing_told from.base.bytes from.region.contents;
  put = bytes_none (old.base.bytes + 0) old.region.contents;
}

told_more : (base done n : ℕ) (a b : List ℕ) (o : Option Contents) (long : IfSome o (λ c. base + done + n ≤ length c.bytes)) → IfSome o (λ c. a ≡ slice_range c.bytes (base + 0) (base + 0 + done)) → IfSome o (λ c. b ≡ slice_range c.bytes (base + done) (base + done + n)) → IfSome o (λ c. a ++ b ≡ slice_range c.bytes (base + 0) (base + 0 + (done + n)))
told_more base done n a b None long first second = long
told_more base done n a b (Some c) long first second =
    let mid : base + 0 + done ≡ base + done = omega arith in
    let end : base + done + n ≡ base + 0 + (done + n) = omega arith in
    ap (λ (l : List ℕ). l ++ b) (first ∙ ap (λ (k : ℕ). slice_range c.bytes (base + 0) k) mid)
    ∙ ap (λ (l : List ℕ). slice_range c.bytes (base + 0) (base + done) ++ l) second
    ∙ range_join c.bytes (base + 0) (base + done) (base + done + n) (omega arith) (omega arith) (omega arith)
    ∙ ap (λ (k : ℕ). slice_range c.bytes (base + 0) k) end

put_more : (base done : ℕ) (a b : List ℕ) (first second third : Option Contents) → length a ≡ done → IfSome first (λ c. base + done + length b ≤ length c.bytes)
    → option_map (λ c. c.bytes) second ≡ option_map (λ c. put (base + 0) a c.bytes) first → option_map (λ c. c.bytes) third ≡ option_map (λ c. put (base + done) b c.bytes) second → option_map (λ c. c.bytes) third ≡ option_map (λ c. put (base + 0) (a ++ b) c.bytes) first
put_more base done a b None None third long fits one two = two
put_more base done a b None (Some d) third long fits one two = absurd cc
put_more base done a b (Some c) None third long fits one two = absurd cc
put_more base done a b (Some c) (Some d) third long fits one two =
    let e : d.bytes ≡ put (base + 0) a c.bytes = cc in
    let place : base + done ≡ base + 0 + length a = omega arith in
    two
    ∙ ap (λ (l : List ℕ). Some (put (base + done) b l)) e
    ∙ ap (λ (k : ℕ). Some (put k b (put (base + 0) a c.bytes))) place
    ∙ ap (λ (l : List ℕ). Some l) (put-put (base + 0) a b c.bytes (omega (arith, long)) (omega (arith, long)))

-- the bytes of the slot are there
long_told : (s : Slot) (n : ℕ) → IsSlot s → n ≤ s.accessible.bytes → IfSome s.region.contents (λ c. s.base.bytes + n ≤ length c.bytes)
long_told s n fits within =
    followed (IsSound s.region.page s.region.len s.base.bytes (size_of s)) (λ c. s.base.bytes + n ≤ length c.bytes) s.region.contents
    (λ c sound. omega (arith, sound.shaped.bytes, fits.sizes.inside, fits.sizes.within)) fits.told

if_same : (o : Option Contents) (i j : ℕ) → i ≡ j → IfSome o (λ c. i ≤ length c.bytes) → IfSome o (λ c. j ≤ length c.bytes)
if_same o i j same told = subst (λ (k : ℕ). IfSome o (λ c. k ≤ length c.bytes)) same told

-- one piece more
pub more_copied : (done n : ℕ) (from old mid new : Slot) → IsSlot from → IsSlot old → done + n ≤ from.accessible.bytes → done + n ≤ old.accessible.bytes → IsCopied 0 done from old mid → IsCopied done n from mid new → IsCopied 0 (done + n) from old new
more_copied done n from old mid new from_fits fits in_from in_old first second =
    let base : mid.base.bytes ≡ old.base.bytes = ap (λ (s : Slot). s.base.bytes) first.written.same in
    let P : ℕ → Type 0 = λ b. option_map (λ c. c.bytes) new.region.contents ≡ option_map (λ c. put (b + done) second.bytes c.bytes) mid.region.contents in
    let W : Slot → Type 0 = λ s. new ≡ record s { region = record s.region { contents = new.region.contents; marks = new.region.marks }; dirty = new.dirty } in
    let there : from.base.bytes + (done + n) ≡ from.base.bytes + done + n = omega arith in
    let here : old.base.bytes + (done + n) ≡ old.base.bytes + done + length second.bytes = omega (arith, second.long) in
    record {
      written = record {
        tells = second.written.tells ∙ first.written.tells;
        same = subst W first.written.same second.written.same;
      };
      ready = second.ready;
      bytes = first.bytes ++ second.bytes;
      long = length-append first.bytes second.bytes ∙ omega (arith, first.long, second.long);
      told = told_more from.base.bytes done n first.bytes second.bytes from.region.contents (if_same from.region.contents (from.base.bytes + (done + n)) (from.base.bytes + done + n) there (long_told from (done + n) from_fits in_from)) first.told second.told;
      put = put_more old.base.bytes done first.bytes second.bytes old.region.contents mid.region.contents new.region.contents first.long
          (if_same old.region.contents (old.base.bytes + (done + n)) (old.base.bytes + done + length second.bytes) here (long_told old (done + n) fits in_old)) first.put (subst P base second.put);
    }
