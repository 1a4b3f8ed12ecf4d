-- What stays of a slot where pages of it are exposed, or where that fails half-way.
use Rattle.std.proofs.Common.{◌≡◌, ℕ, ◌+◌, ◌-◌, ◌*◌, ◌/◌, ◌%◌, ◌<◌, ◌≤◌, true, false, List, length, refl, sym, ap, ◌∙◌, subst, arith, slice_range, Option, Some, None, IfSome, option_map, slice_index_or}
use Rattle.pool_images.proofs.Imports.{Count, count, Contents, IsShaped, IsIn, CanReach, page_bytes, page_origin, exposed, Told, IsPartly, MayChangePartly, counted, exposing, sub_whole, range_within, same_by_pages}
use Rattle.pool_images.specs.Slots.{Slot, IsSlot, IsSound, IsReady, OnlyExposed, CallFaulted, Holds, origin_image, placed, size_of, called, raising, raised}
use Rattle.pool_images.proofs.Decommits.{by_page}
use Rattle.pool_images.proofs.Identity.{same_called, same_faulted}
use Rattle.pool_images.proofs.Marks.{marked_stays, reach_exposed}
use Rattle.pool_images.proofs.Ready.{lifted, followed, paired, page_some, page_inside, clean_exposed}

-- the same pages, none of which is hidden that wasn't
record IsSameOrShown (c d : Contents) : Type 0 where
  page : d.page ≡ c.page
  bytes : d.bytes ≡ c.bytes
  origin : d.origin ≡ c.origin
  reach : (k : ℕ) → slice_index_or c.accessible k false ≡ true → slice_index_or d.accessible k false ≡ true
  colour : (k : ℕ) → slice_index_or d.colour k 0 ≡ slice_index_or c.colour k 0

ready_same : (s : Slot) (c d : Contents) → IsSameOrShown c d → IsReady s c → IsReady s d
ready_same s c d same r =
    let O : List ℕ → Type 0 = λ l. l ≡ placed s.base.bytes (origin_image s) l in
    let B : List ℕ → List ℕ → Type 0 = λ bs os. slice_range bs (s.base.bytes + s.accessible.bytes) (s.base.bytes + size_of s) ≡ slice_range os (s.base.bytes + s.accessible.bytes) (s.base.bytes + size_of s) in
    record {
      reach = λ k from below. same.reach k (r.reach k (rw same.page at from) (rw same.page at below));
      origin = subst O (sym same.origin) r.origin;
      beyond = subst (λ (l : List ℕ). B l d.origin) (sym same.bytes) (subst (λ (l : List ℕ). B c.bytes l) (sym same.origin) r.beyond);
      colour = λ k inside.
          let old : IsIn s.base.bytes (size_of s) c.page k = rw same.page at inside in
          same.colour k ∙ r.colour k old;
    }

holds_same : (s : Slot) (from to : ℕ) (c d : Contents) → IsSameOrShown c d → Holds s from to c → Holds s from to d
holds_same s from to c d same h =
    let B : List ℕ → List ℕ → Type 0 = λ bs os. slice_range bs (s.base.bytes + from) (s.base.bytes + to) ≡ slice_range os (s.base.bytes + from) (s.base.bytes + to) in
    subst (λ (l : List ℕ). B l d.origin) (sym same.bytes) (subst (λ (l : List ℕ). B c.bytes l) (sym same.origin) h)

module _ (page len start n : ℕ) (c d : Contents) (some : 0 < page) (before : IsShaped page len c) (after : IsShaped page len d) (first : start / c.page ≤ length c.accessible) (partly : IsPartly (exposing start n) c d) where
  -- a column of bytes is as it was where each page of it is
  column : (of : Contents → List ℕ) → length (of c) ≡ len → length (of d) ≡ len → ((k : ℕ) → slice_range (of d) (k * d.page) (k * d.page + d.page) ≡ slice_range (of c) (k * c.page) (k * c.page + c.page)) → of d ≡ of c
  column of was is same =
      same_by_pages (of d) (of c) page some (rw is before.whole) (is ∙ sym was)
      (λ k below.
      let P : ℕ → ℕ → Type 0 = λ m n. slice_range (of d) (k * m) (k * m + m) ≡ slice_range (of c) (k * n) (k * n + n) in
      let half : P page c.page = subst (λ (m : ℕ). P m c.page) after.same_page (same k) in
      subst (λ (n : ℕ). P page n) before.same_page half)

  partly_same : IsSameOrShown c d
  partly_same = record {
    page = after.same_page ∙ sym before.same_page;
    bytes = column (λ x. x.bytes) before.bytes after.bytes (λ k. by_page (λ p. p.bytes ≡ page_bytes k c) (exposing start n) c d k partly refl refl);
    origin = column (λ x. x.origin) before.origin after.origin (λ k. by_page (λ p. p.origin ≡ page_origin k c) (exposing start n) c d k partly refl refl);
    reach = λ k set. by_page (λ p. p.accessible ≡ true) (exposing start n) c d k partly set (marked_stays c.accessible (start / c.page) (n / c.page) k first set);
    colour = λ k. by_page (λ p. p.colour ≡ slice_index_or c.colour k 0) (exposing start n) c d k partly refl refl;
  }

-- what follows of told pages before and after
record IsLikeOld (s : Slot) (old new : Option Contents) : Type 0 where
  bytes : option_map (λ c. c.bytes) new ≡ option_map (λ c. c.bytes) old
  ready : IfSome old (IsReady s) → IfSome new (IsReady s)
  holds : IfSome old (Holds s 0 (size_of s)) → IfSome new (Holds s 0 (size_of s))

like_partly : (s : Slot) (n : ℕ) (old new : Option Contents) → IsSlot s → IfSome old (IsSound s.region.page s.region.len s.base.bytes (size_of s)) → MayChangePartly (raising n s) old new → IfSome new (IsShaped s.region.page s.region.len) → IsLikeOld s old new
like_partly s n None None fits sound partly shaped = record { bytes = refl; ready = λ r. r; holds = λ h. h }
like_partly s n None (Some d) fits sound partly shaped = absurd partly
like_partly s n (Some c) None fits sound partly shaped = absurd partly
like_partly s n (Some c) (Some d) fits sound partly shaped =
    let some : 0 < s.region.page = omega (arith, fits.sizes.page_size.at_least) in
    let same : IsSameOrShown c d = partly_same s.region.page s.region.len (s.base.bytes + s.accessible.bytes) (n - s.accessible.bytes) c d some sound.shaped shaped (page_inside s c s.accessible.bytes fits sound fits.sizes.within) partly in
    record {
      bytes = ap (λ (l : List ℕ). Some l) same.bytes;
      ready = ready_same s c d same;
      holds = holds_same s 0 (size_of s) c d same;
    }

-- where exposing failed
pub kept_faulted : (s new : Slot) (n : ℕ) → IsSlot s → IsSlot new → CallFaulted (raising n s) s new → OnlyExposed s new
kept_faulted s new n fits after faulted =
    let P : Told → Type 0 = λ t. OnlyExposed s (record s { region = t }) in
    let Q : Slot → Type 0 = λ t. OnlyExposed s t in
    let r : Told = new.region in
    let page : r.page ≡ s.region.page = ap (λ (t : Told). t.page) faulted.region.same in
    let size : r.len ≡ s.region.len = ap (λ (t : Told). t.len) faulted.region.same in
    let S : ℕ → ℕ → Type 0 = λ p l. IfSome r.contents (IsShaped p l) in
    let told : S r.page r.len = followed (IsSound r.page r.len new.base.bytes (size_of new)) (IsShaped r.page r.len) r.contents (λ d sound. sound.shaped) after.told in
    let half : S s.region.page r.len = subst (λ (p : ℕ). S p r.len) page told in
    let shape : S s.region.page s.region.len = subst (λ (l : ℕ). S s.region.page l) size half in
    let like : IsLikeOld s s.region.contents r.contents = like_partly s n s.region.contents r.contents fits fits.told faulted.region.partly shape in
    let u : Told = record (counted (raising n s) s.region) { contents = r.contents; marks = r.marks; faults = r.faults } in
    let t : Slot = record s { region = u } in
    subst Q (sym faulted.same) (subst P (sym faulted.region.same) (record {
      same = same_faulted (raising n s) s t (record { region = record { nonempty = faulted.region.nonempty; same = refl; rose = faulted.region.rose; partly = faulted.region.partly; marked = faulted.region.marked; listed = faulted.region.listed; planned = faulted.region.planned }; same = refl });
      image = refl;
      dirty = refl;
      bytes = like.bytes;
      ready = λ old. followed (IsReady s) (IsReady t) r.contents (λ d y. record { reach = y.reach; origin = y.origin; beyond = y.beyond; colour = y.colour }) (like.ready old);
      clean = λ old. record {
        not_dirty = old.not_dirty;
        image = old.image;
        ready = followed (IsReady s) (IsReady t) r.contents (λ d y. record { reach = y.reach; origin = y.origin; beyond = y.beyond; colour = y.colour }) (like.ready old.ready);
        holds = followed (Holds s 0 (size_of s)) (Holds t 0 (size_of t)) r.contents (λ d h. h) (like.holds old.holds);
      };
    }))

ready_raised : (s : Slot) (n : ℕ) → IsSlot s → s.accessible.bytes ≤ n → n ≤ size_of s → n % s.region.page ≡ 0 → (c : Contents) → IsSound s.region.page s.region.len s.base.bytes (size_of s) c → IsReady s c → IsReady (raised n s) (exposed (s.base.bytes + s.accessible.bytes) (n - s.accessible.bytes) c)
ready_raised s n fits more within n_whole c sound ready =
    let page : c.page ≡ s.region.page = sound.shaped.same_page in
    let rest : (n - s.accessible.bytes) % s.region.page ≡ 0 = sub_whole n s.accessible.bytes s.region.page n_whole fits.sizes.accessible_whole in
    let sum : s.accessible.bytes + (n - s.accessible.bytes) ≡ n = omega arith in
    let reached : CanReach s.base.bytes (s.accessible.bytes + (n - s.accessible.bytes)) (exposed (s.base.bytes + s.accessible.bytes) (n - s.accessible.bytes) c) =
    reach_exposed s.base.bytes s.accessible.bytes (n - s.accessible.bytes) c (page_some s c fits sound) (rw page fits.sizes.base_whole) (rw page fits.sizes.accessible_whole) (rw page rest) (page_inside s c s.accessible.bytes fits sound fits.sizes.within) ready.reach in
    let P : ℕ → Type 0 = λ m. CanReach s.base.bytes m (exposed (s.base.bytes + s.accessible.bytes) (n - s.accessible.bytes) c) in
    record {
      reach = subst P sum reached;
      origin = ready.origin;
      beyond = range_within c.bytes c.origin (s.base.bytes + s.accessible.bytes) (s.base.bytes + size_of s) (s.base.bytes + n) (s.base.bytes + size_of s)
          (omega (arith, sound.shaped.bytes, fits.sizes.inside)) (omega (arith, sound.shaped.origin, fits.sizes.inside)) (omega arith) (omega arith) ready.beyond;
      colour = ready.colour;
    }

bytes_shown : (start n : ℕ) (o : Option Contents) → option_map (λ c. c.bytes) (option_map (exposed start n) o) ≡ option_map (λ c. c.bytes) o
bytes_shown start n None = refl
bytes_shown start n (Some c) = refl

-- where it succeeded
pub kept_raised : (s : Slot) (n : ℕ) → IsSlot s → s.accessible.bytes ≤ n → n ≤ size_of s → n % s.region.page ≡ 0 → OnlyExposed s (raised n s)
kept_raised s n fits more within n_whole =
    let Sound : Contents → Type 0 = IsSound s.region.page s.region.len s.base.bytes (size_of s) in
    record {
      same = same_called (raising n s) s;
      image = refl;
      dirty = refl;
      bytes = bytes_shown (s.base.bytes + s.accessible.bytes) (n - s.accessible.bytes) s.region.contents;
      ready = λ old. lifted (λ c. Sound c × IsReady s c) (IsReady (raised n s)) (exposed (s.base.bytes + s.accessible.bytes) (n - s.accessible.bytes)) s.region.contents (λ c both. ready_raised s n fits more within n_whole c both.0 both.1) (paired Sound (IsReady s) s.region.contents fits.told old);
      clean = λ old. clean_exposed s n fits old more within n_whole;
    }

-- where nothing was done
pub kept_self : (s : Slot) → OnlyExposed s s
kept_self s = record {
  same = refl;
  image = refl;
  dirty = refl;
  bytes = refl;
  ready = λ r. r;
  clean = λ c. c;
}

-- The same as the code says them, with the range and the size as it has them.
pub kept_err : (s new : Slot) (had len n : ℕ) → IsSlot s → IsSlot new → had ≡ s.accessible.bytes → len ≡ n - had → CallFaulted (exposing (s.base.bytes + had) len) s new → OnlyExposed s new
kept_err s new had len n fits after same long faulted =
    let F : ℕ → ℕ → Type 0 = λ a l. CallFaulted (exposing (s.base.bytes + a) l) s new in
    let half : F had (n - had) = subst (λ (l : ℕ). F had l) long faulted in
    kept_faulted s new n fits after (subst (λ (a : ℕ). F a (n - a)) same half)

pub kept_ok : (s : Slot) (size : Count) (had len : ℕ) → IsSlot s → had ≡ s.accessible.bytes → len ≡ size.bytes - had → size.page ≡ s.region.page → size.bytes % size.page ≡ 0 → s.accessible.bytes ≤ size.bytes → size.bytes ≤ size_of s → OnlyExposed s (record (called (exposing (s.base.bytes + had) len) s) { accessible = size })
kept_ok s size had len fits same long page is more within =
    let P : ℕ → ℕ → ℕ → Type 0 = λ p a l. OnlyExposed s (record (called (exposing (s.base.bytes + a) l) s) { accessible = count p size.bytes }) in
    let start : P s.region.page s.accessible.bytes (size.bytes - s.accessible.bytes) = kept_raised s size.bytes fits more within (rw page at is) in
    let first = subst (λ (p : ℕ). P p s.accessible.bytes (size.bytes - s.accessible.bytes)) (sym page) start in
    let second = subst (λ (a : ℕ). P size.page a (size.bytes - a)) (sym same) first in
    subst (λ (l : ℕ). P size.page had l) (sym long) second
