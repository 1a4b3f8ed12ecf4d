-- A region behind its first page, which is hidden.
use Rattle.std.proofs.Common.{◌≡◌, ℕ, ◌+◌, ◌-◌, ◌*◌, ◌/◌, ◌%◌, ◌^◌, ◌<◌, ◌≤◌, Bool, true, false, length, refl, sym, ap, ◌∙◌, subst, arith, slice_range, replicate, get_or, Option, Some, None, IfSome, ◌++◌, option_map}
use Rattle.pool_alloc.proofs.Imports.{zero-div, le-div_iff_mul-le, length-replicate, get_or-replicate, get_or_append_left, count, IsPageSize, rounded_up, Contents, CanReach, hidden, put_all, fresh, Told, TellsShaped, succeeded, page_below, sub_whole, IsFresh, HasColour, fresh_keeps, fresh_clean, marked_above, range-zeros, rounded_same, followed, IsPlain, plain_slot}
use Rattle.pool_alloc.specs.GuardPages.{IsOpen, guarding}

-- what the region tells behind its guard page
record TellsOpen (page len : ℕ) (c : Contents) : Type 0 where
  origin : c.origin ≡ replicate len 0
  zeros : slice_range c.bytes page len ≡ replicate (len - page) 0
  reach : CanReach page (len - page) c
  has_colour : HasColour page (len - page) None c

-- a page that begins below the end is one of the region's
page_under : (page len k : ℕ) → 0 < page → len % page ≡ 0 → k * page < len → k < len / page
page_under page len k some whole below =
    let end : k * page + page ≤ len = page_below k len page whole below in
    let under : k + 1 ≤ len / page = (le-div_iff_mul-le some).1 (omega (arith, end)) in
    omega arith

reached : (page len k : ℕ) → 0 < page → page ≤ len → len % page ≡ 0 → page / page ≤ k → k * page < len → get_or (put_all (0 / page) (page / page) false (replicate (len / page) true ++ replicate (len / page - len / page) false)) k false ≡ true
reached page len k some longer whole from below =
    let none : 0 / page ≡ 0 = zero-div page in
    let under : k < len / page = page_under page len k some whole below in
    let n : length (replicate {A = Bool} (len / page) true) ≡ len / page = length-replicate (len / page) true in
    marked_above (replicate (len / page) true ++ replicate (len / page - len / page) false) (0 / page) (page / page) k false false (omega (arith, none)) (omega (arith, none))
    ∙ get_or_append_left (replicate (len / page) true) (replicate (len / page - len / page) false) false k (omega (arith, n))
    ∙ get_or-replicate (len / page) k true false (omega arith)

tells_open : (page len : ℕ) (c : Contents) → 0 < page → page ≤ len → len % page ≡ 0 → c ≡ fresh page len len → TellsOpen page len (hidden 0 page c)
tells_open page len c some longer whole is =
    subst (λ (x : Contents). TellsOpen page len (hidden 0 page x)) (sym is) (record {
      origin = refl;
      zeros = range-zeros len page len (omega arith);
      reach = λ k from below. reached page len k some longer whole from (omega arith);
      has_colour = λ k inside. get_or-replicate (len / page) k 0 0 (page_under page len k some whole (omega (arith, inside.below)));
    })

if_open : (page len : ℕ) (o : Option Contents) → 0 < page → page ≤ len → len % page ≡ 0 → IfSome o (λ c. c ≡ fresh page len len) → IfSome (option_map (hidden 0 page) o) (TellsOpen page len)
if_open page len None some longer whole is = tt
if_open page len (Some c) some longer whole is = tells_open page len c some longer whole is

pub self_whole : (page : ℕ) → 0 < page → page % page ≡ 0
self_whole page some = grind (arith)

-- the region with its guard page
abbrev pub guarded : Told → Told
guarded t = succeeded (guarding t.page) t

-- a slot can be made behind the guard page
pub guarded_fresh : (t : Told) → IsOpen t → IsPageSize t.page → t.len < 2 ^ 64 → IsFresh (count t.page t.page) (count t.page (t.len - t.page)) (t.len - t.page) None (guarded t)
guarded_fresh t made sized bounded =
    let some : 0 < t.page = omega (arith, sized.at_least) in
    let whole : (t.len - t.page) % t.page ≡ 0 = sub_whole t.len t.page t.page made.whole (self_whole t.page some) in
    let same : rounded_up t.page (t.len - t.page) ≡ t.len - t.page = rounded_same t.page (t.len - t.page) some whole in
    let o : Option Contents = (guarded t).contents in
    let told : IfSome o (TellsOpen t.page t.len) = if_open t.page t.len t.contents some made.longer made.whole made.contents in
    record {
      base_page = refl;
      accessible_page = refl;
      inside = omega (arith, same, made.longer);
      bounded = omega (arith, made.longer);
      within = omega (arith, same);
      origin = followed (TellsOpen t.page t.len) (λ c. c.origin ≡ replicate t.len 0) o (λ c h. h.origin) told;
      zeros = followed (TellsOpen t.page t.len) (λ c. slice_range c.bytes t.page (t.page + rounded_up t.page (t.len - t.page)) ≡ replicate (rounded_up t.page (t.len - t.page)) 0) o
          (λ c h. let end : t.page + rounded_up t.page (t.len - t.page) ≡ t.len = omega (arith, same, made.longer) in ap (λ (n : ℕ). slice_range c.bytes t.page n) end ∙ h.zeros ∙ ap (λ (n : ℕ). replicate {A = ℕ} n 0) (sym same)) told;
      reach = followed (TellsOpen t.page t.len) (CanReach t.page (t.len - t.page)) o (λ c h. h.reach) told;
      has_colour = followed (TellsOpen t.page t.len) (HasColour t.page (rounded_up t.page (t.len - t.page)) None) o (λ c h. subst (λ (n : ℕ). HasColour t.page n None c) (sym same) h.has_colour) told;
    }

-- the stack can be used
pub guarded_plain : (t : Told) → IsOpen t → IsPageSize t.page → t.len < 2 ^ 64 → TellsShaped (guarded t) → IsPlain (plain_slot t.page (guarded t))
guarded_plain t made sized bounded shaped =
    let some : 0 < t.page = omega (arith, sized.at_least) in
    let own : t.page % t.page ≡ 0 = self_whole t.page some in
    let whole : (t.len - t.page) % t.page ≡ 0 = sub_whole t.len t.page t.page made.whole own in
    let fresh_there = guarded_fresh t made sized bounded in
    record {
      fits = (fresh_keeps (guarded t) (count t.page t.page) (count t.page (t.len - t.page)) (t.len - t.page) None fresh_there sized own whole bounded shaped).fits;
      whole = rounded_same t.page (t.len - t.page) some whole;
      all = refl;
      image = refl;
      not_dirty = refl;
      ready = (fresh_clean (guarded t) (count t.page t.page) (count t.page (t.len - t.page)) (t.len - t.page) None fresh_there shaped).ready;
    }
