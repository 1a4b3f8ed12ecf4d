-- A slot as a memory begins in it: what the memory reads, and what lies behind it.
use Rattle.std.proofs.Common.{◌≡◌, ℕ, ◌+◌, ◌-◌, ◌^◌, ◌<◌, ◌≤◌, nat_le, Bool, true, false, List, length, refl, sym, ap, ◌∙◌, subst, arith, slice_range, replicate, Option, Some, None, Result, Ok, Err, IfSome, option_map, nat_lt, ◌&&◌, if◌then◌else◌}
use Rattle.pool_memory.proofs.Imports.{length-replicate, ltb-false, count, rounded_up, Contents, put, exposing, hiding, length-put, range-put_above, page_size, minimum_byte_size, MemoryType, Unsupported, InitialSize, Image, start, Slot, SlotIdentity, IsSlot, IsSound, IsBegun, IsSized, called, resized, size_of, piece_of, range-zeros, range-put_around, rounded_up_above}
use Rattle.pool_memory.specs.Linear.{linear_bytes}
use Rattle.pool_memory.specs.Static.{Static, CanHold, linear_of, static_capacity, made_static}
use Rattle.pool_memory.specs.Making.{Granted, EndsWithin}
use Rattle.pool_memory.proofs.Makings.{room_for_page}
use Rattle.pool_memory.proofs.Statics.{static_inside, some_page}

start_long : (image : Option Image) (n : ℕ) → EndsWithin n image → length (start image n) ≡ n
start_long None n ends = length-replicate {A = ℕ} n 0
start_long (Some i) n ends =
    let all : length (replicate {A = ℕ} n 0) ≡ n = length-replicate n 0 in
    length-put i.offset i.bytes (replicate n 0) (omega arith) ∙ all

start_first : (image : Option Image) (n m : ℕ) → m ≤ n → EndsWithin m image → slice_range (start image n) 0 m ≡ start image m
start_first None n m below ends =
    let size : m - 0 ≡ m = omega arith in
    range-zeros n 0 m below ∙ ap (λ (k : ℕ). replicate {A = ℕ} k 0) size
start_first (Some i) n m below ends =
    let from : 0 + i.offset ≡ i.offset = omega arith in
    let to : 0 + m ≡ m = omega arith in
    ap (λ (k : ℕ). slice_range (put k i.bytes (replicate n 0)) 0 m) (sym from)
    ∙ ap (λ (k : ℕ). slice_range (put (0 + i.offset) i.bytes (replicate n 0)) 0 k) (sym to)
    ∙ range-put_around i.offset i.bytes n 0 m (omega arith) ends (omega arith)

start_behind : (image : Option Image) (n m : ℕ) → m ≤ n → EndsWithin m image → slice_range (start image n) m n ≡ replicate (n - m) 0
start_behind None n m below ends = range-zeros n m n (omega arith)
start_behind (Some i) n m below ends =
    let all : length (replicate {A = ℕ} n 0) ≡ n = length-replicate n 0 in
    range-put_above i.offset i.bytes (replicate n 0) m n (omega arith) (omega arith) (omega arith) ∙ range-zeros n m n (omega arith)

ends_in : (image : Option Image) (m n : ℕ) → m ≤ n → EndsWithin m image → EndsWithin n image
ends_in None m n below ends = ends
ends_in (Some i) m n below ends = omega arith

part_of_start : (s : Slot) (image : Option Image) (m i j : ℕ) (c : Contents) → IsSlot s → IsSound s.region.page s.region.len s.base.bytes (size_of s) c → m ≤ s.static_size → EndsWithin m image → j ≤ s.static_size → slice_range c.bytes s.base.bytes (s.base.bytes + s.static_size) ≡ start image s.static_size → slice_range c.bytes (s.base.bytes + i) (s.base.bytes + j) ≡ slice_range (start image s.static_size) i j
part_of_start s image m i j c fits sound below ends inside reads =
    let bs : List ℕ = start image s.static_size in
    let long : length bs ≡ s.static_size = start_long image s.static_size (ends_in image m s.static_size below ends) in
    let same : slice_range c.bytes s.base.bytes (s.base.bytes + length bs) ≡ bs = ap (λ (n : ℕ). slice_range c.bytes s.base.bytes (s.base.bytes + n)) long ∙ reads in
    piece_of c.bytes bs s.base.bytes i j (omega (arith, static_inside s fits, sound.shaped.bytes)) (omega arith) same

begun_read : (s : Slot) (image : Option Image) (size : ℕ) (o : Option Contents) → IsSlot s → size ≤ s.static_size → EndsWithin size image → IfSome o (IsSound s.region.page s.region.len s.base.bytes (size_of s)) → IfSome o (λ c. slice_range c.bytes s.base.bytes (s.base.bytes + s.static_size) ≡ start image s.static_size) → IfSome (option_map (λ c. slice_range c.bytes s.base.bytes (s.base.bytes + size)) o) (λ bytes. bytes ≡ start image size)
begun_read s image size None fits inside ends sound reads = sound
begun_read s image size (Some c) fits inside ends sound reads =
    let from : s.base.bytes + 0 ≡ s.base.bytes = omega arith in
    ap (λ (n : ℕ). slice_range c.bytes n (s.base.bytes + size)) (sym from)
    ∙ part_of_start s image size 0 size c fits sound inside ends inside reads
    ∙ start_first image s.static_size size inside ends

-- a memory in such a slot begins with the image and zeros
pub begun_reads : (m : Static) (image : Option Image) → IsSlot m.slot → m.size ≤ m.slot.static_size → EndsWithin m.size image → IsBegun image m.slot → IfSome (linear_bytes (linear_of m)) (λ bytes. bytes ≡ start image m.size)
begun_reads m image fits inside ends begun = begun_read m.slot image m.size m.slot.region.contents fits inside ends fits.told begun.reads

begun_zeros : (s : Slot) (image : Option Image) (size : ℕ) (o : Option Contents) → IsSlot s → size ≤ s.static_size → EndsWithin size image → IfSome o (IsSound s.region.page s.region.len s.base.bytes (size_of s)) → IfSome o (λ c. slice_range c.bytes s.base.bytes (s.base.bytes + s.static_size) ≡ start image s.static_size) → IfSome o (λ c. slice_range c.bytes (s.base.bytes + size) (s.base.bytes + s.static_size) ≡ replicate (s.static_size - size) 0)
begun_zeros s image size None fits inside ends sound reads = sound
begun_zeros s image size (Some c) fits inside ends sound reads =
    part_of_start s image size size s.static_size c fits sound inside ends (omega arith) reads
    ∙ start_behind image s.static_size size inside ends

reach_by : (b c : Bool) (x y z : Slot) (n : ℕ) → n ≤ x.accessible.bytes → n ≤ y.accessible.bytes → (b ≡ false → n ≤ z.accessible.bytes) → n ≤ (if b then x else (if c then y else z)).accessible.bytes
reach_by true c x y z n first second third = first
reach_by false true x y z n first second third = second
reach_by false false x y z n first second third = third refl

-- as much can be reached as was wanted
resized_reaches : (size : ℕ) (hide : Bool) (s : Slot) → size ≤ (resized size hide s).accessible.bytes
resized_reaches size hide s =
    reach_by (nat_lt s.accessible.bytes size) (hide && nat_lt size s.accessible.bytes)
    (record (called (exposing (s.base.bytes + s.accessible.bytes) (size - s.accessible.bytes)) s) { accessible = count s.region.page size })
    (record (called (hiding (s.base.bytes + size) (s.accessible.bytes - size)) s) { accessible = count s.region.page size })
    s size (omega arith) (omega arith) (λ e. ltb-false s.accessible.bytes size e)

-- A slot that an instantiation left holds a memory of the size that was wanted.
pub instantiated_holds : (old s : Slot) (image : Option Image) (size : ℕ) (hide : Bool) → IsSlot s → IsBegun image s → IsSized size hide old s → EndsWithin size image → size ≤ s.static_size → CanHold size s
instantiated_holds old s image size hide fits begun sized ends inside =
    let some : 0 < old.region.page = rw (sym (ap (λ (i : SlotIdentity). i.page) sized.same)) (some_page s fits) in
    let whole : rounded_up old.region.page size ≤ s.accessible.bytes = rw sized.accessible (resized_reaches (rounded_up old.region.page size) hide old) in
    record {
      in_use = record { dirty = begun.dirty; ready = begun.ready };
      reached = omega (arith, rounded_up_above old.region.page size some);
      inside = inside;
      zeros = begun_zeros s image size s.region.contents fits inside ends fits.told begun.reads;
    }

abbrev made_choice : Bool → Static → Slot × Unsupported → Result Static (Slot × Unsupported)
made_choice b x e = if b then Ok x else Err e

made_by : (b : Bool) (x m : Static) (e : Slot × Unsupported) → made_choice b x e ≡ Ok m → m ≡ x
made_by true x m e is = cc
made_by false x m e is = absurd cc

-- what the memory is that was made
pub made_as : (base_capacity initial : ℕ) (maximum : Option ℕ) (s : Slot) (m : Static) → made_static base_capacity initial maximum s ≡ Ok m → m ≡ record { slot = s; size = initial; capacity = static_capacity base_capacity maximum }
made_as base_capacity initial maximum s m is = made_by (nat_le initial base_capacity) (record { slot = s; size = initial; capacity = static_capacity base_capacity maximum }) m (s, InitialSize) is

-- its first page has room, and it begins with the image and zeros
pub made_room : (ty : MemoryType) (base_capacity : ℕ) (limits : ℕ × Option ℕ) (s : Slot) (m : Static) → ty.page_size_log2 < 64 → Granted ty limits → made_static base_capacity limits.0 limits.1 s ≡ Ok m → m.size + page_size ty ≤ 2 ^ 64
made_room ty base_capacity limits s m small granted is =
    let size : m.size ≡ minimum_byte_size ty = ap (λ (x : Static). x.size) (made_as base_capacity limits.0 limits.1 s m is) ∙ granted.minimum in
    let P : ℕ → Type 0 = λ n. n + page_size ty ≤ 2 ^ 64 in
    subst P (sym size) (room_for_page ty.limits.min ty.page_size_log2 small granted.represented)

pub made_reads : (ty : MemoryType) (base_capacity : ℕ) (limits : ℕ × Option ℕ) (s : Slot) (m : Static) → IsSlot s → Granted ty limits → (minimum_byte_size ty < 2 ^ 64 → CanHold (minimum_byte_size ty) s) → made_static base_capacity limits.0 limits.1 s ≡ Ok m → (image : Option Image) → IsBegun image s → EndsWithin (minimum_byte_size ty) image → IfSome (linear_bytes (linear_of m)) (λ bytes. bytes ≡ start image (minimum_byte_size ty))
made_reads ty base_capacity limits s m fits granted holds is image begun ends =
    let x : Static = record { slot = s; size = limits.0; capacity = static_capacity base_capacity limits.1 } in
    let P : Static → Type 0 = λ y. IfSome (linear_bytes (linear_of y)) (λ bytes. bytes ≡ start image (minimum_byte_size ty)) in
    let E : ℕ → Type 0 = λ n. EndsWithin n image in
    let I : ℕ → Type 0 = λ n. n ≤ s.static_size in
    let B : ℕ → Type 0 = λ n. IfSome (linear_bytes (linear_of x)) (λ bytes. bytes ≡ start image n) in
    subst P (sym (made_as base_capacity limits.0 limits.1 s m is))
    (subst B granted.minimum (begun_reads x image fits (subst I (sym granted.minimum) (holds granted.represented).inside) (subst E (sym granted.minimum) ends) begun))
