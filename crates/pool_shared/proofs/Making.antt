-- A shared memory as it is made.
use Rattle.std.proofs.Common.{Some, Result, Ok, Err, ◌≡◌, ℕ, ◌+◌, ◌^◌, ◌<◌, ◌≤◌, true, sym, ap, ◌∙◌, subst, replicate, Option, ◌↔◌, IfSome}
use Rattle.pool_types.specs.declared.unsupported.Unsupported.{Unsupported}
use Rattle.pool_memory.specs.declared.memory_error.MemoryError.{MemoryError}
use Rattle.pool_memory.specs.declared.memory_error.MemoryError.TheVariants as refused
use Rattle.pool_pages.specs.MakerTold.{MakerTold}
use Rattle.pool_types.specs.MemoryTypes.{page_size, minimum_byte_size}
use Rattle.pool_types.specs.declared.module_types.MemoryType.{MemoryType}
use Rattle.pool_types.specs.declared.module_types.MemoryTunables.{MemoryTunables}
use Rattle.pool_memory.specs.Layouts.{first_layout}
use Rattle.pool_memory.specs.Linear.{Linear, linear_bytes}
use Rattle.pool_memory.specs.Making.{Granted}
use Rattle.pool_memory.specs.Mapped.{Mapped, IsMadeSlot, mapped_linear}
use Rattle.pool_memory.specs.Memories.{MemoryState, bytes_of}
use Rattle.pool_memory.specs.Moving.{IsAsked, slot_for}
use Rattle.pool_memory.proofs.Creations.{mapped_as_made}
use Rattle.pool_memory.proofs.Makings.{room_for_page}

-- its size leaves room for one page of its own
pub made_room : (ty : MemoryType) (size : ℕ) (limits : ℕ × Option ℕ) → size ≡ limits.0 → Granted ty limits → ty.page_size_log2 < 64 → size + page_size ty ≤ 2 ^ 64
made_room ty size limits same granted small =
    let bound = room_for_page ty.limits.min ty.page_size_log2 small granted.represented in
    let whole : size ≡ minimum_byte_size ty = same ∙ granted.minimum in
    subst (λ (n : ℕ). n + page_size ty ≤ 2 ^ 64) (sym whole) bound

-- it holds zeros
pub made_zeros : (old new : MakerTold) (t : MemoryTunables) (extra : ℕ) (m : Mapped) (s : MemoryState) (ty : MemoryType) (limits : ℕ × Option ℕ) → s.linear ≡ mapped_linear m → Granted ty limits
    → m ≡ record { slot = slot_for old (first_layout old.page t limits.0) limits.0; size = limits.0; extra = extra; as_made = true; known = true } → IsMadeSlot (first_layout old.page t limits.0) limits.0 m.slot → IsAsked old new → IfSome (bytes_of s) (λ b. b ≡ replicate (minimum_byte_size ty) 0)
made_zeros old new t extra m s ty limits linear granted is made asked =
    let zeros : IfSome (linear_bytes (mapped_linear m)) (λ b. b ≡ replicate limits.0 0) = (mapped_as_made old new t limits.0 extra m is made asked).zeros in
    let there : IfSome (linear_bytes s.linear) (λ b. b ≡ replicate limits.0 0) = subst (λ (l : Linear). IfSome (linear_bytes l) (λ b. b ≡ replicate limits.0 0)) (sym linear) zeros in
    subst (λ (n : ℕ). IfSome (linear_bytes s.linear) (λ b. b ≡ replicate n 0)) granted.minimum there

-- a result is Unsupported exactly where this refuses it
abbrev pub Unsupports : {X : Type 0} → Option Unsupported → Result X MemoryError → Type 0
Unsupports o r = (u : Unsupported) → (r ≡ Err (refused.Unsupported u)) ↔ (o ≡ Some u)

-- so is another result of the same kind
pub ok_unsupports : {X Y : Type 0} (o : Option Unsupported) (x : X) (y : Y) → Unsupports o (Ok x) → Unsupports o (Ok y)
ok_unsupports o x y only u = ((λ is. absurd (cc is)), (λ is. absurd (let no = (only u).1 is in cc no)))

pub err_unsupports : {X Y : Type 0} (o : Option Unsupported) (e : MemoryError) → Unsupports {X = X} o (Err e) → Unsupports {X = Y} o (Err e)
err_unsupports o e only u = (
  (λ is. let same : e ≡ refused.Unsupported u = cc is in (only u).0 (ap (λ (k : MemoryError). Err k) same)),
  (λ is. let there = (only u).1 is in let same : e ≡ refused.Unsupported u = cc there in ap (λ (k : MemoryError). Err k) same),
)
