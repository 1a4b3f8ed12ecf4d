-- A memory that a creator makes: what it begins with, and what a refusal leaves of the maker.
use Rattle.std.proofs.Common.{◌≡◌, ℕ, ◌+◌, ◌^◌, ◌<◌, ◌≤◌, sym, ap, ◌∙◌, subst, Option, Some, Result, Ok, Err, ◌↔◌, IfErr}
use Rattle.pool_memory.proofs.Imports.{MakerTold, page_size, minimum_byte_size, MemoryType, Unsupported}
use Rattle.pool_memory.specs.Creators.{IsAsMade}
use Rattle.pool_memory.specs.Linear.{Linear}
use Rattle.pool_memory.specs.Making.{Granted}
use Rattle.pool_memory.specs.declared.memory_error.MemoryError.{MemoryError}
use Rattle.pool_memory.specs.declared.memory_error.MemoryError.TheVariants as refused
use Rattle.pool_memory.proofs.Makings.{room_for_page}

-- the memory leaves room for one page of its own
pub dynamic_room : (ty : MemoryType) (limits : ℕ × Option ℕ) (to : ℕ) (maker : MakerTold) (made : Linear) → ty.page_size_log2 < 64 → Granted ty limits → IsAsMade limits.0 to maker made → made.size + page_size ty ≤ 2 ^ 64
dynamic_room ty limits to maker made small granted as_made =
    let size : made.size ≡ minimum_byte_size ty = as_made.size ∙ granted.minimum in
    subst (λ (n : ℕ). n + page_size ty ≤ 2 ^ 64) (sym size) (room_for_page ty.limits.min ty.page_size_log2 small granted.represented)

-- a start with an image is never what isn't supported
pub begun_supported : {X Y : Type 0} (r : Result X MemoryError) (made : Result Y MemoryError) (y : Y) (refuses : Option Unsupported) → made ≡ Ok y → ((u : Unsupported) → (made ≡ Err (refused.Unsupported u)) ↔ (refuses ≡ Some u)) → IfErr r (λ e. e ≡ refused.PageFault) → (u : Unsupported) → (r ≡ Err (refused.Unsupported u)) ↔ (refuses ≡ Some u)
begun_supported (Ok x) made y refuses is told fault u = ((λ e. absurd (cc e)), (λ e. let w = (told u).1 e in let no : Ok y ≡ Err (refused.Unsupported u) = sym is ∙ w in absurd (cc no)))
begun_supported (Err f) made y refuses is told fault u = (
  (λ e. let same : f ≡ refused.Unsupported u = cc e in let no : refused.Unsupported u ≡ refused.PageFault = sym same ∙ fault in absurd (cc no)),
  (λ e. let w = (told u).1 e in let no : Ok y ≡ Err (refused.Unsupported u) = sym is ∙ w in absurd (cc no)),
)

-- what the creator refused is unsupported exactly where that was
pub refused_alike : {X Y : Type 0} (made : Result Y MemoryError) (f : MemoryError) (refuses : Option Unsupported) → made ≡ Err f → ((u : Unsupported) → (made ≡ Err (refused.Unsupported u)) ↔ (refuses ≡ Some u)) → (u : Unsupported) → (◌≡◌ {A = Result X MemoryError} (Err f) (Err (refused.Unsupported u))) ↔ (refuses ≡ Some u)
refused_alike made f refuses is told u = (
  (λ e. let same : f ≡ refused.Unsupported u = cc e in (told u).0 (is ∙ ap (λ (x : MemoryError). Err x) same)),
  (λ e. let w : Err f ≡ Err (refused.Unsupported u) = sym is ∙ (told u).1 e in let same : f ≡ refused.Unsupported u = cc w in ap (λ (x : MemoryError). Err x) same),
)
