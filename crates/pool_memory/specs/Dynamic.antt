-- How a memory is made that a creator makes: what is asked, what it begins with, and when it is refused.
use Rattle.std.specs.Prelude.{◌≡◌, ◌↔◌, ℕ, ◌+◌, ◌≤◌, ◌&&◌, length, Bool, true, Option, Some, IfSome, Result, Ok, Err, if◌then◌else◌}
use Rattle.pool_memory.specs.Imports.{MakerTold, minimum_byte_size, memory_may_move, MemoryTunables, MemoryType, Unsupported, SharedOnDemand, LimiterError, Image}
use Rattle.pool_memory.specs.Creators.{Design, IsDesigned, IsAsMade, HasFaulted}
use Rattle.pool_memory.specs.Linear.{Linear}
use Rattle.pool_memory.specs.Making.{limits_answer}
use Rattle.pool_memory.specs.Memories.{MemoryState}
use Rattle.pool_memory.specs.Starting.{takes_image, BeginsWith, StartsBy}
use Rattle.pool_memory.specs.declared.memory_error.MemoryError.{MemoryError}
use Rattle.pool_memory.specs.declared.memory_error.MemoryError.TheVariants as refused

-- As for a memory in a slot, but that a type which is shared is refused as soon as the limiter has allowed it.
abbrev pub dynamic_limits : Result Bool LimiterError → MemoryType → Result (ℕ × Option ℕ) MemoryError
dynamic_limits (Ok true) ty = if ty.shared then Err (refused.Unsupported SharedOnDemand) else limits_answer (Ok true) ty
dynamic_limits answer ty = limits_answer answer ty

-- The memory as it is made, by a creator that may have told of it, and then with its image, where it takes one.
pub record IsDynamic (ty : MemoryType) (tunables : MemoryTunables) (design : Option Design) (image : Option Image) (to : ℕ) (maker : MakerTold) (m : MemoryState) : Type 0 where
  pub made : Linear
  pub as_made : IsAsMade (minimum_byte_size ty) to maker made
  pub designed : IfSome design (λ d. IsDesigned d made)
  pub of_type : m.ty ≡ ty
  pub may_move : m.may_move ≡ (memory_may_move ty tunables && made.moves)
  pub begins : BeginsWith (takes_image made) image made m.linear
  pub calls : IfSome image (λ i. StartsBy ty tunables i true made m.linear)

-- Where its limits are refused nothing is asked of the maker; otherwise it is unsupported exactly where the creator tells.
abbrev pub RefusesBy : {X : Type 0} → Result (ℕ × Option ℕ) MemoryError → (ℕ → Option ℕ → Option Unsupported) → Result X MemoryError → MakerTold → MakerTold → Type 0
RefusesBy (Err e) refuses result old new = (result ≡ Err e) × (new ≡ old)
RefusesBy (Ok limits) refuses result old new = (u : Unsupported) → (result ≡ Err (refused.Unsupported u)) ↔ (refuses limits.0 limits.1 ≡ Some u)

-- what a making leaves of the maker's counts
abbrev pub DynamicRefuses : MemoryError → MakerTold → MakerTold → Type 0
DynamicRefuses refused.Memory old new = (new.faults ≡ old.faults) × (new.behind ≡ old.behind)
DynamicRefuses (refused.Unsupported u) old new = new ≡ old
DynamicRefuses (refused.LimiterDenied min) old new = new ≡ old
DynamicRefuses (refused.LimiterFault e) old new = new ≡ old
DynamicRefuses refused.PageFault old new = HasFaulted old new

-- What a making leaves of the maker: no more faults after a success, else by its error.
abbrev pub DynamicLeaves : {X : Type 0} → Result X MemoryError → MakerTold → MakerTold → Type 0
DynamicLeaves (Ok x) old new = (new.faults ≡ old.faults) × (new.behind ≡ old.behind)
DynamicLeaves (Err e) old new = DynamicRefuses e old new

-- the image is one that a memory of this type can begin with, in a region of this maker
pub record ImageOf (ty : MemoryType) (maker : MakerTold) (image : Image) : Type 0 where
  pub page : image.page ≡ maker.page
  pub inside : image.offset + length image.bytes ≤ minimum_byte_size ty
