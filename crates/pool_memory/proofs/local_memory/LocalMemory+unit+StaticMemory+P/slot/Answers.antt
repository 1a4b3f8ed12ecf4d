use Rattle.std.proofs.Common.{◌≡◌, Bool, true, false, refl}
use Rattle.pool_memory.proofs.local_memory.LocalMemory+unit+StaticMemory+P.slot.Goals as goal

-- what would be false isn't so
never : (b : Bool) → (b ≡ true → false ≡ true) → b ≡ false
never false is = refl
never true is = absurd (let no : false ≡ true = is refl in cc)

pub returns-clause-fixed : goal.returns-clause-fixed
returns-clause-fixed g c = rw (← c.self.view_is) (never c.self.inside.memory_may_move c.self.invariant.moves)
