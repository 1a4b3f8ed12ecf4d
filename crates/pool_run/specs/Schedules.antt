-- What a schedule says.
use Rattle.std.specs.Prelude.{ℕ, List, [], ◌∷◌, ◌++◌, replicate}
use Rattle.pool_run.specs.declared.input.ScheduleEntry.{ScheduleEntry}

-- the parties whose steps are made, one after another
abbrev pub turns_of : List ScheduleEntry → List ℕ
turns_of [] = []
turns_of (entry ∷ entries) = replicate entry.times entry.party ++ turns_of entries
