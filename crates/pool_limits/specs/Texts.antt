-- The texts of a limiter's errors.
use Rattle.std.specs.Prelude.{ℕ, List, ◌++◌, codes}
use Rattle.std.specs.Fmt.{decimal}
use Rattle.pool_limits.specs.declared.errors.LimiterError.{LimiterError}
use Rattle.pool_limits.specs.declared.errors.LimiterError.TheVariants.{MemoryGrow, TableGrow, MemoryGrowFailed, TableGrowFailed, Other}

-- The text of a limiter's error.
abbrev pub limiter_text : LimiterError → List ℕ
limiter_text (MemoryGrow desired) = codes "forcing trap when growing memory to " ++ decimal desired ++ codes " bytes"
limiter_text (TableGrow desired) = codes "forcing trap when growing table to " ++ decimal desired ++ codes " elements"
limiter_text MemoryGrowFailed = codes "forcing a memory growth failure to be a trap"
limiter_text TableGrowFailed = codes "forcing a table growth failure to be a trap"
limiter_text (Other code) = codes "limiter error " ++ decimal code
