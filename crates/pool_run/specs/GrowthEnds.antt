-- How growths end, of memories and of tables.
use Rattle.std.specs.Prelude.{Bool, true, false, None, Result, Ok, Err}
use Rattle.pool_limits.specs.declared.errors.LimiterError.{LimiterError}
use Rattle.pool_slots.specs.declared.errors.AllocError.TheVariants as alloc
use Rattle.pool_run.specs.declared.reply.Reply.{Reply}
use Rattle.pool_run.specs.declared.reply.Reply.TheVariants.{Grown, Refused}
use Rattle.pool_run.specs.declared.reply.Refusal.TheVariants.{Alloc}

-- the reply to a growth that failed: none, or the error that the limiter makes of it
abbrev pub reported : Result (Unit {0}) LimiterError → Reply
reported (Ok u) = Grown None
reported (Err e) = Refused (Alloc (alloc.LimiterFault e))

-- How a growth ends: what was to grow is as it was, and no call on pages was made; that call failed; or it
-- has grown.
pub data GrowthEnd : Type 0 where
  as_it_was : GrowthEnd
  could_not : GrowthEnd
  has_grown : GrowthEnd

-- the end and the reply where the limiter says yes, and else none or its error
abbrev pub if_allowed : Result Bool LimiterError → GrowthEnd × Reply → GrowthEnd × Reply
if_allowed (Ok true) end = end
if_allowed (Ok false) end = (as_it_was, Grown None)
if_allowed (Err e) end = (as_it_was, Refused (Alloc (alloc.LimiterFault e)))
