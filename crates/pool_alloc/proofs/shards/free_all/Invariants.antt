use Rattle.std.proofs.Common.{◌≡◌, length}
use Rattle.pool_alloc.proofs.FreeTurns.{FreesSoFar}
use Rattle.pool_alloc.proofs.shards.free_all.Given as goal

-- as many turns as counted so far
abbrev pub invariant-loop : goal.invariant-loop
invariant-loop l = record {
  turns : FreesSoFar l.plan l.place l.fn.shard l.fn.freed.items l.counter l.shard l.freed.items;
  room : l.freed.room ≡ l.fn.freed.room;
  all : l.end ≡ length l.fn.freed.items;
}
