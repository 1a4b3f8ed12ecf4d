use Rattle.std.proofs.Common.{◌≡◌, length, take, vec_capacity}
use Rattle.pool_run_shared.specs.Steps.{MakesOfAll}
use Rattle.pool_run_shared.proofs.run.replies_of.Given as goal

-- the events so far; the maker is as it was
abbrev pub invariant-loop-at : goal.invariant-loop-at
invariant-loop-at g l = record {
  makes : MakesOfAll (take l.at l.events) l.fn.state l.state l.replies.items;
  count : length l.replies.items ≡ l.at;
  room : vec_capacity l.replies ≡ length l.events;
  maker : g.L.RuntimeLinearMemory.maker_told l.maker ≡ g.L.RuntimeLinearMemory.maker_told l.fn.maker;
  borrows : g.L.RuntimeLinearMemory.maker_borrows l.maker ≡ g.L.RuntimeLinearMemory.maker_borrows l.fn.maker;
}
