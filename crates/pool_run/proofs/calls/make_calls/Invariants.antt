use Rattle.std.proofs.Common.{◌≡◌, vec_len, IfSome, take}
use Rattle.pool_run.specs.Made.{calls_made}
use Rattle.pool_run.proofs.Makings.{AreUnlisted}
use Rattle.pool_run.proofs.calls.make_calls.Given as goal

-- there is a call for each module so far, by a maker that tells what it told
abbrev pub invariant-loop-info : goal.invariant-loop-info
invariant-loop-info g l = record {
  count : vec_len l.calls ≡ l.info-index;
  made : l.calls.items ≡ calls_made l.tunables (g.M.PageMaker.told l.fn.maker).page 0 (take l.info-index l.modules);
  own : AreUnlisted l.tunables (g.M.PageMaker.told l.fn.maker).page l.modules l.info-index (g.M.PageMaker.told l.fn.maker).listed;
  unlisted : IfSome (g.M.PageMaker.told l.fn.maker).plan (AreUnlisted l.tunables (g.M.PageMaker.told l.fn.maker).page l.modules l.info-index);
  maker : g.M.PageMaker.told l.maker ≡ g.M.PageMaker.told l.fn.maker;
  borrows : g.M.PageMaker.borrows l.maker ≡ g.M.PageMaker.borrows l.fn.maker;
}
