use Rattle.pool_shared.specs.Shared.{shared_refusal}
use Rattle.pool_shared.proofs.Making.{ok_unsupports, err_unsupports}
use Rattle.pool_shared.proofs.shared_memory.SharedMemory+M+MmapMemory+P+S.new.Goals as goal

pub returns-in-Ok-clause-unsupported : goal.returns-in-Ok-clause-unsupported
returns-in-Ok-clause-unsupported g c = ok_unsupports (shared_refusal c.args.enabled (g.M.PageMaker.told c.args.maker.now).page c.args.ty.now c.args.tunables.now) c.in-Ok.state c.holding.result c.in-Ok.ensures.unsupported

pub returns-in-Err-clause-unsupported : goal.returns-in-Err-clause-unsupported
returns-in-Err-clause-unsupported g c = err_unsupports (shared_refusal c.args.enabled (g.M.PageMaker.told c.args.maker.now).page c.args.ty.now c.args.tunables.now) c.in-Err.error c.in-Err.ensures.unsupported
