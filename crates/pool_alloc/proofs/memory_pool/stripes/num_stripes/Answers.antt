use Rattle.std.proofs.Common.{◌≡◌, ◌∙◌, ap, sym, arith}
use Rattle.pool_alloc.proofs.Imports.{SlabLayout, settings_speak}
use Rattle.pool_alloc.proofs.memory_pool.stripes.num_stripes.Goals as goal

pub returns-clause-value : goal.returns-clause-value
returns-clause-value c =
    ap (λ (l : SlabLayout). l.num_stripes) c.slab_layout.ensures.value
    ∙ sym (settings_speak c.args.config.now c.args.tunables.now c.args.page c.args.offered.now (omega (arith, c.get-bytes.ensures.valid.at_least))).stripes
