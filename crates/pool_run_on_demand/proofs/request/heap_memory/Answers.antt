use Rattle.std.proofs.Common.{rules, Some, sym, ap, ◌∙◌}
use Rattle.pool_run_on_demand.proofs.Imports.{GrowthLimits, limited_by, rule_of}
use Rattle.pool_run_on_demand.proofs.request.heap_memory.Goals as goal

pub memory_for_heap-requires : goal.memory_for_heap-requires
memory_for_heap-requires g c κs within =
    let rule = sym (ap Some (c.requires.1.1.1.1.0 ∙ ap rule_of c.in-None.is)) in
    (search rules, (search rules, (search rules, (c.requires.1.1.0, (c.requires.1.1.1.0, (rule, (c.requires.1.1.1.1.1.0, (c.requires.1.1.1.1.1.1, c.no_module-none.ensures))))))))

pub memory_for_heap-requires-in-Some : goal.memory_for_heap-requires-in-Some
memory_for_heap-requires-in-Some g c κs within =
    let rule = ap (λ (l : GrowthLimits). Some (limited_by l)) c.limiter_of-limiter.ensures ∙ sym (ap Some (c.requires.1.1.1.1.0 ∙ ap rule_of c.in-Some.is)) in
    (search rules, (search rules, (search rules, (c.requires.1.1.0, (c.requires.1.1.1.0, (rule, (c.requires.1.1.1.1.1.0, (c.requires.1.1.1.1.1.1, c.no_module-none.ensures))))))))
