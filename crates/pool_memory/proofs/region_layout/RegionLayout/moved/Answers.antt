use Rattle.std.proofs.Common.{ap, ◌∙◌}
use Rattle.pool_memory.specs.Layouts.{Layout}
use Rattle.pool_memory.proofs.Layouts.{size_past, extra_past}
use Rattle.pool_memory.proofs.region_layout.RegionLayout.moved.Goals as goal

pub returns-in_default : goal.returns-in_default
returns-in_default c = size_past c.args.self.now c.page-page.result c.args.size c.args.extra (c.page-page.ensures ∙ ap (λ (l : Layout). l.page) c.self.view_is) c.get-size.ensures.valid c.in_default.ensures.ok

pub returns-in_default-new_rounded_up_u64 : goal.returns-in_default-new_rounded_up_u64
returns-in_default-new_rounded_up_u64 c = extra_past c.args.self.now c.page-page.result c.args.size c.args.extra (c.page-page.ensures ∙ ap (λ (l : Layout). l.page) c.self.view_is) c.get-size.ensures.valid c.in_default-new_rounded_up_u64.ensures.ok
