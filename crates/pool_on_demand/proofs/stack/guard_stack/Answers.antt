use Rattle.std.proofs.Common.{◌≡◌, ℕ, ◌<◌, ◌^◌, ap, ◌∙◌, subst}
use Rattle.pool_on_demand.proofs.Imports.{Count, IsPageSize, Told, guarded}
use Rattle.pool_on_demand.proofs.Guarded.{guarded_region, region_plain}
use Rattle.pool_on_demand.proofs.stack.guard_stack.Goals as goal

pub new-requires : goal.new-requires
new-requires g c =
    let t : Told = g.P.Pages.told c.args.region in
    let u : Told = g.P.Pages.told c.hide.new.self in
    let one : c.one_page-guard.result.bytes ≡ t.page = ap (λ (k : Count). k.bytes) c.one_page-guard.ensures ∙ c.page.ensures in
    let none : c.zero.result.bytes ≡ 0 = ap (λ (k : Count). k.bytes) c.zero.ensures in
    let is : u ≡ guarded t = guarded_region t u c.zero.result.bytes c.one_page-guard.result.bytes none one (c.in_ok-hide.ensures.ok) in
    let sized : IsPageSize t.page = subst (λ (k : Count). IsPageSize k.page) c.len.ensures.value c.byte_count-len.ensures.page in
    let bounded : t.len < 2 ^ 64 = subst (λ (n : ℕ). n < 2 ^ 64) (ap (λ (k : Count). k.bytes) c.len.ensures.value) (search) in
    region_plain t u c.one_page-guard.result.bytes one is c.requires sized bounded c.in_ok-hide.ensures.shaped
