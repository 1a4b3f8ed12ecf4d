use Rattle.std.proofs.Common.{◌≡◌, ℕ, ◌∙◌, ap, subst, not, is_ok, IfSome}
use Rattle.pool_slots.proofs.Imports.{told_weaker, Count, Told, passes, hiding}
use Rattle.pool_slots.specs.Colourings.{fails_first_call}
use Rattle.pool_slots.proofs.RegionColours.{first_passes}
use Rattle.pool_slots.proofs.slot_regions.hide_guard.Goals as goal

pub returns-clause-planned : goal.returns-clause-planned
returns-clause-planned g c =
    let t : Told = g.P.Pages.told c.args.region.now in
    let page : ℕ = c.args.page in
    let guard : ℕ = c.host_page_size.result.bytes in
    let hides = hiding c.zero.result.bytes guard in
    let whole : guard ≡ page = ap (λ (n : Count). n.bytes) c.host_page_size.ensures in
    subst (λ n. IfSome t.plan (λ calls. is_ok c.hide.result ≡ not (fails_first_call n calls))) whole
    (told_weaker (λ calls. is_ok c.hide.result ≡ passes calls hides t) (λ calls. is_ok c.hide.result ≡ not (fails_first_call guard calls)) t.plan (λ calls e. e ∙ first_passes calls hides t c.requires.first) c.hide.ensures.planned)
