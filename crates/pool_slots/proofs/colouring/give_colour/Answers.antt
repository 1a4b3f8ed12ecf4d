use Rattle.std.proofs.Common.{◌≡◌, ℕ, ◌∙◌, Option, Some, sym, subst, not, IfSome, is_ok}
use Rattle.pool_slots.proofs.Imports.{told_weaker, Told, passes, recolouring}
use Rattle.pool_slots.specs.Colourings.{fails_colouring}
use Rattle.pool_slots.proofs.RegionColours.{first_passes}
use Rattle.pool_slots.proofs.colouring.give_colour.Goals as goal

pub returns-in-Some-clause-planned : goal.returns-in-Some-clause-planned
returns-in-Some-clause-planned g c =
    let t : Told = g.P.Pages.told c.args.region.now in
    let len : ℕ = c.args.len.bytes in
    let colour : ℕ = c.in-Some.colour in
    let F : Option ℕ → Type 0 = λ o. IfSome t.plan (λ calls. is_ok c.recolour.result ≡ not (fails_colouring o len calls)) in
    subst F (sym c.in-Some.is)
    (told_weaker (λ calls. is_ok c.recolour.result ≡ passes calls (recolouring 0 len colour) t) (λ calls. is_ok c.recolour.result ≡ not (fails_colouring (Some colour) len calls)) t.plan (λ calls e. e ∙ first_passes calls (recolouring 0 len colour) t c.requires.first) c.recolour.ensures.planned)
