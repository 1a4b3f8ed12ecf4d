use Rattle.std.proofs.Common.{◌≡◌, ℕ, Option, sym, subst, Result, MatchResult}
use Rattle.pool_slots.proofs.Imports.{Told, MakerTold, fails_making}
use Rattle.pool_pages.specs.declared.pages.RegionName.TheVariants.{Memory}
use Rattle.pool_slots.specs.Colourings.{RaisesBehindUnlessGivenUp, IsUncoloured}
use Rattle.pool_slots.specs.PartsMade.{region_name, IsGivenUp}
use Rattle.pool_slots.specs.declared.errors.PoolNewError.{PoolNewError}
use Rattle.pool_slots.specs.declared.part_maker.PartSettings.{PartSettings}
use Rattle.pool_slots.specs.declared.queued_range.QueueKind.{QueueKind}
use Rattle.pool_slots.proofs.slot_regions.make_slot_region.Goals as goal

-- what the making of a slot's region does to the count of the maker behind, by the kind of the slot
abbrev Behind : {P T : Type 0} → (P → Told) → Result T PoolNewError → ℕ → PartSettings → ℕ → MakerTold → ℕ → QueueKind → Type 0
Behind told r stripes s slot maker new kind = MatchResult r (λ _. new ≡ maker.behind) (RaisesBehindUnlessGivenUp (IsGivenUp told stripes s kind slot maker) (fails_making (region_name kind slot) maker.listed) maker.behind new)

pub returns-in-Memory-clause-behind : goal.returns-in-Memory-clause-behind
returns-in-Memory-clause-behind g c =
    let maker : MakerTold = g.M.PageMaker.told c.args.maker.now in
    let s : PartSettings = c.args.settings.now in
    let new : ℕ = (g.M.PageMaker.told c.make_region.new.maker).behind in
    let B : Option ℕ → Type 0 = λ o. MatchResult c.make_region.result (λ _. new ≡ maker.behind) (RaisesBehindUnlessGivenUp (IsUncoloured g.P.Pages.told o s.behaviour s.memory_len c.args.slot maker) (fails_making (Memory c.args.slot) maker.listed) maker.behind new) in
    subst (Behind g.P.Pages.told c.make_region.result c.args.num_stripes s c.args.slot maker new) (sym c.in-Memory.is) (subst B c.stripe_colour-colour.ensures c.make_region.ensures.behind)

pub returns-in-Table-clause-behind : goal.returns-in-Table-clause-behind
returns-in-Table-clause-behind g c =
    let maker : MakerTold = g.M.PageMaker.told c.args.maker.now in
    subst (Behind g.P.Pages.told c.make_reached.result c.args.num_stripes c.args.settings.now c.args.slot maker (g.M.PageMaker.told c.make_reached.new.maker).behind) (sym c.in-Table.is) c.make_reached.ensures.behind

pub returns-in-Stack-clause-behind : goal.returns-in-Stack-clause-behind
returns-in-Stack-clause-behind g c =
    let maker : MakerTold = g.M.PageMaker.told c.args.maker.now in
    subst (Behind g.P.Pages.told c.make_guarded.result c.args.num_stripes c.args.settings.now c.args.slot maker (g.M.PageMaker.told c.make_guarded.new.maker).behind) (sym c.in-Stack.is) c.make_guarded.ensures.behind
