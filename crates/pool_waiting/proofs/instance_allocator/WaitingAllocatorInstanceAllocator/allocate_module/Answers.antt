use Rattle.std.proofs.Common.{Err, ap, inl, inr, refl, rules, subst, sym, ◌∙◌, IfSome}
use Rattle.pool_hall.specs.Seat.{view}
use Rattle.pool_slots.specs.declared.errors.AllocError.TheVariants as refusal
use Rattle.pool_alloc.specs.Held.{instance_held}
use Rattle.pool_alloc.specs.PlainModules.{ModuleAsked}
use Rattle.pool_alloc.specs.Refusals.{module_refused}
use Rattle.pool_alloc.specs.Requests.{AreImagesOf, lent}
use Rattle.pool_alloc.specs.declared.frame.Asked.TheVariants as wanted
use Rattle.pool_alloc.specs.declared.frame.Grant.TheVariants as grant
use Rattle.pool_callers.specs.Callers.{Caller, about_pool}
use Rattle.pool_waiting.specs.Waiting.{module_asked, stripe_for}
use Rattle.pool_waiting.proofs.Waited.{asked_broken, asked_nothing, asked_tested, gains_ends, if_behind, is_broken, no_rule, nothing_tested, nothing_wanted}
use Rattle.pool_waiting.proofs.instance_allocator.WaitingAllocatorInstanceAllocator.allocate_module.Goals as goal

pub returns-in-Err-clause-made : goal.returns-in-Err-clause-made
returns-in-Err-clause-made g c = record {
  ends = nothing_tested (about_pool g.M.PageMaker.told c.args.self.now.allocator.now) c.args.home.0 (stripe_for c.args.request.now.stripe c.args.seat.now.frame.stripe) (wanted.Module (module_asked c.args.request.now)) (view c.args.seat.now.seat) (view c.put_in.new.seat.seat) (module_refused c.args.self.now.allocator.now.pool.settings c.args.self.now.allocator.now.pool.plan.totals.table c.args.request.now.module.now) c.in-Err.refusal (sym c.in-Err.is ∙ c.validate_module.ensures) (ap (λ (s : Caller g.row.P.Denot g.row.H.Denot g.row.M.Denot). view s.seat) c.put_in.ensures.same);
  tested = tt;
  reason = inl (is_broken (module_refused c.args.self.now.allocator.now.pool.settings c.args.self.now.allocator.now.pool.plan.totals.table c.args.request.now.module.now) c.in-Err.refusal (sym c.in-Err.is ∙ c.validate_module.ensures));
  asked = asked_broken {P = g.row.P.Denot} {H = g.row.H.Denot} g.R.ResourceLimiter.told g.R.ResourceLimiter.leads (wanted.Module (module_asked c.args.request.now)) grant.Instance (module_refused c.args.self.now.allocator.now.pool.settings c.args.self.now.allocator.now.pool.plan.totals.table c.args.request.now.module.now) c.in-Err.refusal (lent c.args.request.now.limiter) (lent c.args.request.now.limiter) (sym c.in-Err.is ∙ c.validate_module.ensures) refl;
  stripe = ap (λ (s : Caller g.row.P.Denot g.row.H.Denot g.row.M.Denot). s.frame.stripe) c.put_in.ensures.same;
}

pub returns-in_default-module_call-clause-made : goal.returns-in_default-module_call-clause-made
returns-in_default-module_call-clause-made g c = record {
  ends = nothing_wanted (about_pool g.M.PageMaker.told c.args.self.now.allocator.now) c.args.home.0 (stripe_for c.args.request.now.stripe c.args.seat.now.frame.stripe) (wanted.Module (module_asked c.args.request.now)) (view c.args.seat.now.seat) (view c.put_in.new.seat.seat) (ap (λ (s : Caller g.row.P.Denot g.row.H.Denot g.row.M.Denot). view s.seat) c.put_in.ensures.same);
  tested = tt;
  reason = inr ((no_rule (module_refused c.args.self.now.allocator.now.pool.settings c.args.self.now.allocator.now.pool.plan.totals.table c.args.request.now.module.now) c.in_default.field-0 (sym c.in_default.is ∙ c.validate_module.ensures)), tt);
  asked = asked_tested {P = g.row.P.Denot} {H = g.row.H.Denot} g.R.ResourceLimiter.told g.R.ResourceLimiter.leads (wanted.Module (module_asked c.args.request.now)) grant.Instance (Err refusal.Memory) (module_refused c.args.self.now.allocator.now.pool.settings c.args.self.now.allocator.now.pool.plan.totals.table c.args.request.now.module.now) (lent c.args.request.now.limiter) (lent c.args.request.now.limiter) (no_rule (module_refused c.args.self.now.allocator.now.pool.settings c.args.self.now.allocator.now.pool.plan.totals.table c.args.request.now.module.now) c.in_default.field-0 (sym c.in_default.is ∙ c.validate_module.ensures))
      (asked_nothing {P = g.row.P.Denot} {H = g.row.H.Denot} g.R.ResourceLimiter.told g.R.ResourceLimiter.leads (wanted.Module (module_asked c.args.request.now)) grant.Instance (lent c.args.request.now.limiter) (lent c.args.request.now.limiter) refl);
  stripe = ap (λ (s : Caller g.row.P.Denot g.row.H.Denot g.row.M.Denot). s.frame.stripe) c.put_in.ensures.same;
}

pub allocate_module-requires-clause-images : goal.allocate_module-requires-clause-images
allocate_module-requires-clause-images g c = subst (λ (m : ModuleAsked). IfSome m.images (AreImagesOf c.args.self.now.allocator.now.pool.settings.page m.info)) (sym c.in-Ok.ensures) (if_behind (λ i. i.now) (AreImagesOf c.args.self.now.allocator.now.pool.settings.page c.args.request.now.module.now) c.args.request.now.images c.requires.images)

pub returns-in-None-clause-made : goal.returns-in-None-clause-made
returns-in-None-clause-made g c = record {
  ends = search rules;
  tested = search rules;
  reason = search rules;
  asked = asked_tested {P = g.row.P.Denot} {H = g.row.H.Denot} g.R.ResourceLimiter.told g.R.ResourceLimiter.leads (wanted.Module (module_asked c.args.request.now)) grant.Instance c.allocate_module.result (module_refused c.args.self.now.allocator.now.pool.settings c.args.self.now.allocator.now.pool.plan.totals.table c.args.request.now.module.now) (lent c.args.request.now.limiter) _ (no_rule (module_refused c.args.self.now.allocator.now.pool.settings c.args.self.now.allocator.now.pool.plan.totals.table c.args.request.now.module.now) c.in_default.field-0 (sym c.in_default.is ∙ c.validate_module.ensures)) (search rules);
  stripe = search rules;
}

pub returns-in-None-clause-held : goal.returns-in-None-clause-held
returns-in-None-clause-held g c =
    gains_ends (about_pool g.M.PageMaker.told c.args.self.now.allocator.now) instance_held c.args.home.0 c.put_in.new.seat.frame.stripe (wanted.Module c.in-Ok.call) c.allocate_module.result c.args.seat.now c.put_in.new.seat c.allocate_module.new.seat
    (ap (λ (s : Caller g.row.P.Denot g.row.H.Denot g.row.M.Denot). view s.seat) c.put_in.ensures.same) c.allocate_module.ensures.granted c.allocate_module.ensures.refused

pub allocate_module-requires-in-Some-clause-images : goal.allocate_module-requires-in-Some-clause-images
allocate_module-requires-in-Some-clause-images g c = subst (λ (m : ModuleAsked). IfSome m.images (AreImagesOf c.args.self.now.allocator.now.pool.settings.page m.info)) (sym c.in-Ok.ensures) (if_behind (λ i. i.now) (AreImagesOf c.args.self.now.allocator.now.pool.settings.page c.args.request.now.module.now) c.args.request.now.images c.requires.images)

pub returns-in-Some-clause-made : goal.returns-in-Some-clause-made
returns-in-Some-clause-made g c = record {
  ends = search rules;
  tested = search rules;
  reason = search rules;
  asked = asked_tested {P = g.row.P.Denot} {H = g.row.H.Denot} g.R.ResourceLimiter.told g.R.ResourceLimiter.leads (wanted.Module (module_asked c.args.request.now)) grant.Instance c.allocate_module-in-Some.result (module_refused c.args.self.now.allocator.now.pool.settings c.args.self.now.allocator.now.pool.plan.totals.table c.args.request.now.module.now) (lent c.args.request.now.limiter) _ (no_rule (module_refused c.args.self.now.allocator.now.pool.settings c.args.self.now.allocator.now.pool.plan.totals.table c.args.request.now.module.now) c.in_default.field-0 (sym c.in_default.is ∙ c.validate_module.ensures)) (search rules);
  stripe = search rules;
}

pub returns-in-Some-clause-held : goal.returns-in-Some-clause-held
returns-in-Some-clause-held g c =
    gains_ends (about_pool g.M.PageMaker.told c.args.self.now.allocator.now) instance_held c.args.home.0 c.put_in.new.seat.frame.stripe (wanted.Module c.in-Ok.call) c.allocate_module-in-Some.result c.args.seat.now c.put_in.new.seat c.allocate_module-in-Some.new.seat
    (ap (λ (s : Caller g.row.P.Denot g.row.H.Denot g.row.M.Denot). view s.seat) c.put_in.ensures.same) c.allocate_module-in-Some.ensures.granted c.allocate_module-in-Some.ensures.refused
