use Rattle.std.proofs.Common.{rules, ◌≡◌, ℕ, List, Option, Some, None, sym, ap, ◌∙◌}
use Rattle.pool_run_on_demand.proofs.Imports.{MemoryDecl, ModuleInfo, Unsupported, GrowthLimits, limited_by, ModuleAsked, first_refused, offset_refused, rule_of, module_of, wants_of}
use Rattle.pool_run_on_demand.specs.OnDemand.{request_on_demand}
use Rattle.pool_run_on_demand.specs.Seen.{number_of}
use Rattle.pool_run_on_demand.proofs.Requests.{offset_unmade}
use Rattle.pool_run_on_demand.proofs.request.request.Goals as goal

pub returns-in-Some-clause-answer : goal.returns-in-Some-clause-answer
returns-in-Some-clause-answer g c =
    let t = g.terms in
    let call = c.args.call.now in
    let First : ℕ → List MemoryDecl → Option Unsupported = λ page decls. first_refused (λ d. offset_refused page d.image) decls in
    let m = module_of t (number_of call) in
    let page : t.settings.page ≡ c.page.result = c.requires.1.1.0.pages.page ∙ sym c.page.ensures in
    let info : m ≡ c.deref.result.now = c.requires.1.1.1.0.info ∙ ap (λ (k : ModuleAsked). k.info) (sym c.call.view_is) ∙ sym c.deref.ensures in
    let decls : m.memories ≡ c.as_slice.result.now = ap (λ (x : ModuleInfo). x.memories) info ∙ sym c.as_slice.ensures in
    offset_unmade t m (wants_of (request_on_demand t (number_of call))) c.in-Some.rule
    (ap (λ (n : ℕ). First n m.memories) page ∙ ap (First c.page.result) decls ∙ sym c.offsets_refused.ensures ∙ c.in-Some.is)

pub allocate-requires : goal.allocate-requires
allocate-requires g c κs within =
    let t = g.terms in
    let call : ModuleAsked = c.args.call.now in
    let First : ℕ → List MemoryDecl → Option Unsupported = λ page decls. first_refused (λ d. offset_refused page d.image) decls in
    let page : t.settings.page ≡ c.page.result = c.requires.1.1.0.pages.page ∙ sym c.page.ensures in
    let info : call.info ≡ c.deref.result.now = ap (λ (k : ModuleAsked). k.info) (sym c.call.view_is) ∙ sym c.deref.ensures in
    let decls : call.info.memories ≡ c.as_slice.result.now = ap (λ (x : ModuleInfo). x.memories) info ∙ sym c.as_slice.ensures in
    let offsets : First t.settings.page call.info.memories ≡ None = ap (λ (n : ℕ). First n call.info.memories) page ∙ ap (First c.page.result) decls ∙ sym c.offsets_refused.ensures ∙ c.in_default.is in
    let rule = sym (ap Some (c.requires.1.1.1.1 ∙ ap rule_of c.in-None.is)) in
    (search rules, (search rules, (search rules, (c.requires.1.1.0, (c.requires.1.1.1.0, (rule, offsets))))))

pub allocate-requires-in-Some-limits : goal.allocate-requires-in-Some-limits
allocate-requires-in-Some-limits g c κs within =
    let t = g.terms in
    let call : ModuleAsked = c.args.call.now in
    let First : ℕ → List MemoryDecl → Option Unsupported = λ page decls. first_refused (λ d. offset_refused page d.image) decls in
    let page : t.settings.page ≡ c.page.result = c.requires.1.1.0.pages.page ∙ sym c.page.ensures in
    let info : call.info ≡ c.deref.result.now = ap (λ (k : ModuleAsked). k.info) (sym c.call.view_is) ∙ sym c.deref.ensures in
    let decls : call.info.memories ≡ c.as_slice.result.now = ap (λ (x : ModuleInfo). x.memories) info ∙ sym c.as_slice.ensures in
    let offsets : First t.settings.page call.info.memories ≡ None = ap (λ (n : ℕ). First n call.info.memories) page ∙ ap (First c.page.result) decls ∙ sym c.offsets_refused.ensures ∙ c.in_default.is in
    let rule = ap (λ (l : GrowthLimits). Some (limited_by l)) c.limiter_of-limiter.ensures ∙ sym (ap Some (c.requires.1.1.1.1 ∙ ap rule_of c.in-Some-limits.is)) in
    (search rules, (search rules, (search rules, (c.requires.1.1.0, (c.requires.1.1.1.0, (rule, offsets))))))
