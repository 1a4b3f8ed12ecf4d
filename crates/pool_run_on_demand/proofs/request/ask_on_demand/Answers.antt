use Rattle.std.proofs.Common.{rules, ◌≡◌, ℕ, ◌<◌, List, Some, length, refl, sym, ap, subst, arith, slice_index_or, slice_set}
use Rattle.pool_run_on_demand.proofs.Imports.{MakerTold, MemoryType, ModuleAsked, requests, given_wanted, NamesModule}
use Rattle.pool_run_on_demand.specs.OnDemand.{Makes, MakesHeap, MakesWanted, request_on_demand}
use Rattle.pool_run_on_demand.specs.Seen.{number_of, grants_made}
use Rattle.pool_run_on_demand.specs.Left.{laying_of}
use Rattle.pool_run.specs.declared.act.Wanted.{Wanted}
use Rattle.pool_run.specs.declared.reply.Reply.TheVariants.{Component as granted}
use Rattle.pool_run_on_demand.specs.declared.grant.OnDemandGrant.TheVariants.{Component}
use Rattle.pool_run_on_demand.proofs.Grants.{component_makes}
use Rattle.pool_run_on_demand.proofs.Parties.{call_at}
use Rattle.pool_run_on_demand.proofs.Paid.{grant_spends}
use Rattle.pool_run_on_demand.proofs.Spending.{spends_none}
use Rattle.pool_run_on_demand.proofs.request.ask_on_demand.Goals as goal

pub request_on_demand-requires : goal.request_on_demand-requires
request_on_demand-requires g c κs within =
    let calls : List ModuleAsked = c.args.calls.now in
    let x : ModuleAsked = c.index-calls-module.result in
    let is : x ≡ slice_index_or calls c.in-Instance.module x = search rules in
    let Named : Wanted → Type 0 = λ w. NamesModule (length calls) (requests (given_wanted w)) in
    let call = (call_at g.terms c.args.tunables.now calls c.in-Instance.module x c.requires.1.1.1.0 (subst Named c.in-Instance.is c.requires.1.1.1.1.0) is).1 in
    (search rules, (search rules, (c.requires.1.1.0, (call, (c.requires.1.1.1.1.1.0, (c.requires.1.1.1.1.1.1.1.0, c.requires.1.1.1.1.1.1.1.1))))))

pub request_heap-requires : goal.request_heap-requires
request_heap-requires g c κs within =
    let page : c.heap_type-ty.result.page_size_log2 < 64 = omega (arith, ap (λ (ty : MemoryType). ty.page_size_log2) c.heap_type-ty.ensures) in
    (search rules, (search rules, (c.requires.1.1.0, (c.requires.1.1.1.0.settings, (c.requires.1.1.1.1.1.0, (c.requires.1.1.1.1.1.1.0, (page, (c.requires.1.1.1.1.1.1.1.0, c.requires.1.1.1.1.1.1.1.1))))))))

pub returns-in-Instance-clause-makes : goal.returns-in-Instance-clause-makes
returns-in-Instance-clause-makes g c stores =
    let t = g.terms in
    let new = c.request_on_demand.new.live.items in
    let heaps : ℕ = c.args.heaps.now.made in
    let calls : List ModuleAsked = c.args.calls.now in
    let x : ModuleAsked = c.index-calls-module.result in
    let is : x ≡ slice_index_or calls c.in-Instance.module x = search rules in
    let Named : Wanted → Type 0 = λ w. NamesModule (length calls) (requests (given_wanted w)) in
    let same : number_of x ≡ c.in-Instance.module = (call_at t c.args.tunables.now calls c.in-Instance.module x c.requires.1.1.1.0 (subst Named c.in-Instance.is c.requires.1.1.1.1.0) is).0 in
    let Makes_of : Wanted → Type 0 = λ w. MakesWanted t c.args.n (given_wanted w) (record { grants = grants_made t.tells c.args.live.now.items; stores = stores; heaps = heaps }) c.request_on_demand.result (record { grants = grants_made t.tells new; stores = stores; heaps = heaps }) in
    let For : ℕ → Type 0 = λ k. Makes t c.args.n (request_on_demand t k) (grants_made t.tells c.args.live.now.items) c.request_on_demand.result (grants_made t.tells new) in
    subst Makes_of (sym c.in-Instance.is) (grants_made t.tells new, subst For same c.request_on_demand.ensures.makes, refl)

pub returns-in-Component-clause-makes : goal.returns-in-Component-clause-makes
returns-in-Component-clause-makes g c stores =
    let t = g.terms in
    let live = c.args.live.now.items in
    let new = slice_set live c.args.n (Some Component) in
    let heaps : ℕ = c.args.heaps.now.made in
    let Makes_of : Wanted → Type 0 = λ w. MakesWanted t c.args.n (given_wanted w) (record { grants = grants_made t.tells live; stores = stores; heaps = heaps }) granted (record { grants = grants_made t.tells new; stores = stores; heaps = heaps }) in
    subst Makes_of (sym c.in-Component.is) (grants_made t.tells new, component_makes t c.args.n live, refl)

pub returns-in-Stack-clause-makes : goal.returns-in-Stack-clause-makes
returns-in-Stack-clause-makes g c stores =
    let t = g.terms in
    let new = c.request_stack.new.live.items in
    let heaps : ℕ = c.args.heaps.now.made in
    let Makes_of : Wanted → Type 0 = λ w. MakesWanted t c.args.n (given_wanted w) (record { grants = grants_made t.tells c.args.live.now.items; stores = stores; heaps = heaps }) c.request_stack.result (record { grants = grants_made t.tells new; stores = stores; heaps = heaps }) in
    subst Makes_of (sym c.in-Stack.is) (grants_made t.tells new, c.request_stack.ensures.makes, refl)

pub returns-in-Heap-clause-makes : goal.returns-in-Heap-clause-makes
returns-in-Heap-clause-makes g c stores =
    let t = g.terms in
    let Makes_of : Wanted → Type 0 = λ w. MakesWanted t c.args.n (given_wanted w) (record { grants = grants_made t.tells c.args.live.now.items; stores = stores; heaps = c.args.heaps.now.made }) c.request_heap.result (record { grants = grants_made t.tells c.request_heap.new.live.items; stores = stores; heaps = c.request_heap.new.heaps.made }) in
    let Makes_for : MemoryType → Type 0 = λ ty. MakesHeap t c.args.n ty (record { grants = grants_made t.tells c.args.live.now.items; stores = stores; heaps = c.args.heaps.now.made }) c.request_heap.result (record { grants = grants_made t.tells c.request_heap.new.live.items; stores = stores; heaps = c.request_heap.new.heaps.made }) in
    subst Makes_of (sym c.in-Heap.is) (subst Makes_for c.heap_type-ty.ensures (c.request_heap.ensures.makes stores))

pub returns-in-Component-clause-spends : goal.returns-in-Component-clause-spends
returns-in-Component-clause-spends g c =
    let told = g.M.PageMaker.told in
    let maker : MakerTold = told c.args.seat.now.maker in
    grant_spends (laying_of g.terms maker) maker maker c.args.live.now.items c.args.n c.requires.1.1.1.1.1.1.1.0 Component tt (spends_none maker 0)
