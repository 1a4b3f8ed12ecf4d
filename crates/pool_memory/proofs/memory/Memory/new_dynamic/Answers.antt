use Rattle.std.proofs.Common.{◌≡◌, ℕ, Bool, Option, Result, refl, sym, ap, ◌∙◌, subst}
use Rattle.pool_memory.proofs.Imports.{MemoryKind, MemoryTunables, Tunables, LimiterError}
use Rattle.pool_memory.specs.Dynamic.{RefusesBy, dynamic_limits}
use Rattle.pool_memory.specs.Making.{limiter_answer}
use Rattle.pool_memory.specs.declared.memory_error.MemoryError.{MemoryError}
use Rattle.pool_memory.proofs.memory.Memory.new_dynamic.Goals as goal

abbrev settings_of : MemoryKind → Tunables → MemoryTunables
settings_of kind tunables = record { tunables = tunables; kind = kind }

pub returns-in-Some-clause-limiter : goal.returns-in-Some-clause-limiter
returns-in-Some-clause-limiter g c = rw c.in-Some.is (rw c.make_dynamic.ensures.answer c.dynamic_limits-limits.ensures.limiter)

pub returns-in-Some-clause-exchange : goal.returns-in-Some-clause-exchange
returns-in-Some-clause-exchange g c = rw c.in-Some.is (c.dynamic_limits-limits.new.limiter, (rw c.make_dynamic.ensures.answer c.dynamic_limits-limits.ensures.exchange, refl))

pub returns-in-Some-clause-refused : goal.returns-in-Some-clause-refused
returns-in-Some-clause-refused g c =
    let limits = c.dynamic_limits-limits in
    let made = c.make_dynamic in
    let told = g.M.PageMaker.told in
    let S : MemoryTunables → Result (ℕ × Option ℕ) MemoryError → Type 0 = λ s r. RefusesBy r (λ minimum maximum. g.C.RuntimeMemoryCreator.refuses c.args.creator.now (told c.args.maker.now).page c.args.ty.now s minimum maximum) made.result (told c.args.maker.now) (told made.new.maker) in
    let settings : c.new-settings.result ≡ settings_of c.args.kind c.args.tunables.now.tunables = c.new-settings.ensures ∙ ap (settings_of c.args.kind) c.tunables.ensures in
    let D : Result Bool LimiterError → Result (ℕ × Option ℕ) MemoryError = λ a. dynamic_limits a c.args.ty.now in
    let value : limits.result ≡ D (limiter_answer made.result) = limits.ensures.value ∙ ap D (sym made.ensures.answer) in
    subst (S (settings_of c.args.kind c.args.tunables.now.tunables)) value (subst (λ (s : MemoryTunables). S s limits.result) settings made.ensures.refused)

pub returns-in-None-clause-refused : goal.returns-in-None-clause-refused
returns-in-None-clause-refused g c =
    let limits = c.dynamic_limits-limits-in-None in
    let made = c.make_dynamic-in-None in
    let told = g.M.PageMaker.told in
    let S : MemoryTunables → Result (ℕ × Option ℕ) MemoryError → Type 0 = λ s r. RefusesBy r (λ minimum maximum. g.C.RuntimeMemoryCreator.refuses c.args.creator.now (told c.args.maker.now).page c.args.ty.now s minimum maximum) made.result (told c.args.maker.now) (told made.new.maker) in
    let settings : c.new-settings.result ≡ settings_of c.args.kind c.args.tunables.now.tunables = c.new-settings.ensures ∙ ap (settings_of c.args.kind) c.tunables.ensures in
    let D : Result Bool LimiterError → Result (ℕ × Option ℕ) MemoryError = λ a. dynamic_limits a c.args.ty.now in
    let value : limits.result ≡ D (limiter_answer made.result) = limits.ensures.value ∙ ap D (sym made.ensures.answer) in
    subst (S (settings_of c.args.kind c.args.tunables.now.tunables)) value (subst (λ (s : MemoryTunables). S s limits.result) settings made.ensures.refused)
