use Rattle.std.proofs.Common.{◌≡◌, ℕ, ◌*◌, ◌%◌, ◌<◌, ap, ◌∙◌, arith}
use Rattle.pool_slots.proofs.Imports.{div_ceil, mul-mod_left, count}
use Rattle.pool_slots.proofs.Layouts.{rounded_by_pages}
use Rattle.pool_slots.proofs.slab.round_within.Goals as goal

pub new_unchecked-requires : goal.new_unchecked-requires
new_unchecked-requires c = ap (λ (n : ℕ). c.div_ceil-pages.result * n % c.page-page.result) c.get-2.ensures.value ∙ mul-mod_left c.div_ceil-pages.result c.page-page.result

pub returns : goal.returns
returns c =
    let page : ℕ = c.args.bound.page in
    let pages : ℕ = c.div_ceil-pages.result in
    let same : c.page-page.result ≡ page = c.page-page.ensures in
    let first : c.get.result ≡ page = c.get.ensures.value ∙ same in
    let second : c.get-2.result ≡ page = c.get-2.ensures.value ∙ same in
    let count_of : pages ≡ div_ceil c.args.bytes page = c.div_ceil-pages.ensures ∙ ap (λ (n : ℕ). div_ceil c.args.bytes n) first in
    let some : 0 < page = omega (arith, same, c.get.ensures.valid.at_least) in
    c.new_unchecked.ensures
    ∙ ap (λ (p : ℕ). count p (pages * c.get-2.result)) same
    ∙ ap (λ (n : ℕ). count page (n * c.get-2.result)) count_of
    ∙ ap (λ (n : ℕ). count page (div_ceil c.args.bytes page * n)) second
    ∙ ap (λ (n : ℕ). count page n) (rounded_by_pages page c.args.bytes some)
