use Rattle.std.proofs.Common.{◌≡◌, ℕ, ◌+◌, List, length, replicate, sym, ap, ◌∙◌, subst, arith}
use Rattle.atomic_table.specs.Table.{opening}
use Rattle.pool_hall.specs.Rule.{word_of, first_view, Lawful}
use Rattle.pool_hall.proofs.Opening.{opens}
use Rattle.pool_hall.proofs.hall.Hall.new.Goals as goal

pub new-requires : goal.new-requires
new-requires g c =
    let m = g.T.Part.meaning in
    let parts = c.args.parts.items in
    let limits = c.args.limits.items in
    let words = c.as_slice.result.now in
    let count : c.len-2.result + c.len-3.result ≡ length parts + length limits = omega (arith, c.args.parts.ok.0, c.args.limits.ok.0) in
    let packed = c.args.packed in
    let blank = c.as_slice.ensures.value ∙ c.in_ok-words.ensures ∙ ap (λ n. replicate (word_of packed n) 0) count in
    subst (λ (k : List g.row.T.Denot × List ℕ). Lawful m k.0 k.1 packed (opening words parts (first_view k.0 k.1))) (λ i. (sym (ap (λ v. v.items) c.of.ensures) i, sym (ap (λ v. v.items) c.of-2.ensures) i))
    (opens m parts limits packed c.requires.fresh words blank)
