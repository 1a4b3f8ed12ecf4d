use Rattle.std.proofs.Common.{◌≡◌, ◌∙◌, sym, length, take}
use Rattle.pool_pages.proofs.Imports.{Decides-eqb, slice_eq-Decides}
use Rattle.pool_pages.proofs.Prefixes.{zeros_behind, begins_kept}
use Rattle.pool_pages.proofs.column.is_with_zeros.Goals as goal

pub returns-then-eq : goal.returns-then-eq
returns-then-eq c =
    let same : c.args.kept.now ≡ take (length c.args.kept.now) c.args.bytes.now = (slice_eq-Decides Decides-eqb _ _ _ c.eq.ensures).0 c.if-eq.true ∙ c.split_at.ensures.front in
    let behind = zeros_behind c.args.kept.now c.args.bytes.now c.split_at.result.1.now c.requires same c.split_at.ensures.back in (
      (λ t. behind.0 (c.are_zeros.ensures.0 t)),
      (λ e. c.are_zeros.ensures.1 (behind.1 e)),
    )

pub returns-else-eq : goal.returns-else-eq
returns-else-eq c = (
  (λ t. absurd (cc t)),
  (λ e. absurd (cc (sym ((slice_eq-Decides Decides-eqb _ _ _ c.eq.ensures).1 (begins_kept c.args.kept.now c.args.bytes.now e ∙ sym c.split_at.ensures.front)) ∙ c.if-eq.false))),
)
