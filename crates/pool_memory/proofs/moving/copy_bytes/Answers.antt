use Rattle.std.proofs.Common.{◌≡◌, ◌≤◌, ◌+◌, ◌-◌, ℕ, subst, arith}
use Rattle.pool_memory.specs.Copying.{IsCopied}
use Rattle.pool_memory.proofs.Copies.{none_copied, more_copied}
use Rattle.pool_memory.proofs.moving.copy_bytes.Goals as goal

pub loop-done-init : goal.loop-done-init
loop-done-init g c = (omega arith, none_copied c.args.from.now c.args.to.now c.requires.to.ready)

pub loop-done-preserved : goal.loop-done-preserved
loop-done-preserved g c =
    let done = c.loop-done.done in
    let end = c.min-end.result in
    let more : done ≤ end = omega (arith, c.min-end.ensures, c.saturating_add.ensures, c.loop-done-test.true) in
    let most : end ≤ c.args.len = omega (arith, c.min-end.ensures) in
    let all : done + (end - done) ≡ end = omega (arith, more) in
    let P : ℕ → Type 0 = λ n. IsCopied 0 n c.args.from.now c.args.to.now c.copy_piece.new.to in (
      most,
      subst P all (more_copied done (end - done) c.args.from.now c.args.to.now c.loop-done.to c.copy_piece.new.to c.accessible-from.ensures.fits c.accessible-to.ensures.fits (omega (arith, all, most, c.requires.from.reached)) (omega (arith, all, most, c.requires.to.reached)) c.loop-done.invariant.1 c.copy_piece.ensures),
    )
