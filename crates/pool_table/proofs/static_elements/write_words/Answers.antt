use Rattle.std.proofs.Common.{◌≡◌, ℕ, ◌+◌, ◌*◌, List, length, sym, subst, arith}
use Rattle.pool_pages.specs.Told.{Told, overwritten}
use Rattle.pool_table.specs.Tables.{Rewrites}
use Rattle.pool_table.proofs.Copies.{copies, copies_more, length-copies, scaled}
use Rattle.pool_table.proofs.Kept.{reach_still, reach_part, rewrites_more, shaped_as}
use Rattle.pool_table.proofs.static_elements.write_words.Goals as goal

pub write-requires-clause-reachable : goal.write-requires-clause-reachable
write-requires-clause-reachable g c =
    let w : ℕ = length c.args.word.now in
    let first : Told = g.P.Pages.told c.args.region.now in
    let here : Told = g.P.Pages.told c.loop-i.region in
    let still = reach_still c.args.at c.args.at (c.args.count * w) (copies c.loop-i.i c.args.word.now) first here c.loop-i.invariant.0 c.requires.reachable in
    reach_part c.args.at (c.args.count * w) (c.loop-i.i * w) w first.page first.len here.contents c.requires.page (scaled c.loop-i.i c.args.count w c.loop-i-test.true)
    (shaped_as c.args.at (copies c.loop-i.i c.args.word.now) first here c.loop-i.invariant.0 c.loop-i.invariant.1) still

pub loop-i-preserved : goal.loop-i-preserved
loop-i-preserved g c =
    let w : ℕ = length c.args.word.now in
    let first : Told = g.P.Pages.told c.args.region.now in
    let here : Told = g.P.Pages.told c.loop-i.region in
    let after : Told = g.P.Pages.told c.write.new.self in
    let before : List ℕ = copies c.loop-i.i c.args.word.now in
    let long : length before ≡ c.loop-i.i * w = length-copies c.loop-i.i c.args.word.now in
    let W : ℕ → Type 0 = λ n. after ≡ overwritten (c.args.at + n) c.args.word.now here in
    let R : List ℕ → Type 0 = λ xs. Rewrites c.args.at xs first after in (
      subst R (copies_more c.loop-i.i c.args.word.now)
          (rewrites_more c.args.at before c.args.word.now first here after c.requires.page c.requires.shaped c.len-len.ensures.marks c.loop-i.invariant.0 (subst W (sym long) c.write.ensures.written)
          (omega (arith, long, scaled c.loop-i.i c.args.count w c.loop-i-test.true, c.requires.inside))),
      c.write.ensures.shaped,
    )
