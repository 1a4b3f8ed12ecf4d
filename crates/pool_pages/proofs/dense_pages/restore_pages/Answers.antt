use Rattle.std.proofs.Common.{◌+◌, ◌*◌, ◌<◌, ◌≤◌, length, false, sym, set, ap, ◌∙◌, arith}
use Rattle.pool_pages.proofs.PageRuns.{put_nothing, no_mark, mark_more, run_long, run_clean, run_more, run_end}
use Rattle.pool_pages.proofs.dense_pages.restore_pages.Goals as goal

pub loop-k-init : goal.loop-k-init
loop-k-init c = (
  sym (put_nothing (c.args.first * c.args.page) c.args.origin.now c.args.bytes.now),
  sym (no_mark c.args.first false c.args.dirty.now.items),
)

pub restore_page-requires-clause-inside : goal.restore_page-requires-clause-inside
restore_page-requires-clause-inside c =
    let below : c.loop-k.k < c.args.first + c.args.count = omega arith in
    let end : c.loop-k.k * c.args.page + c.args.page ≤ length c.args.bytes.now = run_end c.args.page (c.args.first + c.args.count) c.loop-k.k (length c.args.bytes.now) c.requires.inside below in
    omega (arith, run_long c.args.page c.args.first c.loop-k.k c.args.origin.now c.args.bytes.now c.loop-k.bytes (omega arith) (omega arith) c.requires.same_length c.loop-k.invariant.0)

pub restore_page-requires-clause-same_length : goal.restore_page-requires-clause-same_length
restore_page-requires-clause-same_length c =
    let below : c.loop-k.k < c.args.first + c.args.count = omega arith in
    let end : c.loop-k.k * c.args.page + c.args.page ≤ length c.args.bytes.now = run_end c.args.page (c.args.first + c.args.count) c.loop-k.k (length c.args.bytes.now) c.requires.inside below in
    omega (arith, c.requires.same_length, run_long c.args.page c.args.first c.loop-k.k c.args.origin.now c.args.bytes.now c.loop-k.bytes (omega arith) (omega arith) c.requires.same_length c.loop-k.invariant.0)

pub restore_page-requires-clause-clean : goal.restore_page-requires-clause-clean
restore_page-requires-clause-clean c mark =
    let below : c.loop-k.k < c.args.first + c.args.count = omega arith in
    let from : c.args.first ≤ c.loop-k.k = omega arith in
    let end : c.loop-k.k * c.args.page + c.args.page ≤ length c.args.bytes.now = run_end c.args.page (c.args.first + c.args.count) c.loop-k.k (length c.args.bytes.now) c.requires.inside below in
    run_clean c.args.page c.args.first c.loop-k.k c.args.origin.now c.args.bytes.now c.loop-k.bytes c.args.dirty.now.items c.loop-k.dirty.items
    from end (omega (arith, c.requires.marks)) c.requires.same_length c.loop-k.invariant.0 c.loop-k.invariant.1
    (c.requires.clean c.loop-k.k from below) mark

pub loop-k-preserved : goal.loop-k-preserved
loop-k-preserved c =
    let below : c.loop-k.k < c.args.first + c.args.count = omega arith in
    let from : c.args.first ≤ c.loop-k.k = omega arith in
    let end : c.loop-k.k * c.args.page + c.args.page ≤ length c.args.bytes.now = run_end c.args.page (c.args.first + c.args.count) c.loop-k.k (length c.args.bytes.now) c.requires.inside below in (
      run_more c.args.page c.args.first c.loop-k.k c.args.origin.now c.args.bytes.now c.loop-k.bytes c.restore_page.new.bytes
          from end c.requires.same_length c.loop-k.invariant.0 c.restore_page.ensures.bytes,
      c.restore_page.ensures.dirty
          ∙ ap (λ ds. set ds c.loop-k.k false) c.loop-k.invariant.1
          ∙ mark_more c.args.first c.loop-k.k false c.args.dirty.now.items from (omega (arith, c.requires.marks)),
    )
