use Rattle.std.proofs.Common.{◌+◌, ◌-◌, length, ap, ◌∙◌}
use Rattle.pool_pages.specs.Contents.{put, put_all}
use Rattle.pool_pages.proofs.Prefixes.{put-zeros}
use Rattle.pool_pages.proofs.column.Column.restore.Goals as goal

pub returns : goal.returns
returns c =
    c.clear.ensures
    ∙ ap (λ xs. put_all (c.args.from + length c.kept_part-kept.result.now) (c.args.count - length c.kept_part-kept.result.now) 0 xs) c.put.ensures
    ∙ put-zeros c.args.from c.args.count c.kept_part-kept.result.now c.args.self.now c.kept_part-kept.ensures.len c.requires.inside
    ∙ ap (λ zs. put c.args.from zs c.args.self.now) c.kept_part-kept.ensures.value
