use Rattle.std.proofs.Common.{◌≤◌, ◌<◌, arith}
use Rattle.pool_images.proofs.Spans.{last_alone, last_reaches}
use Rattle.pool_images.proofs.image_slot.dirty_pages.last_end.Goals as goal

pub returns-then-next_marked-span-clause-value : goal.returns-then-next_marked-span-clause-value
returns-then-next_marked-span-clause-value g c =
    let run = c.next_marked-end.ensures in
    let rest = c.next_marked.ensures in
    let more : c.next_marked.result < c.args.span.pages = omega (arith, c.if-next_marked-span.true) in
    last_reaches c.args.span c.args.region.now c.requires.span c.args.from c.next_marked-end.result c.next_marked.result c.requires.from c.requires.marked run.from run.within run.between run.there rest.from more (rest.there more) rest.between

pub returns-else-next_marked-span-clause-value : goal.returns-else-next_marked-span-clause-value
returns-else-next_marked-span-clause-value g c =
    let run = c.next_marked-end.ensures in
    let rest = c.next_marked.ensures in
    let none : c.args.span.pages ≤ c.next_marked.result = omega (arith, c.if-next_marked-span.false) in
    last_alone c.args.span c.args.region.now c.requires.span c.args.from c.next_marked-end.result c.next_marked.result c.requires.from c.requires.marked run.from run.within run.between run.there rest.from none rest.within rest.between
