use Rattle.std.proofs.Common.{◌∙◌, ap, length, slice_get}
use Rattle.pool_memory.specs.Making.{static_limiter_answer}
use Rattle.pool_alloc.specs.StepReads.{memories_wanted, under}
use Rattle.pool_alloc.specs.Turns.{stepped}
use Rattle.pool_alloc.proofs.MakeSteps.{made_in_code}
use Rattle.pool_alloc.proofs.ToldElements.{told_there}
use Rattle.pool_alloc.proofs.memory_pool.make.make_memory.Goals as goal

pub returns : goal.returns
returns g c =
    let frame = c.args.frame.now in
    let answer = static_limiter_answer c.make_next_memory-making.result in (
      answer,
      c.make_next_memory-making.ensures.asked,
      c.make_next_memory-making.ensures.exchanged,
      λ core.
          c.was_made.ensures (under c.args.settings.now core.plan core) ∙ ap stepped (told_there _ (memories_wanted frame.asked) (length frame.objects.memories.items) c.requires.next.more
          (made_in_code _ _ c.args.at c.args.held (under c.args.settings.now core.plan core) frame answer c.args.settings.now.max_memory_size (slice_get (memories_wanted frame.asked) (length frame.objects.memories.items)) c.make_next_memory-making.result c.make_next_memory-making.ensures.value)),
    )
