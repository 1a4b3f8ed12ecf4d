use Rattle.std.proofs.Common.{ℕ, sym, subst}
use Rattle.std.specs.Prelude.{IfSome}
use Rattle.pool_alloc.specs.Requests.{AreImagesOf}
use Rattle.pool_uses.proofs.numbers.make_and_count.Goals as goal

pub count_warm-requires-clause-first_images : goal.count_warm-requires-clause-first_images
count_warm-requires-clause-first_images g c = subst (λ (p : ℕ). IfSome c.args.first.images (AreImagesOf p c.args.first.info)) (sym c.in_ok-allocator.ensures.page) c.requires.first_images

pub count_warm-requires-clause-second_images : goal.count_warm-requires-clause-second_images
count_warm-requires-clause-second_images g c = subst (λ (p : ℕ). IfSome c.args.second.images (AreImagesOf p c.args.second.info)) (sym c.in_ok-allocator.ensures.page) c.requires.second_images

pub count_warm-requires-clause-third_images : goal.count_warm-requires-clause-third_images
count_warm-requires-clause-third_images g c = subst (λ (p : ℕ). IfSome c.args.third.images (AreImagesOf p c.args.third.info)) (sym c.in_ok-allocator.ensures.page) c.requires.third_images
