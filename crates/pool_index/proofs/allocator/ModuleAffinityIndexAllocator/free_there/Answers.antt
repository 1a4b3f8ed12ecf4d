use Rattle.std.proofs.Common.{◌≡◌, ◌∙◌, ◌≤◌, ◌^◌, sym, subst, refl, arith, length, true, false, nat_lt, All}
use Rattle.std.proofs.lemmas.Grind.{common_steps}
use Rattle.pool_hall.specs.Seat.{view}
use Rattle.pool_index.proofs.Imports.{ltb-true, counted, number, times}
use Rattle.pool_index.specs.Allocator.{FreedInShard}
use Rattle.pool_index.specs.Freed.{slots_among}
use Rattle.pool_index.proofs.FreedLists.{among_there, small_there, back_many, gave_many, counts_many, freed_many, none_left, none_gave, none_counts}
use Rattle.pool_index.proofs.HallFrees.{Slots}
use Rattle.pool_index.proofs.allocator.ModuleAffinityIndexAllocator.free_there.Goals as goal

pub free_many_in-requires-clause-units : goal.free_many_in-requires-clause-units
free_many_in-requires-clause-units g c = back_many c.args.self.now c.args.place c.args.items.now c.at-at.result c.at-at.ensures.value (slots_among c.numbers_at-first.result.0 c.numbers_at-first.result.1 c.args.items.now) (among_there c.args.self.now c.args.place c.numbers_at-first.result.0 c.numbers_at-first.result.1 c.numbers_at-first.ensures.first c.numbers_at-first.ensures.among c.args.items.now) (view c.args.seat.now) c.requires.units

pub free_many_in-requires-clause-bytes : goal.free_many_in-requires-clause-bytes
free_many_in-requires-clause-bytes g c = subst (λ (l : Slots). All (λ p. p.1 ≤ 2 ^ 32) l) (sym (among_there c.args.self.now c.args.place c.numbers_at-first.result.0 c.numbers_at-first.result.1 c.numbers_at-first.ensures.first c.numbers_at-first.ensures.among c.args.items.now)) (small_there c.args.self.now c.args.place c.args.items.now c.requires.bytes)

pub returns-then-has_between-clause-units : goal.returns-then-has_between-clause-units
returns-then-has_between-clause-units g c = gave_many c.args.self.now c.args.place c.args.items.now c.at-at.result c.at-at.ensures.value (slots_among c.numbers_at-first.result.0 c.numbers_at-first.result.1 c.args.items.now) (among_there c.args.self.now c.args.place c.numbers_at-first.result.0 c.numbers_at-first.result.1 c.numbers_at-first.ensures.first c.numbers_at-first.ensures.among c.args.items.now) (view c.args.seat.now) (view c.free_many_in.new.seat) c.free_many_in.ensures.units

pub returns-then-has_between-clause-counts : goal.returns-then-has_between-clause-counts
returns-then-has_between-clause-counts g c = counts_many c.args.self.now c.args.place c.args.items.now c.at-at.result c.at-at.ensures.value (slots_among c.numbers_at-first.result.0 c.numbers_at-first.result.1 c.args.items.now) (among_there c.args.self.now c.args.place c.numbers_at-first.result.0 c.numbers_at-first.result.1 c.numbers_at-first.ensures.first c.numbers_at-first.ensures.among c.args.items.now) (view c.args.seat.now) (view c.free_many_in.new.seat) c.free_many_in.ensures.counts

pub returns-then-has_between-clause-freed : goal.returns-then-has_between-clause-freed
returns-then-has_between-clause-freed g c =
    let some : nat_lt 0 (length (slots_among c.numbers_at-first.result.0 c.numbers_at-first.result.1 c.args.items.now)) ≡ true = grind (arith, common_steps) in
    freed_many c.args.self.now c.args.place c.args.items.now c.at-at.result c.at-at.ensures.value (slots_among c.numbers_at-first.result.0 c.numbers_at-first.result.1 c.args.items.now) (among_there c.args.self.now c.args.place c.numbers_at-first.result.0 c.numbers_at-first.result.1 c.numbers_at-first.ensures.first c.numbers_at-first.ensures.among c.args.items.now) (view c.args.seat.now) (view c.free_many_in.new.seat) (ltb-true 0 (length (slots_among c.numbers_at-first.result.0 c.numbers_at-first.result.1 c.args.items.now)) some) c.free_many_in.ensures.freed.0 c.free_many_in.ensures.freed.1

pub returns-else-has_between-clause-units : goal.returns-else-has_between-clause-units
returns-else-has_between-clause-units g c u =
    let no : nat_lt 0 (length (slots_among c.numbers_at-first.result.0 c.numbers_at-first.result.1 c.args.items.now)) ≡ false = grind (arith, common_steps) in
    none_gave c.args.self.now c.args.place c.args.items.now (sym (among_there c.args.self.now c.args.place c.numbers_at-first.result.0 c.numbers_at-first.result.1 c.numbers_at-first.ensures.first c.numbers_at-first.ensures.among c.args.items.now) ∙ none_left (slots_among c.numbers_at-first.result.0 c.numbers_at-first.result.1 c.args.items.now) no) u (times u (view c.args.seat.now).units)

pub returns-else-has_between-clause-freed : goal.returns-else-has_between-clause-freed
returns-else-has_between-clause-freed g c =
    let no : nat_lt 0 (length (slots_among c.numbers_at-first.result.0 c.numbers_at-first.result.1 c.args.items.now)) ≡ false = grind (arith, common_steps) in
    subst (λ (l : Slots). FreedInShard c.args.self.now c.args.place l (view c.args.seat.now) (view c.args.seat.now)) (sym (sym (among_there c.args.self.now c.args.place c.numbers_at-first.result.0 c.numbers_at-first.result.1 c.numbers_at-first.ensures.first c.numbers_at-first.ensures.among c.args.items.now) ∙ none_left (slots_among c.numbers_at-first.result.0 c.numbers_at-first.result.1 c.args.items.now) no)) refl

pub returns-else-has_between-clause-counts : goal.returns-else-has_between-clause-counts
returns-else-has_between-clause-counts g c p i =
    let no : nat_lt 0 (length (slots_among c.numbers_at-first.result.0 c.numbers_at-first.result.1 c.args.items.now)) ≡ false = grind (arith, common_steps) in
    none_counts c.args.self.now c.args.place c.args.items.now (sym (among_there c.args.self.now c.args.place c.numbers_at-first.result.0 c.numbers_at-first.result.1 c.numbers_at-first.ensures.first c.numbers_at-first.ensures.among c.args.items.now) ∙ none_left (slots_among c.numbers_at-first.result.0 c.numbers_at-first.result.1 c.args.items.now) no) p i (number (counted p i) (view c.args.seat.now))
