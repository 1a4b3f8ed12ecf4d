use Rattle.std.proofs.Common.{◌≡◌, ◌+◌, ◌≤◌, ◌++◌, length, map, vec_capacity}
use Rattle.pool_run.proofs.Imports.{into_iter_items, Reserved}
use Rattle.pool_run.specs.declared.reply.Reply.{Reply}
use Rattle.pool_run.proofs.told_run.into_lists.Given as goal

-- the lists so far, with those that are left, are all of them, and there is room for the rest
abbrev pub invariant-loop-list : goal.invariant-loop-list
invariant-loop-list l = record {
  all : l.lists.items ++ map (λ (x : Reserved Reply). x.items) (into_iter_items l.list-iterator) ≡ map (λ (x : Reserved Reply). x.items) l.fn.told.items;
  room : length l.lists.items + length (into_iter_items l.list-iterator) ≤ vec_capacity l.lists;
}
