use Rattle.std.proofs.Common.{◌∷◌, [], ◌++◌, map, sym, ap, ◌∙◌, le_of_eq}
use mathlib.Core.Option.{some}
use lib.ListN.{get_elem?}
use Rattle.pool_hall.proofs.ends.reserved.Goals as goal

pub new-requires : goal.new-requires
new-requires g c =
    let list = c.in_ok-list.list in
    let one = c.in_ok-push.ensures.items ∙ ap (λ l. l ++ list ∷ []) c.in_ok-slots.ensures.items in
    (list, ap (λ l. get_elem? (map some l) 0) one, c.in_ok-list.ensures.items, le_of_eq (sym c.in_ok-list.ensures.exact))
