use Rattle.std.proofs.Common.{◌≡◌, take, map, vec_len, false, option_map, IfSome}
use Rattle.std.specs.Arc.{arc_value}
use Rattle.pool_images.specs.Images.{images_from, makes_listed_images}
use Rattle.pool_images.proofs.memory_image.make_images.Given as goal

-- the images so far, and the maker is as it was
abbrev pub invariant-loop-decl : goal.invariant-loop-decl
invariant-loop-decl g l = record {
  count : vec_len l.images ≡ l.decl-index;
  images : map (option_map arc_value) l.images.items ≡ images_from l.id l.page 0 (take l.decl-index l.memories);
  maker : g.M.PageMaker.told l.maker ≡ g.M.PageMaker.told l.fn.maker;
  borrows : g.M.PageMaker.borrows l.maker ≡ g.M.PageMaker.borrows l.fn.maker;
  planned : IfSome (g.M.PageMaker.told l.fn.maker).plan (λ plan. makes_listed_images l.id plan (take l.decl-index l.memories) ≡ false);
  listed : makes_listed_images l.id (g.M.PageMaker.told l.fn.maker).listed (take l.decl-index l.memories) ≡ false;
}
