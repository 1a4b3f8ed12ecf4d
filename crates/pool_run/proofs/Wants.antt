-- What a call asks for, thing by thing.
use Rattle.std.proofs.Common.{◌≡◌, ℕ, ◌+◌, zero, suc, List, [], ◌∷◌, ◌++◌, length, map, Option, Some, None, refl, ap, ◌∙◌, arith, slice_get, slice_index_or, option_map}
use Rattle.pool_run.proofs.Imports.{length-append, length-map, slice_get-map, TableType, MemoryDecl, Image, MemoryWant, new_memory, new_table, wants_from}
use Rattle.pool_run.specs.Private.{Request, wants_of}

-- what is in a list stays in it behind others; and those are behind it
pub stays_get : {X : Type 0} (xs ys : List X) (n : ℕ) (x : X) → slice_get xs n ≡ Some x → slice_get (xs ++ ys) n ≡ Some x
stays_get [] ys n x there = absurd cc
stays_get (y ∷ xs) ys zero x there = there
stays_get (y ∷ xs) ys (suc n) x there = stays_get xs ys n x there

behind_get : {X : Type 0} (xs ys : List X) (k : ℕ) → slice_get (xs ++ ys) (length xs + k) ≡ slice_get ys k
behind_get [] ys k = ap (slice_get ys) (omega arith)
behind_get {X = X} (x ∷ xs) ys k =
    let more : length (x ∷ xs) + k ≡ suc (length xs + k) = omega arith in
    ap (slice_get (x ∷ (xs ++ ys))) more ∙ behind_get xs ys k

pub count_wanted : (decls : List MemoryDecl) (images : List (Option Image)) → length (wants_from decls images) ≡ length decls
count_wanted [] images = refl
count_wanted (d ∷ ds) [] = omega (arith, count_wanted ds [])
count_wanted (d ∷ ds) (i ∷ is) = omega (arith, count_wanted ds is)

-- a memory is asked for
pub record IsWanted (decls : List MemoryDecl) (images : List (Option Image)) (k : ℕ) (want : MemoryWant) : Type 0 where
  pub wanted : slice_get decls k ≡ Some want.decl
  pub image : want.image ≡ slice_index_or images k None

pub wants_there : (decls : List MemoryDecl) (images : List (Option Image)) (k : ℕ) (want : MemoryWant) → slice_get (wants_from decls images) k ≡ Some want → IsWanted decls images k want
wants_there [] images k want at = absurd cc
wants_there (d ∷ ds) [] zero want at = record { wanted = cc; image = cc }
wants_there (d ∷ ds) [] (suc k) want at = let rest = wants_there ds [] k want at in record { wanted = rest.wanted; image = rest.image }
wants_there (d ∷ ds) (i ∷ is) zero want at = record { wanted = cc; image = cc }
wants_there (d ∷ ds) (i ∷ is) (suc k) want at = let rest = wants_there ds is k want at in record { wanted = rest.wanted; image = rest.image }

-- all that a request is for: its memories, and behind them its tables
pub count_all : (request : Request) → length (wants_of request) ≡ length request.memories + length request.tables
count_all request = omega (arith, length-append (map new_memory request.memories) (map new_table request.tables), length-map request.memories new_memory, length-map request.tables new_table)

pub memory_at : (request : Request) (k : ℕ) (want : MemoryWant) → slice_get request.memories k ≡ Some want → slice_get (wants_of request) k ≡ Some (new_memory want)
memory_at request k want there =
    stays_get (map new_memory request.memories) (map new_table request.tables) k (new_memory want) (slice_get-map new_memory request.memories k ∙ ap (option_map new_memory) there)

pub table_at : (request : Request) (k : ℕ) (ty : TableType) → slice_get request.tables k ≡ Some ty → slice_get (wants_of request) (length request.memories + k) ≡ Some (new_table ty)
table_at request k ty there =
    let counted : length request.memories + k ≡ length (map new_memory request.memories) + k = omega (arith, length-map request.memories new_memory) in
    ap (slice_get (wants_of request)) counted ∙ behind_get (map new_memory request.memories) (map new_table request.tables) k ∙ slice_get-map new_table request.tables k ∙ ap (option_map new_table) there
