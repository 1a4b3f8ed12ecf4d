-- The module that a JSON value is. `None` says that it has another form than those accepted so far.
use Rattle.std.specs.Prelude.{ℕ, ◌==◌, ◌||◌, List, [], ◌∷◌, codes, false, if◌then◌else◌, Option, Some, None}
use Rattle.pool_forms.specs.Imports.{bytes_eq, Data, Items, get, as_array, as_bool, as_str, IndexType, I32, I64, MemoryType, ImageDecl, MemoryDecl, ModuleInfo, Part, TableType, TableElementType, GcRef}
use Rattle.pool_types.specs.declared.table_type.TableElementType.TheVariants.{Func, Cont}
use Rattle.pool_forms.specs.Fields.{◌>>=◌, only, given, whole_number, pair_of, hex_bytes, required, optional, or_null, list_of}

-- bytes at an offset
unfoldable pub image_form : Data → Option ImageDecl
image_form value = do
  fields ← only (codes "offset" ∷ codes "hex" ∷ []) value
  offset ← required whole_number (get (codes "offset") fields)
  bytes ← required hex_bytes (get (codes "hex") fields)
  Some (record { offset = offset; bytes = bytes })

-- the type of addresses of this name
abbrev pub index_named : List ℕ → Option IndexType
index_named name =
    if bytes_eq name (codes "i32") then Some I32
    else if bytes_eq name (codes "i64") then Some I64
    else None

-- The type of a memory's or a table's index: `i32` or `i64`.
abbrev pub index_form : Data → Option IndexType
index_form value = as_str value >>= index_named

-- pages of one byte or of 65,536
abbrev pub page_log2_form : Data → Option ℕ
page_log2_form value = whole_number value >>= (λ n. given (n == 0 || n == 16) n)

-- The type of a memory; where it is left out the page is 64 KiB and the index has 32 bits.
unfoldable pub memory_type_form : Data → Option MemoryType
memory_type_form fields = do
  min ← optional 0 whole_number (get (codes "min") fields)
  max ← optional None (or_null whole_number) (get (codes "max") fields)
  index ← optional I32 index_form (get (codes "index") fields)
  shared ← optional false as_bool (get (codes "shared") fields)
  log2 ← optional 16 page_log2_form (get (codes "page_log2") fields)
  Some (record { idx_type = index; limits = record { min = min; max = max }; shared = shared; page_size_log2 = log2 })

-- A memory that a module declares: its type, and the image with which it begins, if it has one.
unfoldable pub memory_form : Data → Option MemoryDecl
memory_form value = do
  fields ← only (codes "min" ∷ codes "max" ∷ codes "index" ∷ codes "shared" ∷ codes "page_log2" ∷ codes "image" ∷ []) value
  ty ← memory_type_form fields
  image ← optional None (or_null image_form) (get (codes "image") fields)
  Some (record { ty = ty; image = image })

-- the type of elements of this name
abbrev pub element_named : List ℕ → Option TableElementType
element_named name =
    if bytes_eq name (codes "func") then Some Func
    else if bytes_eq name (codes "gc") then Some GcRef
    else if bytes_eq name (codes "cont") then Some Cont
    else None

-- The type of a table's elements, by its name.
abbrev pub element_form : Data → Option TableElementType
element_form value = as_str value >>= element_named

-- A table that a module declares: the type of its elements, its limits and its index.
unfoldable pub table_form : Data → Option TableType
table_form value = do
  fields ← only (codes "kind" ∷ codes "min" ∷ codes "max" ∷ codes "index" ∷ []) value
  element ← optional Func element_form (get (codes "kind") fields)
  min ← optional 0 whole_number (get (codes "min") fields)
  max ← optional None (or_null whole_number) (get (codes "max") fields)
  index ← optional I32 index_form (get (codes "index") fields)
  Some (record { idx_type = index; limits = record { min = min; max = max }; element = element })

-- a part of an instance's state: its name, and how many bytes it takes
abbrev pub part_pair : Items → Option Part
part_pair items = pair_of items >>= (λ p. as_str p.0 >>= (λ name. whole_number p.1 >>= (λ bytes. Some (record { name = name; bytes = bytes }))))

-- A named part of an instance's state, with its number of bytes.
unfoldable pub part_form : Data → Option Part
part_form value = as_array value >>= part_pair

-- A module: its memories, its tables, and the bytes of an instance's state with their parts.
unfoldable pub module_form : Data → Option ModuleInfo
module_form value = do
  fields ← only (codes "memories" ∷ codes "tables" ∷ codes "state_bytes" ∷ codes "parts" ∷ []) value
  memories ← optional [] (list_of memory_form) (get (codes "memories") fields)
  tables ← optional [] (list_of table_form) (get (codes "tables") fields)
  state ← optional 0 whole_number (get (codes "state_bytes") fields)
  parts ← optional [] (list_of part_form) (get (codes "parts") fields)
  Some (record { memories = memories; tables = tables; state_bytes = state; parts = parts })
