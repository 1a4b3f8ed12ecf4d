-- The elements of a table, and the words as which they lie in a region.
use Rattle.std.specs.Prelude.{◌≡◌, ℕ, ◌+◌, ◌-◌, ◌%◌, ◌^◌, ◌<◌, ◌==◌, ◌++◌, List, take, drop, replicate, Bool, true, false, if◌then◌else◌, Option, Some, None}
use Rattle.std.specs.Int.{w32, w64, to_le_bytes, from_le_bytes}
use Rattle.pool_types.specs.declared.table_type.TableElementType.{TableElementType}
use Rattle.pool_types.specs.declared.table_type.TableElementType.TheVariants.{Func, GcRef, Cont}
use Rattle.pool_table.specs.declared.element.VMContObj.{VMContObj}

-- what a table has: functions, which a lazy table initialises when they are first read, GC references or continuations
pub data ElementKind : Type 0 where
  functions : Bool → ElementKind
  gc_refs : ElementKind
  continuations : ElementKind

-- a function by its name, a GC reference or a continuation, each of which may be null; or a function that isn't
-- initialised yet
pub data Element : Type 0 where
  uninitialised : Element
  func : Option ℕ → Element
  gc_ref : Option ℕ → Element
  cont : Option VMContObj → Element

-- the size of an element in bytes
abbrev pub element_size : TableElementType → ℕ
element_size Func = 8
element_size GcRef = 4
element_size Cont = 16

-- The type of element that a module declares for a table of this kind.
abbrev pub type_of : ElementKind → TableElementType
type_of (functions lazy) = Func
type_of gc_refs = GcRef
type_of continuations = Cont

-- How many bytes an element of this kind takes in a region.
abbrev pub width : ElementKind → ℕ
width kind = element_size (type_of kind)

-- A number that a function's name can have: above zero and even.
pub record IsName (name : ℕ) : Type 0 where
  pub positive : 0 < name
  pub even : name % 2 ≡ 0
  pub bounded : name < 2 ^ 64

-- A number that a reference to a collected object can have: above zero, in 32 bits.
pub record IsGcRef (ref : ℕ) : Type 0 where
  pub positive : 0 < ref
  pub bounded : ref < 2 ^ 32

-- The numbers that a continuation can have: a reference above zero, and a revision, in 64 bits each.
pub record IsContObj (object : VMContObj) : Type 0 where
  pub positive : 0 < object.contref
  pub bounded : object.contref < 2 ^ 64
  pub revision : object.revision < 2 ^ 64

-- An element that a table of functions may have: null, or a valid name.
abbrev pub IsFunc : Option ℕ → Type 0
IsFunc None = Unit {0}
IsFunc (Some name) = IsName name

-- An element that a table of collected references may have: null, or a valid reference.
abbrev pub IsGc : Option ℕ → Type 0
IsGc None = Unit {0}
IsGc (Some ref) = IsGcRef ref

-- An element that a table of continuations may have: null, or a valid continuation.
abbrev pub IsCont : Option VMContObj → Type 0
IsCont None = Unit {0}
IsCont (Some object) = IsContObj object

-- a table of this kind may have the element
abbrev pub IsElement : ElementKind → Element → Type 0
IsElement (functions true) uninitialised = Unit {0}
IsElement (functions lazy) (func f) = IsFunc f
IsElement gc_refs (gc_ref r) = IsGc r
IsElement continuations (cont c) = IsCont c
IsElement kind other = ⊥

-- what a table has where nothing was set yet
abbrev pub empty_func : Bool → Element
empty_func true = uninitialised
empty_func false = func None

-- What a table of this kind has where nothing was set: null, or a function that isn't initialised yet.
abbrev pub empty : ElementKind → Element
empty (functions lazy) = empty_func lazy
empty gc_refs = gc_ref None
empty continuations = cont None

-- The word of a function. In a lazy table it is 1 for null, and a name with its lowest bit set, which is zero in every
-- name; in an eager one it is 0 for null, and the name.
abbrev pub func_word : Bool → Option ℕ → ℕ
func_word true None = 1
func_word true (Some name) = name + 1
func_word false None = 0
func_word false (Some name) = name

-- the word of a GC reference: 0 for null
abbrev pub gc_word : Option ℕ → ℕ
gc_word None = 0
gc_word (Some ref) = ref

-- the two words of a continuation: zeros for null
abbrev pub cont_words : Option VMContObj → List ℕ
cont_words None = replicate 16 0
cont_words (Some object) = to_le_bytes w64 object.contref ++ to_le_bytes w64 object.revision

-- the bytes of an element: those of its words, the lowest first
abbrev pub word : ElementKind → Element → List ℕ
word (functions lazy) (func f) = to_le_bytes w64 (func_word lazy f)
word gc_refs (gc_ref r) = to_le_bytes w32 (gc_word r)
word continuations (cont c) = cont_words c
word kind other = replicate (width kind) 0

-- the function of a word: in a lazy table a word of 0 isn't initialised
abbrev pub func_read : Bool → ℕ → Element
func_read true n = if n == 0 then uninitialised else (if n == 1 then func None else func (Some (n - n % 2)))
func_read false n = if n == 0 then func None else func (Some n)

-- The reference that the word of a region is: null where it is 0.
abbrev pub gc_read : ℕ → Element
gc_read n = if n == 0 then gc_ref None else gc_ref (Some n)

-- The continuation that the two words of a region are: null where the first is 0.
abbrev pub cont_read : ℕ → ℕ → Element
cont_read contref revision = if contref == 0 then cont None else cont (Some (record { contref = contref; revision = revision }))

-- the element that these bytes are
abbrev pub element_of : ElementKind → List ℕ → Element
element_of (functions lazy) bytes = func_read lazy (from_le_bytes w64 bytes)
element_of gc_refs bytes = gc_read (from_le_bytes w32 bytes)
element_of continuations bytes = cont_read (from_le_bytes w64 (take 8 bytes)) (from_le_bytes w64 (drop 8 bytes))

-- What is written as a word reads back as itself.
abbrev pub ReadsBack : Type 0
ReadsBack = (kind : ElementKind) (element : Element) → IsElement kind element → element_of kind (word kind element) ≡ element

-- Zeros in a region read as the empty element, whatever the table's kind.
abbrev pub ZeroIsEmpty : Type 0
ZeroIsEmpty = (kind : ElementKind) → element_of kind (replicate (width kind) 0) ≡ empty kind

-- an element as the code has it of a table of functions: none where it isn't initialised
abbrev pub func_item : Option (Option ℕ) → Element
func_item None = uninitialised
func_item (Some f) = func f
