-- The fields of a JSON object, and what their values are read as. `None` says that a value has another form.
use Rattle.std.specs.Prelude.{◌≡◌, ℕ, List, [], ◌∷◌, Bool, true, false, ◌&&◌, nat_lt, if◌then◌else◌, Option, Some, None, Result, Ok, Err, is_some, option_map}
use Rattle.pool_forms.specs.Imports.{list_any, option_map_or, result_ok, bytes_eq, Data, null, boolean, number, string, array, object, Items, no_items, item, Members, no_members, member, as_number, as_str, as_array, as_u64, as_null, decode_of}
use Rattle.pool_forms.specs.declared.form_fault.FormFault.{FormFault}
use Rattle.pool_forms.specs.declared.form_fault.FormFault.TheVariants.{OtherForm, Memory}

-- what was read goes on to the next step
infixl 10 ◌>>=◌
-- Goes on with what was read, or stops where nothing was.
abbrev pub ◌>>=◌ : {A B : Type 0} → Option A → (A → Option B) → Option B
None >>= f = None
Some x >>= f = f x

-- the name is one of these
abbrev pub is_among : List (List ℕ) → List ℕ → Bool
is_among names name = list_any (λ n. bytes_eq n name) names

-- the members' names are all among these
abbrev pub all_among : List (List ℕ) → Members → Bool
all_among names no_members = true
all_among names (member name value rest) = is_among names name && all_among names rest

-- it is an object, and has no fields but these
abbrev pub has_only : List (List ℕ) → Data → Bool
has_only names null = false
has_only names (boolean b) = false
has_only names (number n) = false
has_only names (string text) = false
has_only names (array items) = false
has_only names (object members) = all_among names members

-- the same object, where it has no fields but these
abbrev pub only : List (List ℕ) → Data → Option Data
only names value = if has_only names value then Some value else None

-- the value, where the test holds
abbrev pub given : {A : Type 0} → Bool → A → Option A
given test x = if test then Some x else None

-- a whole number from 0 on, written without fraction and exponent, that 64 bits hold
abbrev pub whole_number : Data → Option ℕ
whole_number value = as_number value >>= as_u64

-- what a field is read as where it must be there
abbrev pub required : {A : Type 0} → (Data → Option A) → Option Data → Option A
required read None = None
required read (Some value) = read value

-- what a field is read as where it may be left out
abbrev pub optional : {A : Type 0} → A → (Data → Option A) → Option Data → Option A
optional default read None = Some default
optional default read (Some value) = read value

-- a field that is there and is a whole number is below this
abbrev pub is_below : ℕ → Option Data → Bool
is_below bound field = option_map_or (λ n. nat_lt n bound) (required whole_number field) true

-- null, or else as it is read
abbrev pub or_null : {A : Type 0} → (Data → Option A) → Data → Option (Option A)
or_null read value = if is_some (as_null value) then Some None else option_map Some (read value)

-- bytes as hexadecimal text of even length, in lower or upper case
abbrev pub hex_bytes : Data → Option (List ℕ)
hex_bytes value = as_str value >>= (λ text. result_ok (decode_of text))

-- each item as it is read
abbrev pub each_item : {A : Type 0} → (Data → Option A) → Items → Option (List A)
each_item read no_items = Some []
each_item read (item value rest) = read value >>= (λ x. each_item read rest >>= (λ xs. Some (x ∷ xs)))

-- a list, each item as it is read
abbrev pub list_of : {A : Type 0} → (Data → Option A) → Data → Option (List A)
list_of read value = as_array value >>= each_item read

-- the two items of a list of two
abbrev pub pair_of : Items → Option (Data × Data)
pair_of no_items = None
pair_of (item first no_items) = None
pair_of (item first (item second no_items)) = Some (first, second)
pair_of (item first (item second (item more rest))) = None

-- two numbers, as a list of them
abbrev pub number_pair : Items → Option (ℕ × ℕ)
number_pair items = pair_of items >>= (λ p. whole_number p.0 >>= (λ x. whole_number p.1 >>= (λ y. Some (x, y))))

-- what was returned is what the form gives, unless memory ran out
abbrev pub IsOfForm : {A : Type 0} → Option A → Result A FormFault → Type 0
IsOfForm form (Ok x) = form ≡ Some x
IsOfForm form (Err OtherForm) = form ≡ None
IsOfForm form (Err Memory) = Unit {0}
