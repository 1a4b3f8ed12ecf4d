-- Numbers that the types of their fields can hold.
use Rattle.std.specs.Prelude.{ℕ, ◌^◌, List, codes, Bool, true, ◌&&◌, Option}
use Rattle.pool_forms.specs.Imports.{list_all, option_map_or, Data, Items, no_items, item, get, as_array}
use Rattle.pool_forms.specs.Fields.{◌>>=◌, is_below}
use Rattle.pool_forms.specs.SettingsForms.{count_fields}

-- all items pass
abbrev pub all_pass : (Data → Bool) → Items → Bool
all_pass test no_items = true
all_pass test (item value rest) = test value && all_pass test rest

-- all items of a field pass, where it is a list
abbrev pub each_passes : (Data → Bool) → Option Data → Bool
each_passes test field = option_map_or (all_pass test) (field >>= as_array) true

-- 32 bits can hold this number of things, where it is there
abbrev pub count_fits : Data → List ℕ → Bool
count_fits config name = is_below (2 ^ 32) (get name config)

-- 32 bits can hold each number of things in the settings, where there are settings
abbrev pub counts_fit : Option Data → Bool
counts_fit config = option_map_or (λ c. list_all (count_fits c) count_fields) config true

-- The type of its field can hold the number of keys that the system offers.
abbrev pub keys_fit : Option Data → Bool
keys_fit offered = is_below (2 ^ 32) (offered >>= get (codes "keys"))

-- 32 bits can hold the number of shards
abbrev pub shards_fit : Data → Bool
shards_fit value = is_below (2 ^ 32) (get (codes "shards") value)

-- 8 bits can hold the byte of a command
abbrev pub byte_fits : Data → Bool
byte_fits command = is_below 256 (get (codes "byte") command)

-- The bytes of all commands of a party fit their type.
abbrev pub bytes_fit : Data → Bool
bytes_fit party = each_passes byte_fits (get (codes "commands") party)

-- the types of their fields can hold all numbers of an input
abbrev pub numbers_fit : Data → Bool
numbers_fit value =
    shards_fit value
    && (counts_fit (get (codes "config") value)
    && (keys_fit (get (codes "offered") value)
    && each_passes bytes_fit (get (codes "parties") value)))
