-- What a field of a table says.
-- It says a boolean, a number within limits, a text, a table, a list of numbers.
use Rattle.std.specs.Prelude.{ℕ, ℤ, pos, negsuc, Bool, false, ◌&&◌, ◌==◌, nat_lt}
use Rattle.std.specs.Prelude.{nat_le, if◌then◌else◌, List, [], ◌∷◌, length}
use Rattle.std.specs.Prelude.{option_map, Option, Some, None, Result, Ok, Err}
use Rattle.std.specs.Ordering.{nat_cmp}
use Rattle.toml.specs.Data.{Data, Items, no_items, item, Members, as_array}
use Rattle.toml.specs.Data.{as_bool, as_integer, as_str, as_table, get_member}
use Rattle.cast_types.specs.Sets.{set_of}
use Rattle.cast_script.specs.WordReadings.{◌>>=◌, each}
use Rattle.cast_config.specs.declared.fault.Field.{Field}
use Rattle.cast_config.specs.declared.fault.Cause.TheVariants.{Missing, WrongKind, Range, Repeated}
use Rattle.cast_config.specs.declared.fault.ConfigFault.{ConfigFault}
use Rattle.cast_config.specs.Faults.{fault, field_text}

-- the items of an array as a list
abbrev pub list_of : Items → List Data
list_of no_items = []
list_of (item d ds) = d ∷ list_of ds

-- what stands at a field of a table
abbrev pub at_field : Field → Members → Option Data
at_field f members = get_member (field_text f) members

-- what is found, where something has to be there
abbrev pub value_or_fault : Field → Option Data → Result Data ConfigFault
value_or_fault f None = Err (fault f Missing)
value_or_fault f (Some d) = Ok d

-- what stands at a field that a table has to have
unfoldable pub needed : Field → Members → Result Data ConfigFault
needed f members = value_or_fault f (at_field f members)

-- a number within limits
unfoldable pub within : Field → ℕ → ℕ → ℤ → Result ℕ ConfigFault
within f least most (pos n) = if nat_le least n && nat_le n most then Ok n else Err (fault f Range)
within f least most (negsuc n) = Err (fault f Range)

-- what was found to be of the kind that is asked for
abbrev pub of_kind : {A : Type 0} → Field → Option A → Result A ConfigFault
of_kind f None = Err (fault f WrongKind)
of_kind f (Some x) = Ok x

unfoldable pub integer_of : Field → Data → Result ℤ ConfigFault
integer_of f d = of_kind f (as_integer d)

unfoldable pub number_of : Field → ℕ → ℕ → Data → Result ℕ ConfigFault
number_of f least most d = do
  z ← integer_of f d
  within f least most z

unfoldable pub text_of : Field → Data → Result (List ℕ) ConfigFault
text_of f d = of_kind f (as_str d)

unfoldable pub boolean_of : Field → Data → Result Bool ConfigFault
boolean_of f d = of_kind f (as_bool d)

unfoldable pub table_of : Field → Data → Result Members ConfigFault
table_of f d = of_kind f (as_table d)

unfoldable pub items_of_array : Field → Data → Result (List Data) ConfigFault
items_of_array f d = of_kind f (option_map list_of (as_array d))

-- each in turn passes, up to the first that is refused
abbrev pub all_pass : {A B : Type 0} → (A → Result B ConfigFault) → List A
    → Result (Unit {0}) ConfigFault
all_pass read [] = Ok tt
all_pass read (x ∷ xs) = do
  y ← read x
  all_pass read xs

-- there are 1 to so many
unfoldable pub counted : Field → ℕ → ℕ → Result (Unit {0}) ConfigFault
counted f most n = if nat_lt 0 n && nat_le n most then Ok tt else Err (fault f Range)

-- in rising order, where no two are alike
unfoldable pub rising : Field → List ℕ → Result (List ℕ) ConfigFault
rising f numbers =
    if length (set_of nat_cmp numbers) == length numbers then Ok (set_of nat_cmp numbers)
    else Err (fault f Repeated)

-- 1 to so many numbers of sites or of groups, all different, in rising order
unfoldable pub numbers_of : Field → ℕ → Data → Result (List ℕ) ConfigFault
numbers_of f most d = do
  items ← items_of_array f d
  kinds ← all_pass (integer_of f) items
  numbers ← each (number_of f 1 65535) items
  few ← counted f most (length numbers)
  rising f numbers

unfoldable pub number_at : Field → ℕ → ℕ → Members → Result ℕ ConfigFault
number_at f least most members = do
  d ← needed f members
  number_of f least most d

abbrev pub number_or : Field → ℕ → ℕ → ℕ → Option Data → Result ℕ ConfigFault
number_or f usual least most None = Ok usual
number_or f usual least most (Some d) = number_of f least most d

-- a number at a field that may be absent, and is then the usual one
unfoldable pub number_at_or : Field → ℕ → ℕ → ℕ → Members → Result ℕ ConfigFault
number_at_or f usual least most members = number_or f usual least most (at_field f members)

unfoldable pub text_at : Field → Members → Result (List ℕ) ConfigFault
text_at f members = do
  d ← needed f members
  text_of f d

unfoldable pub numbers_at : Field → ℕ → Members → Result (List ℕ) ConfigFault
numbers_at f most members = do
  d ← needed f members
  numbers_of f most d

abbrev pub boolean_or_false : Field → Option Data → Result Bool ConfigFault
boolean_or_false f None = Ok false
boolean_or_false f (Some d) = boolean_of f d

-- a boolean at a field that may be absent, and is then false
unfoldable pub boolean_at : Field → Members → Result Bool ConfigFault
boolean_at f members = boolean_or_false f (at_field f members)
