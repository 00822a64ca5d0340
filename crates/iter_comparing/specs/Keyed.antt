-- `-`, `&` and `|` of Arrays (ISO/IEC 30170:2012, 15.2.12) of Integers, and Strings, that have the `==` of their class:
-- such values are equal exactly where their keys are.
use Rattle.std.specs.Prelude.{ℕ, List, [], ◌∷◌, not, Bool, true, false, ◌&&◌, if◌then◌else◌, Option, Some, None, is_some}
use Rattle.std.specs.Map.{lookup}
use Rattle.indexmap.specs.IndexMap.{insert_entry}
use Rattle.rb_value.specs.declared.value.Value.{Value}
use Rattle.rb_value.specs.declared.value.Value.TheVariants as value
use Rattle.rb_value.specs.declared.value.SymId.{SymId}
use Rattle.rb_value.specs.declared.key.Key.{Key}
use Rattle.rb_value.specs.declared.key.Key.TheVariants as key
use Rattle.rb_value.specs.Key.{same_key}
use Rattle.row_table.specs.declared.line.Line.{Line}
use Rattle.row_table.specs.declared.line.CoreRow.{CoreRow}
use Rattle.row_table.specs.declared.line.CoreRow.TheVariants as core
use Rattle.row_table.specs.declared.integer.IntegerMethod.{IntegerMethod}
use Rattle.row_table.specs.declared.integer.IntegerMethod.TheVariants as integer
use Rattle.row_table.specs.declared.string.StringMethod.{StringMethod}
use Rattle.row_table.specs.declared.string.StringMethod.TheVariants as string
use Rattle.row_table.specs.RowTable.{line_at}
use Rattle.def_core.specs.Store.{Store}
use Rattle.def_calls.specs.Values as values
use Rattle.def_calls.specs.Views.{a_string}
use Rattle.heap.specs.Operands.{own}
use Rattle.iter_comparing.specs.declared.sifting.Sieve.{Sieve}
use Rattle.iter_comparing.specs.declared.sifting.Sieve.TheVariants as sieve
use Rattle.iter_comparing.specs.declared.sifting.Sifting.{Sifting}
use Rattle.iter_comparing.specs.Outright.{row_found}

-- whether a row is `==` of Integer, of String
abbrev pub compares_integers : IntegerMethod → Bool
compares_integers integer.Equal = true
compares_integers _ = false

abbrev pub compares_strings : StringMethod → Bool
compares_strings string.Equal = true
compares_strings _ = false

abbrev pub is_integer : Value → Bool
is_integer (value.Int z) = true
is_integer _ = false

abbrev pub is_equality_of : Store → Value → CoreRow → Bool
is_equality_of st v (core.Integer m) = compares_integers m && is_integer v
is_equality_of st v (core.String m) = compares_strings m && is_some (a_string st.objects v)
is_equality_of st v _ = false

abbrev pub is_equality_at : Store → Value → Option Line → Bool
is_equality_at st v None = false
is_equality_at st v (Some line) = is_equality_of st v line.row

abbrev pub is_own_equality : Store → Value → ℕ → Bool
is_own_equality st v r = is_equality_at st v (line_at r)

abbrev pub is_found : Store → Value → Option ℕ → Bool
is_found st v None = false
is_found st v (Some r) = is_own_equality st v r

-- an Integer, or a String, that has the `==` of its class
abbrev pub has_own_equality : Store → SymId → Value → Bool
has_own_equality st equal v = is_found st v (row_found st v equal)

abbrev pub have_own_equality : Store → SymId → List Value → Bool
have_own_equality st equal [] = true
have_own_equality st equal (v ∷ vs) = has_own_equality st equal v && have_own_equality st equal vs

-- the key of a value; Integers and Strings have one
abbrev pub key_or : Option Key → Key
key_or None = key.Plain value.Nil
key_or (Some k) = k

abbrev pub key_in : Store → Value → Key
key_in st v = key_or (values.key_of st.objects (own st v))

-- values by their keys, after those that were seen
abbrev pub noted : Store → List (Key × Value) → List Value → List (Key × Value)
noted st seen [] = seen
noted st seen (v ∷ vs) = noted st (insert_entry same_key seen (key_in st v) v) vs

abbrev pub is_seen : Store → List (Key × Value) → Value → Bool
is_seen st seen v = is_some (lookup (same_key (key_in st v)) seen)

abbrev pub is_wanted : Bool → Bool → Bool
is_wanted true there = there
is_wanted false there = not there

-- the values that are among those that were seen, or those that aren't
abbrev pub sought : Store → List (Key × Value) → Bool → List Value → List Value
sought st seen among [] = []
sought st seen among (v ∷ vs) = if is_wanted among (is_seen st seen v) then v ∷ sought st seen among vs else sought st seen among vs

-- the first of the values that are equal, after those that were seen
abbrev pub firsts : Store → List (Key × Value) → List Value → List Value
firsts st seen [] = []
firsts st seen (v ∷ vs) = if is_seen st seen v then firsts st (insert_entry same_key seen (key_in st v) v) vs
    else v ∷ firsts st (insert_entry same_key seen (key_in st v) v) vs

-- what stays of the values
abbrev pub sifted_by : Sieve → Store → List Value → List Value → List Value
sifted_by sieve.Difference st vs others = sought st (noted st [] others) false vs
sifted_by sieve.Intersection st vs others = firsts st [] (sought st (noted st [] others) true vs)
sifted_by sieve.Union st vs others = firsts st [] vs

abbrev pub sifted : Store → Sifting → List Value
sifted st w = sifted_by w.sieve st w.values w.others
