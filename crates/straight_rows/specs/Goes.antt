-- Which calls of core methods of the table go straight on: those with a receiver and arguments as they want them, of
-- methods that read a String, compare two, put one behind another, or take a part of one, and that tell of an Integer.
use Rattle.std.specs.Prelude.{List, [], ◌∷◌, Bool, true, false, ◌&&◌, if◌then◌else◌}
use Rattle.rb_value.specs.declared.value.Value.{Value}
use Rattle.rb_value.specs.declared.value.Value.TheVariants.{Nil, True, False, Int, Sym, Obj}
use Rattle.rb_value.specs.Object.{Object}
use Rattle.row_table.specs.declared.line.CoreRow.{CoreRow}
use Rattle.row_table.specs.declared.line.CoreRow.TheVariants as row
use Rattle.row_table.specs.declared.string.StringMethod.{StringMethod}
use Rattle.row_table.specs.declared.string.StringMethod.TheVariants as method
use Rattle.row_table.specs.declared.integer.IntegerMethod.{IntegerMethod}
use Rattle.row_table.specs.declared.integer.IntegerMethod.TheVariants as number
use Rattle.def_rows.specs.Operands.{is_text}

abbrev pub is_integer : Value → Bool
is_integer Nil = false
is_integer True = false
is_integer False = false
is_integer (Int z) = true
is_integer (Sym s) = false
is_integer (Obj id) = false

-- what reads a String alone
abbrev pub reads : StringMethod → Bool
reads method.Length = true
reads method.Size = true
reads method.ByteSize = true
reads method.IsEmpty = true
reads method.ToText = true
reads _ = false

-- what compares two Strings, or seeks one in another
abbrev pub compares : StringMethod → Bool
compares method.Equal = true
compares method.Order = true
compares method.Less = true
compares method.AtMost = true
compares method.Greater = true
compares method.AtLeast = true
compares method.Includes = true
compares method.StartsWith = true
compares method.EndsWith = true
compares _ = false

abbrev pub is_element : StringMethod → Bool
is_element method.Element = true
is_element _ = false

-- what takes a String as its one argument
abbrev pub takes_text : StringMethod → Bool
takes_text method.Append = true
takes_text method.Plus = true
takes_text m = compares m

-- with one argument, with two
abbrev pub goes_by : StringMethod → List Object → Value → Bool
goes_by m objects v = if takes_text m then is_text objects v else (is_element m && is_integer v)

abbrev pub goes_by_two : StringMethod → Value → Value → Bool
goes_by_two m v n = is_element m && (is_integer v && is_integer n)

abbrev pub text_goes : StringMethod → List Object → List Value → Bool
text_goes m objects [] = reads m
text_goes m objects (v ∷ []) = goes_by m objects v
text_goes m objects (v ∷ n ∷ []) = goes_by_two m v n
text_goes m objects (v ∷ n ∷ w ∷ rest) = false

-- what tells of an Integer alone
abbrev pub tells : IntegerMethod → Bool
tells number.ToText = true
tells number.IsEven = true
tells number.IsOdd = true
tells number.IsZero = true
tells _ = false

abbrev pub number_goes : IntegerMethod → List Value → Bool
number_goes m [] = tells m
number_goes m (v ∷ rest) = false

abbrev pub goes : CoreRow → List Object → Value → List Value → Bool
goes (row.String m) objects recv args = text_goes m objects args && is_text objects recv
goes (row.Integer m) objects recv args = number_goes m args && is_integer recv
goes _ objects recv args = false
