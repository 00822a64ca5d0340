-- What the rows of String give (ISO/IEC 30170:2012, 15.2.10).
use Rattle.std.specs.Prelude.{ℕ, ℤ, pos, List, [], ◌∷◌, ◌++◌, length, map, reverse, codes, nat_eq, int_lt, int_le, Bool, ◌&&◌, Option, Some, None, Result, Ok, Err, if◌then◌else◌}
use Rattle.std.specs.List.{starts_with, ends_with, list_any}
use Rattle.std.specs.Str.{bytes_eq}
use Rattle.rb_value.specs.declared.value.Value.{Value}
use Rattle.rb_value.specs.declared.value.Value.TheVariants.{Nil, True, False, Int, Sym, Obj}
use Rattle.rb_value.specs.declared.value.ObjId.{ObjId}
use Rattle.rb_value.specs.declared.core_class.CoreClass.TheVariants as class
use Rattle.rb_value.specs.declared.kind.Sort.TheVariants as sort
use Rattle.rb_value.specs.Object.{Object}
use Rattle.def_core.specs.declared.cause.Cause.TheVariants as cause
use Rattle.def_core.specs.Store.{core}
use Rattle.def_core.specs.Classes.{plain_class_of}
use Rattle.rb_integer.specs.declared.ends.Bounds.{Bounds}
use Rattle.rb_integer.specs.declared.ends.Bounds.TheVariants.{Integers, Bytes as Letters}
use Rattle.rb_integer.specs.declared.ends.Ends.{Ends}
use Rattle.rb_string.specs.declared.failure.StringFailure.{StringFailure}
use Rattle.rb_string.specs.declared.failure.StringFailure.TheVariants as failure
use Rattle.rb_string.specs.declared.part.Part.{Part}
use Rattle.rb_string.specs.Comparison as comparison
use Rattle.rb_string.specs.Editing as editing
use Rattle.rb_string.specs.Inspection as inspection
use Rattle.rb_string.specs.Letters as letters
use Rattle.rb_string.specs.Limit.{fits}
use Rattle.rb_string.specs.Numeral as numerals
use Rattle.rb_string.specs.Padding as padding
use Rattle.rb_string.specs.Parts as parts
use Rattle.rb_string.specs.Searching as searching
use Rattle.rb_string.specs.Slicing as slicing
use Rattle.rb_string.specs.Stripping as stripping
use Rattle.rb_string.specs.Substitution as substitution
use Rattle.row_answer.specs.declared.answer.Fault.{Fault}
use Rattle.row_answer.specs.declared.answer.Fault.TheVariants as fault
use Rattle.row_answer.specs.declared.answer.Plain.{Plain}
use Rattle.row_answer.specs.declared.answer.Plain.TheVariants as plain
use Rattle.row_table.specs.declared.signature.Wanted.TheVariants.{Of}
use Rattle.row_table.specs.declared.string.StringMethod.{StringMethod}
use Rattle.row_table.specs.declared.string.StringMethod.TheVariants as method
use Rattle.def_rows.specs.declared.answer.Answer.{Answer}
use Rattle.def_rows.specs.declared.answer.Answer.TheVariants as answer
use Rattle.def_rows.specs.Answers.{answer_of}
use Rattle.def_rows.specs.Checking.{unfit, first_of}
use Rattle.def_rows.specs.Operands.{argument, integer, place_of, is_text, text, text_or}
use Rattle.def_rows.specs.RangeRows.{range_of}

-- Results.

abbrev pub fault_of : StringFailure → Fault
fault_of failure.TooLong = fault.StringTooLong
fault_of failure.NegativeCount = fault.NegativeCount
fault_of (failure.OutsideText z) = fault.IndexOutOfRange z
fault_of failure.BadBase = fault.BadBase
fault_of failure.Overflow = fault.IntegerOverflow

-- a new String
abbrev pub made : Result (List ℕ) StringFailure → Plain
made (Ok bytes) = plain.Text bytes
made (Err f) = plain.Fail (fault_of f)

-- the receiver with these bytes in place of its own
abbrev pub changed : Result (List ℕ) StringFailure → Plain
changed (Ok bytes) = plain.Replace bytes
changed (Err f) = plain.Fail (fault_of f)

-- the receiver with these bytes behind its own, where they have room
abbrev pub longer : List ℕ → List ℕ → Plain
longer bytes more = if fits (length (bytes ++ more)) then plain.Append more else plain.Fail fault.StringTooLong

abbrev pub number : Result ℤ StringFailure → Plain
number (Ok z) = plain.Int z
number (Err f) = plain.Fail (fault_of f)

abbrev pub first_byte : Result ℕ StringFailure → Plain
first_byte (Ok b) = plain.Int (pos b)
first_byte (Err f) = plain.Fail (fault_of f)

-- a place, or nil
abbrev pub place : Option ℕ → Plain
place None = plain.Nil
place (Some n) = plain.Int (pos n)

-- a new String, or nil
abbrev pub some_text : Option (List ℕ) → Plain
some_text None = plain.Nil
some_text (Some bytes) = plain.Text bytes

-- a new String of one byte, or nil
abbrev pub some_byte : Option ℕ → Plain
some_byte None = plain.Nil
some_byte (Some b) = plain.Text (b ∷ [])

abbrev pub length_of : List ℕ → Plain
length_of bytes = plain.Int (pos (length bytes))

-- a new Array of new Strings
abbrev pub texts : List ℕ → List Part → Plain
texts bytes ps = plain.Texts (map (parts.text_of bytes) ps)

-- Other Strings. No String is equal to what is none, and there is no order between them.

abbrev pub equals : List Object → List ℕ → Value → Bool
equals objects bytes v = is_text objects v && bytes_eq bytes (text objects v)

abbrev pub order : List Object → List ℕ → Value → Plain
order objects bytes v =
    if is_text objects v then plain.Int (comparison.order bytes (text objects v)) else plain.Nil

-- the bytes of all these Strings, one after the other
unfoldable pub joined : List Object → List Value → List ℕ
joined objects [] = []
joined objects (v ∷ vs) = text objects v ++ joined objects vs

abbrev pub begins_with : List Object → List ℕ → List Value → Bool
begins_with objects bytes args = list_any (λ v. starts_with nat_eq bytes (text objects v)) args

abbrev pub closes_with : List Object → List ℕ → List Value → Bool
closes_with objects bytes args = list_any (λ v. ends_with nat_eq bytes (text objects v)) args

abbrev pub append : List Object → List ℕ → Value → Plain
append objects bytes v = longer bytes (text objects v)

abbrev pub concat : List Object → List ℕ → List Value → Plain
concat objects bytes args = longer bytes (joined objects args)

abbrev pub characters : List ℕ → Plain
characters bytes = texts bytes (parts.characters bytes)

abbrev pub lines : List ℕ → Plain
lines bytes = texts bytes (parts.lines bytes)

-- at white space without an argument
abbrev pub split : List Object → List ℕ → List Value → Plain
split objects bytes [] = texts bytes (parts.words bytes)
split objects bytes (separator ∷ rest) = texts bytes (parts.split bytes (text objects separator))

-- in base 10 without an argument
abbrev pub to_integer : List ℕ → List Value → Plain
to_integer bytes [] = number (numerals.to_integer bytes (pos 10))
to_integer bytes (base ∷ rest) = number (numerals.to_integer bytes (integer base))

-- with spaces without a second argument
abbrev pub pad : List Object → List Value → List ℕ
pad objects args = text_or objects args 1 (codes " ")

-- Elements: the byte of an Integer, the part of two Integers or of a Range of them, or a String where it stands there.

abbrev pub no_index : List Object → Value → Answer
no_index objects v = answer.Fail (cause.Expected (core class.Integer) (plain_class_of objects v))

abbrev pub in_bounds : List Object → List ℕ → Value → Bool → Bounds → Answer
in_bounds objects bytes v exclusive (Integers a b) = answer.Plain (some_text (slicing.range_part bytes a b exclusive))
in_bounds objects bytes v exclusive (Letters a b) = no_index objects v

abbrev pub in_range : List Object → List ℕ → Value → Option Ends → Answer
in_range objects bytes v None = no_index objects v
in_range objects bytes v (Some e) = in_bounds objects bytes v e.is_exclusive e.bounds

-- a new String of these bytes, where they stand in others
abbrev pub if_included : List ℕ → List ℕ → Plain
if_included bytes other = if searching.includes bytes other then plain.Text other else plain.Nil

abbrev pub at_object : List Object → List ℕ → Value → Answer
at_object objects bytes v =
    if is_text objects v then answer.Plain (if_included bytes (text objects v))
    else in_range objects bytes v (range_of objects v)

abbrev pub at_value : List Object → List ℕ → Value → Answer
at_value objects bytes Nil = no_index objects Nil
at_value objects bytes True = no_index objects True
at_value objects bytes False = no_index objects False
at_value objects bytes (Int z) = answer.Plain (some_byte (slicing.byte bytes z))
at_value objects bytes (Sym s) = no_index objects (Sym s)
at_value objects bytes (Obj id) = at_object objects bytes (Obj id)

abbrev pub part : List Object → List ℕ → Value → Value → Answer
part objects bytes v n =
    answer_of (first_of (unfit (Of class.Integer) objects v) (unfit (Of class.Integer) objects n))
    (answer.Plain (some_text (slicing.part bytes (integer v) (integer n))))

abbrev pub element : List Object → List ℕ → List Value → Answer
element objects bytes [] = no_index objects Nil
element objects bytes (v ∷ []) = at_value objects bytes v
element objects bytes (v ∷ n ∷ rest) = part objects bytes v n

-- the value that is given, where the receiver gets the bytes
abbrev pub stored : Value → Result (List ℕ) StringFailure → Answer
stored v (Ok bytes) = answer.Put bytes v
stored v (Err f) = answer.Plain (plain.Fail (fault_of f))

-- a String in place of so many bytes from an index on
abbrev pub store_part : List Object → List ℕ → ℤ → ℤ → Value → Answer
store_part objects bytes index count new =
    answer_of (unfit (Of class.String) objects new)
    (stored new (editing.replaced bytes index count (text objects new)))

abbrev pub set_element : List Object → List ℕ → List Value → Answer
set_element objects bytes [] = no_index objects Nil
set_element objects bytes (v ∷ []) = no_index objects v
set_element objects bytes (v ∷ new ∷ []) = store_part objects bytes (integer v) (pos 1) new
set_element objects bytes (v ∷ n ∷ new ∷ rest) =
    answer_of (unfit (Of class.Integer) objects n) (store_part objects bytes (integer v) (integer n) new)

-- What each row gives, by the bytes of the receiver.

abbrev pub of_bytes : StringMethod → List Object → List ℕ → List Value → Answer
of_bytes method.Plus objects bytes args =
    answer.Plain (made (editing.concatenated bytes (text objects (argument args 0))))
of_bytes method.Times objects bytes args =
    answer.Plain (made (editing.repeated bytes (integer (argument args 0))))
of_bytes method.Equal objects bytes args = answer.Plain (plain.Truth (equals objects bytes (argument args 0)))
of_bytes method.Order objects bytes args = answer.Plain (order objects bytes (argument args 0))
of_bytes method.Less objects bytes args =
    answer.Plain (plain.Truth (int_lt (comparison.order bytes (text objects (argument args 0))) (pos 0)))
of_bytes method.AtMost objects bytes args =
    answer.Plain (plain.Truth (int_le (comparison.order bytes (text objects (argument args 0))) (pos 0)))
of_bytes method.Greater objects bytes args =
    answer.Plain (plain.Truth (int_lt (pos 0) (comparison.order bytes (text objects (argument args 0)))))
of_bytes method.AtLeast objects bytes args =
    answer.Plain (plain.Truth (int_le (pos 0) (comparison.order bytes (text objects (argument args 0)))))
of_bytes method.Element objects bytes args = element objects bytes args
of_bytes method.SetElement objects bytes args = set_element objects bytes args
of_bytes method.Length objects bytes args = answer.Plain (length_of bytes)
of_bytes method.Size objects bytes args = answer.Plain (length_of bytes)
of_bytes method.ByteSize objects bytes args = answer.Plain (length_of bytes)
of_bytes method.Bytes objects bytes args = answer.Plain (plain.Numbers (map pos bytes))
of_bytes method.Characters objects bytes args = answer.Plain (characters bytes)
of_bytes method.Lines objects bytes args = answer.Plain (lines bytes)
of_bytes method.Upcase objects bytes args = answer.Plain (plain.Text (letters.upcased bytes))
of_bytes method.Downcase objects bytes args = answer.Plain (plain.Text (letters.downcased bytes))
of_bytes method.Capitalize objects bytes args = answer.Plain (plain.Text (letters.capitalized bytes))
of_bytes method.Swapcase objects bytes args = answer.Plain (plain.Text (letters.swapped bytes))
of_bytes method.Reverse objects bytes args = answer.Plain (plain.Text (reverse bytes))
of_bytes method.Strip objects bytes args = answer.Plain (plain.Text (stripping.stripped bytes))
of_bytes method.LeftStrip objects bytes args = answer.Plain (plain.Text (stripping.left_stripped bytes))
of_bytes method.RightStrip objects bytes args = answer.Plain (plain.Text (stripping.right_stripped bytes))
of_bytes method.Chomp objects bytes args = answer.Plain (plain.Text (stripping.chomped bytes))
of_bytes method.Chop objects bytes args = answer.Plain (plain.Text (stripping.chopped bytes))
of_bytes method.Append objects bytes args = answer.Plain (append objects bytes (argument args 0))
of_bytes method.Concat objects bytes args = answer.Plain (concat objects bytes args)
of_bytes method.Replace objects bytes args = answer.Plain (plain.Replace (text objects (argument args 0)))
of_bytes method.Insert objects bytes args =
    answer.Plain (changed (editing.inserted bytes (integer (argument args 0)) (text objects (argument args 1))))
of_bytes method.Includes objects bytes args =
    answer.Plain (plain.Truth (searching.includes bytes (text objects (argument args 0))))
of_bytes method.StartsWith objects bytes args = answer.Plain (plain.Truth (begins_with objects bytes args))
of_bytes method.EndsWith objects bytes args = answer.Plain (plain.Truth (closes_with objects bytes args))
of_bytes method.Index objects bytes args =
    answer.Plain (place (searching.index bytes (text objects (argument args 0)) (integer (argument args 1))))
of_bytes method.LastIndex objects bytes args =
    answer.Plain (place (searching.last_index bytes (text objects (argument args 0))))
of_bytes method.Substitute objects bytes args = answer.Plain
    (made (substitution.substituted bytes (text objects (argument args 0)) (text objects (argument args 1))))
of_bytes method.SubstituteAll objects bytes args = answer.Plain
    (made (substitution.substituted_everywhere bytes (text objects (argument args 0)) (text objects (argument args 1))))
of_bytes method.Split objects bytes args = answer.Plain (split objects bytes args)
of_bytes method.Center objects bytes args =
    answer.Plain (made (padding.centered bytes (integer (argument args 0)) (pad objects args)))
of_bytes method.LeftJustify objects bytes args =
    answer.Plain (made (padding.left_justified bytes (integer (argument args 0)) (pad objects args)))
of_bytes method.RightJustify objects bytes args =
    answer.Plain (made (padding.right_justified bytes (integer (argument args 0)) (pad objects args)))
of_bytes method.ToInteger objects bytes args = answer.Plain (to_integer bytes args)
of_bytes method.ToText objects bytes args = answer.Plain plain.Receiver
of_bytes method.ToSymbol objects bytes args = answer.Plain (plain.Symbol bytes)
of_bytes method.Intern objects bytes args = answer.Plain (plain.Symbol bytes)
of_bytes method.IsEmpty objects bytes args = answer.Plain (plain.Truth (nat_eq (length bytes) 0))
of_bytes method.Ordinal objects bytes args = answer.Plain (first_byte (numerals.ordinal bytes))
of_bytes method.Inspect objects bytes args = answer.Plain (made (inspection.inspected bytes))

unfoldable pub gives : StringMethod → List Object → Value → List Value → Answer
gives m objects recv args = of_bytes m objects (text objects recv) args

-- Making a String.

-- a singleton class has no instances
abbrev pub made_in : List Object → Value → List Value → Option ObjId → Answer
made_in objects recv args (Some c) = answer.String c (text objects (argument args 0))
made_in objects recv args None = answer.Fail (cause.Expected (core class.Class) (plain_class_of objects recv))

abbrev pub new_string : List Object → Value → List Value → Answer
new_string objects recv args = made_in objects recv args (place_of objects sort.Class recv)
