-- What the rows of Range give (ISO/IEC 30170:2012, 15.2.14).
use Rattle.std.specs.Prelude.{ℕ, ℤ, pos, List, [], ◌∷◌, ◌++◌, Bool, true, false, ◌&&◌, map, nat_eq, Option, Some, None, Result, Ok, Err, unwrap_or}
use Rattle.std.specs.Bool.{beq}
use Rattle.std.specs.List.{range_with_len}
use Rattle.std.specs.Fmt.{signed_decimal}
use Rattle.rb_value.specs.declared.value.Value.{Value}
use Rattle.rb_value.specs.declared.value.Value.TheVariants.{Nil, True, False, Int, Sym, Obj}
use Rattle.rb_value.specs.declared.value.ObjId.{ObjId}
use Rattle.rb_value.specs.declared.core_class.CoreClass.TheVariants as class
use Rattle.rb_value.specs.declared.kind.RangeEnds.{RangeEnds}
use Rattle.rb_value.specs.declared.kind.RangeEnds.TheVariants as kept
use Rattle.rb_value.specs.declared.kind.RangeContents.{RangeContents}
use Rattle.rb_value.specs.declared.kind.Kind.{Kind}
use Rattle.rb_value.specs.declared.kind.Kind.TheVariants as kind
use Rattle.rb_value.specs.declared.kind.Sort.TheVariants as sort
use Rattle.rb_value.specs.Object.{Object}
use Rattle.rb_value.specs.Value.{is_true}
use Rattle.def_core.specs.declared.cause.Cause.TheVariants as cause
use Rattle.def_core.specs.Store.{core, object_at}
use Rattle.def_core.specs.Classes.{plain_class_of}
use Rattle.rb_integer.specs.declared.failure.IntegerFailure.{IntegerFailure}
use Rattle.rb_integer.specs.declared.ends.Bounds.{Bounds}
use Rattle.rb_integer.specs.declared.ends.Bounds.TheVariants.{Integers, Bytes}
use Rattle.rb_integer.specs.declared.ends.Ends.{Ends}
use Rattle.rb_integer.specs.declared.ends.Item.{Item}
use Rattle.rb_integer.specs.declared.ends.Item.TheVariants.{Integer, Byte}
use Rattle.rb_integer.specs.Dots.{dots_of}
use Rattle.rb_integer.specs.Ends as ends
use Rattle.rb_integer.specs.Comparison.{is_equal}
use Rattle.rb_string.specs.Inspection.{quoted}
use Rattle.row_answer.specs.declared.answer.Fault.TheVariants.{BadRange}
use Rattle.row_answer.specs.declared.answer.Plain.{Plain}
use Rattle.row_answer.specs.declared.answer.Plain.TheVariants as plain
use Rattle.row_table.specs.declared.range.RangeMethod.{RangeMethod}
use Rattle.row_table.specs.declared.range.RangeMethod.TheVariants as method
use Rattle.def_rows.specs.declared.answer.Answer.{Answer}
use Rattle.def_rows.specs.declared.answer.Answer.TheVariants as answer
use Rattle.def_rows.specs.IntegerRows.{fault_of, number}
use Rattle.def_rows.specs.Operands.{argument, integer, place_of, text}

-- Operands.

abbrev pub bounds_of : RangeEnds → Bounds
bounds_of (kept.Integers a b) = Integers a b
bounds_of (kept.Bytes a b) = Bytes a b

abbrev pub ends_of : RangeContents → Ends
ends_of r = record { bounds = bounds_of r.ends; is_exclusive = r.exclusive }

abbrev pub ends_in : Kind → Option Ends
ends_in kind.Plain = None
ends_in (kind.Class c) = None
ends_in (kind.String s) = None
ends_in (kind.Array a) = None
ends_in (kind.Hash h) = None
ends_in (kind.Range r) = Some (ends_of r)
ends_in (kind.Proc p) = None
ends_in (kind.CoreProc r v) = None
ends_in (kind.Fiber b e) = None
ends_in (kind.Exception m d) = None
ends_in (kind.Enumerator e) = None
ends_in (kind.Yielder b) = None

abbrev pub ends_at : List Object → Option ObjId → Option Ends
ends_at objects None = None
ends_at objects (Some id) = ends_in (object_at objects id).kind

-- the ends of a Range
abbrev pub range_of : List Object → Value → Option Ends
range_of objects v = ends_at objects (place_of objects sort.Range v)

-- a Range without items
abbrev pub no_items : Ends
no_items = record { bounds = Integers (pos 0) (pos 0); is_exclusive = true }

abbrev pub range : List Object → Value → Ends
range objects v = unwrap_or (range_of objects v) no_items

-- the byte of a text of one byte
abbrev pub single : List ℕ → Option Item
single [] = None
single (b ∷ []) = Some (Byte b)
single (b ∷ c ∷ bs) = None

-- what may be an item or an end: an Integer, or a String of one byte
abbrev pub item_of : List Object → Value → Option Item
item_of objects Nil = None
item_of objects True = None
item_of objects False = None
item_of objects (Int z) = Some (Integer z)
item_of objects (Sym s) = None
item_of objects (Obj id) = single (text objects (Obj id))

-- Results.

abbrev pub of_item : Item → Plain
of_item (Integer z) = plain.Int z
of_item (Byte b) = plain.Text (b ∷ [])

-- the first n items
abbrev pub items : Bounds → ℕ → List Item
items b n = map (ends.item b) (range_with_len 0 n)

abbrev pub integers_of : List Item → List ℤ
integers_of [] = []
integers_of (Integer z ∷ is) = z ∷ integers_of is
integers_of (Byte b ∷ is) = integers_of is

abbrev pub texts_of : List Item → List (List ℕ)
texts_of [] = []
texts_of (Integer z ∷ is) = texts_of is
texts_of (Byte b ∷ is) = (b ∷ []) ∷ texts_of is

abbrev pub of_items : Bounds → ℕ → Plain
of_items (Integers a b) n = plain.Numbers (integers_of (items (Integers a b) n))
of_items (Bytes a b) n = plain.Texts (texts_of (items (Bytes a b) n))

abbrev pub of_count : Bounds → Result ℕ IntegerFailure → Plain
of_count b (Ok n) = of_items b n
of_count b (Err f) = plain.Fail (fault_of f)

-- the first end without an argument, and else so many items
abbrev pub front : Ends → List Value → Plain
front e [] = of_item (ends.first e.bounds)
front e (v ∷ rest) = of_count e.bounds (ends.first_count e.bounds e.is_exclusive (integer v))

abbrev pub has_item : Ends → Option Item → Bool
has_item e None = false
has_item e (Some i) = ends.includes e.bounds e.is_exclusive i

-- two Ranges with equal ends that leave out the last one alike
abbrev pub same_bounds : Bounds → Bounds → Bool
same_bounds (Integers a b) (Integers c d) = is_equal a c && is_equal b d
same_bounds (Integers a b) (Bytes c d) = false
same_bounds (Bytes a b) (Integers c d) = false
same_bounds (Bytes a b) (Bytes c d) = nat_eq a c && nat_eq b d

abbrev pub same_ends : Ends → Option Ends → Bool
same_ends e None = false
same_ends e (Some f) = same_bounds e.bounds f.bounds && beq e.is_exclusive f.is_exclusive

abbrev pub item_inspection : Item → List ℕ
item_inspection (Integer z) = signed_decimal z
item_inspection (Byte b) = quoted b

abbrev pub inspection : Ends → List ℕ
inspection e = item_inspection (ends.first e.bounds) ++ dots_of e.is_exclusive ++ item_inspection (ends.last e.bounds)

abbrev pub of_ends : RangeMethod → List Object → Ends → List Value → Plain
of_ends method.First objects e args = front e args
of_ends method.Last objects e args = of_item (ends.last e.bounds)
of_ends method.Begin objects e args = of_item (ends.first e.bounds)
of_ends method.End objects e args = of_item (ends.last e.bounds)
of_ends method.Size objects e args = number (ends.size e.bounds e.is_exclusive)
of_ends method.IsExclusive objects e args = plain.Truth e.is_exclusive
of_ends method.Includes objects e args = plain.Truth (has_item e (item_of objects (argument args 0)))
of_ends method.HasMember objects e args = plain.Truth (has_item e (item_of objects (argument args 0)))
of_ends method.Matches objects e args = plain.Truth (has_item e (item_of objects (argument args 0)))
of_ends method.Equal objects e args = plain.Truth (same_ends e (range_of objects (argument args 0)))
of_ends method.ToText objects e args = plain.Text (ends.text e.bounds e.is_exclusive)
of_ends method.Inspect objects e args = plain.Text (inspection e)

abbrev pub gives : RangeMethod → List Object → Value → List Value → Plain
gives m objects recv args = of_ends m objects (range objects recv) args

-- Making a Range.

-- two Integers or two bytes as ends
abbrev pub kept_ends : Option Item → Option Item → Option RangeEnds
kept_ends None b = None
kept_ends (Some (Integer x)) None = None
kept_ends (Some (Integer x)) (Some (Integer y)) = Some (kept.Integers x y)
kept_ends (Some (Integer x)) (Some (Byte y)) = None
kept_ends (Some (Byte x)) None = None
kept_ends (Some (Byte x)) (Some (Integer y)) = None
kept_ends (Some (Byte x)) (Some (Byte y)) = Some (kept.Bytes x y)

abbrev pub made : ObjId → Bool → Option RangeEnds → Answer
made c exclusive (Some e) = answer.Range c (record { ends = e; exclusive = exclusive })
made c exclusive None = answer.Plain (plain.Fail BadRange)

-- a singleton class has no instances
abbrev pub made_in : List Object → Value → List Value → Option ObjId → Answer
made_in objects recv args (Some c) = made c (is_true (argument args 2))
    (kept_ends (item_of objects (argument args 0)) (item_of objects (argument args 1)))
made_in objects recv args None = answer.Fail (cause.Expected (core class.Class) (plain_class_of objects recv))

abbrev pub new_range : List Object → Value → List Value → Answer
new_range objects recv args = made_in objects recv args (place_of objects sort.Class recv)
