-- The rows by their numbers: the number of the segment times 256, and the place there.
use Rattle.std.specs.Prelude.{ℕ, ◌/◌, ◌%◌, List, [], nat_eq, Bool, true, false, Option, Some, None, is_some, slice_get, if◌then◌else◌}
use Rattle.rb_value.specs.declared.core_class.CoreClass.TheVariants as class
use Rattle.row_table.specs.declared.line.Line.{Line}
use Rattle.row_table.specs.declared.signature.Marks.{Marks}
use Rattle.row_table.specs.declared.signature.Marks.TheVariants.{Plain, Block, Star, StarBlock}
use Rattle.row_table.specs.declared.integer.TheConstants.{INTEGER_ROWS}
use Rattle.row_table.specs.declared.range.TheConstants.{RANGE_ROWS, RANGE_CLASS_ROWS}
use Rattle.row_table.specs.declared.string.TheConstants.{STRING_ROWS, STRING_CLASS_ROWS}
use Rattle.row_table.specs.declared.symbol.TheConstants.{SYMBOL_ROWS}
use Rattle.row_table.specs.declared.truth.TheConstants.{NIL_ROWS, TRUE_ROWS, FALSE_ROWS}
use Rattle.row_table.specs.Segments.{of_class, of_class_object}

-- the rows of a segment
unfoldable pub segment : ℕ → List Line
segment s = if nat_eq s (of_class class.Integer) then INTEGER_ROWS
    else (if nat_eq s (of_class class.NilClass) then NIL_ROWS
    else (if nat_eq s (of_class class.TrueClass) then TRUE_ROWS
    else (if nat_eq s (of_class class.FalseClass) then FALSE_ROWS
    else (if nat_eq s (of_class class.String) then STRING_ROWS
    else (if nat_eq s (of_class_object class.String) then STRING_CLASS_ROWS
    else (if nat_eq s (of_class class.Symbol) then SYMBOL_ROWS
    else (if nat_eq s (of_class class.Range) then RANGE_ROWS
    else (if nat_eq s (of_class_object class.Range) then RANGE_CLASS_ROWS else []))))))))

unfoldable pub line_at : ℕ → Option Line
line_at row = slice_get (segment (row / 256)) (row % 256)

abbrev pub is_row : ℕ → Bool
is_row row = is_some (line_at row)

abbrev pub opens : Marks → Bool
opens Plain = false
opens Block = false
opens Star = true
opens StarBlock = true

abbrev pub needs_block : Marks → Bool
needs_block Plain = false
needs_block Block = true
needs_block Star = false
needs_block StarBlock = true

abbrev pub line_opens : Option Line → Bool
line_opens None = false
line_opens (Some line) = opens line.signature.marks

-- whether the row opens an activation
abbrev pub is_iteration : ℕ → Bool
is_iteration row = line_opens (line_at row)
