-- What each core method gives, and what its call then gives and leaves, by its row.
use Rattle.std.specs.Prelude.{ℕ, List, Option, Some, None}
use Rattle.rb_value.specs.declared.value.Value.{Value}
use Rattle.rb_value.specs.declared.value.Value.TheVariants.{Nil}
use Rattle.rb_value.specs.declared.value.ObjId.{ObjId}
use Rattle.def_core.specs.Store.{Store, Done}
use Rattle.def_core.specs.Changes.{gives as outcome_of}
use Rattle.row_table.specs.declared.line.CoreRow.{CoreRow}
use Rattle.row_table.specs.declared.line.CoreRow.TheVariants.{Integer, Range, RangeClass, String, StringClass, Symbol, Nil as OfNil, True as OfTrue, False as OfFalse}
use Rattle.row_table.specs.declared.range.RangeClassMethod.TheVariants as range_class
use Rattle.row_table.specs.declared.string.StringClassMethod.TheVariants as string_class
use Rattle.row_table.specs.declared.line.Line.{Line}
use Rattle.row_table.specs.RowTable.{line_at}
use Rattle.def_rows.specs.declared.answer.Answer.{Answer}
use Rattle.def_rows.specs.declared.answer.Answer.TheVariants as answer
use Rattle.def_rows.specs.Answers.{called}
use Rattle.def_rows.specs.IntegerRows as integers
use Rattle.def_rows.specs.RangeRows as ranges
use Rattle.def_rows.specs.StringRows as strings
use Rattle.def_rows.specs.SymbolRows as symbols
use Rattle.def_rows.specs.TruthRows as truths

abbrev pub gives : CoreRow → Store → Value → List Value → Answer
gives (Integer m) st recv args = answer.Plain (integers.gives m recv args)
gives (Range m) st recv args = answer.Plain (ranges.gives m st.objects recv args)
gives (RangeClass range_class.New) st recv args = ranges.new_range st.objects recv args
gives (String m) st recv args = strings.gives m st.objects recv args
gives (StringClass string_class.New) st recv args = strings.new_string st.objects recv args
gives (Symbol m) st recv args = answer.Plain (symbols.gives m st recv args)
gives (OfNil m) st recv args = answer.Plain (truths.nil_gives m args)
gives (OfTrue m) st recv args = answer.Plain (truths.true_gives m args)
gives (OfFalse m) st recv args = answer.Plain (truths.false_gives m args)

-- a number that is of no row gives nil
abbrev pub by_line : Option Line → Value → List Value → Option ObjId → Store → Done
by_line None recv args block st = outcome_of Nil st
by_line (Some line) recv args block st = called line.signature (gives line.row) st recv args block

-- the call of the row of that number
unfoldable pub prim : ℕ → Value → List Value → Option ObjId → Store → Done
prim row recv args block st = by_line (line_at row) recv args block st
