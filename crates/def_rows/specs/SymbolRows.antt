-- What the rows of Symbol give (ISO/IEC 30170:2012, 15.2.11).
use Rattle.std.specs.Prelude.{ℕ, pos, List, [], length}
use Rattle.rb_value.specs.declared.value.Value.{Value}
use Rattle.rb_value.specs.declared.value.Value.TheVariants as value
use Rattle.def_core.specs.Store.{Store, name_at}
use Rattle.rb_string.specs.Comparison as comparison
use Rattle.rb_string.specs.Symbols as symbols
use Rattle.row_answer.specs.declared.answer.Plain.{Plain}
use Rattle.row_answer.specs.declared.answer.Plain.TheVariants.{Nil, Int, Receiver, Text}
use Rattle.row_table.specs.declared.symbol.SymbolMethod.{SymbolMethod}
use Rattle.row_table.specs.declared.symbol.SymbolMethod.TheVariants as method
use Rattle.def_rows.specs.Operands.{argument}
use Rattle.def_rows.specs.StringRows.{made}

-- the name of a Symbol
abbrev pub name : Store → Value → List ℕ
name st value.Nil = []
name st value.True = []
name st value.False = []
name st (value.Int z) = []
name st (value.Sym s) = name_at st s
name st (value.Obj id) = []

-- the order between names, where the value is a Symbol
abbrev pub order : Store → List ℕ → Value → Plain
order st text value.Nil = Nil
order st text value.True = Nil
order st text value.False = Nil
order st text (value.Int z) = Nil
order st text (value.Sym s) = Int (comparison.order text (name_at st s))
order st text (value.Obj id) = Nil

abbrev pub of_name : SymbolMethod → Store → List ℕ → List Value → Plain
of_name method.ToText st text args = Text text
of_name method.ToSymbol st text args = Receiver
of_name method.Inspect st text args = made (symbols.inspected text)
of_name method.Length st text args = Int (pos (length text))
of_name method.Size st text args = Int (pos (length text))
of_name method.Order st text args = order st text (argument args 0)

abbrev pub gives : SymbolMethod → Store → Value → List Value → Plain
gives m st recv args = of_name m st (name st recv) args
