-- What the rows of nil, true and false give (ISO/IEC 30170:2012, 15.2.4 to 15.2.6).
use Rattle.std.specs.Prelude.{pos, List, [], codes, true, false, not}
use Rattle.rb_value.specs.declared.value.Value.{Value}
use Rattle.rb_value.specs.Value.{is_true}
use Rattle.row_answer.specs.declared.answer.Plain.{Plain}
use Rattle.row_answer.specs.declared.answer.Plain.TheVariants.{Truth, Int, Text, Numbers}
use Rattle.row_table.specs.declared.truth.NilMethod.{NilMethod}
use Rattle.row_table.specs.declared.truth.NilMethod.TheVariants as nil
use Rattle.row_table.specs.declared.truth.TruthMethod.{TruthMethod}
use Rattle.row_table.specs.declared.truth.TruthMethod.TheVariants as method
use Rattle.def_rows.specs.Operands.{argument}

abbrev pub nil_gives : NilMethod → List Value → Plain
nil_gives nil.ToText args = Text []
nil_gives nil.Inspect args = Text (codes "nil")
nil_gives nil.And args = Truth false
nil_gives nil.Or args = Truth (is_true (argument args 0))
nil_gives nil.Xor args = Truth (is_true (argument args 0))
nil_gives nil.ToArray args = Numbers []
nil_gives nil.ToInteger args = Int (pos 0)

abbrev pub true_gives : TruthMethod → List Value → Plain
true_gives method.ToText args = Text (codes "true")
true_gives method.Inspect args = Text (codes "true")
true_gives method.And args = Truth (is_true (argument args 0))
true_gives method.Or args = Truth true
true_gives method.Xor args = Truth (not (is_true (argument args 0)))

abbrev pub false_gives : TruthMethod → List Value → Plain
false_gives method.ToText args = Text (codes "false")
false_gives method.Inspect args = Text (codes "false")
false_gives method.And args = Truth false
false_gives method.Or args = Truth (is_true (argument args 0))
false_gives method.Xor args = Truth (is_true (argument args 0))
