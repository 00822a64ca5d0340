use Rattle.std.proofs.Common.{sym}
use Rattle.rb_integer.proofs.Letters.{decimal_numeral}
use Rattle.rb_integer.proofs.NumeralLaws.{digits_are, digits_only}
use Rattle.rb_integer.proofs.numeral.laws_of_numerals.Goals as goal

pub returns : goal.returns
returns c = record {
  digits = digits_are;
  only = digits_only;
  ten = λ z f. sym (decimal_numeral z f);
}
