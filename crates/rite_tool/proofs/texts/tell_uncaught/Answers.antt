use Rattle.std.proofs.Common.{append_assoc, ap, sym}
use Rattle.rite_tool.specs.Texts as texts
use Rattle.rb_refusal.proofs.Writing.{says_same}
use Rattle.rite_tool.proofs.texts.tell_uncaught.Goals as goal

pub returns-in-IntegerOverflow : goal.returns-in-IntegerOverflow
returns-in-IntegerOverflow g c = says_same _ _ _ _ _ (ap texts.uncaught (sym c.in-IntegerOverflow.is))
    c.write_pieces.ensures

pub returns-in-UndefinedMethod : goal.returns-in-UndefinedMethod
returns-in-UndefinedMethod g c = says_same _ _ _ _ _ (rw c.in-UndefinedMethod.is (simp append_assoc (cc)))
    c.write_pieces-in-UndefinedMethod.ensures

pub returns-in-IntegerExpected : goal.returns-in-IntegerExpected
returns-in-IntegerExpected g c = says_same _ _ _ _ _ (rw c.in-IntegerExpected.is (simp append_assoc (cc)))
    c.write_pieces-in-IntegerExpected.ensures
