use Rattle.std.proofs.Common.{sym, subst}
use Rattle.class_model.specs.Growth.{IsGrown}
use Rattle.class_model.proofs.Naming.{grown_itself, grown_interned}
use Rattle.class_model.proofs.definition.full_name.Goals as goal

pub returns-in_err-symbol-clause-grown : goal.returns-in_err-symbol-clause-grown
returns-in_err-symbol-clause-grown c = subst (IsGrown c.args.st.now.store) (sym c.in_err-symbol.ensures.err)
    (grown_itself c.args.st.now.store)

pub returns-clause-grown : goal.returns-clause-grown
returns-clause-grown c = subst (IsGrown c.args.st.now.store) (sym c.in_ok-symbol.ensures.ok)
    (grown_interned c.args.st.now.store c.deref.result.now)

pub returns-in_err-symbol-clause-keeps : goal.returns-in_err-symbol-clause-keeps
returns-in_err-symbol-clause-keeps c = c.in_err-symbol.ensures.keeps c.requires.sound

pub returns-clause-keeps : goal.returns-clause-keeps
returns-clause-keeps c = c.in_ok-symbol.ensures.keeps c.requires.sound
