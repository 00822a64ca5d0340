use Rattle.std.proofs.Common.{subst, sym}
use Rattle.std.specs.Prelude.{Option, IfSome}
use Rattle.def_core.specs.declared.cause.Cause.{Cause}
use Rattle.def_core.specs.Sound.{census}
use Rattle.rb_raise.specs.Causes.{SoundCause}
use Rattle.core_rows.proofs.Checked.{values_sound}
use Rattle.core_rows.proofs.checking.check.Goals as goal

pub returns-clause-sound : goal.returns-clause-sound
returns-clause-sound c = subst (λ (o : Option Cause). IfSome o (SoundCause (census c.args.st.now.store)))
    (sym c.unfit_values.ensures)
    (values_sound c.args.st.now.store c.requires.sound c.args.signature c.args.recv c.args.args.now c.requires.values)
