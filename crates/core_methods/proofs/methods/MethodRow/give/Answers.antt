use Rattle.def_core.specs.Sound.{census}
use Rattle.core_methods.proofs.Belongs.{gives_belongs, answer_belongs}
use Rattle.core_methods.proofs.methods.MethodRow.give.Goals as goal

pub returns-clause-sound : goal.returns-clause-sound
returns-clause-sound c = answer_belongs (census c.args.st.now.store) c.give.result _
    (gives_belongs c.args.st.now.store c.args.self.line.row c.args.recv c.args.args.now c.requires.sound c.requires.values)
    c.give.ensures
