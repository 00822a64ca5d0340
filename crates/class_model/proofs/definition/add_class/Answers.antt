use Rattle.class_model.proofs.Naming.{named_is_sound}
use Rattle.class_model.proofs.definition.add_class.Goals as goal

pub returns-clause-keeps : goal.returns-clause-keeps
returns-clause-keeps c =
    c.in_ok-id.ensures.keeps c.requires.sound
    (named_is_sound c.args.st.now.store c.requires.sound c.args.class c.args.form c.args.superclass c.args.name _
    c.in_ok-object.ensures c.requires.plain c.requires.superclass c.requires.root c.requires.name)
