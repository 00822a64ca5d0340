use Rattle.class_model.proofs.methods.set_default.Goals as goal

pub returns-clause-keeps : goal.returns-clause-keeps
returns-clause-keeps c = c.put_default.ensures.keeps c.requires.sound
