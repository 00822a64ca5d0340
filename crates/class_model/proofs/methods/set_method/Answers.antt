use Rattle.class_model.proofs.methods.set_method.Goals as goal

pub returns-in_err-put_method-clause-keeps : goal.returns-in_err-put_method-clause-keeps
returns-in_err-put_method-clause-keeps c = c.in_err-put_method.ensures.keeps c.requires.sound c.requires.method

pub returns-clause-keeps : goal.returns-clause-keeps
returns-clause-keeps c = c.in_ok-put_method.ensures.keeps c.requires.sound c.requires.method
