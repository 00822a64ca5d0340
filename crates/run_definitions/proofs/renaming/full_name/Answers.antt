use Rattle.run_definitions.proofs.renaming.full_name.Goals as goal

pub returns-in_err-symbol-clause-keeps : goal.returns-in_err-symbol-clause-keeps
returns-in_err-symbol-clause-keeps c = c.in_err-symbol.ensures.keeps c.requires.sound

pub returns-clause-keeps : goal.returns-clause-keeps
returns-clause-keeps c = c.in_ok-symbol.ensures.keeps c.requires.sound
