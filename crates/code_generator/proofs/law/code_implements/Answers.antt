use Rattle.code_generator.proofs.Programs.{compiled}
use Rattle.code_generator.proofs.law.code_implements.Goals as goal

pub returns : goal.returns
returns c = compiled
