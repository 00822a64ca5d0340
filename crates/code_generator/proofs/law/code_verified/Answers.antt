use Rattle.code_generator.proofs.Programs.{code_verified}
use Rattle.code_generator.proofs.law.code_verified.Goals as goal

pub returns : goal.returns
returns c = code_verified
