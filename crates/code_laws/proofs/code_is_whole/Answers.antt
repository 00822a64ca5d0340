use Rattle.code_laws.proofs.Programs.{program_is_whole}
use Rattle.code_laws.proofs.code_is_whole.Goals as goal

pub returns : goal.returns
returns c = record { whole = program_is_whole }
