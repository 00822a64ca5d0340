use Rattle.rite_file.proofs.Law.{one_program, canonical_is, spells_loads}
use Rattle.rite_file.proofs.files_spell_programs.Goals as goal

pub returns : goal.returns
returns c = record { one = one_program; canonical = canonical_is; again = spells_loads }
