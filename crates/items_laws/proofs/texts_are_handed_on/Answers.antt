use Rattle.items_laws.proofs.Texts.{each_character, each_line}
use Rattle.items_laws.proofs.texts_are_handed_on.Goals as goal

-- src/lib.rt
pub returns-clause-characters : goal.returns-clause-characters
returns-clause-characters c = each_character

pub returns-clause-lines : goal.returns-clause-lines
returns-clause-lines c = each_line
