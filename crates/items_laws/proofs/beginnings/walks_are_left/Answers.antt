use Rattle.items_laws.proofs.BegunPlaces.{bytes_begun, filling_begun, thinning_begun}
use Rattle.items_laws.proofs.BegunTexts.{characters_begun, lines_begun}
use Rattle.items_laws.proofs.beginnings.walks_are_left.Goals as goal

-- src/beginnings.rt
pub returns-clause-characters : goal.returns-clause-characters
returns-clause-characters c = characters_begun

pub returns-clause-lines : goal.returns-clause-lines
returns-clause-lines c = lines_begun

pub returns-clause-bytes : goal.returns-clause-bytes
returns-clause-bytes c = bytes_begun

pub returns-clause-thinned : goal.returns-clause-thinned
returns-clause-thinned c = thinning_begun

pub returns-clause-filled : goal.returns-clause-filled
returns-clause-filled c = filling_begun
