use Rattle.rb_store.proofs.OpeningRows.{segments_are_had, no_others}
use Rattle.rb_store.proofs.laws.laws_of_opening.Goals as goal

pub returns-clause-segments : goal.returns-clause-segments
returns-clause-segments c = segments_are_had

pub returns-clause-others : goal.returns-clause-others
returns-clause-others c = no_others
