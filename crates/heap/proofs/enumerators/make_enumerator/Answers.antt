use Rattle.rb_store.proofs.Keeping.{keeps_then}
use Rattle.heap.proofs.enumerators.make_enumerator.Goals as goal

pub returns-clause-keeps : goal.returns-clause-keeps
returns-clause-keeps c = keeps_then _ _ _ c.add_array.ensures.keeps c.add.ensures.keeps
