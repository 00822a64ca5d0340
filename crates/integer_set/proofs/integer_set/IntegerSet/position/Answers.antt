use Rattle.std.proofs.Common.{ℤ, ap, w64, ◌∙◌, position}
use Rattle.std.proofs.lemmas.Int.{to_z-of_z}
use Rattle.std.specs.Ordering.{int_eq}
use Rattle.integer_set.proofs.integer_set.IntegerSet.position.Goals as goal

-- the keys are the integers, and the one that is looked for is read back as it was written
pub returns-clause-value : goal.returns-clause-value
returns-clause-value c = c.get_index_of.ensures.index
    ∙ (ap (λ (z : ℤ). position (int_eq z) c.self.inside.integers.keys) (to_z-of_z w64 c.args.integer c.ranges.integer)
    ∙ ap (position (int_eq c.args.integer)) c.self.view_is)
