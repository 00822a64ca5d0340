use Rattle.std.proofs.Common.{◌∙◌, sym}
use Rattle.class_model.proofs.Filters.{filter_none}
use Rattle.class_model.proofs.ancestry.AncestorsIterator.next.Goals as goal

pub returns-clause-steps : goal.returns-clause-steps
returns-clause-steps c = (
  sym c.singletons.invariant.same ∙ filter_none _ _ c.in_default.ensures.step.0,
  filter_none _ _ c.in_default.ensures.step.1,
)
