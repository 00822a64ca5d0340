use Rattle.std.proofs.Common.{ap, sym, ◌∙◌}
use Rattle.rb_value.specs.Object.{Object}
use Rattle.class_model.proofs.Lineages.{singleton_here}
use Rattle.class_model.proofs.receiver.nearest_singleton.Goals as goal

pub returns-in-Some-clause-value : goal.returns-in-Some-clause-value
returns-in-Some-clause-value c =
    sym (singleton_here c.args.st.now.store c.requires.sound c.superclasses.at c.args.other c.in-Some.singleton
    c.superclasses.invariant.there (sym (ap (λ (o : Object). o.singleton) c.get.ensures) ∙ sym c.singleton.ensures ∙ c.in-Some.is))
    ∙ c.superclasses.invariant.same
