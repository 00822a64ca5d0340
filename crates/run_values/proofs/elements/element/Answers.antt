use Rattle.std.proofs.Common.{List, ℤ, w64, ap, sym, ◌∙◌}
use Rattle.std.proofs.lemmas.Int.{to_z-of_z}
use Rattle.rb_value.specs.declared.value.Value.{Value}
use Rattle.def_calls.specs.World.{give, with_store}
use Rattle.def_calls.specs.Values.{element, element_at}
use Rattle.run_values.proofs.elements.element.Goals as goal

pub returns-clause-given : goal.returns-clause-given
unfolding element
returns-clause-given c = λ w.
    let at = with_store w c.args.st.now.store in
    ap (λ (vs : List Value). give at (element_at vs c.args.place)) (sym (c.elements_or_itself.ensures.elements w))
    ∙ ap (λ (z : ℤ). give at (element_at c.elements_or_itself.result.now z))
    (sym (to_z-of_z w64 c.args.place c.ranges.place))
    ∙ ap (give at) (sym c.element_at.ensures)
