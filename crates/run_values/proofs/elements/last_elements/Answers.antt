use Rattle.std.proofs.Common.{◌-◌, List, length, drop, max, ap, sym, ◌∙◌}
use Rattle.rb_value.specs.declared.value.Value.{Value}
use Rattle.def_rows.specs.Answers.{items_object}
use Rattle.def_calls.specs.World as world
use Rattle.def_calls.specs.Values.{last_elements}
use Rattle.run_values.proofs.Answered.{answers_alike}
use Rattle.run_values.proofs.elements.last_elements.Goals as goal

pub returns-clause-answers : goal.returns-clause-answers
unfolding last_elements
returns-clause-answers c =
    let st = c.args.st.now.store in
    answers_alike c.args.st.now c.make_items.new.st c.make_items.result
    (λ w. world.make w (items_object c.in_ok-items.items.items))
    (λ w. last_elements w c.args.value c.args.front c.args.count)
    (λ w. ap (λ (vs : List Value). world.make (world.with_store w st)
    (items_object (drop (max c.args.front (length vs - c.args.count)) vs)))
    (sym (c.elements_or_itself-elements.ensures.elements w))
    ∙ ap (λ (vs : List Value). world.make (world.with_store w st) (items_object vs))
    (sym (c.in_ok-items.ensures.items ∙ c.last.ensures))) c.make_items.ensures.answers
