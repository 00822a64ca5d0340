use Rattle.std.proofs.Common.{List, length, ap, sym}
use Rattle.rb_value.specs.declared.value.Value.{Value}
use Rattle.run_values.proofs.Strings.{array_there, no_array}
use Rattle.run_values.proofs.Steps.{entered_whole, entered_left, put_whole, put_left}
use Rattle.run_values.proofs.key_parts.Walk.pass.Goals as goal

pub returns-in_ok-enter-in-Some-clause-whole : goal.returns-in_ok-enter-in-Some-clause-whole
returns-in_ok-enter-in-Some-clause-whole c =
    let objects = c.args.st.now.store.objects in
    entered_whole objects c.args.self.now c.enter.new.self c.args.value c.in-Some.id _ c.requires.below
    (array_there objects c.args.value c.in-Some.id (sym c.in-Some.ensures.object))
    (ap (λ (vs : List Value). length vs) c.elements.ensures) c.in_ok-enter-in-Some.ensures.parts c.in_ok-enter-in-Some.ensures.level
    c.in_ok-enter-in-Some.ensures.around

pub returns-in_ok-enter-in-Some-clause-steps : goal.returns-in_ok-enter-in-Some-clause-steps
returns-in_ok-enter-in-Some-clause-steps c =
    let objects = c.args.st.now.store.objects in
    entered_left objects c.args.self.now c.enter.new.self c.args.value c.in-Some.id _ c.requires.below
    (array_there objects c.args.value c.in-Some.id (sym c.in-Some.ensures.object))
    (ap (λ (vs : List Value). length vs) c.elements.ensures) c.in_ok-enter-in-Some.ensures.parts c.in_ok-enter-in-Some.ensures.level
    c.in_ok-enter-in-Some.ensures.around

pub returns-in_ok-put-in-None-clause-whole : goal.returns-in_ok-put-in-None-clause-whole
returns-in_ok-put-in-None-clause-whole c =
    let objects = c.args.st.now.store.objects in
    put_whole objects c.args.self.now c.put.new.self c.args.value c.in_ok-part-in-None.part c.requires.below
    (no_array objects c.args.value (sym c.in-None.ensures.object)) c.in_ok-part-in-None.ensures.part
    c.in_ok-put-in-None.ensures.parts c.in_ok-put-in-None.ensures.level c.in_ok-put-in-None.ensures.around

pub returns-in_ok-put-in-None-clause-steps : goal.returns-in_ok-put-in-None-clause-steps
returns-in_ok-put-in-None-clause-steps c =
    let objects = c.args.st.now.store.objects in
    put_left objects c.args.self.now c.put.new.self c.args.value c.in_ok-part-in-None.part c.requires.below
    (no_array objects c.args.value (sym c.in-None.ensures.object)) c.in_ok-part-in-None.ensures.part
    c.in_ok-put-in-None.ensures.parts c.in_ok-put-in-None.ensures.level c.in_ok-put-in-None.ensures.around
