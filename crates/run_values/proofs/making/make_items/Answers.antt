use Rattle.std.proofs.Common.{◌≡◌, length, sym, subst, arith}
use Rattle.std.proofs.lemmas.Grind.{common_steps}
use Rattle.rb_value.specs.Object.{Object}
use Rattle.def_core.specs.Sound.{census, SoundObject}
use Rattle.def_rows.specs.Answers.{items_object}
use Rattle.def_calls.specs.World as world
use Rattle.run_values.specs.Answers.{Answers}
use Rattle.run_values.proofs.Made.{items_sound}
use Rattle.run_values.proofs.making.make_items.Goals as goal

pub make-requires-clause-object : goal.make-requires-clause-object
make-requires-clause-object c =
    let st = c.args.st.now.store in
    let e : c.new.result ≡ items_object c.args.items.items = grind (arith, common_steps) in
    subst (SoundObject (census st) (length st.objects)) (sym e)
    (items_sound st c.requires.sound c.args.items.items c.requires.items)

pub returns-clause-answers : goal.returns-clause-answers
returns-clause-answers c =
    let e : c.new.result ≡ items_object c.args.items.items = grind (arith, common_steps) in
    subst (λ (o : Object). Answers c.args.st.now c.make.new.st c.make.result (λ w. world.make w o)) e
    c.make.ensures.answers
