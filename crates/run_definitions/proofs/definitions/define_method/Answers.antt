use Rattle.std.proofs.Common.{refl, ap, ◌∙◌}
use Rattle.rb_value.specs.declared.value.Value.TheVariants.{Sym}
use Rattle.rb_value.specs.declared.method.Method.TheVariants as method
use Rattle.def_core.specs.Classes.{class_at}
use Rattle.def_core.specs.Changes.{with_method}
use Rattle.class_model.proofs.Kept.{kept_symbol}
use Rattle.def_calls.specs.World as world
use Rattle.def_calls.specs.Definitions.{define_method}
use Rattle.run_values.specs.declared.given.Given.TheVariants.{Gives}
use Rattle.run_values.proofs.Answered.{answers_ok}
use Rattle.run_definitions.proofs.definitions.define_method.Goals as goal

pub returns-clause-answers : goal.returns-clause-answers
unfolding define_method
returns-clause-answers c =
    let st = c.args.st.now.store in
    answers_ok c.args.st.now c.set_method.new.st (Gives (Sym c.args.name))
    (λ w. define_method w c.args.class c.args.name c.args.body c.args.around) (world.gives (Sym c.args.name))
    (with_method st c.args.class c.args.name (method.Body c.args.body c.args.around)
    (class_at st.objects c.args.class).visibility) (λ w. refl) refl
    (c.in_ok-set_method.ensures.ok
    ∙ ap (with_method st c.args.class c.args.name (method.Body c.args.body c.args.around))
    c.default_visibility-visibility.ensures)
    (kept_symbol c.args.st.now c.set_method.new.st c.args.name c.in_ok-set_method.ensures.keeps c.requires.name)
    c.in_ok-set_method.ensures.keeps
