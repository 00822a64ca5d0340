use Rattle.std.proofs.Common.{refl, ap, sym}
use Rattle.rb_value.specs.declared.value.Value.TheVariants.{Nil}
use Rattle.rb_value.specs.declared.method.Method.TheVariants as method
use Rattle.def_core.specs.declared.cause.Cause.TheVariants as cause
use Rattle.def_core.specs.Changes.{with_method}
use Rattle.def_calls.specs.World as world
use Rattle.def_calls.specs.Definitions.{undefine_method, undefine_found}
use Rattle.run_values.specs.declared.given.Given.TheVariants.{Gives}
use Rattle.run_values.proofs.Answered.{answers_ok, answers_alike}
use Rattle.run_definitions.proofs.definitions.undefine_method.Goals as goal

pub returns-in_ok-set_method-in-Some : goal.returns-in_ok-set_method-in-Some
unfolding undefine_method
returns-in_ok-set_method-in-Some c =
    let st = c.args.st.now.store in
    answers_ok c.args.st.now c.set_method.new.st (Gives Nil) (λ w. undefine_method w c.args.class c.args.name)
    (world.gives Nil) (with_method st c.args.class c.args.name method.Undefined c.in-Some.found.visibility)
    (λ w. ap (undefine_found (world.with_store w st) c.args.class c.args.name) (sym c.in-Some.ensures.found)) refl
    c.in_ok-set_method-in-Some.ensures.ok tt c.in_ok-set_method-in-Some.ensures.keeps

pub returns-in-None : goal.returns-in-None
unfolding undefine_method
returns-in-None c = answers_alike c.args.st.now c.fail.new.st c.fail.result
    (λ w. world.fail w (cause.UndefinedInClass c.args.name c.args.class))
    (λ w. undefine_method w c.args.class c.args.name)
    (λ w. ap (undefine_found (world.with_store w c.args.st.now.store) c.args.class c.args.name)
    (sym c.in-None.ensures.found)) c.fail.ensures
