use Rattle.std.proofs.Common.{refl, ap, sym}
use Rattle.rb_value.specs.declared.value.Value.TheVariants.{Nil}
use Rattle.def_core.specs.declared.cause.Cause.TheVariants as cause
use Rattle.def_core.specs.Changes.{with_method}
use Rattle.def_calls.specs.World as world
use Rattle.def_calls.specs.Definitions.{alias_method, alias_found}
use Rattle.run_values.specs.declared.given.Given.TheVariants.{Gives}
use Rattle.run_values.proofs.Answered.{answers_ok, answers_alike}
use Rattle.run_definitions.proofs.definitions.alias_method.Goals as goal

pub set_method-requires-clause-method : goal.set_method-requires-clause-method
set_method-requires-clause-method c = c.in-Some.ensures.sound.1

pub returns-in_ok-set_method-in-Some : goal.returns-in_ok-set_method-in-Some
unfolding alias_method
returns-in_ok-set_method-in-Some c =
    let st = c.args.st.now.store in
    answers_ok c.args.st.now c.set_method.new.st (Gives Nil) (λ w. alias_method w c.args.class c.args.alias c.args.name)
    (world.gives Nil) (with_method st c.args.class c.args.alias c.in-Some.found.method c.in-Some.found.visibility)
    (λ w. ap (alias_found (world.with_store w st) c.args.class c.args.alias c.args.name)
    (sym c.in-Some.ensures.found)) refl
    c.in_ok-set_method-in-Some.ensures.ok tt c.in_ok-set_method-in-Some.ensures.keeps

pub returns-in-None : goal.returns-in-None
unfolding alias_method
returns-in-None c = answers_alike c.args.st.now c.fail.new.st c.fail.result
    (λ w. world.fail w (cause.UndefinedInClass c.args.name c.args.class))
    (λ w. alias_method w c.args.class c.args.alias c.args.name)
    (λ w. ap (alias_found (world.with_store w c.args.st.now.store) c.args.class c.args.alias c.args.name)
    (sym c.in-None.ensures.found)) c.fail.ensures
