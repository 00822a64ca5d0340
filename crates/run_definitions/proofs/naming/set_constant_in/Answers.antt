use Rattle.std.proofs.Common.{refl, ap, ◌∙◌}
use Rattle.def_core.specs.Store.{Store}
use Rattle.def_core.specs.Changes.{object_of_sort}
use Rattle.def_core.specs.Sound.{census, ClassOrModule}
use Rattle.def_core.proofs.Roles.{is_plays}
use Rattle.def_core.proofs.Good.{is_good}
use Rattle.def_core.proofs.Grows.{value_grows}
use Rattle.rb_store.proofs.Keeping.{keeps_itself, keeps_then}
use Rattle.class_model.proofs.Kept.{kept_symbol}
use Rattle.def_calls.specs.World as world
use Rattle.def_calls.specs.Constants.{set_constant_in, with_constant_value, with_name_of, is_space_sort}
use Rattle.run_values.specs.declared.given.Given.TheVariants.{Gives}
use Rattle.run_values.proofs.Answered.{answers_ok, answers_failed}
use Rattle.run_definitions.proofs.naming.set_constant_in.Goals as goal

pub put_constant-requires-clause-there : goal.put_constant-requires-clause-there
put_constant-requires-clause-there c = is_good c.name_value.new.st.store ClassOrModule c.args.scope
    (c.in_ok-name_value.ensures.keeps.extends.roles ClassOrModule c.args.scope c.requires.scope)

pub put_constant-requires-clause-is_class : goal.put_constant-requires-clause-is_class
put_constant-requires-clause-is_class c = is_plays c.name_value.new.st.store ClassOrModule c.args.scope
    (c.in_ok-name_value.ensures.keeps.extends.roles ClassOrModule c.args.scope c.requires.scope)

pub returns-in_err-put_constant : goal.returns-in_err-put_constant
returns-in_err-put_constant c = answers_failed _ _ _ _ c.from_residual-in_err-put_constant.ensures.0
    (keeps_then c.args.st.now c.name_value.new.st _ c.in_ok-name_value.ensures.keeps
    (keeps_itself c.name_value.new.st _ c.in_ok-name_value.ensures.keeps.sound c.in_err-put_constant.ensures.err))

pub returns : goal.returns
unfolding set_constant_in
returns c =
    let before = c.args.st.now in
    let mid = c.name_value.new.st in
    let first = c.in_ok-name_value.ensures.keeps in
    let put = c.in_ok-put_constant.ensures.keeps first.sound
    (kept_symbol before mid c.args.name first c.requires.name)
    (value_grows (census before.store) (census mid.store) first.extends c.args.value c.requires.value) in
    let all = keeps_then before mid c.put_constant.new.self first put in
    answers_ok before c.put_constant.new.self (Gives c.args.value)
    (λ w. set_constant_in w c.args.scope c.args.name c.args.value) (world.gives c.args.value)
    (with_constant_value (with_name_of before.store c.args.scope c.args.name
    (object_of_sort is_space_sort before.store.objects c.args.value)) c.args.scope c.args.name c.args.value)
    (λ w. refl) refl
    (c.in_ok-put_constant.ensures.ok
    ∙ ap (λ (s : Store). with_constant_value s c.args.scope c.args.name c.args.value) c.in_ok-name_value.ensures.ok)
    (value_grows (census before.store) (census c.put_constant.new.self.store) all.extends c.args.value
    c.requires.value) all
