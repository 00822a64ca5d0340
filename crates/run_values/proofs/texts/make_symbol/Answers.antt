use Rattle.std.proofs.Common.{◌≡◌, ℕ, List, ap, sym, ◌∙◌}
use Rattle.std.specs.Prelude.{Some}
use Rattle.rb_value.specs.declared.value.Value.TheVariants.{Sym}
use Rattle.rb_value.specs.declared.value.SymId.{SymId}
use Rattle.def_core.specs.Changes.{intern}
use Rattle.def_calls.specs.World as world
use Rattle.def_calls.specs.Views.{string_of, kind_in}
use Rattle.def_calls.specs.Values.{make_symbol, intern_bytes}
use Rattle.run_values.specs.declared.given.Given.TheVariants.{Gives}
use Rattle.run_values.proofs.Answered.{answers_ok, answers_failed}
use Rattle.run_values.proofs.Strings.{string_there}
use Rattle.run_values.proofs.texts.make_symbol.Goals as goal

pub returns-in_err-symbol-in-Some : goal.returns-in_err-symbol-in-Some
returns-in_err-symbol-in-Some c = answers_failed _ _ _ _ c.from_residual-in_err-symbol-in-Some.ensures.0
    (c.in_err-symbol-in-Some.ensures.keeps c.requires.sound)

pub returns-in_ok-symbol-in-Some : goal.returns-in_ok-symbol-in-Some
returns-in_ok-symbol-in-Some c =
    let st = c.args.st.now.store in
    let bytes = c.deref.result.now in
    let is : string_of (kind_in st.objects c.args.value) ≡ Some bytes =
    string_there st.objects c.args.value c.in-Some.id (sym c.in-Some.ensures.object)
    ∙ ap (λ (t : List ℕ). Some t) (sym (c.deref.ensures.value ∙ c.in_ok-name-in-Some.ensures.items ∙ c.text.ensures)) in
    answers_ok c.args.st.now c.intern.new.self (Gives (Sym c.in_ok-symbol-in-Some.symbol)) (λ w. make_symbol w c.args.value)
    (world.gives (Sym (intern st bytes).symbol)) (intern st bytes).store
    (λ w. ap (intern_bytes (world.with_store w st)) is) (ap (λ (s : SymId). world.gives
    (Sym s)) c.in_ok-symbol-in-Some.ensures.symbol)
    c.in_ok-symbol-in-Some.ensures.ok (record { below = c.in_ok-symbol-in-Some.ensures.within })
    (c.in_ok-symbol-in-Some.ensures.keeps c.requires.sound)
