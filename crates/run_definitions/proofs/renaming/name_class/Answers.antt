use Rattle.std.proofs.Common.{List, ap, sym, ◌∙◌}
use Rattle.rb_value.specs.declared.value.SymId.{SymId}
use Rattle.rb_value.specs.Object.{Object}
use Rattle.def_core.specs.Store.{Store}
use Rattle.def_core.specs.Classes.{class_at}
use Rattle.def_core.specs.Changes.{full_name}
use Rattle.def_core.specs.Sound.{ClassOrModule}
use Rattle.rb_store.proofs.Keeping.{keeps_then}
use Rattle.def_calls.specs.Constants.{name_if_nameless}
use Rattle.run_definitions.proofs.Renamed.{with_name, nameless, name_stays}
use Rattle.run_definitions.proofs.renaming.name_class.Goals as goal

pub put_name-requires-clause-sound : goal.put_name-requires-clause-sound
put_name-requires-clause-sound c = c.in_ok-full-in-Some.ensures.keeps.sound

pub put_name-requires-clause-class : goal.put_name-requires-clause-class
put_name-requires-clause-class c =
    c.in_ok-full-in-Some.ensures.keeps.extends.roles ClassOrModule c.args.class c.requires.class

pub put_name-requires-clause-form : goal.put_name-requires-clause-form
put_name-requires-clause-form c = c.in-Some.ensures.form
    ∙ ap (λ (os : List Object). (class_at os c.args.class).form) (sym c.in_ok-full-in-Some.ensures.objects)

pub returns-in_err-put_name-in-Some-clause-keeps : goal.returns-in_err-put_name-in-Some-clause-keeps
returns-in_err-put_name-in-Some-clause-keeps c =
    keeps_then c.args.st.now c.full_name.new.st _ c.in_ok-full-in-Some.ensures.keeps c.in_err-put_name-in-Some.ensures.keeps

pub returns-in_ok-put_name-in-Some-clause-ok : goal.returns-in_ok-put_name-in-Some-clause-ok
returns-in_ok-put_name-in-Some-clause-ok c =
    let st = c.args.st.now.store in
    let full = full_name st c.args.scope c.args.name in
    c.in_ok-put_name-in-Some.ensures.ok
    ∙ ap (λ (s : Store). with_name s c.args.class c.in_ok-full-in-Some.full) c.in_ok-full-in-Some.ensures.ok
    ∙ ap (λ (x : SymId). with_name full.store c.args.class x) c.in_ok-full-in-Some.ensures.symbol
    ∙ ap (name_if_nameless st c.args.scope c.args.name c.args.class)
    (sym (nameless (class_at st.objects c.args.class).name c.in-Some.ensures.name))

pub returns-in_ok-put_name-in-Some-clause-keeps : goal.returns-in_ok-put_name-in-Some-clause-keeps
returns-in_ok-put_name-in-Some-clause-keeps c =
    keeps_then c.args.st.now c.full_name.new.st _ c.in_ok-full-in-Some.ensures.keeps c.in_ok-put_name-in-Some.ensures.keeps

pub returns-in-None-clause-ok : goal.returns-in-None-clause-ok
returns-in-None-clause-ok c = name_stays c.args.st.now.store c.args.scope c.args.name c.args.class
    (class_at c.args.st.now.store.objects c.args.class).name c.in-None.ensures.name
