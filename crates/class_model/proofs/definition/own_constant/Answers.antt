use Rattle.std.proofs.Common.{ℕ, List, ap, sym, ◌∙◌, subst}
use Rattle.rb_value.specs.Object.{Object}
use Rattle.rb_value.specs.declared.value.Value.{Value}
use Rattle.rb_value.specs.declared.kind.ClassContents.{ClassContents}
use Rattle.rb_value.specs.declared.kind.Kind.{Kind}
use Rattle.rb_value.specs.KindRef.{seen}
use Rattle.def_core.specs.Classes.{contents_of}
use Rattle.def_core.specs.Changes.{constant_in}
use Rattle.def_core.specs.Sound.{census, IsValue, OptionIs}
use Rattle.class_model.proofs.Constants.{own_is_value}
use Rattle.class_model.proofs.definition.own_constant.Goals as goal

pub returns-in-Class-clause-there : goal.returns-in-Class-clause-there
returns-in-Class-clause-there c =
    let st = c.args.st.now.store in
    let class = ap (λ (k : Kind). (contents_of k).constants)
    (sym (ap (λ (o : Object). o.kind) c.get.ensures) ∙ sym c.kind.ensures ∙ ap seen c.in-Class.is) in
    let own = ap (λ (k : ClassContents). constant_in k.constants c.args.name) c.get-in-Class.ensures in
    let value = c.constant_in.ensures ∙ own
    ∙ ap (λ (ks : List (ℕ × Value)). constant_in ks c.args.name) (sym class) in
    subst (OptionIs (IsValue (census st))) (sym value)
    (own_is_value st c.requires.sound c.args.class c.args.name c.requires.class)
