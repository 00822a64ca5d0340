use Rattle.std.proofs.Common.{List, ap, sym, ◌∙◌, subst}
use Rattle.std.specs.Prelude.{Option}
use Rattle.rb_value.specs.declared.value.Value.{Value}
use Rattle.rb_value.specs.declared.value.ObjId.{ObjId}
use Rattle.def_core.specs.Sound.{census, Is, ClassOrModule, AllAre}
use Rattle.class_model.specs.AncestorsLeft.{ancestors_left}
use Rattle.def_calls.specs.Constants.{option_or, first_constant}
use Rattle.run_definitions.proofs.constants.first_constant.Goals as goal

pub own_constant-requires-clause-class : goal.own_constant-requires-clause-class
own_constant-requires-clause-class c =
    (subst (AllAre (Is (census c.args.st.now.store) ClassOrModule)) c.in-Some.ensures.steps c.ancestors.invariant.classes).0

pub returns-in-Some-own_constant-clause-constant : goal.returns-in-Some-own_constant-clause-constant
returns-in-Some-own_constant-clause-constant c =
    let objects = c.args.st.now.store.objects in
    let rest = first_constant objects (ancestors_left c.next.new.self) c.args.name in
    ap (λ (o : Option Value). option_or o rest) c.in-Some-own_constant.ensures.value
    ∙ ap (λ (cs : List ObjId). first_constant objects cs c.args.name) (sym c.in-Some.ensures.steps)
    ∙ c.ancestors.invariant.same

pub ancestors-preserved : goal.ancestors-preserved
ancestors-preserved c =
    let objects = c.args.st.now.store.objects in
    let rest = first_constant objects (ancestors_left c.next.new.self) c.args.name in
    record {
      walk = c.in-Some.ensures.goes.keeps;
      classes =
          (subst (AllAre (Is (census c.args.st.now.store) ClassOrModule)) c.in-Some.ensures.steps
          c.ancestors.invariant.classes).1;
      same =
          ap (λ (o : Option Value). option_or o rest) c.in-None.ensures.value
          ∙ ap (λ (cs : List ObjId). first_constant objects cs c.args.name) (sym c.in-Some.ensures.steps)
          ∙ c.ancestors.invariant.same;
    }
