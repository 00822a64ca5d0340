use Rattle.std.proofs.Common.{◌++◌, List, [], ◌∷◌, filter, ap, sym, ◌∙◌, subst}
use Rattle.std.proofs.lemmas.List.{append_assoc}
use Rattle.rb_value.specs.declared.value.ObjId.{ObjId}
use Rattle.def_core.specs.Classes.{lineage}
use Rattle.def_core.specs.Sound.{census, Any, Is, AllAre}
use Rattle.class_model.specs.Singletons.{is_missing}
use Rattle.class_model.proofs.Lineages.{above_is_below}
use Rattle.class_model.proofs.Members.{all_append, all_filter}
use Rattle.class_model.proofs.Making.{missing_above, missing_last, missing_is}
use Rattle.class_model.proofs.singletons.missing.Goals as goal

pub superclasses-preserved : goal.superclasses-preserved
superclasses-preserved c =
    let st = c.args.st.now.store in
    let p = is_missing st.objects in
    let is = c.superclasses.invariant in
    let above = sym c.above.ensures ∙ c.in-Some.is in
    record {
      there = (above_is_below st c.requires.sound c.superclasses.at c.in-Some.superclass is.there above).0;
      all = subst (AllAre (Is (census st) Any)) (sym c.in_ok-push_missing.ensures)
          (all_append (Is (census st) Any) _ _ is.all
          (all_filter (Is (census st) Any) p (c.superclasses.at ∷ []) (is.there, tt)));
      same =
          ap (λ (xs : List ObjId). xs ++ filter p (lineage st.objects c.in-Some.superclass))
          c.in_ok-push_missing.ensures
          ∙ append_assoc c.superclasses.list.items (filter p (c.superclasses.at ∷ []))
          (filter p (lineage st.objects c.in-Some.superclass))
          ∙ ap (λ (xs : List ObjId). c.superclasses.list.items ++ xs)
          (sym (missing_above st c.requires.sound c.superclasses.at c.in-Some.superclass is.there above))
          ∙ is.same;
    }

pub returns-in-None-clause-list : goal.returns-in-None-clause-list
returns-in-None-clause-list c =
    let st = c.args.st.now.store in
    let is = c.superclasses.invariant in
    c.in_ok-push_missing.ensures
    ∙ ap (λ (xs : List ObjId). c.superclasses.list.items ++ xs)
    (sym (missing_last st c.requires.sound c.superclasses.at is.there (sym c.above.ensures ∙ c.in-None.is)))
    ∙ is.same
    ∙ missing_is st c.requires.sound c.args.id c.requires.there

pub returns-in-None-clause-there : goal.returns-in-None-clause-there
returns-in-None-clause-there c =
    let st = c.args.st.now.store in
    let is = c.superclasses.invariant in
    subst (AllAre (Is (census st) Any)) (sym c.in_ok-push_missing.ensures)
    (all_append (Is (census st) Any) _ _ is.all
    (all_filter (Is (census st) Any) (is_missing st.objects) (c.superclasses.at ∷ [])
    (is.there, tt)))
