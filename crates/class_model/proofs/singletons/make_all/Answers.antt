use Rattle.std.proofs.Common.{◌-◌, List, get_or, arith, refl, sym, ap, ◌∙◌}
use Rattle.rb_value.specs.Object.{Object}
use Rattle.def_core.specs.Store.{Store, object_number}
use Rattle.def_core.specs.Sound.{census, Any, Is}
use Rattle.rb_store.proofs.Keeping.{keeps_itself, keeps_then}
use Rattle.class_model.specs.Singletons.{with_new_singleton}
use Rattle.class_model.proofs.Members.{all_at}
use Rattle.class_model.proofs.Making.{make_none, make_before}
use Rattle.class_model.proofs.singletons.make_all.Goals as goal

pub ids-init : goal.ids-init
ids-init c = record {
  within = omega arith;
  made = sym (ap (λ (xs : List Object). record c.args.st.now.store { objects = xs })
      (make_none c.args.st.now.store.objects c.args.ids.now));
  keeps = keeps_itself c.args.st.now c.args.st.now c.requires.sound refl;
}

pub attach-requires-clause-sound : goal.attach-requires-clause-sound
attach-requires-clause-sound c = c.ids.invariant.keeps.sound

pub attach-requires-clause-there : goal.attach-requires-clause-there
attach-requires-clause-there c =
    c.ids.invariant.keeps.extends.roles Any (get_or c.args.ids.now (c.ids.left - 1) (object_number 0))
    (all_at (Is (census c.args.st.now.store) Any) c.args.ids.now (c.ids.left - 1) (object_number 0)
    c.requires.there (omega (arith, c.ids-test.true, c.ids.invariant.within)))

pub ids-preserved : goal.ids-preserved
ids-preserved c = record {
  within = omega (arith, c.ids.invariant.within);
  made =
      c.in_ok-attach.ensures.ok
      ∙ ap (λ (s : Store). record s {
        objects =
            with_new_singleton s.objects (get_or c.args.ids.now (c.ids.left - 1) (object_number 0));
      })
      c.ids.invariant.made
      ∙ ap (λ (xs : List Object). record c.args.st.now.store { objects = xs })
      (sym (make_before c.args.st.now.store.objects c.args.ids.now c.ids.left (object_number 0) c.ids-test.true
      c.ids.invariant.within));
  keeps = keeps_then c.args.st.now c.ids.st c.attach.new.st c.ids.invariant.keeps c.in_ok-attach.ensures.keeps;
}
