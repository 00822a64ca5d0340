-- A new singleton class of an object.
use Rattle.std.proofs.Common.{◌≡◌, length, refl, ap, sym, ◌∙◌, subst}
use Rattle.std.specs.Prelude.{Some}
use Rattle.rb_value.specs.declared.value.ObjId.{ObjId}
use Rattle.rb_value.specs.Object.{Object}
use Rattle.rb_value.specs.declared.kind.ClassContents.{ClassContents}
use Rattle.rb_value.specs.declared.kind.ClassForm.TheVariants as form
use Rattle.rb_value.specs.declared.kind.Kind.TheVariants as kind
use Rattle.rb_value.specs.declared.core_class.CoreClass.TheVariants as class
use Rattle.def_core.specs.Store.{Store, core, fresh}
use Rattle.def_core.specs.Classes.{empty_class}
use Rattle.def_core.specs.Sound.{census, Superclass, Is, SoundObject, Sound}
use Rattle.def_core.proofs.Good.{before_next}
use Rattle.def_core.proofs.Attaching.{singleton_under}
use Rattle.def_core.proofs.Grows.{core_is_class}

-- what is made for a singleton class
pub made_under : (own superclass p : ObjId) (contents : ClassContents) (o : Object) → own ≡ core class.Class
    → contents ≡ empty_class form.Singleton (Some superclass) → o ≡ fresh own (kind.Class contents) → superclass ≡ p
    → o ≡ singleton_under p
made_under own superclass p contents o a b e s =
    e ∙ ap (λ (x : ClassContents). fresh own (kind.Class x)) b
    ∙ ap (λ (x : ObjId). fresh x (kind.Class (empty_class form.Singleton (Some superclass)))) a
    ∙ ap singleton_under s

pub singleton_is_sound : (st : Store) → Sound st → (p : ObjId) (o : Object) → o ≡ singleton_under p
    → Is (census st) Superclass p → SoundObject (census st) (length st.objects) o
singleton_is_sound st sound p o e is = subst (SoundObject (census st) (length st.objects)) (sym e) (record {
  class = core_is_class st sound class.Class refl;
  singleton = tt;
  variables = tt;
  kind = record {
    name = tt;
    superclass = (is, before_next st Superclass p is);
    module_root = λ e. cc;
    included = tt;
    constants = tt;
    methods = tt;
  };
})
