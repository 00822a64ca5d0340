-- New objects that belong to a sound store.
use Rattle.std.proofs.Common.{◌≡◌, ℕ, ◌<◌, List, [], ◌∷◌, ◌++◌, length, false, refl, arith, length-append}
use Rattle.rb_value.specs.declared.value.Value.{Value}
use Rattle.rb_value.specs.declared.value.Value.TheVariants.{Obj}
use Rattle.rb_value.specs.declared.core_class.CoreClass.TheVariants as class
use Rattle.rb_value.specs.declared.outcome.Failure.{Failure}
use Rattle.rb_value.specs.CoreClass.{is_module}
use Rattle.rb_value.specs.Object.{Object}
use Rattle.def_core.specs.Store.{Store, next_number, with_object}
use Rattle.def_core.specs.Sound.{census, Sound, SoundObject, String, Is, IsValue, AllAre}
use Rattle.def_core.proofs.Grows.{core_is_class}
use Rattle.class_model.proofs.Lineages.{any_of}
use Rattle.def_core.proofs.Good.{good_added}
use Rattle.def_rows.specs.Answers.{items_object, text_object}
use Rattle.def_calls.specs.World.{exception_object}

pub new_is : (st : Store) (o : Object) → IsValue (census (with_object st o)) (Obj (next_number st))
new_is st o = (good_added st o).there

pub items_sound : (st : Store) → Sound st → (vs : List Value) → AllAre (IsValue (census st)) vs
    → SoundObject (census st) (length st.objects) (items_object vs)
items_sound st sound vs all = record {
  class = core_is_class st sound class.Array refl;
  singleton = tt;
  variables = tt;
  kind = all;
}

pub text_sound : (st : Store) → Sound st → (bytes : List ℕ)
    → SoundObject (census st) (length st.objects) (text_object bytes)
text_sound st sound bytes = record {
  class = core_is_class st sound class.String refl;
  singleton = tt;
  variables = tt;
  kind = tt;
}

pub exception_sound : (st : Store) → Sound st → (f : Failure) → is_module f.class ≡ false
    → Is (census st) String f.message → IsValue (census st) f.detail
    → SoundObject (census st) (length st.objects) (exception_object f)
exception_sound st sound f plain message detail = record {
  class = core_is_class st sound f.class plain;
  singleton = tt;
  variables = tt;
  kind = (any_of st String f.message message, detail);
}
