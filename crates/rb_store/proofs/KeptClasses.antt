-- Each change of one part of a class or module keeps a store, where what is put in belongs to it.
use Rattle.std.proofs.Common.{◌≡◌, ℕ, ◌<◌, List, [], ◌∷◌, ◌++◌, length, true, refl, ap, sym, ◌∙◌, subst, arith, length-append}
use Rattle.std.specs.Prelude.{Some}
use Rattle.rb_value.specs.declared.value.Value.{Value}
use Rattle.rb_value.specs.declared.value.ObjId.{ObjId}
use Rattle.rb_value.specs.declared.value.SymId.{SymId}
use Rattle.rb_value.specs.declared.method.Method.{Method}
use Rattle.rb_value.specs.declared.method.Visibility.{Visibility}
use Rattle.rb_value.specs.declared.kind.Sort.TheVariants as sort
use Rattle.rb_value.specs.Object.{Object}
use Rattle.rb_value.specs.Sort.{sort_of}
use Rattle.def_core.specs.Store.{Store, absent, object_at, sort_at, set_object, next_number, with_object}
use Rattle.def_core.specs.Classes.{class_at, with_class}
use Rattle.def_core.specs.Changes.{with_method, with_default, with_constant, intern}
use Rattle.def_core.specs.Parts.{with_objects, with_singleton_class}
use Rattle.def_core.specs.Sound.{census, sorts_of, Module, SingletonClass, ClassOrModule, plays, Is, IsGood, IsSymbol, IsValue, AllAre, SoundMethod, SoundObject, Sound, Extends}
use Rattle.def_core.proofs.Sorts.{sorts-set, sorts-with_class, sorts-with_method}
use Rattle.def_core.proofs.Roles.{sound_class}
use Rattle.def_core.proofs.Good.{good_within, good_still, has_role}
use Rattle.def_core.proofs.Grows.{same_objects, one_more, new_role, extends_both, sound_with_object, interned, sound_with_interned}
use Rattle.def_core.proofs.Keeps.{sound_with_set, sound_with_class, sound_with_method, sound_with_default, sound_with_constant, sound_with_singleton}
use Rattle.rb_store.specs.Held.{Held}
use Rattle.rb_store.specs.Counted.{IsCounted}
use Rattle.rb_store.specs.Keeps.{Keeps}
use Rattle.rb_store.proofs.Counted.{interned_counted}
use Rattle.rb_store.proofs.Attached.{attached}

-- a store that is sound, has what was there, and is counted
pub keeps_by : (h g : Held) (st : Store) → Sound st → Extends (census h.store) (census st) → IsCounted h g
    → g.store ≡ st → Keeps h g
keeps_by h g st sound extends counted e = record {
  sound = subst Sound (sym e) sound;
  extends = subst (λ (s : Store). Extends (census h.store) (census s)) (sym e) extends;
  counted = counted;
}

-- an object of the same sort in the place of another
pub keeps_other : (h g : Held) (id : ObjId) (o : Object) → Sound h.store → IsGood h.store id
    → sort_of o.kind ≡ sort_at h.store.objects id → SoundObject (census h.store) id.0 o → IsCounted h g
    → g.store ≡ record h.store { objects = set_object h.store.objects id o } → Keeps h g
keeps_other h g id o sound good same is counted e =
    keeps_by h g _ (sound_with_set h.store sound id o good same is)
    (same_objects h.store _ (sorts-set h.store.objects id o same)) counted e

pub keeps_interned : (h g : Held) (name : List ℕ) → Sound h.store → g.store ≡ (intern h.store name).store
    → g.changes ≡ h.changes → Keeps h g
keeps_interned h g name sound s e =
    keeps_by h g _ (sound_with_interned h.store sound name) (interned h.store name) (interned_counted h g name s e) s

module _ (h g : Held) (sound : Sound h.store) (c : ObjId) (good : IsGood h.store c)
    (is : plays ClassOrModule (sort_at h.store.objects c) ≡ true) where
  pub keeps_method : (name : SymId) (m : Method) (v : Visibility) → name.0 < length h.store.symbols
      → SoundMethod (census h.store) m → IsCounted h g → g.store ≡ with_method h.store c name m v → Keeps h g
  unfolding with_method
  keeps_method name m v symbol right counted e =
      keeps_by h g _
      (sound_with_method h.store sound c name m v (has_role h.store ClassOrModule c good is)
      (record { below = symbol }) right)
      (same_objects h.store _ (sorts-with_class h.store.objects c _ is refl)) counted e

  pub keeps_default : (v : Visibility) → IsCounted h g
      → g.store ≡ record h.store { objects = with_default h.store.objects c v } → Keeps h g
  unfolding with_default
  keeps_default v counted e =
      keeps_by h g _
      (sound_with_default h.store sound c v (has_role h.store ClassOrModule c good is))
      (same_objects h.store _ (sorts-with_class h.store.objects c _ is refl)) counted e

  pub keeps_constant : (name : SymId) (v : Value) → IsSymbol (census h.store) name → IsValue (census h.store) v
      → IsCounted h g → g.store ≡ record h.store { objects = with_constant h.store.objects c name v } → Keeps h g
  keeps_constant name v symbol right counted e =
      keeps_by h g _
      (sound_with_constant h.store sound c name v (has_role h.store ClassOrModule c good is) symbol right)
      (same_objects h.store _ (sorts-with_class h.store.objects c _ is refl)) counted e

  pub keeps_included : (included : List ObjId) → AllAre (Is (census h.store) Module) included → IsCounted h g
      → g.store ≡ record h.store {
        objects = with_class h.store.objects c
            (record (class_at h.store.objects c) { included = included });
      } → Keeps h g
  keeps_included included all counted e =
      let there = has_role h.store ClassOrModule c good is in
      let old = sound_class h.store sound c there in
      keeps_by h g _
      (sound_with_class h.store sound c (record (class_at h.store.objects c) { included = included }) there refl
      (record {
        name = old.name;
        superclass = old.superclass;
        module_root = old.module_root;
        included = all;
        constants = old.constants;
        methods = old.methods;
      }))
      (same_objects h.store _ (sorts-with_class h.store.objects c _ is refl)) counted e

-- A singleton class after the other objects.

module _ (st : Store) (id : ObjId) (class : Object) (good : IsGood st id) where
  abbrev longer : Store
  longer = with_object st class

  abbrev held : Object
  held = record (object_at longer.objects id) { singleton = Some (next_number st) }

  abbrev after : Store
  after = with_objects st (with_singleton_class st.objects id class)

  same_after : record longer { objects = set_object longer.objects id held } ≡ after
  same_after = ap (with_objects st) (attached st.objects id class (good_within st id good))

  inside : IsGood longer id
  inside = good_still st longer (one_more st class) id good

  singleton_extends : Extends (census st) (census after)
  singleton_extends = subst (λ (s : Store). Extends (census st) (census s)) same_after
      (extends_both (census st) (census longer) (census (record longer { objects = set_object longer.objects id held }))
      (one_more st class) (same_objects longer _ (sorts-set longer.objects id held refl)))

  singleton_sound : Sound st → sort_of class.kind ≡ sort.Singleton → SoundObject (census st) (length st.objects) class
      → Sound after
  singleton_sound sound is right = subst Sound same_after
      (sound_with_singleton longer (sound_with_object st sound class right) id (next_number st) inside
      (new_role st class SingletonClass (ap (plays SingletonClass) is)))

pub keeps_singleton : (h g : Held) (id : ObjId) (class : Object) → Sound h.store → IsGood h.store id
    → sort_of class.kind ≡ sort.Singleton → SoundObject (census h.store) (length h.store.objects) class → IsCounted h g
    → g.store ≡ record h.store { objects = with_singleton_class h.store.objects id class } → Keeps h g
keeps_singleton h g id class sound good is right counted e =
    keeps_by h g _ (singleton_sound h.store id class good sound is right)
    (singleton_extends h.store id class good) counted e
