-- A class or module that is taken out of a store, gets a name and is put back.
use Rattle.std.proofs.Common.{◌≡◌, List, refl, ap, sym, ◌∙◌, subst}
use Rattle.std.proofs.lemmas.List.{set-set}
use Rattle.std.specs.Prelude.{Option, Some, None, true, false, not, is_some}
use Rattle.rb_value.specs.declared.value.ObjId.{ObjId}
use Rattle.rb_value.specs.declared.value.SymId.{SymId}
use Rattle.rb_value.specs.declared.kind.ClassForm.{ClassForm}
use Rattle.rb_value.specs.declared.kind.Kind.TheVariants as kind
use Rattle.rb_value.specs.Object.{Object}
use Rattle.rb_value.specs.Sort.{sort_of}
use Rattle.def_core.specs.Store.{Store, fresh, object_at, set_object, sort_at}
use Rattle.def_core.specs.Classes.{class_at, empty_class, with_class}
use Rattle.def_core.specs.Sound.{census, ClassOrModule, Is, IsSymbol, SoundObject, Sound}
use Rattle.def_core.proofs.Roles.{is_plays, sound_class}
use Rattle.def_core.proofs.Good.{role_object}
use Rattle.def_core.proofs.Sorts.{same_class_sort}
use Rattle.def_core.proofs.Grows.{object_grows}
use Rattle.rb_store.specs.Held.{Held}
use Rattle.rb_store.specs.Keeps.{Keeps}
use Rattle.rb_store.proofs.Keeping.{keeps_then}
use Rattle.def_calls.specs.Constants.{name_if_nameless}

abbrev pub stand_in : ObjId → ClassForm → Object
stand_in class f = fresh class (kind.Class (empty_class f None))

-- the class or module with a name
abbrev pub named : List Object → ObjId → SymId → Object
named objects c name = record (object_at objects c) {
  kind = kind.Class (record
      (class_at objects c) { name = Some name });
}

pub stands_in : (st : Store) (c : ObjId) (f : ClassForm) → Is (census st) ClassOrModule c
    → f ≡ (class_at st.objects c).form
    → sort_of (stand_in (object_at st.objects c).class f).kind ≡ sort_at st.objects c
stands_in st c f is e = same_class_sort st.objects c (empty_class f None) (is_plays st ClassOrModule c is) e

pub stand_in_sound : (st : Store) → Sound st → (c : ObjId) (f : ClassForm) → Is (census st) ClassOrModule c
    → SoundObject (census st) c.0 (stand_in (object_at st.objects c).class f)
stand_in_sound st sound c f is = record {
  class = (role_object st sound ClassOrModule c is).class;
  singleton = tt;
  variables = tt;
  kind = record { name = tt; superclass = tt; module_root = λ _. refl; included = tt; constants = tt; methods = tt };
}

pub named_sort : (st : Store) (c : ObjId) (name : SymId) → Is (census st) ClassOrModule c
    → sort_of (named st.objects c name).kind ≡ sort_at st.objects c
named_sort st c name is =
    same_class_sort st.objects c (record (class_at st.objects c) { name = Some name })
    (is_plays st ClassOrModule c is) refl

pub named_sound : (st : Store) → Sound st → (c : ObjId) (name : SymId) → Is (census st) ClassOrModule c
    → IsSymbol (census st) name → SoundObject (census st) c.0 (named st.objects c name)
named_sound st sound c name is symbol =
    let old = role_object st sound ClassOrModule c is in
    let own = sound_class st sound c is in
    record {
      class = old.class;
      singleton = old.singleton;
      variables = old.variables;
      kind = record {
        name = symbol;
        superclass = own.superclass;
        module_root = own.module_root;
        included = own.included;
        constants = own.constants;
        methods = own.methods;
      };
    }

-- taken out and put back
pub renamed_store : (a b d : Store) (c : ObjId) (other object : Object) (name : SymId)
    → b ≡ record a { objects = set_object a.objects c other } → d ≡ record b { objects = set_object b.objects c object }
    → object ≡ named a.objects c name
    → d ≡ record a { objects = with_class a.objects c (record (class_at a.objects c) { name = Some name }) }
renamed_store a b d c other object name out back is =
    back
    ∙ ap (λ (s : Store). let t : Store = record s { objects = set_object s.objects c object } in t) out
    ∙ ap (λ (os : List Object). let t : Store = record a { objects = os } in t) (set-set a.objects c.0 other object)
    ∙ ap (λ (o : Object). let t : Store = record a { objects = set_object a.objects c o } in t) is

pub renamed_keeps : (a b d : Held) (c : ObjId) (object : Object) (name : SymId) → Sound a.store
    → Is (census a.store) ClassOrModule c → IsSymbol (census a.store) name → object ≡ named a.store.objects c name
    → Keeps a b → (Sound b.store → SoundObject (census b.store) c.0 object → Keeps b d) → Keeps a d
renamed_keeps a b d c object name sound is symbol e out back =
    keeps_then a b d out (back out.sound (object_grows _ _ out.extends c.0 object
    (subst (SoundObject (census a.store) c.0) (sym e) (named_sound a.store sound c name is symbol))))

-- the store with a name of a class or module
abbrev pub with_name : Store → ObjId → SymId → Store
with_name st c name = record st {
  objects = with_class st.objects c (record (class_at st.objects c) { name = Some name });
}

pub nameless : (o : Option SymId) → true ≡ not (is_some o) → o ≡ None
nameless None h = refl
nameless (Some s) h = cc

pub name_stays : (st : Store) (scope : ObjId) (name : SymId) (c : ObjId) (o : Option SymId) → false ≡ not (is_some o)
    → st ≡ name_if_nameless st scope name c o
name_stays st scope name c None h = cc
name_stays st scope name c (Some s) h = refl
