-- A class or module that is taken out of a store, loses a method and is put back.
use Rattle.std.proofs.Common.{◌≡◌, ℕ, List, [], ◌∷◌, true, false, cond, refl, ap, sym, ◌∙◌, subst}
use Rattle.std.proofs.lemmas.List.{set-set}
use Rattle.std.specs.Prelude.{nat_eq}
use Rattle.std.specs.Map.{remove_entry}
use Rattle.rb_value.specs.declared.value.ObjId.{ObjId}
use Rattle.rb_value.specs.declared.value.SymId.{SymId}
use Rattle.rb_value.specs.declared.kind.Kind.TheVariants as kind
use Rattle.rb_value.specs.declared.method.MethodEntry.{MethodEntry}
use Rattle.rb_value.specs.MethodTable.{without_entry}
use Rattle.rb_value.specs.Object.{Object}
use Rattle.def_core.specs.Store.{Store, object_at, set_object}
use Rattle.def_core.specs.Classes.{class_at, with_class}
use Rattle.def_core.specs.Sound.{census, Census, AllAre, ClassOrModule, Is, SoundEntry, SoundObject, Sound}
use Rattle.def_core.proofs.Roles.{sound_class}
use Rattle.def_core.proofs.Good.{role_object}
use Rattle.def_core.proofs.Grows.{object_grows}
use Rattle.rb_store.specs.Held.{Held}
use Rattle.rb_store.specs.Keeps.{Keeps}
use Rattle.rb_store.proofs.Keeping.{keeps_then}

-- the class or module without a method
abbrev pub robbed : List Object → ObjId → SymId → Object
robbed objects c name = record (object_at objects c) {
  kind = kind.Class (record
      (class_at objects c) { methods = without_entry (class_at objects c).methods name });
}

entries_left : (k : Census) (table : List (ℕ × MethodEntry)) (n : ℕ) → AllAre (SoundEntry k) table
    → AllAre (SoundEntry k) (remove_entry (nat_eq n) table)
entries_left k [] n h = tt
entries_left k (e ∷ es) n h = elim (nat_eq n e.0) as
    (λ b. AllAre (SoundEntry k) (cond b es (e ∷ remove_entry (nat_eq n) es))) [
      | true ↦ h.1
      | false ↦ (h.0, entries_left k es n h.1)
    ]

robbed_sound : (st : Store) → Sound st → (c : ObjId) (name : SymId) → Is (census st) ClassOrModule c
    → SoundObject (census st) c.0 (robbed st.objects c name)
robbed_sound st sound c name is =
    let old = role_object st sound ClassOrModule c is in
    let own = sound_class st sound c is in
    record {
      class = old.class;
      singleton = old.singleton;
      variables = old.variables;
      kind = record {
        name = own.name;
        superclass = own.superclass;
        module_root = own.module_root;
        included = own.included;
        constants = own.constants;
        methods = entries_left (census st) (class_at st.objects c).methods name.0 own.methods;
      };
    }

-- taken out and put back
pub robbed_store : (a b d : Store) (c : ObjId) (other object : Object) (name : SymId)
    → b ≡ record a { objects = set_object a.objects c other } → d ≡ record b { objects = set_object b.objects c object }
    → object ≡ robbed a.objects c name
    → d ≡ record a {
      objects = with_class a.objects c
          (record (class_at a.objects c) { methods = without_entry (class_at a.objects c).methods name });
    }
robbed_store a b d c other object name out back is =
    back
    ∙ ap (λ (s : Store). let t : Store = record s { objects = set_object s.objects c object } in t) out
    ∙ ap (λ (os : List Object). let t : Store = record a { objects = os } in t) (set-set a.objects c.0 other object)
    ∙ ap (λ (o : Object). let t : Store = record a { objects = set_object a.objects c o } in t) is

pub robbed_keeps : (a b d : Held) (c : ObjId) (object : Object) (name : SymId) → Sound a.store
    → Is (census a.store) ClassOrModule c → object ≡ robbed a.store.objects c name
    → Keeps a b → (Sound b.store → SoundObject (census b.store) c.0 object → Keeps b d) → Keeps a d
robbed_keeps a b d c object name sound is e out back =
    keeps_then a b d out (back out.sound (object_grows _ _ out.extends c.0 object
    (subst (SoundObject (census a.store) c.0) (sym e) (robbed_sound a.store sound c name is))))
