-- What an answer leaves of a store, whatever code makes it.
use Rattle.std.proofs.Common.{◌≡◌, ℕ, ℤ, ◌<◌, List, [], ◌∷◌, ◌++◌, length, map, Bool, true, false, refl, ap, sym, ◌∙◌, arith, length-append, if◌then◌else◌}
use Rattle.std.specs.Prelude.{Option, Some, None}
use Rattle.std.proofs.lemmas.List.{length-map}
use Rattle.rb_value.specs.declared.value.Value.{Value}
use Rattle.rb_value.specs.declared.value.Value.TheVariants.{Nil, True, False, Int, Sym, Obj}
use Rattle.rb_value.specs.declared.value.ObjId.{ObjId}
use Rattle.rb_value.specs.declared.core_class.CoreClass.TheVariants as class
use Rattle.rb_value.specs.declared.kind.Kind.{Kind}
use Rattle.rb_value.specs.declared.kind.Kind.TheVariants as kind
use Rattle.rb_value.specs.declared.kind.RangeContents.{RangeContents}
use Rattle.rb_value.specs.declared.kind.Sort.TheVariants as sort
use Rattle.rb_value.specs.Object.{Object}
use Rattle.rb_value.specs.Sort.{sort_of}
use Rattle.def_core.specs.Store.{Store, Done, absent, object_at, object_number, set_object, sort_at, with_object}
use Rattle.def_core.specs.Classes.{contents_of}
use Rattle.def_core.specs.Changes.{gives, intern}
use Rattle.def_core.specs.Parts.{with_kind, with_objects}
use Rattle.def_core.specs.Sound.{Census, census, Sound, SoundObject, SoundKind, Any, Class, ClassOrModule, Is, IsOutcome, IsValue, AllAre, plays, Extends}
use Rattle.def_core.proofs.Sorts.{sorts-set}
use Rattle.def_core.proofs.Good.{is_good, good_added}
use Rattle.def_core.proofs.PartsSound.{sound_with_kind}
use Rattle.def_core.proofs.Grows.{more_objects, one_more, sound_with_object, sound_with_interned, interned as names_kept, core_is_class, extends_itself, extends_both, same_objects}
use Rattle.rb_store.specs.Counted.{SameLooks, looks_of}
use Rattle.rb_store.proofs.Counted.{same_looks, same_then, one_interned, other_changed}
use Rattle.rb_store.proofs.Keeping.{more_same}
use Rattle.rb_store.proofs.Start.{interned_symbol}
use Rattle.def_rows.specs.Answers.{text_object, items_object, interned, makes, numbered, with_texts, makes_texts}
use Rattle.core_rows.proofs.Texts.{texts_sound, numbered_are}

-- what a call gives and leaves, beside a sound store
pub record Leaves (st : Store) (d : Done) : Type 0 where
  pub sound : Sound d.store
  pub extends : Extends (census st) (census d.store)
  pub looks : SameLooks st d.store
  pub belongs : IsOutcome (census d.store) d.outcome

pub given : (st : Store) → Sound st → (v : Value) → IsValue (census st) v → Leaves st (gives v st)
given st sound v is = record {
  sound = sound;
  extends = extends_itself (census st);
  looks = same_looks st;
  belongs = is;
}

-- New objects.

pub made : (st : Store) → Sound st → (o : Object) → SoundObject (census st) (length st.objects) o → Leaves st (makes st o)
made st sound o new = record {
  sound = sound_with_object st sound o new;
  extends = one_more st o;
  looks = more_same st (o ∷ []);
  belongs = (good_added st o).there;
}

pub text_made : (st : Store) → Sound st → (bytes : List ℕ) → Leaves st (makes st (text_object bytes))
text_made st sound bytes = made st sound _
    (record { class = core_is_class st sound class.String refl; singleton = tt; variables = tt; kind = tt })

pub items_made : (st : Store) → Sound st → (items : List Value) → AllAre (IsValue (census st)) items
    → Leaves st (makes st (items_object items))
items_made st sound items all = made st sound _
    (record { class = core_is_class st sound class.Array refl; singleton = tt; variables = tt; kind = all })

pub range_made : (st : Store) → Sound st → (c : ObjId) (r : RangeContents) → Is (census st) Class c
    → Leaves st (makes st (record { class = c; singleton = None; variables = []; kind = kind.Range r }))
range_made st sound c r is = made st sound _ (record { class = is; singleton = tt; variables = tt; kind = tt })

pub string_made : (st : Store) → Sound st → (c : ObjId) (bytes : List ℕ) → Is (census st) Class c
    → Leaves st (makes st (record { class = c; singleton = None; variables = []; kind = kind.String bytes }))
string_made st sound c bytes is = made st sound _ (record { class = is; singleton = tt; variables = tt; kind = tt })

pub symbol_made : (st : Store) → Sound st → (name : List ℕ) → Leaves st (interned (intern st name))
symbol_made st sound name = record {
  sound = sound_with_interned st sound name;
  extends = names_kept st name;
  looks = one_interned st name;
  belongs = interned_symbol st name;
}

pub texts_made : (st : Store) → Sound st → (texts : List (List ℕ)) → Leaves st (makes_texts st texts)
texts_made st sound texts =
    let all = numbered_are st (map text_object texts) (length texts) (omega (arith, length-map texts text_object)) in
    let k = items_made (with_texts st texts) (texts_sound st sound texts) (numbered (length st.objects) (length texts)) all in
    record {
      sound = k.sound;
      extends = extends_both _ _ _ (more_objects st _) k.extends;
      looks = same_then _ _ _ (more_same st _) k.looks;
      belongs = k.belongs;
    }

numbers_are : (k : Census) (zs : List ℤ) → AllAre (IsValue k) (map Int zs)
numbers_are k [] = tt
numbers_are k (z ∷ zs) = (tt, numbers_are k zs)

pub numbers_made : (st : Store) → Sound st → (zs : List ℤ) → Leaves st (makes st (items_object (map Int zs)))
numbers_made st sound zs = items_made st sound (map Int zs) (numbers_are (census st) zs)

-- An object that is no class with other contents of its sort.

pub changed : (st : Store) → Sound st → (id : ObjId) → Is (census st) Any id → (k : Kind)
    → sort_of k ≡ sort_at st.objects id → plays ClassOrModule (sort_at st.objects id) ≡ false
    → SoundKind (census st) id.0 k → Leaves st (gives (Obj id) (with_objects st (with_kind st.objects id k)))
changed st sound id is k same other new =
    let o : Object = record (object_at st.objects id) { kind = k } in
    let e = same_objects st (set_object st.objects id o) (sorts-set st.objects id o same) in
    record {
      sound = sound_with_kind st sound id k (is_good st Any id is) same new;
      extends = e;
      looks = other_changed st id o same other;
      belongs = e.roles Any id is;
    }
