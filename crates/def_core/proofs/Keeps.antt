-- Changes of the contents of a class keep a store sound.
use Rattle.std.proofs.Common.{◌≡◌, ◌≢◌, ℕ, ◌<◌, List, [], ◌∷◌, ◌++◌, length, get_or, set, true, false, cond, refl, ap, sym, ◌∙◌, subst, arith, length-set}
use Rattle.std.specs.Prelude.{Some, slice_get, nat_eq}
use Rattle.std.proofs.lemmas.List.{get_or-set_same, get_or-set_other}
use Rattle.std.proofs.lemmas.Bool.Decides.{nat_tests}
use Rattle.rb_value.specs.declared.value.Value.{Value}
use Rattle.rb_value.specs.declared.value.ObjId.{ObjId}
use Rattle.rb_value.specs.declared.value.SymId.{SymId}
use Rattle.rb_value.specs.declared.method.Method.{Method}
use Rattle.rb_value.specs.declared.method.MethodEntry.{MethodEntry}
use Rattle.rb_value.specs.declared.method.Visibility.{Visibility}
use Rattle.rb_value.specs.Object.{Object}
use Rattle.rb_value.specs.declared.kind.ClassContents.{ClassContents}
use Rattle.rb_value.specs.declared.kind.Kind.TheVariants as kind
use Rattle.rb_value.specs.declared.kind.Sort.{Sort}
use Rattle.rb_value.specs.CoreClass.{number_of}
use Rattle.rb_value.specs.Sort.{sort_of}
use Rattle.indexmap.specs.IndexMap.{insert_entry}
use Rattle.def_core.specs.Store.{Store, object_at, sort_at, set_object, absent}
use Rattle.def_core.specs.Classes.{class_at, with_class}
use Rattle.def_core.specs.Changes.{with_method, with_default, with_constant, visibility_for}
use Rattle.def_core.specs.Sound.{sorts_of, census, Census, SingletonClass, ClassOrModule, Is, IsGood, IsSymbol, IsValue, AllAre, SoundConstant, SoundMethod, SoundEntry, SoundClass, SoundObject, Sound}
use Rattle.def_core.proofs.Sorts.{sorts-set, same_class_sort}
use Rattle.def_core.proofs.Roles.{is_plays, sound_class}
use Rattle.def_core.proofs.Good.{good_within, is_good, good_object}

-- what holds of each member still holds where one is replaced
each_still : (P : ℕ → Object → Type 0) (xs : List Object) (i : ℕ) (o : Object) → i < length xs → P i o → (n : ℕ)
    → P n (get_or xs n absent) → P n (get_or (set xs i o) n absent)
each_still P xs i o within new n old = elim (nat_eq n i) as (λ b. nat_eq n i ≡ b → P n (get_or (set xs i o) n absent)) [
  | true ↦ λ e. let same : i ≡ n = grind (arith, nat_tests, e) in
      subst (λ (k : ℕ). P k (get_or (set xs i o) k absent)) same
      (subst (P i) (sym (get_or-set_same xs i o absent within)) new)
  | false ↦ λ e. let other : n ≢ i = grind (arith, nat_tests, e) in
      subst (P n) (sym (get_or-set_other xs i n o absent other)) old
] refl

-- an object of the same sort that is sound in the place of another
pub sound_with_set : (st : Store) → Sound st → (id : ObjId) (o : Object) → IsGood st id
    → sort_of o.kind ≡ sort_at st.objects id
    → SoundObject (census st) id.0 o → Sound (record st { objects = set_object st.objects id o })
sound_with_set st sound id o good sort new =
    let same : sorts_of (set_object st.objects id o) ≡ sorts_of st.objects = sorts-set st.objects id o sort in
    record {
      objects = λ n h. subst (λ (ss : List Sort). SoundObject (record { sorts = ss; symbols = length st.symbols }) n
          (get_or (set_object st.objects id o) n absent)) (sym same)
          (each_still (SoundObject (census st)) st.objects id.0 o (good_within st id good) new n (sound.objects n (rw length-set at h)));
      core = λ q. ap (λ (ss : List Sort). slice_get ss (number_of q)) same ∙ sound.core q;
    }

pub sound_with_class : (st : Store) → Sound st → (c : ObjId) (k : ClassContents) → Is (census st) ClassOrModule c
    → k.form ≡ (class_at st.objects c).form
    → SoundClass (census st) c.0 k → Sound (record st { objects = with_class st.objects c k })
sound_with_class st sound c k is form new =
    let good = is_good st ClassOrModule c is in
    let old = good_object st sound c good in
    sound_with_set st sound c (record (object_at st.objects c) { kind = kind.Class k }) good
    (same_class_sort st.objects c k (is_plays st ClassOrModule c is) form)
    (record { class = old.class; singleton = old.singleton; variables = old.variables; kind = new })

-- an object gets a singleton class
pub sound_with_singleton : (st : Store) → Sound st → (id s : ObjId) → IsGood st id
    → Is (census st) SingletonClass s
    → Sound (record st { objects = set_object st.objects id (record (object_at st.objects id) { singleton = Some s }) })
sound_with_singleton st sound id s good is =
    let old = good_object st sound id good in
    sound_with_set st sound id (record (object_at st.objects id) { singleton = Some s }) good refl
    (record { class = old.class; singleton = is; variables = old.variables; kind = old.kind })

-- what stands under the name of a symbol
abbrev pub IsNamed : {A : Type 0} → Census → (A → Type 0) → ℕ × A → Type 0
IsNamed k P e = (e.0 < k.symbols) × P e.1

pub named_kept : {A : Type 0} (k : Census) (P : A → Type 0) (table : List (ℕ × A)) (n : ℕ) (x : A)
    → AllAre (IsNamed k P) table → IsNamed k P (n, x) → AllAre (IsNamed k P) (insert_entry nat_eq table n x)
named_kept k P [] n x all new = (new, tt)
named_kept k P (e ∷ es) n x all new = elim (nat_eq n e.0) as
    (λ b. AllAre (IsNamed k P) (cond b ((e.0, x) ∷ es) (e ∷ insert_entry nat_eq es n x))) [
      | true ↦ ((all.0.0, new.1), all.1)
      | false ↦ (all.0, named_kept k P es n x all.1 new)
    ]

pub sound_with_method : (st : Store) → Sound st → (c : ObjId) (name : SymId) (m : Method) (v : Visibility)
    → Is (census st) ClassOrModule c → IsSymbol (census st) name
    → SoundMethod (census st) m → Sound (with_method st c name m v)
unfolding with_method
sound_with_method st sound c name m v is symbol method =
    let old = sound_class st sound c is in
    sound_with_class st sound c _ is refl (record {
      name = old.name;
      superclass = old.superclass;
      module_root = old.module_root;
      included = old.included;
      constants = old.constants;
      methods = named_kept (census st) (λ e. SoundMethod (census st) e.method) (class_at st.objects c).methods name.0
          (record { method = m; visibility = visibility_for st name v }) old.methods (symbol.below, method);
    })

pub sound_with_default : (st : Store) → Sound st → (c : ObjId) (v : Visibility) → Is (census st) ClassOrModule c
    → Sound (record st { objects = with_default st.objects c v })
unfolding with_default
sound_with_default st sound c v is =
    let old = sound_class st sound c is in
    sound_with_class st sound c _ is refl (record {
      name = old.name;
      superclass = old.superclass;
      module_root = old.module_root;
      included = old.included;
      constants = old.constants;
      methods = old.methods;
    })

-- a constant that is one of the store
pub sound_with_constant : (st : Store) → Sound st → (c : ObjId) (name : SymId) (v : Value)
    → Is (census st) ClassOrModule c → IsSymbol (census st) name → IsValue (census st) v
    → Sound (record st { objects = with_constant st.objects c name v })
sound_with_constant st sound c name v is symbol value =
    let old = sound_class st sound c is in
    sound_with_class st sound c _ is refl (record {
      name = old.name;
      superclass = old.superclass;
      module_root = old.module_root;
      included = old.included;
      constants = named_kept (census st) (IsValue (census st)) (class_at st.objects c).constants name.0 v
          old.constants (symbol.below, value);
      methods = old.methods;
    })
