-- What a search for a method or a constant finds in a fine world.
use Rattle.std.proofs.Common.{◌≡◌, ℕ, List, [], ◌∷◌, Bool, true, false, cond, refl, sym, subst}
use Rattle.std.specs.Prelude.{Option, Some, None, nat_eq}
use Rattle.std.specs.Map.{lookup}
use Rattle.rb_value.specs.declared.value.Value.{Value}
use Rattle.rb_value.specs.declared.value.Value.TheVariants.{Nil, True, False, Int, Sym, Obj}
use Rattle.rb_value.specs.declared.value.ObjId.{ObjId}
use Rattle.rb_value.specs.declared.value.SymId.{SymId}
use Rattle.rb_value.specs.declared.method.Visibility.{Visibility}
use Rattle.rb_value.specs.declared.method.Method.{Method}
use Rattle.rb_value.specs.declared.method.Method.TheVariants as method
use Rattle.rb_value.specs.declared.method.MethodEntry.{MethodEntry}
use Rattle.rb_value.specs.Object.{Object}
use Rattle.rb_value.specs.declared.core_class.CoreClass.TheVariants as class
use Rattle.def_core.specs.declared.found.Found.{Found}
use Rattle.def_core.specs.Store.{Store, absent, object_at, sort_at}
use Rattle.def_core.specs.Classes.{contents_of, class_at, chain, nearest_singleton, singletons_from, class_of, plain_class_of}
use Rattle.def_core.specs.Find.{entry_of, found_as, found_or, first_of, find, behind, find_super}
use Rattle.def_core.specs.Changes.{constant_in}
use Rattle.def_core.specs.Sound.{Census, census, Sound, Any, SingletonClass, ClassOrModule, has_object, Is, IsGood, IsValue, IsFound, OptionIs, AllAre, SoundConstant}
use Rattle.def_core.proofs.Good.{good_object, absent_where_none, role_object}
use Rattle.def_core.proofs.Roles.{singleton_is_superclass, superclass_is_class, class_is_superclass}
use Rattle.class_model.proofs.Found.{found_is_sound}
use Rattle.class_model.proofs.Lineages.{core_is_class}
use Rattle.method_lookup.proofs.Supers.{super_is_sound}
use Rattle.def_calls.specs.World.{World}
use Rattle.def_calls.specs.Constants.{option_or, first_constant}
use Rattle.def_calls.specs.Definitions.{super_of}
use Rattle.def_calls.specs.Calls.{find_for}
use Rattle.world_laws.specs.Fine.{Bodies, MethodIs, EntryHas, Fine}
use Rattle.world_laws.specs.Outcomes.{FoundIs}
use Rattle.world_laws.proofs.Holding.{methods_held, constants_by}

-- The class where a search begins.

nearest_some : (objects : List Object) (c : ObjId) (cs : List ObjId) (other s : ObjId)
    → (object_at objects c).singleton ≡ Some s → nearest_singleton objects (c ∷ cs) other ≡ s
unfolding nearest_singleton
nearest_some objects c cs other s h = rw h refl

nearest_none : (objects : List Object) (c : ObjId) (cs : List ObjId) (other : ObjId)
    → (object_at objects c).singleton ≡ None
    → nearest_singleton objects (c ∷ cs) other ≡ nearest_singleton objects cs other
unfolding nearest_singleton
nearest_none objects c cs other h = rw h refl

nearest_end : (objects : List Object) (other : ObjId) → nearest_singleton objects [] other ≡ other
unfolding nearest_singleton
nearest_end objects other = refl

module _ (st : Store) (sound : Sound st) where
  -- an object holds what is right where it is there, and nothing where it isn't
  if_good : (P : Object → Type 0) → P absent → ((id : ObjId) → IsGood st id → P (object_at st.objects id)) → (id : ObjId)
      → P (object_at st.objects id)
  if_good P none some id = by (has_object st.objects id) refl
    where
      by : (c : Bool) → has_object st.objects id ≡ c → P (object_at st.objects id)
      by true e = some id (record { there = record { holds = e } })
      by false e = subst P (sym (absent_where_none st id e)) none

  pub singleton_held : (id : ObjId) → OptionIs (Is (census st) SingletonClass) (object_at st.objects id).singleton
  singleton_held id = if_good (λ o. OptionIs (Is (census st) SingletonClass) o.singleton) tt
      (λ i good. (good_object st sound i good).singleton) id

  nearest_is : (cs : List ObjId) (other : ObjId) → Is (census st) ClassOrModule other
      → Is (census st) ClassOrModule (nearest_singleton st.objects cs other)
  nearest_is [] other is = subst (Is (census st) ClassOrModule) (sym (nearest_end st.objects other)) is
  nearest_is (c ∷ cs) other is = by (object_at st.objects c).singleton refl (singleton_held c) (nearest_is cs other is)
    where
      by : (o : Option ObjId) → (object_at st.objects c).singleton ≡ o → OptionIs (Is (census st) SingletonClass) o
          → Is (census st) ClassOrModule (nearest_singleton st.objects cs other)
          → Is (census st) ClassOrModule (nearest_singleton st.objects (c ∷ cs) other)
      by None e h rest = subst (Is (census st) ClassOrModule) (sym (nearest_none st.objects c cs other e)) rest
      by (Some s) e h rest = subst (Is (census st) ClassOrModule) (sym (nearest_some st.objects c cs other s e))
          (superclass_is_class st s (singleton_is_superclass st s h))

  pub plain_class_is : (v : Value) → IsValue (census st) v
      → Is (census st) ClassOrModule (plain_class_of st.objects v)
  plain_class_is Nil is = core_is_class st sound class.NilClass refl
  plain_class_is True is = core_is_class st sound class.TrueClass refl
  plain_class_is False is = core_is_class st sound class.FalseClass refl
  plain_class_is (Int z) is = core_is_class st sound class.Integer refl
  plain_class_is (Sym s) is = core_is_class st sound class.Symbol refl
  plain_class_is (Obj id) is =
      superclass_is_class st _ (class_is_superclass st _ (role_object st sound Any id is).class)

  pub class_of_is : (v : Value) → IsValue (census st) v → Is (census st) ClassOrModule (class_of st.objects v)
  unfolding class_of
  class_of_is Nil is = core_is_class st sound class.NilClass refl
  class_of_is True is = core_is_class st sound class.TrueClass refl
  class_of_is False is = core_is_class st sound class.FalseClass refl
  class_of_is (Int z) is = core_is_class st sound class.Integer refl
  class_of_is (Sym s) is = core_is_class st sound class.Symbol refl
  class_of_is (Obj id) is =
      nearest_is (singletons_from st.objects id (sort_at st.objects id)) (object_at st.objects id).class
      (plain_class_is (Obj id) is)

-- Methods.

both_hold : {A : Type 0} (P Q : A → Type 0) (R : A → Type 0) → ((x : A) → P x → Q x → R x) → (o : Option A)
    → OptionIs P o → OptionIs Q o → OptionIs R o
both_hold P Q R f None h g = tt
both_hold P Q R f (Some x) h g = f x h g

module _ (b : Bodies) (w : World) (fine : Fine b w) where
  entry_is : (name : SymId) (es : List (ℕ × MethodEntry)) → AllAre (EntryHas b w) es
      → OptionIs (λ e. MethodIs b w e.method) (lookup (nat_eq name.0) es)
  entry_is name [] all = tt
  entry_is name (e ∷ es) all = elim (nat_eq name.0 e.0) as
      (λ c. OptionIs (λ x. MethodIs b w x.method) (cond c (Some e.1) (lookup (nat_eq name.0) es))) [
        | true ↦ all.0
        | false ↦ entry_is name es all.1
      ]

  found_as_is : (c : ObjId) (v : Visibility) (m : Method) → MethodIs b w m
      → OptionIs (λ f. MethodIs b w f.method) (found_as c v m)
  found_as_is c v (method.Body body s) h = h
  found_as_is c v (method.Core r) h = h
  found_as_is c v (method.Reader n) h = h
  found_as_is c v (method.Writer n) h = h
  found_as_is c v (method.Block p) h = h
  found_as_is c v method.Undefined h = tt

  found_or_is : (c : ObjId) (e : Option MethodEntry) (rest : Option Found) → OptionIs (λ x. MethodIs b w x.method) e
      → OptionIs (λ f. MethodIs b w f.method) rest → OptionIs (λ f. MethodIs b w f.method) (found_or c e rest)
  found_or_is c None rest h g = g
  found_or_is c (Some e) rest h g = found_as_is c e.visibility e.method h

  first_is : (cs : List ObjId) (name : SymId)
      → OptionIs (λ f. MethodIs b w f.method) (first_of w.store.objects cs name)
  unfolding first_of
  first_is [] name = tt
  first_is (c ∷ cs) name = found_or_is c (entry_of w.store.objects c name) (first_of w.store.objects cs name)
      (entry_is name (class_at w.store.objects c).methods (methods_held b w fine c)) (first_is cs name)

  method_found : (c : ObjId) (name : SymId) → OptionIs (λ f. MethodIs b w f.method) (find w.store.objects c name)
  unfolding find
  method_found c name = first_is (chain w.store.objects c) name

  super_method_found : (c owner : ObjId) (name : SymId)
      → OptionIs (λ f. MethodIs b w f.method) (find_super w.store.objects c owner name)
  unfolding find_super
  super_method_found c owner name = first_is (behind owner (chain w.store.objects c)) name

  pub find_is : (c : ObjId) (name : SymId) → Is (census w.store) ClassOrModule c
      → OptionIs (FoundIs b w) (find w.store.objects c name)
  find_is c name is = both_hold (IsFound (census w.store)) (λ f. MethodIs b w f.method) (FoundIs b w)
      (λ f h g. record { found = h; method = g }) (find w.store.objects c name)
      (found_is_sound w.store fine.store c name is) (method_found c name)

  pub find_for_is : (recv : Value) (name : SymId) → IsValue (census w.store) recv
      → OptionIs (FoundIs b w) (find_for w recv name)
  find_for_is recv name is =
      find_is (class_of w.store.objects recv) name (class_of_is w.store fine.store recv is)

  pub super_is : (self : Value) (owner : Option ObjId) (name : Option SymId) → IsValue (census w.store) self
      → OptionIs (FoundIs b w) (super_of w self owner name)
  super_is self None name is = tt
  super_is self (Some owner) None is = tt
  super_is self (Some owner) (Some name) is =
      both_hold (IsFound (census w.store)) (λ f. MethodIs b w f.method) (FoundIs b w)
      (λ f h g. record { found = h; method = g })
      (find_super w.store.objects (class_of w.store.objects self) owner name)
      (super_is_sound w.store fine.store (class_of w.store.objects self) owner name
      (class_of_is w.store fine.store self is))
      (super_method_found (class_of w.store.objects self) owner name)

-- Constants.

constant_by : (k : Census) (cs : List (ℕ × Value)) (name : SymId) → AllAre (SoundConstant k) cs
    → OptionIs (IsValue k) (constant_in cs name)
constant_by k [] name all = tt
constant_by k (c ∷ cs) name all = elim (nat_eq name.0 c.0) as
    (λ x. OptionIs (IsValue k) (cond x (Some c.1) (constant_in cs name))) [
      | true ↦ all.0.1
      | false ↦ constant_by k cs name all.1
    ]

or_is : (k : Census) (o p : Option Value) → OptionIs (IsValue k) o → OptionIs (IsValue k) p
    → OptionIs (IsValue k) (option_or o p)
or_is k None p h g = g
or_is k (Some v) p h g = h

module _ (st : Store) (sound : Sound st) where
  constants_held : (c : ObjId) → AllAre (SoundConstant (census st)) (class_at st.objects c).constants
  constants_held c = by (has_object st.objects c) refl
    where
      by : (x : Bool) → has_object st.objects c ≡ x
          → AllAre (SoundConstant (census st)) (class_at st.objects c).constants
      by true e = constants_by (census st) c.0 (object_at st.objects c).kind
          (good_object st sound c (record { there = record { holds = e } })).kind
      by false e = subst (λ (o : Object). AllAre (SoundConstant (census st)) (contents_of o.kind).constants)
          (sym (absent_where_none st c e)) tt

  pub constant_is : (c : ObjId) (name : SymId)
      → OptionIs (IsValue (census st)) (constant_in (class_at st.objects c).constants name)
  constant_is c name = constant_by (census st) (class_at st.objects c).constants name (constants_held c)

  pub first_constant_is : (cs : List ObjId) (name : SymId)
      → OptionIs (IsValue (census st)) (first_constant st.objects cs name)
  first_constant_is [] name = tt
  first_constant_is (c ∷ cs) name =
      or_is (census st) (constant_in (class_at st.objects c).constants name) (first_constant st.objects cs name)
      (constant_is c name) (first_constant_is cs name)
