-- Singleton classes that are made keep a world fine.
use Rattle.std.proofs.Common.{◌≡◌, ℕ, zero, suc, ◌<◌, List, [], ◌∷◌, ◌++◌, length, refl, ap, ◌∙◌, subst}
use Rattle.std.specs.Prelude.{Option, Some, None, unwrap_or, not, is_some}
use Rattle.std.proofs.lemmas.List.{set-append_left, get_or_append_left}
use Rattle.rb_value.specs.declared.value.Value.{Value}
use Rattle.rb_value.specs.declared.value.Value.TheVariants.{Nil, True, False, Int, Sym, Obj}
use Rattle.rb_value.specs.declared.value.ObjId.{ObjId}
use Rattle.rb_value.specs.declared.kind.Sort.{Sort}
use Rattle.rb_value.specs.declared.kind.Sort.TheVariants as sort
use Rattle.rb_value.specs.declared.core_class.CoreClass.TheVariants as class
use Rattle.rb_value.specs.Object.{Object}
use Rattle.def_core.specs.declared.cause.Cause.TheVariants as cause
use Rattle.def_core.specs.Store.{Store, core, absent, object_at, sort_at, set_object, next_number, with_object}
use Rattle.def_core.specs.Classes.{class_at, lineage_within, lineage, singletons_from}
use Rattle.def_core.specs.Changes.{attach, above_class, above, make_all, missing, with_singleton, singleton, fails}
use Rattle.def_core.specs.Parts.{with_objects}
use Rattle.def_core.specs.Sound.{census, Sound, Any, SingletonClass, Superclass, ClassOrModule, Is, IsValue, OptionIs, AllAre, IsSuperclass}
use Rattle.def_core.proofs.Good.{is_good, good_object, good_within}
use Rattle.def_core.proofs.Roles.{class_is_superclass, singleton_is_superclass}
use Rattle.def_core.proofs.Keeps.{sound_with_singleton}
use Rattle.def_core.proofs.Grows.{new_role}
use Rattle.def_core.proofs.Attaching.{singleton_under}
use Rattle.class_model.proofs.Attaching.{singleton_is_sound}
use Rattle.class_model.proofs.Lineages.{any_of, core_is, above_is}
use Rattle.class_model.proofs.Making.{made_is_class}
use Rattle.class_model.proofs.Members.{all_filter}
use Rattle.def_calls.specs.World.{World, with_store}
use Rattle.world_laws.specs.Fine.{Bodies, Fine, Keeps}
use Rattle.world_laws.specs.Outcomes.{DefinesIs}
use Rattle.world_laws.proofs.Growing.{role_stays}
use Rattle.world_laws.proofs.Standing.{keeps_itself, keeps_then}
use Rattle.world_laws.proofs.Stores.{keeps_object, kind_held}
use Rattle.world_laws.proofs.Answers.{defines_fails}
use Rattle.world_laws.proofs.Changing.{keeps_put}
use Rattle.world_laws.proofs.Searching.{singleton_held}

-- The superclass of a new singleton class.

module _ (st : Store) (sound : Sound st) where
  own_or_class : (o : Option ObjId) → OptionIs (Is (census st) SingletonClass) o
      → Is (census st) Superclass (unwrap_or o (core class.Class))
  own_or_class None h = core_is st sound class.Class refl
  own_or_class (Some s) h = singleton_is_superclass st s h

  above_class_is : (o : Option ObjId) → Is (census st) Superclass (above_class st.objects o)
  above_class_is None = core_is st sound class.Class refl
  above_class_is (Some p) = own_or_class (object_at st.objects p).singleton (singleton_held st sound p)

  own_class_is : (id : ObjId) → Is (census st) Any id → Is (census st) Superclass (object_at st.objects id).class
  own_class_is id is = class_is_superclass st _ (good_object st sound id (is_good st Any id is)).class

  above_is_superclass : (id : ObjId) (s : Sort) → Is (census st) Any id
      → Is (census st) Superclass (above st.objects id s)
  above_is_superclass id sort.Class is = above_class_is (class_at st.objects id).superclass
  above_is_superclass id sort.Singleton is = above_class_is (class_at st.objects id).superclass
  above_is_superclass id sort.Module is = own_class_is id is
  above_is_superclass id sort.Plain is = own_class_is id is
  above_is_superclass id sort.String is = own_class_is id is
  above_is_superclass id sort.Array is = own_class_is id is
  above_is_superclass id sort.Hash is = own_class_is id is
  above_is_superclass id sort.Range is = own_class_is id is
  above_is_superclass id sort.Proc is = own_class_is id is
  above_is_superclass id sort.Fiber is = own_class_is id is
  above_is_superclass id sort.Exception is = own_class_is id is
  above_is_superclass id sort.Enumerator is = own_class_is id is
  above_is_superclass id sort.Yielder is = own_class_is id is

  -- The object and its superclasses.

  superclass_there : (n : ℕ) (o : Option ObjId) → OptionIs (IsSuperclass (census st) n) o
      → OptionIs (Is (census st) Any) o
  superclass_there n None h = tt
  superclass_there n (Some p) h = any_of st Superclass p h.0

  lineage_there : (n : ℕ) (o : Option ObjId) → OptionIs (Is (census st) Any) o
      → AllAre (Is (census st) Any) (lineage_within n st.objects o)
  unfolding lineage_within
  lineage_there zero o h = tt
  lineage_there (suc n) None h = tt
  lineage_there (suc n) (Some c) h = (
    h,
    lineage_there n (class_at st.objects c).superclass
        (superclass_there c.0 (class_at st.objects c).superclass (above_is st sound c h)),
  )

  lineage_is_there : (id : ObjId) → Is (census st) Any id → AllAre (Is (census st) Any) (lineage st.objects id)
  unfolding lineage
  lineage_is_there id is = lineage_there (suc id.0) (Some id) is

  singletons_there : (id : ObjId) (s : Sort) → Is (census st) Any id
      → AllAre (Is (census st) Any) (singletons_from st.objects id s)
  singletons_there id sort.Class is = lineage_is_there id is
  singletons_there id sort.Singleton is = lineage_is_there id is
  singletons_there id sort.Module is = (is, tt)
  singletons_there id sort.Plain is = (is, tt)
  singletons_there id sort.String is = (is, tt)
  singletons_there id sort.Array is = (is, tt)
  singletons_there id sort.Hash is = (is, tt)
  singletons_there id sort.Range is = (is, tt)
  singletons_there id sort.Proc is = (is, tt)
  singletons_there id sort.Fiber is = (is, tt)
  singletons_there id sort.Exception is = (is, tt)
  singletons_there id sort.Enumerator is = (is, tt)
  singletons_there id sort.Yielder is = (is, tt)

  missing_there : (id : ObjId) → Is (census st) Any id → AllAre (Is (census st) Any) (missing st.objects id)
  unfolding missing
  missing_there id is = all_filter (Is (census st) Any) (λ k. not (is_some (object_at st.objects k).singleton))
      (singletons_from st.objects id (sort_at st.objects id)) (singletons_there id (sort_at st.objects id) is)

-- One singleton class, and several.

-- the object among all, with the class after them, gets it
attached : (st : Store) (id superclass : ObjId) → id.0 < length st.objects
    → set_object (st.objects ++ singleton_under superclass ∷ []) id
    (record (object_at (st.objects ++ singleton_under superclass ∷ []) id) { singleton = Some (next_number st) })
    ≡ attach st.objects id superclass
attached st id superclass within =
    let last : List Object = singleton_under superclass ∷ [] in
    ap (λ (o : Object). set_object (st.objects ++ last) id (record o { singleton = Some (next_number st) }))
    (get_or_append_left st.objects last absent id.0 within)
    ∙ set-append_left st.objects last id.0 (record (object_at st.objects id) { singleton = Some (next_number st) }) within

attach_keeps : (b : Bodies) (w : World) → Fine b w → (id superclass : ObjId) → Is (census w.store) Any id
    → Is (census w.store) Superclass superclass
    → Keeps b w (with_store w (with_objects w.store (attach w.store.objects id superclass)))
attach_keeps b w fine id superclass is above_it =
    let o : Object = singleton_under superclass in
    let v : World = with_store w (with_object w.store o) in
    let k = keeps_object b w fine o (singleton_is_sound w.store fine.store superclass o refl above_it) tt in
    let still = role_stays w v k.extends Any id is in
    let new : Object = record (object_at v.store.objects id) { singleton = Some (next_number w.store) } in
    let h = keeps_put b v k.fine id new refl (kind_held b v k.fine id)
    (sound_with_singleton v.store k.fine.store id (next_number w.store) (is_good v.store Any id still)
    (new_role w.store o SingletonClass refl)) in
    subst (λ (os : List Object). Keeps b w (with_store w (with_objects w.store os)))
    (attached w.store id superclass (good_within w.store id (is_good w.store Any id is)))
    (keeps_then b w v (with_store w (with_objects v.store (set_object v.store.objects id new))) k h)

-- one more after others
one_more : (b : Bodies) (w : World) (objects : List Object) (id : ObjId) → Is (census w.store) Any id
    → Keeps b w (with_store w (with_objects w.store objects))
    → Keeps b w (with_store w (with_objects w.store (attach objects id (above objects id (sort_at objects id)))))
one_more b w objects id is k =
    let v : World = with_store w (with_objects w.store objects) in
    let still = role_stays w v k.extends Any id is in
    keeps_then b w v _ k (attach_keeps b v k.fine id (above objects id (sort_at objects id)) still
    (above_is_superclass v.store k.fine.store id (sort_at objects id) still))

module _ (b : Bodies) (w : World) (fine : Fine b w) where
  make_all_keeps : (ids : List ObjId) → AllAre (Is (census w.store) Any) ids
      → Keeps b w (with_store w (with_objects w.store (make_all w.store.objects ids)))
  unfolding make_all
  make_all_keeps [] all = keeps_itself b w fine
  make_all_keeps (id ∷ ids) all = one_more b w (make_all w.store.objects ids) id all.0 (make_all_keeps ids all.1)

  pub with_singleton_keeps : (id : ObjId) → Is (census w.store) Any id
      → Keeps b w (with_store w (with_objects w.store (with_singleton w.store.objects id)))
  unfolding with_singleton
  with_singleton_keeps id is = make_all_keeps (missing w.store.objects id) (missing_there w.store fine.store id is)

  refused : DefinesIs b w (fails w.store cause.NoSingleton)
  refused = defines_fails b w fine cause.NoSingleton tt

  -- the object has a singleton class then
  own_class : (id : ObjId) → Is (census w.store) Any id
      → Is (census (with_objects w.store (with_singleton w.store.objects id))) ClassOrModule
      (unwrap_or (object_at (with_singleton w.store.objects id) id).singleton id)
  unfolding with_singleton
  own_class id is =
      let st : Store = with_objects w.store (make_all w.store.objects (missing w.store.objects id)) in
      let all = missing_there w.store fine.store id is in
      let k = make_all_keeps (missing w.store.objects id) all in
      made_is_class w.store st fine.store k.fine.store id (missing w.store.objects id) is
      (role_stays w (with_store w st) k.extends Any id is) refl all refl

  pub singleton_is : (x : Value) → IsValue (census w.store) x → DefinesIs b w (singleton w.store x)
  unfolding singleton
  singleton_is Nil is = refused
  singleton_is True is = refused
  singleton_is False is = refused
  singleton_is (Int z) is = refused
  singleton_is (Sym s) is = refused
  singleton_is (Obj id) is =
      record { keeps = with_singleton_keeps id is; outcome = own_class id is; raisable = tt }
