-- What is known of an object that has a role.
use Rattle.std.proofs.Common.{◌≡◌, ℕ, ◌<◌, List, length, true, refl, ap, sym, ◌∙◌, subst, true≢false}
use Rattle.std.specs.Prelude.{Some, None, slice_get}
use Rattle.std.proofs.lemmas.Option.{get_or_from_slice_get, slice_get_within, slice_get-get_or}
use Rattle.rb_value.specs.declared.value.ObjId.{ObjId}
use Rattle.rb_value.specs.declared.kind.Kind.{Kind}
use Rattle.rb_value.specs.declared.kind.Kind.TheVariants as kind
use Rattle.rb_value.specs.declared.kind.Sort.{Sort}
use Rattle.rb_value.specs.declared.kind.Sort.TheVariants as sort
use Rattle.rb_value.specs.Sort.{sort_of, is_class}
use Rattle.def_core.specs.Store.{Store, object_at, sort_at}
use Rattle.def_core.specs.Classes.{contents_of, class_at}
use Rattle.def_core.specs.Sound.{sorts_of, census, Role, Class, SingletonClass, Superclass, Module, ClassOrModule, plays, plays_at, Is, SoundClass, SoundKind, Sound}
use Rattle.def_core.proofs.Sorts.{sort_at-sorts, length-sorts}

-- the sort of an object that has a role
pub found : (xs : List Sort) (n : ℕ) (r : Role) → plays_at r (slice_get xs n) ≡ true → (s : Sort)
    × (slice_get xs n ≡ Some s) × (plays r s ≡ true)
found xs n r h = elim (slice_get xs n) as (λ o. slice_get xs n ≡ o → plays_at r o ≡ true → (s : Sort)
    × (slice_get xs n ≡ Some s) × (plays r s ≡ true)) [
      | None ↦ λ _ e. absurd (true≢false (sym e))
      | Some s ↦ λ is e. (s, is, e)
    ] refl h

pub is_within : (st : Store) (r : Role) (id : ObjId) → Is (census st) r id → id.0 < length st.objects
is_within st r id is =
    let f = found (sorts_of st.objects) id.0 r is.holds in
    subst (λ (n : ℕ). id.0 < n) (length-sorts st.objects) (slice_get_within (sorts_of st.objects) id.0 f.0 f.1)

pub is_plays : (st : Store) (r : Role) (id : ObjId) → Is (census st) r id → plays r (sort_at st.objects id) ≡ true
is_plays st r id is =
    let f = found (sorts_of st.objects) id.0 r is.holds in
    ap (plays r) (sym (sort_at-sorts st.objects id)
    ∙ get_or_from_slice_get (sorts_of st.objects) id.0 f.0 sort.Plain f.1) ∙ f.2

-- what plays a class or module is of such a sort
pub plays_class : (s : Sort) → plays ClassOrModule s ≡ true → is_class s ≡ true
plays_class sort.Plain h = cc
plays_class sort.Class h = refl
plays_class sort.Singleton h = refl
plays_class sort.Module h = refl
plays_class sort.String h = cc
plays_class sort.Array h = cc
plays_class sort.Hash h = cc
plays_class sort.Range h = cc
plays_class sort.Proc h = cc
plays_class sort.Fiber h = cc
plays_class sort.Exception h = cc
plays_class sort.Enumerator h = cc
plays_class sort.Yielder h = cc

-- a superclass is a class
superclass_sort : (s : Sort) → plays Superclass s ≡ true → plays ClassOrModule s ≡ true
superclass_sort sort.Plain h = cc
superclass_sort sort.Class h = refl
superclass_sort sort.Singleton h = refl
superclass_sort sort.Module h = cc
superclass_sort sort.String h = cc
superclass_sort sort.Array h = cc
superclass_sort sort.Hash h = cc
superclass_sort sort.Range h = cc
superclass_sort sort.Proc h = cc
superclass_sort sort.Fiber h = cc
superclass_sort sort.Exception h = cc
superclass_sort sort.Enumerator h = cc
superclass_sort sort.Yielder h = cc

-- a module is a module or class
module_sort : (s : Sort) → plays Module s ≡ true → plays ClassOrModule s ≡ true
module_sort sort.Plain h = cc
module_sort sort.Class h = cc
module_sort sort.Singleton h = cc
module_sort sort.Module h = refl
module_sort sort.String h = cc
module_sort sort.Array h = cc
module_sort sort.Hash h = cc
module_sort sort.Range h = cc
module_sort sort.Proc h = cc
module_sort sort.Fiber h = cc
module_sort sort.Exception h = cc
module_sort sort.Enumerator h = cc
module_sort sort.Yielder h = cc

with_role : (st : Store) (r q : Role) → ((s : Sort) → plays r s ≡ true → plays q s ≡ true) → (id : ObjId)
    → Is (census st) r id → Is (census st) q id
with_role st r q more id is =
    let f = found (sorts_of st.objects) id.0 r is.holds in
    record { holds = ap (plays_at q) f.1 ∙ more f.0 f.2 }

pub superclass_is_class : (st : Store) (id : ObjId) → Is (census st) Superclass id → Is (census st) ClassOrModule id
superclass_is_class st = with_role st Superclass ClassOrModule superclass_sort

pub module_is_class : (st : Store) (id : ObjId) → Is (census st) Module id → Is (census st) ClassOrModule id
module_is_class st = with_role st Module ClassOrModule module_sort

-- classes and singleton classes can be superclasses
class_sort : (s : Sort) → plays Class s ≡ true → plays Superclass s ≡ true
class_sort sort.Plain h = cc
class_sort sort.Class h = refl
class_sort sort.Singleton h = cc
class_sort sort.Module h = cc
class_sort sort.String h = cc
class_sort sort.Array h = cc
class_sort sort.Hash h = cc
class_sort sort.Range h = cc
class_sort sort.Proc h = cc
class_sort sort.Fiber h = cc
class_sort sort.Exception h = cc
class_sort sort.Enumerator h = cc
class_sort sort.Yielder h = cc

singleton_sort : (s : Sort) → plays SingletonClass s ≡ true → plays Superclass s ≡ true
singleton_sort sort.Plain h = cc
singleton_sort sort.Class h = cc
singleton_sort sort.Singleton h = refl
singleton_sort sort.Module h = cc
singleton_sort sort.String h = cc
singleton_sort sort.Array h = cc
singleton_sort sort.Hash h = cc
singleton_sort sort.Range h = cc
singleton_sort sort.Proc h = cc
singleton_sort sort.Fiber h = cc
singleton_sort sort.Exception h = cc
singleton_sort sort.Enumerator h = cc
singleton_sort sort.Yielder h = cc

pub class_is_superclass : (st : Store) (id : ObjId) → Is (census st) Class id → Is (census st) Superclass id
class_is_superclass st = with_role st Class Superclass class_sort

pub singleton_is_superclass : (st : Store) (id : ObjId) → Is (census st) SingletonClass id
    → Is (census st) Superclass id
singleton_is_superclass st = with_role st SingletonClass Superclass singleton_sort

-- an object has each role that its sort plays
pub is_by_sort : (st : Store) (r : Role) (id : ObjId) → id.0 < length st.objects
    → plays r (sort_at st.objects id) ≡ true → Is (census st) r id
is_by_sort st r id within h =
    let there : id.0 < length (sorts_of st.objects) = rw (length-sorts st.objects) within in
    record {
      holds = ap (plays_at r) (slice_get-get_or (sorts_of st.objects) id.0 sort.Plain there
          ∙ ap Some (sort_at-sorts st.objects id)) ∙ h;
    }

sound_contents : (st : Store) (n : ℕ) (k : Kind) → plays ClassOrModule (sort_of k) ≡ true → SoundKind (census st) n k
    → SoundClass (census st) n (contents_of k)
sound_contents st n kind.Plain h s = absurd (true≢false (sym h))
sound_contents st n (kind.Class c) h s = s
sound_contents st n (kind.String x) h s = absurd (true≢false (sym h))
sound_contents st n (kind.Array a) h s = absurd (true≢false (sym h))
sound_contents st n (kind.Hash x) h s = absurd (true≢false (sym h))
sound_contents st n (kind.Range r) h s = absurd (true≢false (sym h))
sound_contents st n (kind.Proc p) h s = absurd (true≢false (sym h))
sound_contents st n (kind.CoreProc r v) h s = absurd (true≢false (sym h))
sound_contents st n (kind.Fiber b e) h s = absurd (true≢false (sym h))
sound_contents st n (kind.Exception m d) h s = absurd (true≢false (sym h))
sound_contents st n (kind.Enumerator e) h s = absurd (true≢false (sym h))
sound_contents st n (kind.Yielder b) h s = absurd (true≢false (sym h))

-- the contents of a class or module of a sound store
pub sound_class : (st : Store) → Sound st → (c : ObjId) → Is (census st) ClassOrModule c
    → SoundClass (census st) c.0 (class_at st.objects c)
sound_class st sound c is = sound_contents st c.0 (object_at st.objects c).kind (is_plays st ClassOrModule c is)
    (sound.objects c.0 (is_within st ClassOrModule c is)).kind
