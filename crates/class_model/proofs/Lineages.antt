-- An object and its superclasses: the classes whose singleton classes it may have.
use Rattle.std.proofs.Common.{◌≡◌, ℕ, suc, zero, ◌<◌, List, [], ◌∷◌, Bool, true, false, refl, ap, sym, ◌∙◌, subst, true≢false}
use Rattle.std.specs.Prelude.{Option, Some, None, unwrap_or}
use Rattle.rb_value.specs.declared.value.Value.TheVariants.{Obj}
use Rattle.rb_value.specs.declared.value.ObjId.{ObjId}
use Rattle.rb_value.specs.Object.{Object}
use Rattle.rb_value.specs.declared.kind.ClassContents.{ClassContents}
use Rattle.rb_value.specs.declared.kind.ClassForm.{ClassForm}
use Rattle.rb_value.specs.declared.kind.ClassForm.TheVariants as form
use Rattle.rb_value.specs.declared.kind.Kind.{Kind}
use Rattle.rb_value.specs.declared.kind.Kind.TheVariants as kind
use Rattle.rb_value.specs.declared.kind.Sort.{Sort}
use Rattle.rb_value.specs.declared.kind.Sort.TheVariants as sort
use Rattle.rb_value.specs.declared.core_class.CoreClass.{CoreClass}
use Rattle.rb_value.specs.declared.core_class.CoreClass.TheVariants as class
use Rattle.rb_value.specs.CoreClass.{is_module}
use Rattle.rb_value.specs.Sort.{sort_of, sort_of_form}
use Rattle.def_core.specs.Store.{Store, object_at, sort_at, core}
use Rattle.def_core.specs.Classes.{contents_of, class_at, lineage_within, lineage, nearest_singleton, singletons_from, class_of}
use Rattle.def_core.specs.Sound.{census, Census, Role, Any, Class, SingletonClass, Superclass, ClassOrModule, plays, Is, OptionIs, IsSuperclass, SoundClass, SoundKind, Sound}
use Rattle.def_core.proofs.Roles.{superclass_is_class, class_is_superclass, singleton_is_superclass}
use Rattle.def_core.proofs.Good.{is_good, has_role, role_object}
use Rattle.def_core.proofs.Grows as grows
use Rattle.def_core.proofs.Chains.{lineage_is, lineage_above}

-- what has a role is an object
pub any_of : (st : Store) (r : Role) (id : ObjId) → Is (census st) r id → Is (census st) Any id
any_of st r id is = (is_good st r id is).there

-- only a class has a superclass
root_of_module : (k : Census) (n : ℕ) (c : ClassContents) → SoundClass k n c
    → plays Superclass (sort_of_form c.form) ≡ false → c.superclass ≡ None
root_of_module k n c s h = by c.form refl
  where
    by : (f : ClassForm) → c.form ≡ f → c.superclass ≡ None
    by form.Class e = absurd (true≢false (sym (ap (λ x. plays Superclass (sort_of_form x)) e) ∙ h))
    by form.Singleton e = absurd (true≢false (sym (ap (λ x. plays Superclass (sort_of_form x)) e) ∙ h))
    by form.Module e = s.module_root e

root : (k : Census) (n : ℕ) (x : Kind) → SoundKind k n x → plays Superclass (sort_of x) ≡ false
    → (contents_of x).superclass ≡ None
root k n kind.Plain s h = refl
root k n (kind.Class c) s h = root_of_module k n c s h
root k n (kind.String x) s h = refl
root k n (kind.Array a) s h = refl
root k n (kind.Hash x) s h = refl
root k n (kind.Range r) s h = refl
root k n (kind.Proc p) s h = refl
root k n (kind.CoreProc r v) s h = refl
root k n (kind.Fiber b e) s h = refl
root k n (kind.Exception m d) s h = refl
root k n (kind.Enumerator e) s h = refl
root k n (kind.Yielder b) s h = refl

above_sound : (k : Census) (n : ℕ) (x : Kind) → SoundKind k n x → OptionIs (IsSuperclass k n) (contents_of x).superclass
above_sound k n kind.Plain s = tt
above_sound k n (kind.Class c) s = s.superclass
above_sound k n (kind.String x) s = tt
above_sound k n (kind.Array a) s = tt
above_sound k n (kind.Hash x) s = tt
above_sound k n (kind.Range r) s = tt
above_sound k n (kind.Proc p) s = tt
above_sound k n (kind.CoreProc r v) s = tt
above_sound k n (kind.Fiber b e) s = tt
above_sound k n (kind.Exception m d) s = tt
above_sound k n (kind.Enumerator e) s = tt
above_sound k n (kind.Yielder b) s = tt

pub above_is : (st : Store) → Sound st → (id : ObjId) → Is (census st) Any id
    → OptionIs (IsSuperclass (census st) id.0) (class_at st.objects id).superclass
above_is st sound id is = above_sound (census st) id.0 (object_at st.objects id).kind
    (role_object st sound Any id is).kind

pub above_is_below : (st : Store) → Sound st → (id p : ObjId) → Is (census st) Any id
    → (class_at st.objects id).superclass ≡ Some p → Is (census st) Any p × (p.0 < id.0)
above_is_below st sound id p is h =
    let above : IsSuperclass (census st) id.0 p =
    subst (OptionIs (IsSuperclass (census st) id.0)) h (above_is st sound id is) in
    (any_of st Superclass p above.0, above.1)

pub no_superclass : (st : Store) → Sound st → (id : ObjId) → Is (census st) Any id
    → plays Superclass (sort_at st.objects id) ≡ false → (class_at st.objects id).superclass ≡ None
no_superclass st sound id is h = root (census st) id.0 (object_at st.objects id).kind
    (role_object st sound Any id is).kind h

-- an object without a superclass is alone
lineage_root : (objects : List Object) (id : ObjId) → (class_at objects id).superclass ≡ None
    → lineage objects id ≡ id ∷ []
unfolding lineage lineage_within
lineage_root objects id h = rw h (ap (λ rest. id ∷ rest) (none id.0))
  where
    none : (n : ℕ) → lineage_within n objects None ≡ []
    none zero = refl
    none (suc n) = refl

superclass_sort : (s : Sort) → plays Superclass s ≡ true → plays ClassOrModule s ≡ true
superclass_sort sort.Plain h = cc
superclass_sort sort.Class h = refl
superclass_sort sort.Singleton h = refl
superclass_sort sort.Module h = cc
superclass_sort sort.String h = cc
superclass_sort sort.Array h = cc
superclass_sort sort.Hash h = cc
superclass_sort sort.Range h = cc
superclass_sort sort.Proc h = cc
superclass_sort sort.Fiber h = cc
superclass_sort sort.Exception h = cc
superclass_sort sort.Enumerator h = cc
superclass_sort sort.Yielder h = cc

pub lineage_of : (st : Store) → Sound st → (id : ObjId) → Is (census st) Any id
    → lineage st.objects id ≡ id ∷ lineage_above st.objects (class_at st.objects id).superclass
lineage_of st sound id is = by (plays Superclass (sort_at st.objects id)) refl
  where
    by : (b : Bool) → plays Superclass (sort_at st.objects id) ≡ b
        → lineage st.objects id ≡ id ∷ lineage_above st.objects (class_at st.objects id).superclass
    by true h = lineage_is st sound id (has_role st ClassOrModule id (is_good st Any id is)
        (superclass_sort (sort_at st.objects id) h))
    by false h =
        let top = no_superclass st sound id is h in
        lineage_root st.objects id top ∙ ap (λ p. id ∷ lineage_above st.objects p) (sym top)

from_lineage : (objects : List Object) (id : ObjId) (s : Sort) → plays Superclass s ≡ true
    → singletons_from objects id s ≡ lineage objects id
from_lineage objects id sort.Plain h = cc
from_lineage objects id sort.Class h = refl
from_lineage objects id sort.Singleton h = refl
from_lineage objects id sort.Module h = cc
from_lineage objects id sort.String h = cc
from_lineage objects id sort.Array h = cc
from_lineage objects id sort.Hash h = cc
from_lineage objects id sort.Range h = cc
from_lineage objects id sort.Proc h = cc
from_lineage objects id sort.Fiber h = cc
from_lineage objects id sort.Exception h = cc
from_lineage objects id sort.Enumerator h = cc
from_lineage objects id sort.Yielder h = cc

from_itself : (objects : List Object) (id : ObjId) (s : Sort) → plays Superclass s ≡ false
    → singletons_from objects id s ≡ id ∷ []
from_itself objects id sort.Plain h = refl
from_itself objects id sort.Class h = cc
from_itself objects id sort.Singleton h = cc
from_itself objects id sort.Module h = refl
from_itself objects id sort.String h = refl
from_itself objects id sort.Array h = refl
from_itself objects id sort.Hash h = refl
from_itself objects id sort.Range h = refl
from_itself objects id sort.Proc h = refl
from_itself objects id sort.Fiber h = refl
from_itself objects id sort.Exception h = refl
from_itself objects id sort.Enumerator h = refl
from_itself objects id sort.Yielder h = refl

pub singletons_from_lineage : (st : Store) → Sound st → (id : ObjId) → Is (census st) Any id
    → singletons_from st.objects id (sort_at st.objects id) ≡ lineage st.objects id
singletons_from_lineage st sound id is = by (plays Superclass (sort_at st.objects id)) refl
  where
    by : (b : Bool) → plays Superclass (sort_at st.objects id) ≡ b
        → singletons_from st.objects id (sort_at st.objects id) ≡ lineage st.objects id
    by true h = from_lineage st.objects id _ h
    by false h = from_itself st.objects id _ h ∙ sym (lineage_root st.objects id (no_superclass st sound id is h))

pub singleton_here : (st : Store) → Sound st → (id other s : ObjId) → Is (census st) Any id
    → (object_at st.objects id).singleton ≡ Some s
    → nearest_singleton st.objects (lineage st.objects id) other ≡ s
unfolding nearest_singleton
singleton_here st sound id other s is h = rw (lineage_of st sound id is, h) refl

pub singleton_above : (st : Store) → Sound st → (id other p : ObjId) → Is (census st) Any id
    → (object_at st.objects id).singleton ≡ None → (class_at st.objects id).superclass ≡ Some p
    → nearest_singleton st.objects (lineage st.objects id) other ≡ nearest_singleton st.objects (lineage st.objects p)
    other
unfolding nearest_singleton
singleton_above st sound id other p is h g = rw (lineage_of st sound id is, h, g) refl

pub singleton_nowhere : (st : Store) → Sound st → (id other : ObjId) → Is (census st) Any id
    → (object_at st.objects id).singleton ≡ None → (class_at st.objects id).superclass ≡ None
    → nearest_singleton st.objects (lineage st.objects id) other ≡ other
unfolding nearest_singleton
singleton_nowhere st sound id other is h g = rw (lineage_of st sound id is, h, g) refl

pub singleton_is : (st : Store) → Sound st → (id s : ObjId) → Is (census st) Any id
    → (object_at st.objects id).singleton ≡ Some s → Is (census st) Superclass s
singleton_is st sound id s is h = singleton_is_superclass st s
    (subst (OptionIs (Is (census st) SingletonClass)) h (role_object st sound Any id is).singleton)

pub singleton_is_class : (st : Store) → Sound st → (id s : ObjId) → Is (census st) Any id
    → (object_at st.objects id).singleton ≡ Some s → Is (census st) ClassOrModule s
singleton_is_class st sound id s is h = superclass_is_class st s (singleton_is st sound id s is h)

pub class_is : (st : Store) → Sound st → (id : ObjId) → Is (census st) Any id
    → Is (census st) Superclass (object_at st.objects id).class
class_is st sound id is = class_is_superclass st _ (role_object st sound Any id is).class

pub class_is_class : (st : Store) → Sound st → (id : ObjId) → Is (census st) Any id
    → Is (census st) ClassOrModule (object_at st.objects id).class
class_is_class st sound id is = superclass_is_class st _ (class_is st sound id is)

pub core_is : (st : Store) → Sound st → (c : CoreClass) → is_module c ≡ false → Is (census st) Superclass (core c)
core_is st sound c plain = class_is_superclass st _ (grows.core_is_class st sound c plain)

pub core_is_class : (st : Store) → Sound st → (c : CoreClass) → is_module c ≡ false
    → Is (census st) ClassOrModule (core c)
core_is_class st sound c plain = superclass_is_class st _ (core_is st sound c plain)

pub class_of_object : (st : Store) → Sound st → (id : ObjId) → Is (census st) Any id
    → nearest_singleton st.objects (lineage st.objects id) (object_at st.objects id).class ≡ class_of st.objects
    (Obj id)
unfolding class_of
class_of_object st sound id is = ap (λ (cs : List ObjId). nearest_singleton st.objects cs
    (object_at st.objects id).class) (sym (singletons_from_lineage st sound id is))

pub class_is_core : (st : Store) → Sound st → Is (census st) Superclass (core class.Class)
class_is_core st sound = core_is st sound class.Class refl

-- a superclass, if any, is there
pub above_there : (st : Store) → Sound st → (id : ObjId) → Is (census st) Any id
    → OptionIs (Is (census st) Any) (class_at st.objects id).superclass
above_there st sound id is = by _ (above_is st sound id is)
  where
    by : (o : Option ObjId) → OptionIs (IsSuperclass (census st) id.0) o → OptionIs (Is (census st) Any) o
    by None h = tt
    by (Some p) h = any_of st Superclass p h.0

-- a parent, or else Object
pub parent_or_object : (st : Store) → Sound st → (p : Option ObjId) → OptionIs (Is (census st) Class) p
    → Is (census st) Superclass (unwrap_or p (core class.Object))
parent_or_object st sound None h = core_is st sound class.Object refl
parent_or_object st sound (Some p) h = class_is_superclass st p h
