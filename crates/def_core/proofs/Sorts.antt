-- The sorts of the objects of a store, which changes of contents leave.
use Rattle.std.proofs.Common.{◌≡◌, List, length, get_or, true, refl, ap, sym, ◌∙◌}
use Rattle.std.proofs.lemmas.List.{length-map}
use Rattle.std.proofs.Math.ListN.{get_or-map}
use Rattle.std.proofs.Math.Seq.{map-set_same}
use Rattle.rb_value.specs.declared.value.ObjId.{ObjId}
use Rattle.rb_value.specs.declared.value.SymId.{SymId}
use Rattle.rb_value.specs.declared.method.Method.{Method}
use Rattle.rb_value.specs.declared.method.Visibility.{Visibility}
use Rattle.rb_value.specs.Object.{Object}
use Rattle.rb_value.specs.declared.kind.ClassContents.{ClassContents}
use Rattle.rb_value.specs.declared.kind.Kind.{Kind}
use Rattle.rb_value.specs.declared.kind.Kind.TheVariants as kind
use Rattle.rb_value.specs.declared.kind.Sort.{Sort}
use Rattle.rb_value.specs.declared.kind.Sort.TheVariants as sort
use Rattle.rb_value.specs.Sort.{sort_of, sort_of_form}
use Rattle.def_core.specs.Store.{Store, object_at, sort_at, set_object, absent}
use Rattle.def_core.specs.Classes.{contents_of, class_at, with_class}
use Rattle.def_core.specs.Changes.{with_method}
use Rattle.def_core.specs.Sound.{sorts_of, plays, ClassOrModule}

pub length-sorts : (objects : List Object) → length (sorts_of objects) ≡ length objects
length-sorts objects = length-map objects (λ o. sort_of o.kind)

pub sort_at-sorts : (objects : List Object) (id : ObjId)
    → get_or (sorts_of objects) id.0 sort.Plain ≡ sort_at objects id
sort_at-sorts objects id = get_or-map (λ (o : Object). sort_of o.kind) objects id.0 absent

pub sorts-set : (objects : List Object) (id : ObjId) (o : Object) → sort_of o.kind ≡ sort_at objects id
    → sorts_of (set_object objects id o) ≡ sorts_of objects
sorts-set objects id o e = map-set_same (λ (o : Object). sort_of o.kind) objects id.0 o absent e

-- an object that is a class or module has the contents of one
pub class_sort : (k : Kind) → plays ClassOrModule (sort_of k) ≡ true → sort_of k ≡ sort_of_form (contents_of k).form
class_sort kind.Plain h = cc
class_sort (kind.Class c) h = refl
class_sort (kind.String s) h = cc
class_sort (kind.Array a) h = cc
class_sort (kind.Hash x) h = cc
class_sort (kind.Range r) h = cc
class_sort (kind.Proc p) h = cc
class_sort (kind.CoreProc r k) h = cc
class_sort (kind.Fiber b e) h = cc
class_sort (kind.Exception m d) h = cc
class_sort (kind.Enumerator e) h = cc
class_sort (kind.Yielder b) h = cc

pub same_class_sort : (objects : List Object) (c : ObjId) (k : ClassContents)
    → plays ClassOrModule (sort_at objects c) ≡ true → k.form ≡ (class_at objects c).form
    → sort_of_form k.form ≡ sort_at objects c
same_class_sort objects c k is same = ap sort_of_form same ∙ sym (class_sort (object_at objects c).kind is)

pub sorts-with_class : (objects : List Object) (c : ObjId) (k : ClassContents)
    → plays ClassOrModule (sort_at objects c) ≡ true → k.form ≡ (class_at objects c).form
    → sorts_of (with_class objects c k) ≡ sorts_of objects
sorts-with_class objects c k is same = sorts-set objects c (record (object_at objects c) { kind = kind.Class k })
    (same_class_sort objects c k is same)

pub sorts-with_method : (st : Store) (c : ObjId) (name : SymId) (m : Method) (v : Visibility)
    → plays ClassOrModule (sort_at st.objects c) ≡ true
    → sorts_of (with_method st c name m v).objects ≡ sorts_of st.objects
unfolding with_method
sorts-with_method st c name m v is = sorts-with_class st.objects c _ is refl

-- what has a role is there
pub is_there : (objects other : List Object) → sorts_of objects ≡ sorts_of other → length objects ≡ length other
is_there objects other e = sym (length-sorts objects) ∙ ap length e ∙ length-sorts other

pub same_sort : (objects other : List Object) (id : ObjId) → sorts_of objects ≡ sorts_of other
    → sort_at objects id ≡ sort_at other id
same_sort objects other id e = sym (sort_at-sorts objects id) ∙ ap (λ (xs : List Sort). get_or xs id.0 sort.Plain) e
    ∙ sort_at-sorts other id
