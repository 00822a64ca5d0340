-- New objects are sound where what they hold is.
use Rattle.std.proofs.Common.{◌≡◌, ℕ, List, [], length, refl, ap, ◌∙◌, true, arith, length-append}
use Rattle.std.specs.Prelude.{Option, None, Some, ◌<◌}
use Rattle.rb_value.specs.declared.value.ObjId.{ObjId}
use Rattle.rb_value.specs.declared.value.Value.{Value}
use Rattle.rb_value.specs.declared.value.Value.TheVariants.{Nil}
use Rattle.rb_value.specs.declared.kind.Kind.{Kind}
use Rattle.rb_value.specs.declared.kind.Kind.TheVariants as kind
use Rattle.rb_value.specs.Object.{Object}
use Rattle.rb_value.specs.Sort.{sort_of}
use Rattle.rb_value.specs.declared.hash.HashContents.{HashContents}
use Rattle.rb_value.specs.declared.kind.ClassForm.{ClassForm}
use Rattle.rb_value.specs.declared.kind.ClassForm.TheVariants as form
use Rattle.rb_value.specs.declared.core_class.CoreClass.TheVariants as class
use Rattle.rb_store.specs.Held.{Held}
use Rattle.rb_value.specs.declared.kind.Sort.{Sort}
use Rattle.rb_value.specs.declared.kind.Sort.TheVariants as sort
use Rattle.def_core.specs.Changes.{is_class_sort}
use Rattle.def_core.proofs.Roles.{is_plays}
use Rattle.rb_value.specs.declared.kind.EnumeratorSource.{EnumeratorSource}
use Rattle.heap.specs.Reading.{source_in}
use Rattle.heap.specs.Operands.{own_class, is_enumerator}
use Rattle.def_core.specs.Store.{Store, absent, core, sort_at, fresh, next_number, with_object}
use Rattle.def_core.specs.Classes.{empty_class}
use Rattle.def_core.proofs.Grows.{new_role, core_is_class}
use Rattle.def_core.specs.Sound.{Array, Census, census, plays, Class, Is, IsValue, OptionIs, Proc, SoundClass, SoundHash, SoundKind, SoundObject, Superclass, Sound}

pub fresh_is : (k : Census) (n : ℕ) (c : ObjId) (x : Kind) → Is k Class c → SoundKind k n x → SoundObject k n (fresh c x)
fresh_is k n c x class kind = record { class = class; singleton = tt; variables = tt; kind = kind }

pub no_pairs_is : (k : Census) → SoundHash k (record { pairs = []; default = Nil; block = None })
no_pairs_is k = record { pairs = tt; default = tt; block = tt }

-- the store and the count of changes are all of it
pub held_is : (a b : Held) → a.store ≡ b.store → a.changes ≡ b.changes → a ≡ b
held_is a b e f = ap (λ (st : Store). record { store = st; changes = a.changes }) e
    ∙ ap (λ (n : ℕ). record { store = b.store; changes = n }) f

-- the classes of objects that need no class of their own
pub array_class : (st : Store) → Sound st → Is (census st) Class (core class.Array)
array_class st sound = core_is_class st sound class.Array refl

pub string_class : (st : Store) → Sound st → Is (census st) Class (core class.String)
string_class st sound = core_is_class st sound class.String refl

pub proc_class : (st : Store) → Sound st → Is (census st) Class (core class.Proc)
proc_class st sound = core_is_class st sound class.Proc refl

pub yielder_class : (st : Store) → Sound st → Is (census st) Class (core class.Yielder)
yielder_class st sound = core_is_class st sound class.Yielder refl

pub class_class : (st : Store) → Sound st → Is (census st) Class (core class.Class)
class_class st sound = core_is_class st sound class.Class refl

pub module_class : (st : Store) → Sound st → Is (census st) Class (core class.Module)
module_class st sound = core_is_class st sound class.Module refl

plays_class : (s : Sort) → plays Class s ≡ true → is_class_sort s ≡ true
plays_class sort.Plain h = h
plays_class sort.Class h = h
plays_class sort.Singleton h = h
plays_class sort.Module h = h
plays_class sort.String h = h
plays_class sort.Array h = h
plays_class sort.Hash h = h
plays_class sort.Range h = h
plays_class sort.Proc h = h
plays_class sort.Fiber h = h
plays_class sort.Exception h = h
plays_class sort.Enumerator h = h
plays_class sort.Yielder h = h

-- a class is own
pub class_own : (st : Store) (id : ObjId) → Is (census st) Class id → own_class st id ≡ id
class_own st id is = rw (plays_class (sort_at st.objects id) (is_plays st Class id is)) refl

pub hash_own : (st : Store) → Sound st → own_class st (core class.Hash) ≡ core class.Hash
hash_own st sound = class_own st (core class.Hash) (core_is_class st sound class.Hash refl)

pub class_under : (k : Census) (n : ℕ) (c : ObjId) → Is k Superclass c → c.0 < n
    → SoundClass k n (empty_class form.Class (Some c))
class_under k n c is less = record {
  name = tt;
  superclass = (is, less);
  module_root = λ e. (cc);
  included = tt;
  constants = tt;
  methods = tt;
}

pub module_is : (k : Census) (n : ℕ) → SoundClass k n (empty_class form.Module None)
module_is k n = record { name = tt; superclass = tt; module_root = λ _. refl; included = tt; constants = tt; methods = tt }

-- a class, a singleton class or a module that has nothing
pub rootless_is : (k : Census) (n : ℕ) (f : ClassForm) → SoundClass k n (empty_class f None)
rootless_is k n f = record { name = tt; superclass = tt; module_root = λ _. refl; included = tt; constants = tt; methods = tt }

-- the next object is an Array, where one is added
pub next_is_array : (st : Store) (c : ObjId) (vs : List Value)
    → Is (census (with_object st (fresh c (kind.Array vs)))) Array (next_number st)
next_is_array st c vs = new_role st (fresh c (kind.Array vs)) Array refl

-- a Hash without pairs
pub cleared_is : (k : Census) (v : Value) (b : Option ObjId) → IsValue k v → OptionIs (Is k Proc) b
    → SoundHash k (record { pairs = []; default = v; block = b })
cleared_is k v b default block = record { pairs = tt; default = default; block = block }

-- what has a source is an Enumerator
pub has_source : (k : Kind) (s : EnumeratorSource) → source_in k ≡ Some s → is_enumerator (sort_of k) ≡ true
has_source kind.Plain s h = cc
has_source (kind.Class c) s h = cc
has_source (kind.String t) s h = cc
has_source (kind.Array a) s h = cc
has_source (kind.Hash x) s h = cc
has_source (kind.Range r) s h = cc
has_source (kind.Proc p) s h = cc
has_source (kind.CoreProc r v) s h = cc
has_source (kind.Fiber b e) s h = cc
has_source (kind.Exception m d) s h = cc
has_source (kind.Enumerator e) s h = refl
has_source (kind.Yielder b) s h = cc
