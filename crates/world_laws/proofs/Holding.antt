-- What values of a fine world hold.
use Rattle.std.proofs.Common.{◌≡◌, ℕ, Bool, true, false, refl, ap, sym, ◌∙◌, subst, if◌then◌else◌}
use Rattle.std.specs.Prelude.{Option, Some, None}
use Rattle.rb_value.specs.declared.value.Value.{Value}
use Rattle.rb_value.specs.declared.value.Value.TheVariants.{Nil, True, False, Int, Sym, Obj}
use Rattle.rb_value.specs.declared.value.ObjId.{ObjId}
use Rattle.rb_value.specs.declared.kind.Kind.{Kind}
use Rattle.rb_value.specs.declared.kind.Kind.TheVariants as kind
use Rattle.rb_value.specs.declared.kind.Sort.{Sort}
use Rattle.rb_value.specs.declared.kind.Sort.TheVariants as sort
use Rattle.rb_value.specs.Sort.{sort_of}
use Rattle.def_core.specs.Store.{Store, object_at, sort_at}
use Rattle.def_core.specs.Classes.{contents_of, class_at}
use Rattle.def_core.specs.Bind.{elements_of, elements_in}
use Rattle.def_core.specs.Changes.{object_of_sort, is_class_sort, is_module_sort}
use Rattle.def_core.specs.Sound.{Census, census, Sound, Role, Any, Class, Module, ClassOrModule, Proc, Array, Fiber, plays, Is, IsSymbol, IsValue, OptionIs, AllAre, SoundConstant, SoundHash, SoundKind}
use Rattle.def_core.proofs.Good.{is_good, has_role, role_object, sort_found}
use Rattle.def_calls.specs.World.{World}
use Rattle.def_calls.specs.Views.{object_in, symbol_in, present, kind_in, string_of, hash_of, callable_of, exception_of, message_of, detail_of, fiber_of, if_there, an_array, a_string, a_hash, a_proc, a_fiber, an_exception}
use Rattle.def_calls.specs.Constants.{is_space_sort}
use Rattle.def_calls.specs.Definitions.{space_in}
use Rattle.world_laws.specs.Fine.{Bodies, HasSort, IsException, EntryHas, KindIs, Fine}
use Rattle.world_laws.specs.Outcomes.{CallableIs}
use Rattle.world_laws.proofs.Growing.{option_stays}
use Rattle.world_laws.proofs.Stores.{kind_held}

-- Contents.

elements_by : (k : Census) (n : ℕ) (x : Kind) → SoundKind k n x → OptionIs (AllAre (IsValue k)) (elements_of x)
elements_by k n kind.Plain is = tt
elements_by k n (kind.Class c) is = tt
elements_by k n (kind.String s) is = tt
elements_by k n (kind.Array a) is = is
elements_by k n (kind.Hash h) is = tt
elements_by k n (kind.Range r) is = tt
elements_by k n (kind.Proc p) is = tt
elements_by k n (kind.CoreProc r v) is = tt
elements_by k n (kind.Fiber p e) is = tt
elements_by k n (kind.Exception m d) is = tt
elements_by k n (kind.Enumerator e) is = tt
elements_by k n (kind.Yielder p) is = tt

hash_by : (k : Census) (n : ℕ) (x : Kind) → SoundKind k n x → OptionIs (SoundHash k) (hash_of x)
hash_by k n kind.Plain is = tt
hash_by k n (kind.Class c) is = tt
hash_by k n (kind.String s) is = tt
hash_by k n (kind.Array a) is = tt
hash_by k n (kind.Hash h) is = is
hash_by k n (kind.Range r) is = tt
hash_by k n (kind.Proc p) is = tt
hash_by k n (kind.CoreProc r v) is = tt
hash_by k n (kind.Fiber p e) is = tt
hash_by k n (kind.Exception m d) is = tt
hash_by k n (kind.Enumerator e) is = tt
hash_by k n (kind.Yielder p) is = tt

message_by : (k : Census) (n : ℕ) (x : Kind) → SoundKind k n x → IsValue k (message_of x)
message_by k n kind.Plain is = tt
message_by k n (kind.Class c) is = tt
message_by k n (kind.String s) is = tt
message_by k n (kind.Array a) is = tt
message_by k n (kind.Hash h) is = tt
message_by k n (kind.Range r) is = tt
message_by k n (kind.Proc p) is = tt
message_by k n (kind.CoreProc r v) is = tt
message_by k n (kind.Fiber p e) is = tt
message_by k n (kind.Exception m d) is = is.0
message_by k n (kind.Enumerator e) is = tt
message_by k n (kind.Yielder p) is = tt

detail_by : (k : Census) (n : ℕ) (x : Kind) → SoundKind k n x → IsValue k (detail_of x)
detail_by k n kind.Plain is = tt
detail_by k n (kind.Class c) is = tt
detail_by k n (kind.String s) is = tt
detail_by k n (kind.Array a) is = tt
detail_by k n (kind.Hash h) is = tt
detail_by k n (kind.Range r) is = tt
detail_by k n (kind.Proc p) is = tt
detail_by k n (kind.CoreProc r v) is = tt
detail_by k n (kind.Fiber p e) is = tt
detail_by k n (kind.Exception m d) is = is.1
detail_by k n (kind.Enumerator e) is = tt
detail_by k n (kind.Yielder p) is = tt

fiber_by : (k : Census) (n : ℕ) (x : Kind) → SoundKind k n x → OptionIs (λ f. Is k Proc f.0) (fiber_of x)
fiber_by k n kind.Plain is = tt
fiber_by k n (kind.Class c) is = tt
fiber_by k n (kind.String s) is = tt
fiber_by k n (kind.Array a) is = tt
fiber_by k n (kind.Hash h) is = tt
fiber_by k n (kind.Range r) is = tt
fiber_by k n (kind.Proc p) is = tt
fiber_by k n (kind.CoreProc r v) is = tt
fiber_by k n (kind.Fiber p e) is = is
fiber_by k n (kind.Exception m d) is = tt
fiber_by k n (kind.Enumerator e) is = tt
fiber_by k n (kind.Yielder p) is = tt

pub constants_by : (k : Census) (n : ℕ) (x : Kind) → SoundKind k n x → AllAre (SoundConstant k) (contents_of x).constants
constants_by k n kind.Plain is = tt
constants_by k n (kind.Class c) is = is.constants
constants_by k n (kind.String s) is = tt
constants_by k n (kind.Array a) is = tt
constants_by k n (kind.Hash h) is = tt
constants_by k n (kind.Range r) is = tt
constants_by k n (kind.Proc p) is = tt
constants_by k n (kind.CoreProc r v) is = tt
constants_by k n (kind.Fiber p e) is = tt
constants_by k n (kind.Exception m d) is = tt
constants_by k n (kind.Enumerator e) is = tt
constants_by k n (kind.Yielder p) is = tt

methods_by : (b : Bodies) (w : World) (x : Kind) → KindIs b w x → AllAre (EntryHas b w) (contents_of x).methods
methods_by b w kind.Plain is = tt
methods_by b w (kind.Class c) is = is
methods_by b w (kind.String s) is = tt
methods_by b w (kind.Array a) is = tt
methods_by b w (kind.Hash h) is = tt
methods_by b w (kind.Range r) is = tt
methods_by b w (kind.Proc p) is = tt
methods_by b w (kind.CoreProc r v) is = tt
methods_by b w (kind.Fiber p e) is = tt
methods_by b w (kind.Exception m d) is = tt
methods_by b w (kind.Enumerator e) is = tt
methods_by b w (kind.Yielder p) is = tt

callable_by : (b : Bodies) (w : World) (n : ℕ) (x : Kind) → SoundKind (census w.store) n x → KindIs b w x
    → OptionIs (CallableIs b w) (callable_of x)
callable_by b w n kind.Plain is has = tt
callable_by b w n (kind.Class c) is has = tt
callable_by b w n (kind.String s) is has = tt
callable_by b w n (kind.Array a) is has = tt
callable_by b w n (kind.Hash h) is has = tt
callable_by b w n (kind.Range r) is has = tt
callable_by b w n (kind.Proc p) is has = (is, has)
callable_by b w n (kind.CoreProc r v) is has = is
callable_by b w n (kind.Fiber p e) is has = tt
callable_by b w n (kind.Exception m d) is has = tt
callable_by b w n (kind.Enumerator e) is has = tt
callable_by b w n (kind.Yielder p) is has = tt

-- Sorts of objects.

array_by : (x : Kind) (id : ObjId)
    → OptionIs (λ i. (i ≡ id) × (sort_of x ≡ sort.Array)) (if_there (elements_of x) (Obj id))
array_by kind.Plain id = tt
array_by (kind.Class c) id = tt
array_by (kind.String s) id = tt
array_by (kind.Array a) id = (refl, refl)
array_by (kind.Hash h) id = tt
array_by (kind.Range r) id = tt
array_by (kind.Proc p) id = tt
array_by (kind.CoreProc r v) id = tt
array_by (kind.Fiber p e) id = tt
array_by (kind.Exception m d) id = tt
array_by (kind.Enumerator e) id = tt
array_by (kind.Yielder p) id = tt

string_by : (x : Kind) (id : ObjId)
    → OptionIs (λ i. (i ≡ id) × (sort_of x ≡ sort.String)) (if_there (string_of x) (Obj id))
string_by kind.Plain id = tt
string_by (kind.Class c) id = tt
string_by (kind.String s) id = (refl, refl)
string_by (kind.Array a) id = tt
string_by (kind.Hash h) id = tt
string_by (kind.Range r) id = tt
string_by (kind.Proc p) id = tt
string_by (kind.CoreProc r v) id = tt
string_by (kind.Fiber p e) id = tt
string_by (kind.Exception m d) id = tt
string_by (kind.Enumerator e) id = tt
string_by (kind.Yielder p) id = tt

hash_there : (x : Kind) (id : ObjId)
    → OptionIs (λ i. (i ≡ id) × (sort_of x ≡ sort.Hash)) (if_there (hash_of x) (Obj id))
hash_there kind.Plain id = tt
hash_there (kind.Class c) id = tt
hash_there (kind.String s) id = tt
hash_there (kind.Array a) id = tt
hash_there (kind.Hash h) id = (refl, refl)
hash_there (kind.Range r) id = tt
hash_there (kind.Proc p) id = tt
hash_there (kind.CoreProc r v) id = tt
hash_there (kind.Fiber p e) id = tt
hash_there (kind.Exception m d) id = tt
hash_there (kind.Enumerator e) id = tt
hash_there (kind.Yielder p) id = tt

proc_by : (x : Kind) (id : ObjId)
    → OptionIs (λ i. (i ≡ id) × (sort_of x ≡ sort.Proc)) (if_there (callable_of x) (Obj id))
proc_by kind.Plain id = tt
proc_by (kind.Class c) id = tt
proc_by (kind.String s) id = tt
proc_by (kind.Array a) id = tt
proc_by (kind.Hash h) id = tt
proc_by (kind.Range r) id = tt
proc_by (kind.Proc p) id = (refl, refl)
proc_by (kind.CoreProc r v) id = (refl, refl)
proc_by (kind.Fiber p e) id = tt
proc_by (kind.Exception m d) id = tt
proc_by (kind.Enumerator e) id = tt
proc_by (kind.Yielder p) id = tt

fiber_there : (x : Kind) (id : ObjId)
    → OptionIs (λ i. (i ≡ id) × (sort_of x ≡ sort.Fiber)) (if_there (fiber_of x) (Obj id))
fiber_there kind.Plain id = tt
fiber_there (kind.Class c) id = tt
fiber_there (kind.String s) id = tt
fiber_there (kind.Array a) id = tt
fiber_there (kind.Hash h) id = tt
fiber_there (kind.Range r) id = tt
fiber_there (kind.Proc p) id = tt
fiber_there (kind.CoreProc r v) id = tt
fiber_there (kind.Fiber p e) id = (refl, refl)
fiber_there (kind.Exception m d) id = tt
fiber_there (kind.Enumerator e) id = tt
fiber_there (kind.Yielder p) id = tt

exception_by : (x : Kind) (id : ObjId)
    → OptionIs (λ i. (i ≡ id) × (sort_of x ≡ sort.Exception)) (if_there (exception_of x) (Obj id))
exception_by kind.Plain id = tt
exception_by (kind.Class c) id = tt
exception_by (kind.String s) id = tt
exception_by (kind.Array a) id = tt
exception_by (kind.Hash h) id = tt
exception_by (kind.Range r) id = tt
exception_by (kind.Proc p) id = tt
exception_by (kind.CoreProc r v) id = tt
exception_by (kind.Fiber p e) id = tt
exception_by (kind.Exception m d) id = (refl, refl)
exception_by (kind.Enumerator e) id = tt
exception_by (kind.Yielder p) id = tt

class_plays : (s : Sort) → is_class_sort s ≡ true → plays Class s ≡ true
class_plays sort.Plain h = h
class_plays sort.Class h = refl
class_plays sort.Singleton h = h
class_plays sort.Module h = h
class_plays sort.String h = h
class_plays sort.Array h = h
class_plays sort.Hash h = h
class_plays sort.Range h = h
class_plays sort.Proc h = h
class_plays sort.Fiber h = h
class_plays sort.Exception h = h
class_plays sort.Enumerator h = h
class_plays sort.Yielder h = h

module_plays : (s : Sort) → is_module_sort s ≡ true → plays Module s ≡ true
module_plays sort.Plain h = h
module_plays sort.Class h = h
module_plays sort.Singleton h = h
module_plays sort.Module h = refl
module_plays sort.String h = h
module_plays sort.Array h = h
module_plays sort.Hash h = h
module_plays sort.Range h = h
module_plays sort.Proc h = h
module_plays sort.Fiber h = h
module_plays sort.Exception h = h
module_plays sort.Enumerator h = h
module_plays sort.Yielder h = h

there_then : {A : Type 0} (o : Option A) (id : ObjId) (P : ObjId → Type 0) → OptionIs P (if_there o (Obj id))
    → OptionIs (λ _. P id) o
there_then None id P h = tt
there_then (Some x) id P h = h

module _ (st : Store) (sound : Sound st) where
  role_there : (r : Role) (s : Sort) (id i : ObjId) → plays r s ≡ true → Is (census st) Any id
      → (i ≡ id) × (sort_at st.objects id ≡ s) → Is (census st) r i
  role_there r s id i may is p = subst (Is (census st) r) (sym p.0)
      (has_role st r id (is_good st Any id is) (ap (plays r) p.1 ∙ may))

  sort_there : (s : Sort) (id i : ObjId) → Is (census st) Any id → (i ≡ id) × (sort_at st.objects id ≡ s)
      → HasSort (census st) s i
  sort_there s id i is p = subst (HasSort (census st) s) (sym p.0)
      (sort_found st id (is_good st Any id is) ∙ ap Some p.1)

  pub array_is : (v : Value) → IsValue (census st) v → OptionIs (Is (census st) Array) (an_array st.objects v)
  array_is Nil is = tt
  array_is True is = tt
  array_is False is = tt
  array_is (Int z) is = tt
  array_is (Sym s) is = tt
  array_is (Obj id) is = option_stays _ (Is (census st) Array) (λ i. role_there Array sort.Array id i refl is)
      (an_array st.objects (Obj id)) (array_by (object_at st.objects id).kind id)

  pub proc_is : (v : Value) → IsValue (census st) v → OptionIs (Is (census st) Proc) (a_proc st.objects v)
  proc_is Nil is = tt
  proc_is True is = tt
  proc_is False is = tt
  proc_is (Int z) is = tt
  proc_is (Sym s) is = tt
  proc_is (Obj id) is = option_stays _ (Is (census st) Proc) (λ i. role_there Proc sort.Proc id i refl is)
      (a_proc st.objects (Obj id)) (proc_by (object_at st.objects id).kind id)

  pub fiber_is : (v : Value) → IsValue (census st) v → OptionIs (Is (census st) Fiber) (a_fiber st.objects v)
  fiber_is Nil is = tt
  fiber_is True is = tt
  fiber_is False is = tt
  fiber_is (Int z) is = tt
  fiber_is (Sym s) is = tt
  fiber_is (Obj id) is = option_stays _ (Is (census st) Fiber) (λ i. role_there Fiber sort.Fiber id i refl is)
      (a_fiber st.objects (Obj id)) (fiber_there (object_at st.objects id).kind id)

  pub string_is : (v : Value) → IsValue (census st) v → OptionIs (HasSort (census st) sort.String) (a_string st.objects v)
  string_is Nil is = tt
  string_is True is = tt
  string_is False is = tt
  string_is (Int z) is = tt
  string_is (Sym s) is = tt
  string_is (Obj id) is = option_stays _ (HasSort (census st) sort.String) (λ i. sort_there sort.String id i is)
      (a_string st.objects (Obj id)) (string_by (object_at st.objects id).kind id)

  pub hash_is : (v : Value) → IsValue (census st) v → OptionIs (HasSort (census st) sort.Hash) (a_hash st.objects v)
  hash_is Nil is = tt
  hash_is True is = tt
  hash_is False is = tt
  hash_is (Int z) is = tt
  hash_is (Sym s) is = tt
  hash_is (Obj id) is = option_stays _ (HasSort (census st) sort.Hash) (λ i. sort_there sort.Hash id i is)
      (a_hash st.objects (Obj id)) (hash_there (object_at st.objects id).kind id)

  pub exception_is : (v : Value) → IsValue (census st) v → OptionIs (IsException (census st)) (an_exception st.objects v)
  exception_is Nil is = tt
  exception_is True is = tt
  exception_is False is = tt
  exception_is (Int z) is = tt
  exception_is (Sym s) is = tt
  exception_is (Obj id) is = option_stays _ (IsException (census st)) (λ i. sort_there sort.Exception id i is)
      (an_exception st.objects (Obj id)) (exception_by (object_at st.objects id).kind id)

  -- an exception itself
  pub exception_itself : (id : ObjId) → Is (census st) Any id
      → OptionIs (λ _. IsException (census st) id) (an_exception st.objects (Obj id))
  exception_itself id is = option_stays _ (λ _. IsException (census st) id)
      (λ i p. sort_found st id (is_good st Any id is) ∙ ap Some p.1) (an_exception st.objects (Obj id))
      (exception_by (object_at st.objects id).kind id)

  -- what can be called is a Proc
  pub runs_proc : (id : ObjId) → Is (census st) Any id
      → OptionIs (λ _. Is (census st) Proc id) (callable_of (kind_in st.objects (Obj id)))
  runs_proc id is = there_then (callable_of (object_at st.objects id).kind) id (Is (census st) Proc) (proc_is (Obj id) is)

  pub object_is : (v : Value) → IsValue (census st) v → OptionIs (Is (census st) Any) (object_in v)
  object_is Nil is = tt
  object_is True is = tt
  object_is False is = tt
  object_is (Int z) is = tt
  object_is (Sym s) is = tt
  object_is (Obj id) is = is

  pub symbol_is : (v : Value) → IsValue (census st) v → OptionIs (IsSymbol (census st)) (symbol_in v)
  symbol_is Nil is = tt
  symbol_is True is = tt
  symbol_is False is = tt
  symbol_is (Int z) is = tt
  symbol_is (Sym s) is = is
  symbol_is (Obj id) is = tt

  pub present_is : (v : Value) → IsValue (census st) v → OptionIs (IsValue (census st)) (present v)
  present_is Nil is = tt
  present_is True is = tt
  present_is False is = tt
  present_is (Int z) is = tt
  present_is (Sym s) is = is
  present_is (Obj id) is = is

  of_sort : (test : Sort → Bool) (r : Role) → ((s : Sort) → test s ≡ true → plays r s ≡ true) → (v : Value)
      → IsValue (census st) v → OptionIs (Is (census st) r) (object_of_sort test st.objects v)
  of_sort test r plays_it Nil is = tt
  of_sort test r plays_it True is = tt
  of_sort test r plays_it False is = tt
  of_sort test r plays_it (Int z) is = tt
  of_sort test r plays_it (Sym s) is = tt
  of_sort test r plays_it (Obj id) is = by (test (sort_at st.objects id)) refl
    where
      by : (c : Bool) → test (sort_at st.objects id) ≡ c
          → OptionIs (Is (census st) r) (if c then Some id else None)
      by true e = has_role st r id (is_good st Any id is) (plays_it (sort_at st.objects id) e)
      by false e = tt

  pub space_is : (v : Value) → IsValue (census st) v → OptionIs (Is (census st) ClassOrModule) (space_in st.objects v)
  space_is v is = of_sort is_space_sort ClassOrModule (λ s h. h) v is

  pub class_is : (v : Value) → IsValue (census st) v
      → OptionIs (Is (census st) Class) (object_of_sort is_class_sort st.objects v)
  class_is v is = of_sort is_class_sort Class class_plays v is

  pub module_is : (v : Value) → IsValue (census st) v
      → OptionIs (Is (census st) Module) (object_of_sort is_module_sort st.objects v)
  module_is v is = of_sort is_module_sort Module module_plays v is

  -- what a value holds is right where its number is
  pub sound_held : (v : Value) → IsValue (census st) v → (n : ℕ) × SoundKind (census st) n (kind_in st.objects v)
  sound_held Nil is = (0, tt)
  sound_held True is = (0, tt)
  sound_held False is = (0, tt)
  sound_held (Int z) is = (0, tt)
  sound_held (Sym s) is = (0, tt)
  sound_held (Obj id) is = (id.0, (role_object st sound Any id is).kind)

  pub elements_are : (v : Value) → IsValue (census st) v
      → OptionIs (AllAre (IsValue (census st))) (elements_in st.objects v)
  elements_are Nil is = tt
  elements_are True is = tt
  elements_are False is = tt
  elements_are (Int z) is = tt
  elements_are (Sym s) is = tt
  elements_are (Obj id) is =
      elements_by (census st) id.0 (object_at st.objects id).kind (role_object st sound Any id is).kind

  pub hash_of_is : (v : Value) → IsValue (census st) v
      → OptionIs (SoundHash (census st)) (hash_of (kind_in st.objects v))
  hash_of_is v is = let h = sound_held v is in hash_by (census st) h.0 (kind_in st.objects v) h.1

  pub message_is : (v : Value) → IsValue (census st) v → IsValue (census st) (message_of (kind_in st.objects v))
  message_is v is = let h = sound_held v is in message_by (census st) h.0 (kind_in st.objects v) h.1

  pub detail_is : (v : Value) → IsValue (census st) v → IsValue (census st) (detail_of (kind_in st.objects v))
  detail_is v is = let h = sound_held v is in detail_by (census st) h.0 (kind_in st.objects v) h.1

  pub fiber_of_is : (v : Value) → IsValue (census st) v
      → OptionIs (λ f. Is (census st) Proc f.0) (fiber_of (kind_in st.objects v))
  fiber_of_is v is = let h = sound_held v is in fiber_by (census st) h.0 (kind_in st.objects v) h.1

-- In a fine world.

module _ (b : Bodies) (w : World) (fine : Fine b w) where
  pub kind_in_held : (v : Value) → KindIs b w (kind_in w.store.objects v)
  kind_in_held Nil = tt
  kind_in_held True = tt
  kind_in_held False = tt
  kind_in_held (Int z) = tt
  kind_in_held (Sym s) = tt
  kind_in_held (Obj id) = kind_held b w fine id

  -- what a Proc runs
  pub callable_is : (v : Value) → IsValue (census w.store) v
      → OptionIs (CallableIs b w) (callable_of (kind_in w.store.objects v))
  callable_is v is =
      let h = sound_held w.store fine.store v is in
      callable_by b w h.0 (kind_in w.store.objects v) h.1 (kind_in_held v)

  -- the methods of a class or module
  pub methods_held : (c : ObjId) → AllAre (EntryHas b w) (class_at w.store.objects c).methods
  methods_held c = methods_by b w (object_at w.store.objects c).kind (kind_held b w fine c)
