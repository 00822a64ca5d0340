-- What is read from a sound store is a value of it.
use Rattle.std.proofs.Common.{◌≡◌, ℕ, zero, suc, ℤ, ◌-◌, List, [], ◌∷◌, length, get_or, true, false, cond, refl}
use Rattle.std.specs.Prelude.{Option, Some, None, pos, negsuc, nat_lt, unwrap_or}
use Rattle.std.specs.List.{position}
use Rattle.rb_value.specs.declared.value.Value.{Value}
use Rattle.rb_value.specs.declared.value.Value.TheVariants.{Nil, True, False, Int, Sym, Obj}
use Rattle.rb_value.specs.declared.value.ObjId.{ObjId}
use Rattle.rb_value.specs.declared.value.SymId.{SymId}
use Rattle.rb_value.specs.declared.kind.Kind.{Kind}
use Rattle.rb_value.specs.declared.kind.Kind.TheVariants as kind
use Rattle.rb_value.specs.declared.variables.Variable.{Variable}
use Rattle.rb_value.specs.Variables as variables
use Rattle.rb_value.specs.declared.kind.Sort.{Sort}
use Rattle.rb_value.specs.declared.kind.Sort.TheVariants as sort
use Rattle.def_core.specs.Store.{Store, object_at, sort_at}
use Rattle.def_core.specs.Bind.{elements_of, elements_in}
use Rattle.def_core.specs.Sound.{Census, census, Sound, SoundKind, SoundVariable, Any, Array, Proc, plays, Is, IsValue, OptionIs, AllAre}
use Rattle.def_core.proofs.Roles.{is_plays}
use Rattle.def_core.proofs.Good.{role_object}
use Rattle.def_calls.specs.Values as values
use Rattle.def_calls.specs.Views.{message_of, detail_of, fiber_of}

-- an element, and nil outside
pub member_is : (k : Census) (vs : List Value) (n : ℕ) → AllAre (IsValue k) vs → IsValue k (get_or vs n Nil)
member_is k [] n all = tt
member_is k (v ∷ vs) zero all = all.0
member_is k (v ∷ vs) (suc n) all = member_is k vs n all.1

pub element_is : (k : Census) (vs : List Value) (place : ℤ) → AllAre (IsValue k) vs
    → IsValue k (values.element_at vs place)
element_is k vs (pos n) all = member_is k vs n all
element_is k vs (negsuc n) all = elim (nat_lt n (length vs)) as
    (λ b. IsValue k (cond b (get_or vs (length vs - 1 - n) Nil) Nil)) [
      | true ↦ member_is k vs (length vs - 1 - n) all
      | false ↦ tt
    ]

-- the elements of an Array
elements_right : (k : Census) (n : ℕ) (x : Kind) → SoundKind k n x → OptionIs (AllAre (IsValue k)) (elements_of x)
elements_right k n kind.Plain h = tt
elements_right k n (kind.Class c) h = tt
elements_right k n (kind.String s) h = tt
elements_right k n (kind.Array a) h = h
elements_right k n (kind.Hash x) h = tt
elements_right k n (kind.Range r) h = tt
elements_right k n (kind.Proc p) h = tt
elements_right k n (kind.CoreProc r v) h = tt
elements_right k n (kind.Fiber b e) h = tt
elements_right k n (kind.Exception m d) h = tt
elements_right k n (kind.Enumerator e) h = tt
elements_right k n (kind.Yielder b) h = tt

pub elements_are : (st : Store) → Sound st → (v : Value) → IsValue (census st) v
    → OptionIs (AllAre (IsValue (census st))) (elements_in st.objects v)
elements_are st sound Nil is = tt
elements_are st sound True is = tt
elements_are st sound False is = tt
elements_are st sound (Int n) is = tt
elements_are st sound (Sym s) is = tt
elements_are st sound (Obj id) is = elements_right (census st) id.0 (object_at st.objects id).kind
    (role_object st sound Any id is).kind

-- an instance variable, and nil where it was never set
variable_at : (k : Census) (vs : List Variable) (n : ℕ) → AllAre (SoundVariable k) vs
    → IsValue k (get_or vs n (record { name = record { 0 = 0 }; value = Nil })).value
variable_at k [] n all = tt
variable_at k (v ∷ vs) zero all = all.0.1
variable_at k (v ∷ vs) (suc n) all = variable_at k vs n all.1

value_at : (k : Census) (vs : List Variable) (place : Option ℕ) → AllAre (SoundVariable k) vs
    → IsValue k (unwrap_or (variables.value_at vs place) Nil)
value_at k vs None all = tt
value_at k vs (Some n) all = variable_at k vs n all

pub variable_is : (st : Store) → Sound st → (id : ObjId) (name : SymId) → Is (census st) Any id
    → IsValue (census st) (unwrap_or (variables.variable_of (object_at st.objects id).variables name) Nil)
variable_is st sound id name is = value_at (census st) (object_at st.objects id).variables
    (position (variables.is_named name) (object_at st.objects id).variables)
    (role_object st sound Any id is).variables

-- what an exception or a fiber has
message_right : (k : Census) (n : ℕ) (x : Kind) → SoundKind k n x → IsValue k (message_of x)
message_right k n kind.Plain h = tt
message_right k n (kind.Class c) h = tt
message_right k n (kind.String s) h = tt
message_right k n (kind.Array a) h = tt
message_right k n (kind.Hash x) h = tt
message_right k n (kind.Range r) h = tt
message_right k n (kind.Proc p) h = tt
message_right k n (kind.CoreProc r v) h = tt
message_right k n (kind.Fiber b e) h = tt
message_right k n (kind.Exception m d) h = h.0
message_right k n (kind.Enumerator e) h = tt
message_right k n (kind.Yielder b) h = tt

detail_right : (k : Census) (n : ℕ) (x : Kind) → SoundKind k n x → IsValue k (detail_of x)
detail_right k n kind.Plain h = tt
detail_right k n (kind.Class c) h = tt
detail_right k n (kind.String s) h = tt
detail_right k n (kind.Array a) h = tt
detail_right k n (kind.Hash x) h = tt
detail_right k n (kind.Range r) h = tt
detail_right k n (kind.Proc p) h = tt
detail_right k n (kind.CoreProc r v) h = tt
detail_right k n (kind.Fiber b e) h = tt
detail_right k n (kind.Exception m d) h = h.1
detail_right k n (kind.Enumerator e) h = tt
detail_right k n (kind.Yielder b) h = tt

block_right : (k : Census) (n : ℕ) (x : Kind) → SoundKind k n x → OptionIs (λ f. Is k Proc f.0) (fiber_of x)
block_right k n kind.Plain h = tt
block_right k n (kind.Class c) h = tt
block_right k n (kind.String s) h = tt
block_right k n (kind.Array a) h = tt
block_right k n (kind.Hash x) h = tt
block_right k n (kind.Range r) h = tt
block_right k n (kind.Proc p) h = tt
block_right k n (kind.CoreProc r v) h = tt
block_right k n (kind.Fiber b e) h = h
block_right k n (kind.Exception m d) h = tt
block_right k n (kind.Enumerator e) h = tt
block_right k n (kind.Yielder b) h = tt

module _ (st : Store) (sound : Sound st) (id : ObjId) (is : Is (census st) Any id) where
  abbrev held : Kind
  held = (object_at st.objects id).kind

  holds : SoundKind (census st) id.0 held
  holds = (role_object st sound Any id is).kind

  pub message_is : IsValue (census st) (message_of (object_at st.objects id).kind)
  message_is = message_right (census st) id.0 held holds

  pub detail_is : IsValue (census st) (detail_of (object_at st.objects id).kind)
  detail_is = detail_right (census st) id.0 held holds

  pub block_is : OptionIs (λ f. Is (census st) Proc f.0) (fiber_of (object_at st.objects id).kind)
  block_is = block_right (census st) id.0 held holds

-- an object that has the role of an Array is one
array_alone : (s : Sort) → plays Array s ≡ true → s ≡ sort.Array
array_alone sort.Plain h = cc
array_alone sort.Class h = cc
array_alone sort.Singleton h = cc
array_alone sort.Module h = cc
array_alone sort.String h = cc
array_alone sort.Array h = refl
array_alone sort.Hash h = cc
array_alone sort.Range h = cc
array_alone sort.Proc h = cc
array_alone sort.Fiber h = cc
array_alone sort.Exception h = cc
array_alone sort.Enumerator h = cc
array_alone sort.Yielder h = cc

pub is_array : (st : Store) (id : ObjId) → Is (census st) Array id → sort_at st.objects id ≡ sort.Array
is_array st id is = array_alone (sort_at st.objects id) (is_plays st Array id is)
