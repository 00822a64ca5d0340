-- What a value is, by the sort of its object.
use Rattle.std.proofs.Common.{◌≡◌, ◌≢◌, Bool, true, false, List, refl, ap, sym, ◌∙◌}
use Rattle.std.specs.Prelude.{Option, Some, None, IfSome}
use Rattle.rb_value.specs.declared.value.Value.{Value}
use Rattle.rb_value.specs.declared.value.Value.TheVariants.{Nil, True, False, Int, Sym, Obj}
use Rattle.rb_value.specs.declared.value.ObjId.{ObjId}
use Rattle.rb_value.specs.declared.kind.Kind.{Kind}
use Rattle.rb_value.specs.declared.kind.Kind.TheVariants as kind
use Rattle.rb_value.specs.declared.kind.ClassForm.{ClassForm}
use Rattle.rb_value.specs.declared.kind.ClassForm.TheVariants as form
use Rattle.rb_value.specs.declared.kind.Sort.{Sort}
use Rattle.rb_value.specs.declared.kind.Sort.TheVariants as sort
use Rattle.rb_value.specs.Object.{Object}
use Rattle.rb_value.specs.Sort.{sort_of, sort_of_form}
use Rattle.def_core.specs.Store.{Store, absent, object_at, sort_at}
use Rattle.def_core.specs.Sound.{has_object}
use Rattle.def_core.specs.Bind.{elements_of, elements_in}
use Rattle.def_core.specs.Parts as parts
use Rattle.def_core.proofs.Good.{absent_where_none}
use Rattle.def_calls.specs.Views.{string_of, hash_of, callable_of, fiber_of, exception_of, if_there, kind_in, an_array, a_string, a_hash, a_proc, a_fiber, an_exception}

-- no object of that sort
abbrev IsNot : Store → Value → Sort → Type 0
IsNot st v s = (id : ObjId) → v ≡ Obj id → has_object st.objects id ≡ true → sort_at st.objects id ≢ s

array_form : (f : ClassForm) → sort_of_form f ≢ sort.Array
array_form form.Class h = cc
array_form form.Singleton h = cc
array_form form.Module h = cc

array_is : (k : Kind) (id : ObjId) → sort_of k ≡ sort.Array → if_there (elements_of k) (Obj id) ≡ Some id
array_is kind.Plain id h = cc
array_is (kind.Class c) id h = absurd (array_form c.form h)
array_is (kind.String s) id h = cc
array_is (kind.Array a) id h = refl
array_is (kind.Hash x) id h = cc
array_is (kind.Range r) id h = cc
array_is (kind.Proc p) id h = cc
array_is (kind.CoreProc r v) id h = cc
array_is (kind.Fiber b e) id h = cc
array_is (kind.Exception m d) id h = cc
array_is (kind.Enumerator e) id h = cc
array_is (kind.Yielder b) id h = cc

array_not : (k : Kind) (id : ObjId) → sort_of k ≢ sort.Array → if_there (elements_of k) (Obj id) ≡ None
array_not kind.Plain id h = refl
array_not (kind.Class c) id h = refl
array_not (kind.String s) id h = refl
array_not (kind.Array a) id h = absurd (h refl)
array_not (kind.Hash x) id h = refl
array_not (kind.Range r) id h = refl
array_not (kind.Proc p) id h = refl
array_not (kind.CoreProc r v) id h = refl
array_not (kind.Fiber b e) id h = refl
array_not (kind.Exception m d) id h = refl
array_not (kind.Enumerator e) id h = refl
array_not (kind.Yielder b) id h = refl

array_none : (st : Store) (v : Value) → IsNot st v sort.Array → an_array st.objects v ≡ None
array_none st Nil h = refl
array_none st True h = refl
array_none st False h = refl
array_none st (Int n) h = refl
array_none st (Sym s) h = refl
array_none st (Obj id) h = elim (has_object st.objects id) as (λ (b : Bool). has_object st.objects id ≡ b
    → an_array st.objects (Obj id) ≡ None) [
      | true ↦ λ there. array_not (object_at st.objects id).kind id (h id refl there)
      | false ↦ λ none. ap (λ (o : Object). if_there (elements_of o.kind) (Obj id)) (absent_where_none st id none)
    ] refl

pub array_by : (st : Store) (v : Value) (r : Option ObjId) → IfSome r (λ id. (v ≡ Obj id)
    × (sort_at st.objects id ≡ sort.Array)) → (r ≡ None → IsNot st v sort.Array) → r ≡ an_array st.objects v
array_by st v (Some id) is not = rw is.0 (sym (array_is (object_at st.objects id).kind id is.1))
array_by st v None is not = sym (array_none st v (not refl))

string_form : (f : ClassForm) → sort_of_form f ≢ sort.String
string_form form.Class h = cc
string_form form.Singleton h = cc
string_form form.Module h = cc

string_is : (k : Kind) (id : ObjId) → sort_of k ≡ sort.String → if_there (string_of k) (Obj id) ≡ Some id
string_is kind.Plain id h = cc
string_is (kind.Class c) id h = absurd (string_form c.form h)
string_is (kind.String s) id h = refl
string_is (kind.Array a) id h = cc
string_is (kind.Hash x) id h = cc
string_is (kind.Range r) id h = cc
string_is (kind.Proc p) id h = cc
string_is (kind.CoreProc r v) id h = cc
string_is (kind.Fiber b e) id h = cc
string_is (kind.Exception m d) id h = cc
string_is (kind.Enumerator e) id h = cc
string_is (kind.Yielder b) id h = cc

string_not : (k : Kind) (id : ObjId) → sort_of k ≢ sort.String → if_there (string_of k) (Obj id) ≡ None
string_not kind.Plain id h = refl
string_not (kind.Class c) id h = refl
string_not (kind.String s) id h = absurd (h refl)
string_not (kind.Array a) id h = refl
string_not (kind.Hash x) id h = refl
string_not (kind.Range r) id h = refl
string_not (kind.Proc p) id h = refl
string_not (kind.CoreProc r v) id h = refl
string_not (kind.Fiber b e) id h = refl
string_not (kind.Exception m d) id h = refl
string_not (kind.Enumerator e) id h = refl
string_not (kind.Yielder b) id h = refl

string_none : (st : Store) (v : Value) → IsNot st v sort.String → a_string st.objects v ≡ None
string_none st Nil h = refl
string_none st True h = refl
string_none st False h = refl
string_none st (Int n) h = refl
string_none st (Sym s) h = refl
string_none st (Obj id) h = elim (has_object st.objects id) as (λ (b : Bool). has_object st.objects id ≡ b
    → a_string st.objects (Obj id) ≡ None) [
      | true ↦ λ there. string_not (object_at st.objects id).kind id (h id refl there)
      | false ↦ λ none. ap (λ (o : Object). if_there (string_of o.kind) (Obj id)) (absent_where_none st id none)
    ] refl

pub string_by : (st : Store) (v : Value) (r : Option ObjId) → IfSome r (λ id. (v ≡ Obj id)
    × (sort_at st.objects id ≡ sort.String)) → (r ≡ None → IsNot st v sort.String) → r ≡ a_string st.objects v
string_by st v (Some id) is not = rw is.0 (sym (string_is (object_at st.objects id).kind id is.1))
string_by st v None is not = sym (string_none st v (not refl))

hash_form : (f : ClassForm) → sort_of_form f ≢ sort.Hash
hash_form form.Class h = cc
hash_form form.Singleton h = cc
hash_form form.Module h = cc

hash_is : (k : Kind) (id : ObjId) → sort_of k ≡ sort.Hash → if_there (hash_of k) (Obj id) ≡ Some id
hash_is kind.Plain id h = cc
hash_is (kind.Class c) id h = absurd (hash_form c.form h)
hash_is (kind.String s) id h = cc
hash_is (kind.Array a) id h = cc
hash_is (kind.Hash x) id h = refl
hash_is (kind.Range r) id h = cc
hash_is (kind.Proc p) id h = cc
hash_is (kind.CoreProc r v) id h = cc
hash_is (kind.Fiber b e) id h = cc
hash_is (kind.Exception m d) id h = cc
hash_is (kind.Enumerator e) id h = cc
hash_is (kind.Yielder b) id h = cc

hash_not : (k : Kind) (id : ObjId) → sort_of k ≢ sort.Hash → if_there (hash_of k) (Obj id) ≡ None
hash_not kind.Plain id h = refl
hash_not (kind.Class c) id h = refl
hash_not (kind.String s) id h = refl
hash_not (kind.Array a) id h = refl
hash_not (kind.Hash x) id h = absurd (h refl)
hash_not (kind.Range r) id h = refl
hash_not (kind.Proc p) id h = refl
hash_not (kind.CoreProc r v) id h = refl
hash_not (kind.Fiber b e) id h = refl
hash_not (kind.Exception m d) id h = refl
hash_not (kind.Enumerator e) id h = refl
hash_not (kind.Yielder b) id h = refl

hash_none : (st : Store) (v : Value) → IsNot st v sort.Hash → a_hash st.objects v ≡ None
hash_none st Nil h = refl
hash_none st True h = refl
hash_none st False h = refl
hash_none st (Int n) h = refl
hash_none st (Sym s) h = refl
hash_none st (Obj id) h = elim (has_object st.objects id) as (λ (b : Bool). has_object st.objects id ≡ b
    → a_hash st.objects (Obj id) ≡ None) [
      | true ↦ λ there. hash_not (object_at st.objects id).kind id (h id refl there)
      | false ↦ λ none. ap (λ (o : Object). if_there (hash_of o.kind) (Obj id)) (absent_where_none st id none)
    ] refl

pub hash_by : (st : Store) (v : Value) (r : Option ObjId) → IfSome r (λ id. (v ≡ Obj id)
    × (sort_at st.objects id ≡ sort.Hash)) → (r ≡ None → IsNot st v sort.Hash) → r ≡ a_hash st.objects v
hash_by st v (Some id) is not = rw is.0 (sym (hash_is (object_at st.objects id).kind id is.1))
hash_by st v None is not = sym (hash_none st v (not refl))

proc_form : (f : ClassForm) → sort_of_form f ≢ sort.Proc
proc_form form.Class h = cc
proc_form form.Singleton h = cc
proc_form form.Module h = cc

proc_is : (k : Kind) (id : ObjId) → sort_of k ≡ sort.Proc → if_there (callable_of k) (Obj id) ≡ Some id
proc_is kind.Plain id h = cc
proc_is (kind.Class c) id h = absurd (proc_form c.form h)
proc_is (kind.String s) id h = cc
proc_is (kind.Array a) id h = cc
proc_is (kind.Hash x) id h = cc
proc_is (kind.Range r) id h = cc
proc_is (kind.Proc p) id h = refl
proc_is (kind.CoreProc r v) id h = refl
proc_is (kind.Fiber b e) id h = cc
proc_is (kind.Exception m d) id h = cc
proc_is (kind.Enumerator e) id h = cc
proc_is (kind.Yielder b) id h = cc

proc_not : (k : Kind) (id : ObjId) → sort_of k ≢ sort.Proc → if_there (callable_of k) (Obj id) ≡ None
proc_not kind.Plain id h = refl
proc_not (kind.Class c) id h = refl
proc_not (kind.String s) id h = refl
proc_not (kind.Array a) id h = refl
proc_not (kind.Hash x) id h = refl
proc_not (kind.Range r) id h = refl
proc_not (kind.Proc p) id h = absurd (h refl)
proc_not (kind.CoreProc r v) id h = absurd (h refl)
proc_not (kind.Fiber b e) id h = refl
proc_not (kind.Exception m d) id h = refl
proc_not (kind.Enumerator e) id h = refl
proc_not (kind.Yielder b) id h = refl

proc_none : (st : Store) (v : Value) → IsNot st v sort.Proc → a_proc st.objects v ≡ None
proc_none st Nil h = refl
proc_none st True h = refl
proc_none st False h = refl
proc_none st (Int n) h = refl
proc_none st (Sym s) h = refl
proc_none st (Obj id) h = elim (has_object st.objects id) as (λ (b : Bool). has_object st.objects id ≡ b
    → a_proc st.objects (Obj id) ≡ None) [
      | true ↦ λ there. proc_not (object_at st.objects id).kind id (h id refl there)
      | false ↦ λ none. ap (λ (o : Object). if_there (callable_of o.kind) (Obj id)) (absent_where_none st id none)
    ] refl

pub proc_by : (st : Store) (v : Value) (r : Option ObjId) → IfSome r (λ id. (v ≡ Obj id)
    × (sort_at st.objects id ≡ sort.Proc)) → (r ≡ None → IsNot st v sort.Proc) → r ≡ a_proc st.objects v
proc_by st v (Some id) is not = rw is.0 (sym (proc_is (object_at st.objects id).kind id is.1))
proc_by st v None is not = sym (proc_none st v (not refl))

fiber_form : (f : ClassForm) → sort_of_form f ≢ sort.Fiber
fiber_form form.Class h = cc
fiber_form form.Singleton h = cc
fiber_form form.Module h = cc

fiber_is : (k : Kind) (id : ObjId) → sort_of k ≡ sort.Fiber → if_there (fiber_of k) (Obj id) ≡ Some id
fiber_is kind.Plain id h = cc
fiber_is (kind.Class c) id h = absurd (fiber_form c.form h)
fiber_is (kind.String s) id h = cc
fiber_is (kind.Array a) id h = cc
fiber_is (kind.Hash x) id h = cc
fiber_is (kind.Range r) id h = cc
fiber_is (kind.Proc p) id h = cc
fiber_is (kind.CoreProc r v) id h = cc
fiber_is (kind.Fiber b e) id h = refl
fiber_is (kind.Exception m d) id h = cc
fiber_is (kind.Enumerator e) id h = cc
fiber_is (kind.Yielder b) id h = cc

fiber_not : (k : Kind) (id : ObjId) → sort_of k ≢ sort.Fiber → if_there (fiber_of k) (Obj id) ≡ None
fiber_not kind.Plain id h = refl
fiber_not (kind.Class c) id h = refl
fiber_not (kind.String s) id h = refl
fiber_not (kind.Array a) id h = refl
fiber_not (kind.Hash x) id h = refl
fiber_not (kind.Range r) id h = refl
fiber_not (kind.Proc p) id h = refl
fiber_not (kind.CoreProc r v) id h = refl
fiber_not (kind.Fiber b e) id h = absurd (h refl)
fiber_not (kind.Exception m d) id h = refl
fiber_not (kind.Enumerator e) id h = refl
fiber_not (kind.Yielder b) id h = refl

fiber_none : (st : Store) (v : Value) → IsNot st v sort.Fiber → a_fiber st.objects v ≡ None
fiber_none st Nil h = refl
fiber_none st True h = refl
fiber_none st False h = refl
fiber_none st (Int n) h = refl
fiber_none st (Sym s) h = refl
fiber_none st (Obj id) h = elim (has_object st.objects id) as (λ (b : Bool). has_object st.objects id ≡ b
    → a_fiber st.objects (Obj id) ≡ None) [
      | true ↦ λ there. fiber_not (object_at st.objects id).kind id (h id refl there)
      | false ↦ λ none. ap (λ (o : Object). if_there (fiber_of o.kind) (Obj id)) (absent_where_none st id none)
    ] refl

pub fiber_by : (st : Store) (v : Value) (r : Option ObjId) → IfSome r (λ id. (v ≡ Obj id)
    × (sort_at st.objects id ≡ sort.Fiber)) → (r ≡ None → IsNot st v sort.Fiber) → r ≡ a_fiber st.objects v
fiber_by st v (Some id) is not = rw is.0 (sym (fiber_is (object_at st.objects id).kind id is.1))
fiber_by st v None is not = sym (fiber_none st v (not refl))

exception_form : (f : ClassForm) → sort_of_form f ≢ sort.Exception
exception_form form.Class h = cc
exception_form form.Singleton h = cc
exception_form form.Module h = cc

exception_is : (k : Kind) (id : ObjId) → sort_of k ≡ sort.Exception → if_there (exception_of k) (Obj id) ≡ Some id
exception_is kind.Plain id h = cc
exception_is (kind.Class c) id h = absurd (exception_form c.form h)
exception_is (kind.String s) id h = cc
exception_is (kind.Array a) id h = cc
exception_is (kind.Hash x) id h = cc
exception_is (kind.Range r) id h = cc
exception_is (kind.Proc p) id h = cc
exception_is (kind.CoreProc r v) id h = cc
exception_is (kind.Fiber b e) id h = cc
exception_is (kind.Exception m d) id h = refl
exception_is (kind.Enumerator e) id h = cc
exception_is (kind.Yielder b) id h = cc

exception_not : (k : Kind) (id : ObjId) → sort_of k ≢ sort.Exception → if_there (exception_of k) (Obj id) ≡ None
exception_not kind.Plain id h = refl
exception_not (kind.Class c) id h = refl
exception_not (kind.String s) id h = refl
exception_not (kind.Array a) id h = refl
exception_not (kind.Hash x) id h = refl
exception_not (kind.Range r) id h = refl
exception_not (kind.Proc p) id h = refl
exception_not (kind.CoreProc r v) id h = refl
exception_not (kind.Fiber b e) id h = refl
exception_not (kind.Exception m d) id h = absurd (h refl)
exception_not (kind.Enumerator e) id h = refl
exception_not (kind.Yielder b) id h = refl

exception_none : (st : Store) (v : Value) → IsNot st v sort.Exception → an_exception st.objects v ≡ None
exception_none st Nil h = refl
exception_none st True h = refl
exception_none st False h = refl
exception_none st (Int n) h = refl
exception_none st (Sym s) h = refl
exception_none st (Obj id) h = elim (has_object st.objects id) as (λ (b : Bool). has_object st.objects id ≡ b
    → an_exception st.objects (Obj id) ≡ None) [
      | true ↦ λ there. exception_not (object_at st.objects id).kind id (h id refl there)
      | false ↦ λ none. ap (λ (o : Object). if_there (exception_of o.kind) (Obj id)) (absent_where_none st id none)
    ] refl

pub exception_by : (st : Store) (v : Value) (r : Option ObjId) → IfSome r (λ id. (v ≡ Obj id)
    × (sort_at st.objects id ≡ sort.Exception)) → (r ≡ None → IsNot st v sort.Exception) → r ≡ an_exception st.objects v
exception_by st v (Some id) is not = rw is.0 (sym (exception_is (object_at st.objects id).kind id is.1))
exception_by st v None is not = sym (exception_none st v (not refl))

text_in_kind : (k : Kind) (i id : ObjId) → if_there (string_of k) (Obj i) ≡ Some id → (i ≡ id) × (string_of k ≡ Some (parts.bytes_in k))
text_in_kind kind.Plain i id h = (cc, cc)
text_in_kind (kind.Class c) i id h = (cc, cc)
text_in_kind (kind.String s) i id h = (cc, refl)
text_in_kind (kind.Array a) i id h = (cc, cc)
text_in_kind (kind.Hash x) i id h = (cc, cc)
text_in_kind (kind.Range r) i id h = (cc, cc)
text_in_kind (kind.Proc p) i id h = (cc, cc)
text_in_kind (kind.CoreProc r v) i id h = (cc, cc)
text_in_kind (kind.Fiber b e) i id h = (cc, cc)
text_in_kind (kind.Exception m d) i id h = (cc, cc)
text_in_kind (kind.Enumerator e) i id h = (cc, cc)
text_in_kind (kind.Yielder b) i id h = (cc, cc)

pub text_there : (st : Store) (v : Value) (id : ObjId) → a_string st.objects v ≡ Some id
    → string_of (kind_in st.objects v) ≡ Some (parts.text_at st.objects id)
text_there st Nil id h = cc
text_there st True id h = cc
text_there st False id h = cc
text_there st (Int n) id h = cc
text_there st (Sym s) id h = cc
text_there st (Obj i) id h =
    let both = text_in_kind (object_at st.objects i).kind i id h in
    both.1 ∙ ap (λ (j : ObjId). Some (parts.text_at st.objects j)) both.0

-- the String that a value is is the value
pub string_at : (st : Store) (v : Value) (id : ObjId) → a_string st.objects v ≡ Some id → v ≡ Obj id
string_at st Nil id h = cc
string_at st True id h = cc
string_at st False id h = cc
string_at st (Int n) id h = cc
string_at st (Sym s) id h = cc
string_at st (Obj i) id h = ap Obj (text_in_kind (object_at st.objects i).kind i id h).0

text_in_none : (k : Kind) (i : ObjId) → if_there (string_of k) (Obj i) ≡ None → string_of k ≡ None
text_in_none kind.Plain i h = refl
text_in_none (kind.Class c) i h = refl
text_in_none (kind.String s) i h = cc
text_in_none (kind.Array a) i h = refl
text_in_none (kind.Hash x) i h = refl
text_in_none (kind.Range r) i h = refl
text_in_none (kind.Proc p) i h = refl
text_in_none (kind.CoreProc r v) i h = refl
text_in_none (kind.Fiber b e) i h = refl
text_in_none (kind.Exception m d) i h = refl
text_in_none (kind.Enumerator e) i h = refl
text_in_none (kind.Yielder b) i h = refl

pub text_none : (st : Store) (v : Value) → a_string st.objects v ≡ None → string_of (kind_in st.objects v) ≡ None
text_none st Nil h = refl
text_none st True h = refl
text_none st False h = refl
text_none st (Int n) h = refl
text_none st (Sym s) h = refl
text_none st (Obj i) h = text_in_none (object_at st.objects i).kind i h

elements_in_kind : (k : Kind) (i id : ObjId) → if_there (elements_of k) (Obj i) ≡ Some id → (i ≡ id) × (elements_of k ≡ Some (parts.elements_in k))
elements_in_kind kind.Plain i id h = (cc, cc)
elements_in_kind (kind.Class c) i id h = (cc, cc)
elements_in_kind (kind.String s) i id h = (cc, cc)
elements_in_kind (kind.Array a) i id h = (cc, refl)
elements_in_kind (kind.Hash x) i id h = (cc, cc)
elements_in_kind (kind.Range r) i id h = (cc, cc)
elements_in_kind (kind.Proc p) i id h = (cc, cc)
elements_in_kind (kind.CoreProc r v) i id h = (cc, cc)
elements_in_kind (kind.Fiber b e) i id h = (cc, cc)
elements_in_kind (kind.Exception m d) i id h = (cc, cc)
elements_in_kind (kind.Enumerator e) i id h = (cc, cc)
elements_in_kind (kind.Yielder b) i id h = (cc, cc)

pub elements_there : (st : Store) (v : Value) (id : ObjId) → an_array st.objects v ≡ Some id
    → elements_in st.objects v ≡ Some (parts.elements_at st.objects id)
elements_there st Nil id h = cc
elements_there st True id h = cc
elements_there st False id h = cc
elements_there st (Int n) id h = cc
elements_there st (Sym s) id h = cc
elements_there st (Obj i) id h =
    let both = elements_in_kind (object_at st.objects i).kind i id h in
    both.1 ∙ ap (λ (j : ObjId). Some (parts.elements_at st.objects j)) both.0

elements_in_none : (k : Kind) (i : ObjId) → if_there (elements_of k) (Obj i) ≡ None → elements_of k ≡ None
elements_in_none kind.Plain i h = refl
elements_in_none (kind.Class c) i h = refl
elements_in_none (kind.String s) i h = refl
elements_in_none (kind.Array a) i h = cc
elements_in_none (kind.Hash x) i h = refl
elements_in_none (kind.Range r) i h = refl
elements_in_none (kind.Proc p) i h = refl
elements_in_none (kind.CoreProc r v) i h = refl
elements_in_none (kind.Fiber b e) i h = refl
elements_in_none (kind.Exception m d) i h = refl
elements_in_none (kind.Enumerator e) i h = refl
elements_in_none (kind.Yielder b) i h = refl

pub elements_none : (st : Store) (v : Value) → an_array st.objects v ≡ None → elements_in st.objects v ≡ None
elements_none st Nil h = refl
elements_none st True h = refl
elements_none st False h = refl
elements_none st (Int n) h = refl
elements_none st (Sym s) h = refl
elements_none st (Obj i) h = elements_in_none (object_at st.objects i).kind i h
