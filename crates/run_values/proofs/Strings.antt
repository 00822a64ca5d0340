-- What a value holds that is one sort of object.
use Rattle.std.proofs.Common.{◌≡◌, List, refl, ap, ◌∙◌}
use Rattle.std.specs.Prelude.{Some, None}
use Rattle.rb_value.specs.declared.value.Value.{Value}
use Rattle.rb_value.specs.declared.value.Value.TheVariants.{Nil, True, False, Int, Sym, Obj}
use Rattle.rb_value.specs.declared.value.ObjId.{ObjId}
use Rattle.rb_value.specs.declared.kind.Kind.{Kind}
use Rattle.rb_value.specs.declared.kind.Kind.TheVariants as kind
use Rattle.rb_value.specs.Object.{Object}
use Rattle.def_core.specs.Store.{object_at}
use Rattle.def_core.specs.Bind.{elements_of, elements_in}
use Rattle.def_core.specs.Parts as parts
use Rattle.def_calls.specs.Views.{if_there, string_of, hash_of, kind_in, an_array, a_string, a_hash}

string_at : (k : Kind) (o id : ObjId) → if_there (string_of k) (Obj o) ≡ Some id
    → (o ≡ id) × (string_of k ≡ Some (parts.bytes_in k))
string_at kind.Plain o id h = cc
string_at (kind.Class c) o id h = cc
string_at (kind.String s) o id h = ((cc), refl)
string_at (kind.Array a) o id h = cc
string_at (kind.Hash x) o id h = cc
string_at (kind.Range r) o id h = cc
string_at (kind.Proc p) o id h = cc
string_at (kind.CoreProc r v) o id h = cc
string_at (kind.Fiber b e) o id h = cc
string_at (kind.Exception m d) o id h = cc
string_at (kind.Enumerator e) o id h = cc
string_at (kind.Yielder b) o id h = cc

pub string_there : (objects : List Object) (v : Value) (id : ObjId) → a_string objects v ≡ Some id
    → string_of (kind_in objects v) ≡ Some (parts.text_at objects id)
string_there objects Nil id h = cc
string_there objects True id h = cc
string_there objects False id h = cc
string_there objects (Int n) id h = cc
string_there objects (Sym s) id h = cc
string_there objects (Obj o) id h =
    let p = string_at (object_at objects o).kind o id h in
    p.1 ∙ ap (λ (x : ObjId). Some (parts.text_at objects x)) p.0

no_string_at : (k : Kind) (o : ObjId) → if_there (string_of k) (Obj o) ≡ None → string_of k ≡ None
no_string_at kind.Plain o h = refl
no_string_at (kind.Class c) o h = refl
no_string_at (kind.String s) o h = cc
no_string_at (kind.Array a) o h = refl
no_string_at (kind.Hash x) o h = refl
no_string_at (kind.Range r) o h = refl
no_string_at (kind.Proc p) o h = refl
no_string_at (kind.CoreProc r v) o h = refl
no_string_at (kind.Fiber b e) o h = refl
no_string_at (kind.Exception m d) o h = refl
no_string_at (kind.Enumerator e) o h = refl
no_string_at (kind.Yielder b) o h = refl

pub no_string : (objects : List Object) (v : Value) → a_string objects v ≡ None → string_of (kind_in objects v) ≡ None
no_string objects Nil h = refl
no_string objects True h = refl
no_string objects False h = refl
no_string objects (Int n) h = refl
no_string objects (Sym s) h = refl
no_string objects (Obj o) h = no_string_at (object_at objects o).kind o h

hash_at : (k : Kind) (o id : ObjId) → if_there (hash_of k) (Obj o) ≡ Some id
    → (o ≡ id) × (hash_of k ≡ Some (parts.hash_in k))
hash_at kind.Plain o id h = cc
hash_at (kind.Class c) o id h = cc
hash_at (kind.String s) o id h = cc
hash_at (kind.Array a) o id h = cc
hash_at (kind.Hash x) o id h = ((cc), refl)
hash_at (kind.Range r) o id h = cc
hash_at (kind.Proc p) o id h = cc
hash_at (kind.CoreProc r v) o id h = cc
hash_at (kind.Fiber b e) o id h = cc
hash_at (kind.Exception m d) o id h = cc
hash_at (kind.Enumerator e) o id h = cc
hash_at (kind.Yielder b) o id h = cc

pub hash_there : (objects : List Object) (v : Value) (id : ObjId) → a_hash objects v ≡ Some id
    → hash_of (kind_in objects v) ≡ Some (parts.hash_at objects id)
hash_there objects Nil id h = cc
hash_there objects True id h = cc
hash_there objects False id h = cc
hash_there objects (Int n) id h = cc
hash_there objects (Sym s) id h = cc
hash_there objects (Obj o) id h =
    let p = hash_at (object_at objects o).kind o id h in
    p.1 ∙ ap (λ (x : ObjId). Some (parts.hash_at objects x)) p.0

no_hash_at : (k : Kind) (o : ObjId) → if_there (hash_of k) (Obj o) ≡ None → hash_of k ≡ None
no_hash_at kind.Plain o h = refl
no_hash_at (kind.Class c) o h = refl
no_hash_at (kind.String s) o h = refl
no_hash_at (kind.Array a) o h = refl
no_hash_at (kind.Hash x) o h = cc
no_hash_at (kind.Range r) o h = refl
no_hash_at (kind.Proc p) o h = refl
no_hash_at (kind.CoreProc r v) o h = refl
no_hash_at (kind.Fiber b e) o h = refl
no_hash_at (kind.Exception m d) o h = refl
no_hash_at (kind.Enumerator e) o h = refl
no_hash_at (kind.Yielder b) o h = refl

pub no_hash : (objects : List Object) (v : Value) → a_hash objects v ≡ None → hash_of (kind_in objects v) ≡ None
no_hash objects Nil h = refl
no_hash objects True h = refl
no_hash objects False h = refl
no_hash objects (Int n) h = refl
no_hash objects (Sym s) h = refl
no_hash objects (Obj o) h = no_hash_at (object_at objects o).kind o h

array_at : (k : Kind) (o id : ObjId) → if_there (elements_of k) (Obj o) ≡ Some id
    → (o ≡ id) × (elements_of k ≡ Some (parts.elements_in k))
array_at kind.Plain o id h = cc
array_at (kind.Class c) o id h = cc
array_at (kind.String s) o id h = cc
array_at (kind.Array a) o id h = ((cc), refl)
array_at (kind.Hash x) o id h = cc
array_at (kind.Range r) o id h = cc
array_at (kind.Proc p) o id h = cc
array_at (kind.CoreProc r v) o id h = cc
array_at (kind.Fiber b e) o id h = cc
array_at (kind.Exception m d) o id h = cc
array_at (kind.Enumerator e) o id h = cc
array_at (kind.Yielder b) o id h = cc

pub array_there : (objects : List Object) (v : Value) (id : ObjId) → an_array objects v ≡ Some id
    → elements_in objects v ≡ Some (parts.elements_at objects id)
array_there objects Nil id h = cc
array_there objects True id h = cc
array_there objects False id h = cc
array_there objects (Int n) id h = cc
array_there objects (Sym s) id h = cc
array_there objects (Obj o) id h =
    let p = array_at (object_at objects o).kind o id h in
    p.1 ∙ ap (λ (x : ObjId). Some (parts.elements_at objects x)) p.0

no_array_at : (k : Kind) (o : ObjId) → if_there (elements_of k) (Obj o) ≡ None → elements_of k ≡ None
no_array_at kind.Plain o h = refl
no_array_at (kind.Class c) o h = refl
no_array_at (kind.String s) o h = refl
no_array_at (kind.Array a) o h = cc
no_array_at (kind.Hash x) o h = refl
no_array_at (kind.Range r) o h = refl
no_array_at (kind.Proc p) o h = refl
no_array_at (kind.CoreProc r v) o h = refl
no_array_at (kind.Fiber b e) o h = refl
no_array_at (kind.Exception m d) o h = refl
no_array_at (kind.Enumerator e) o h = refl
no_array_at (kind.Yielder b) o h = refl

pub no_array : (objects : List Object) (v : Value) → an_array objects v ≡ None → elements_in objects v ≡ None
no_array objects Nil h = refl
no_array objects True h = refl
no_array objects False h = refl
no_array objects (Int n) h = refl
no_array objects (Sym s) h = refl
no_array objects (Obj o) h = no_array_at (object_at objects o).kind o h
