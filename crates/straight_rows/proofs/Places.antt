-- Strings by their places, as the rows of the table have them.
use Rattle.std.proofs.Common.{◌≡◌, ℕ, List, Bool, true, false, refl, ap, subst, arith, if◌then◌else◌}
use Rattle.std.specs.Prelude.{Option, Some, None, ◌&&◌}
use Rattle.rb_value.specs.declared.value.Value.{Value}
use Rattle.rb_value.specs.declared.value.Value.TheVariants.{Nil, True, False, Int, Sym, Obj}
use Rattle.rb_value.specs.declared.value.ObjId.{ObjId}
use Rattle.rb_value.specs.declared.kind.Kind.{Kind}
use Rattle.rb_value.specs.declared.kind.Kind.TheVariants as kind
use Rattle.rb_value.specs.declared.kind.ClassForm.{ClassForm}
use Rattle.rb_value.specs.declared.kind.ClassForm.TheVariants as form
use Rattle.rb_value.specs.declared.kind.Sort.{Sort}
use Rattle.rb_value.specs.declared.kind.Sort.TheVariants as sort
use Rattle.rb_value.specs.contracts.kind.SortPartialEq.TheImpl as sorts
use Rattle.rb_value.specs.Object.{Object}
use Rattle.rb_value.specs.Sort.{sort_of, sort_of_form}
use Rattle.def_core.specs.Store.{Store, object_at, sort_at}
use Rattle.def_core.specs.Sound.{has_object}
use Rattle.def_core.proofs.Good.{absent_where_none}
use Rattle.def_calls.specs.Views.{string_of, if_there, a_string}
use Rattle.rb_store.specs.Held.{Held}
use Rattle.def_rows.specs.Operands.{place_of}
use Rattle.def_rows.specs.Answers.{appended}
use Rattle.heap.specs.Operands.{is_string}
use Rattle.heap.specs.Changes.{with_more_bytes}

abbrev if_text : Sort → ObjId → Option ObjId
if_text s id = if sorts.ghosts.eq s sort.String then Some id else None

of_form : (f : ClassForm) (id : ObjId) → None ≡ if_text (sort_of_form f) id
of_form form.Class id = refl
of_form form.Singleton id = refl
of_form form.Module id = refl

of_kind : (k : Kind) (id : ObjId) → if_there (string_of k) (Obj id) ≡ if_text (sort_of k) id
of_kind kind.Plain id = refl
of_kind (kind.Class c) id = of_form c.form id
of_kind (kind.String s) id = refl
of_kind (kind.Array a) id = refl
of_kind (kind.Hash h) id = refl
of_kind (kind.Range r) id = refl
of_kind (kind.Proc p) id = refl
of_kind (kind.CoreProc r v) id = refl
of_kind (kind.Fiber b e) id = refl
of_kind (kind.Exception m d) id = refl
of_kind (kind.Enumerator e) id = refl
of_kind (kind.Yielder b) id = refl

-- a value is a String for the heap where it is one for the rows
pub string_is : (st : Store) (v : Value) → a_string st.objects v ≡ place_of st.objects sort.String v
string_is st Nil = refl
string_is st True = refl
string_is st False = refl
string_is st (Int n) = refl
string_is st (Sym s) = refl
string_is st (Obj id) = elim (has_object st.objects id) as (λ (b : Bool). has_object st.objects id ≡ b
    → a_string st.objects (Obj id)
    ≡ (if b && sorts.ghosts.eq (sort_at st.objects id) sort.String then Some id else None)) [
      | true ↦ λ there. of_kind (object_at st.objects id).kind id
      | false ↦ λ none. ap (λ (o : Object). if_there (string_of o.kind) (Obj id)) (absent_where_none st id none)
    ] refl

sort_is : (s : Sort) → sorts.ghosts.eq s sort.String ≡ true → s ≡ sort.String
sort_is s h = grind (arith, h)

there_is : (there eq : Bool) (s : Sort) (i id : ObjId) → eq ≡ sorts.ghosts.eq s sort.String
    → (if there && eq then Some i else None) ≡ Some id → (i ≡ id) × (is_string s ≡ true)
there_is true true s i id e h = (cc, ap (λ (t : Sort). is_string t) (sort_is s cc))
there_is true false s i id e h = (cc, cc)
there_is false eq s i id e h = (cc, cc)

string_sort : (st : Store) (v : Value) (id : ObjId) → place_of st.objects sort.String v ≡ Some id
    → is_string (sort_at st.objects id) ≡ true
string_sort st Nil id h = cc
string_sort st True id h = cc
string_sort st False id h = cc
string_sort st (Int n) id h = cc
string_sort st (Sym s) id h = cc
string_sort st (Obj i) id h =
    let both = there_is (has_object st.objects i) _ (sort_at st.objects i) i id refl h in
    subst (λ (j : ObjId). is_string (sort_at st.objects j) ≡ true) both.0 both.1

-- more bytes behind those of a String, as the heap and as the rows have it
pub appended_is : (held : Held) (v : Value) (id : ObjId) (more : List ℕ)
    → place_of held.store.objects sort.String v ≡ Some id
    → with_more_bytes held id more ≡ record held { store = appended held.store more (Some id) }
appended_is held v id more h = rw (string_sort held.store v id h) refl
