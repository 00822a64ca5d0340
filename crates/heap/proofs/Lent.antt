-- A String that lends its bytes, which are put behind another and come back.
use Rattle.std.proofs.Common.{◌≡◌, ◌≢◌, ℕ, ◌<◌, List, [], ◌++◌, length, get_or, set, true, false, refl, ap, sym, ◌∙◌, subst, arith, true≢false}
use Rattle.std.specs.Prelude.{Bool, Option, Some, None, nat_lt, if◌then◌else◌}
use Rattle.std.proofs.lemmas.Bool.Decides.{nat_tests}
use Rattle.std.proofs.lemmas.List.{get_or-set_same, get_or-set_other, get_or_past, set-set, set_comm, set-get_or}
use Rattle.rb_value.specs.declared.value.ObjId.{ObjId}
use Rattle.rb_value.specs.declared.value.Value.{Value}
use Rattle.rb_value.specs.declared.value.Value.TheVariants.{Nil, True, False, Int, Sym, Obj}
use Rattle.rb_value.specs.declared.kind.ClassForm.{ClassForm}
use Rattle.rb_value.specs.declared.kind.ClassForm.TheVariants as form
use Rattle.rb_value.specs.declared.kind.Kind.{Kind}
use Rattle.rb_value.specs.declared.kind.Kind.TheVariants as kind
use Rattle.rb_value.specs.Object.{Object}
use Rattle.rb_value.specs.Sort.{sort_of, sort_of_form}
use Rattle.rb_store.specs.Held.{Held}
use Rattle.def_core.specs.Store.{Store, object_at, sort_at, absent}
use Rattle.def_core.specs.Parts.{bytes_in, text_at, with_text}
use Rattle.def_core.specs.Sound.{has_object}
use Rattle.def_core.proofs.Good.{good_below, good_has}
use Rattle.def_calls.specs.Views.{string_of, kind_in, a_string}
use Rattle.def_calls.specs.Values.{text_of_value, text_or_class}
use Rattle.heap.specs.Changes.{with_objects, with_bytes, with_more_bytes}
use Rattle.heap.specs.Operands.{own, is_string}
use Rattle.heap.proofs.Sorted.{text_there, string_at}

form_is_none : (f : ClassForm) → is_string (sort_of_form f) ≡ false
form_is_none form.Class = refl
form_is_none form.Singleton = refl
form_is_none form.Module = refl

-- a kind that is a String's is that of its bytes
string_is : (k : Kind) → is_string (sort_of k) ≡ true → kind.String (bytes_in k) ≡ k
string_is kind.Plain e = cc
string_is (kind.Class c) e = absurd (true≢false (sym e ∙ form_is_none c.form))
string_is (kind.String s) e = refl
string_is (kind.Array a) e = cc
string_is (kind.Hash h) e = cc
string_is (kind.Range r) e = cc
string_is (kind.Proc p) e = cc
string_is (kind.CoreProc r v) e = cc
string_is (kind.Fiber b n) e = cc
string_is (kind.Exception m d) e = cc
string_is (kind.Enumerator n) e = cc
string_is (kind.Yielder b) e = cc

-- where an object is a String, it is in the store
string_within : (xs : List Object) (id : ObjId) → is_string (sort_at xs id) ≡ true → id.0 < length xs
string_within xs id e = elim (nat_lt id.0 (length xs)) as (λ b. nat_lt id.0 (length xs) ≡ b → id.0 < length xs) [
  | true ↦ λ within. grind (arith, nat_tests, within)
  | false ↦ λ outside. absurd (true≢false (sym e
      ∙ ap (λ (o : Object). is_string (sort_of o.kind))
      (get_or_past xs id.0 absent (grind (arith, nat_tests, outside)))))
] refl

abbrev emptied : Object → Object
emptied o = record o { kind = kind.String [] }

-- the object of a String that is emptied
taken : (xs : List Object) (id : ObjId) → is_string (sort_at xs id) ≡ true
    → object_at (with_text xs id []) id ≡ emptied (object_at xs id)
taken xs id e = get_or-set_same xs id.0 (emptied (object_at xs id)) absent (string_within xs id e)

filled : (o : Object) → is_string (sort_of o.kind) ≡ true → record o { kind = kind.String (bytes_in o.kind) } ≡ o
filled o e = ap (λ k. record o { kind = k }) (string_is o.kind e)

-- put back into an emptied String, in the place of which nothing else was put
put_back : (xs ys : List Object) (id : ObjId) → is_string (sort_at xs id) ≡ true
    → object_at ys id ≡ emptied (object_at xs id) → with_text ys id (text_at xs id) ≡ set ys id.0 (object_at xs id)
put_back xs ys id e same = ap (set ys id.0) (ap (λ (o : Object). record o { kind = kind.String (text_at xs id) }) same
    ∙ filled (object_at xs id) e)

restored : (xs : List Object) (id : ObjId) → is_string (sort_at xs id) ≡ true
    → with_text (with_text xs id []) id (text_at xs id) ≡ xs
restored xs id e = put_back xs (with_text xs id []) id e (taken xs id e)
    ∙ set-set xs id.0 (emptied (object_at xs id)) (object_at xs id) ∙ set-get_or xs id.0 absent

when_string : (h : Held) (id : ObjId) (text : List ℕ) → is_string (sort_at h.store.objects id) ≡ true
    → with_bytes h id text ≡ with_objects h (with_text h.store.objects id text)
when_string h id text e = ap (λ b. if b then with_objects h (with_text h.store.objects id text) else h) e

sort_taken : (xs : List Object) (id : ObjId) → is_string (sort_at xs id) ≡ true
    → is_string (sort_at (with_text xs id []) id) ≡ true
sort_taken xs id e = ap (λ (o : Object). is_string (sort_of o.kind)) (taken xs id e)

-- bytes that a String lends come back
pub given_back : (h : Held) (id : ObjId) → is_string (sort_at h.store.objects id) ≡ true
    → with_bytes (with_bytes h id []) id (text_at h.store.objects id) ≡ h
given_back h id e = ap (λ g. with_bytes g id (text_at h.store.objects id)) (when_string h id [] e)
    ∙ when_string (with_objects h (with_text h.store.objects id [])) id (text_at h.store.objects id)
    (sort_taken h.store.objects id e)
    ∙ ap (with_objects h) (restored h.store.objects id e)

-- Bytes of one String go behind those of another meanwhile.

other_object : (xs : List Object) (id from : ObjId) → id.0 ≢ from.0
    → object_at (with_text xs from []) id ≡ object_at xs id
other_object xs id from apart = get_or-set_other xs from.0 id.0 (emptied (object_at xs from)) absent apart

abbrev grown : Object → List ℕ → Object
grown o more = record o { kind = kind.String (bytes_in o.kind ++ more) }

appended_objects : (xs : List Object) (id from : ObjId) → id.0 ≢ from.0 → is_string (sort_at xs from) ≡ true
    → (more : List ℕ) → with_text (set (with_text xs from []) id.0 (grown (object_at xs id) more)) from (text_at xs from)
    ≡ set xs id.0 (grown (object_at xs id) more)
appended_objects xs id from apart e more =
    let y = grown (object_at xs id) more in
    let o = object_at xs from in
    let empty = emptied o in
    let back : from.0 ≢ id.0 = λ same. apart (sym same) in
    put_back xs (set (with_text xs from []) id.0 y) from e
    (get_or-set_other (with_text xs from []) id.0 from.0 y absent back ∙ taken xs from e)
    ∙ ap (λ l. set l from.0 o) (set_comm xs from.0 id.0 empty y back)
    ∙ set-set (set xs id.0 y) from.0 empty o
    ∙ set_comm xs id.0 from.0 y o apart
    ∙ ap (λ l. set l id.0 y) (set-get_or xs from.0 absent)

-- what is put behind a String while another one is empty
meanwhile : (h : Held) (id from : ObjId) → id.0 ≢ from.0 → (more : List ℕ) → is_string (sort_at h.store.objects id) ≡ true
    → with_more_bytes (with_objects h (with_text h.store.objects from [])) id more
    ≡ with_objects h (set (with_text h.store.objects from []) id.0 (grown (object_at h.store.objects id) more))
meanwhile h id from apart more e =
    let ts = with_text h.store.objects from [] in
    ap (λ (o : Object). if is_string (sort_of o.kind) then with_objects h (set ts id.0 (grown o more)) else with_objects h ts)
    (other_object h.store.objects id from apart)
    ∙ ap (λ b. if b then with_objects h (set ts id.0 (grown (object_at h.store.objects id) more)) else with_objects h ts) e

-- nothing is put behind what is no String
nothing_meanwhile : (h : Held) (id from : ObjId) → id.0 ≢ from.0 → (more : List ℕ)
    → is_string (sort_at h.store.objects id) ≡ false
    → with_more_bytes (with_objects h (with_text h.store.objects from [])) id more
    ≡ with_objects h (with_text h.store.objects from [])
nothing_meanwhile h id from apart more e =
    let ts = with_text h.store.objects from [] in
    ap (λ (o : Object). if is_string (sort_of o.kind) then with_objects h (set ts id.0 (grown o more)) else with_objects h ts)
    (other_object h.store.objects id from apart)
    ∙ ap (λ b. if b then with_objects h (set ts id.0 (grown (object_at h.store.objects id) more)) else with_objects h ts) e

appended_back : (b : Bool) (h : Held) (id from : ObjId) → id.0 ≢ from.0 → is_string (sort_at h.store.objects id) ≡ b
    → is_string (sort_at h.store.objects from) ≡ true
    → with_bytes (with_more_bytes (with_objects h (with_text h.store.objects from [])) id (text_at h.store.objects from))
    from (text_at h.store.objects from)
    ≡ with_more_bytes h id (text_at h.store.objects from)
appended_back true h id from apart is e =
    let xs = h.store.objects in
    let text = text_at xs from in
    let us = set (with_text xs from []) id.0 (grown (object_at xs id) text) in
    let back : from.0 ≢ id.0 = λ same. apart (sym same) in
    ap (λ g. with_bytes g from text) (meanwhile h id from apart text is)
    ∙ when_string (with_objects h us) from text
    (ap (λ (o : Object). is_string (sort_of o.kind))
    (get_or-set_other (with_text xs from []) id.0 from.0 (grown (object_at xs id) text) absent back ∙ taken xs from e))
    ∙ ap (with_objects h) (appended_objects xs id from apart e text)
    ∙ sym (ap (λ b. if b then with_objects h (set xs id.0 (grown (object_at xs id) text)) else h) is)
appended_back false h id from apart none e =
    let xs = h.store.objects in
    let text = text_at xs from in
    ap (λ g. with_bytes g from text) (nothing_meanwhile h id from apart text none)
    ∙ when_string (with_objects h (with_text xs from [])) from text (sort_taken xs from e)
    ∙ ap (with_objects h) (restored xs from e)
    ∙ sym (ap (λ b. if b then with_objects h (set xs id.0 (grown (object_at xs id) text)) else h) none)

other_number : (id from : ObjId) → from ≢ id → id.0 ≢ from.0
other_number id from apart same = apart (ap (λ (n : ℕ). record { 0 = n }) (sym same))

pub appended_and_given_back : (h : Held) (id from : ObjId) → from ≢ id → is_string (sort_at h.store.objects from) ≡ true
    → with_bytes (with_more_bytes (with_bytes h from []) id (text_at h.store.objects from)) from (text_at h.store.objects from)
    ≡ with_more_bytes h id (text_at h.store.objects from)
appended_and_given_back h id from apart e =
    let text = text_at h.store.objects from in
    ap (λ g. with_bytes (with_more_bytes g id text) from text) (when_string h from [] e)
    ∙ appended_back (is_string (sort_at h.store.objects id)) h id from (other_number id from apart) refl e

-- What a String is in a text.

string_sort : (k : Kind) (text : List ℕ) → string_of k ≡ Some text → is_string (sort_of k) ≡ true
string_sort kind.Plain t e = cc
string_sort (kind.Class c) t e = cc
string_sort (kind.String s) t e = refl
string_sort (kind.Array a) t e = cc
string_sort (kind.Hash h) t e = cc
string_sort (kind.Range r) t e = cc
string_sort (kind.Proc p) t e = cc
string_sort (kind.CoreProc r v) t e = cc
string_sort (kind.Fiber b n) t e = cc
string_sort (kind.Exception m d) t e = cc
string_sort (kind.Enumerator n) t e = cc
string_sort (kind.Yielder b) t e = cc

pub a_string_is : (st : Store) (v : Value) (id : ObjId) → a_string st.objects v ≡ Some id
    → is_string (sort_at st.objects id) ≡ true
a_string_is st v id h = string_sort (object_at st.objects id).kind (text_at st.objects id)
    (ap (λ u. string_of (kind_in st.objects u)) (sym (string_at st v id h)) ∙ text_there st v id h)

own_there : (st : Store) (id : ObjId) → has_object st.objects id ≡ true → own st (Obj id) ≡ Obj id
own_there st id e = ap (λ b. if b then Obj id else Nil) e

pub text_of_a_string : (st : Store) (v : Value) (id : ObjId) → a_string st.objects v ≡ Some id
    → text_of_value st (own st v) ≡ text_at st.objects id
unfolding text_of_value
text_of_a_string st v id h =
    let is = string_at st v id h in
    ap (λ u. text_of_value st (own st u)) is
    ∙ ap (text_of_value st) (own_there st id
    (good_has st id (good_below st id (string_within st.objects id (a_string_is st v id h)))))
    ∙ ap (text_or_class st (Obj id)) (ap (λ u. string_of (kind_in st.objects u)) (sym is) ∙ text_there st v id h)
