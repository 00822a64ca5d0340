-- A pair is put under a String without fail, and under another value, or the heap stays as it was.
use Rattle.std.proofs.Common.{◌≡◌, ◌≢◌, Bool, true, false, ℕ, List, length, refl, ap, sym, ◌∙◌, true≢false, if◌then◌else◌}
use Rattle.std.proofs.lemmas.List.{get_or_push}
use Rattle.std.specs.Prelude.{Option, Some, None, is_some, Result, Ok, Err, IfOk, IfErr}
use Rattle.rb_value.specs.declared.value.Value.{Value}
use Rattle.rb_value.specs.declared.value.Value.TheVariants.{Nil, True, False, Int, Sym, Obj}
use Rattle.rb_value.specs.declared.value.ObjId.{ObjId}
use Rattle.rb_value.specs.declared.key.Key.{Key}
use Rattle.rb_value.specs.declared.hash.HashItem.{HashItem}
use Rattle.rb_value.specs.declared.core_class.CoreClass.TheVariants as class
use Rattle.rb_value.specs.declared.kind.Kind.{Kind}
use Rattle.rb_value.specs.declared.kind.Kind.TheVariants as kind
use Rattle.rb_value.specs.Object.{Object}
use Rattle.def_core.specs.declared.cause.Cause.{Cause}
use Rattle.def_core.specs.declared.cause.Cause.TheVariants.{StackTooDeep}
use Rattle.def_core.specs.Store.{Store, absent, core, fresh, next_number, object_at, same_object, sort_at}
use Rattle.def_core.specs.Classes.{plain_class_of}
use Rattle.def_core.specs.Sound.{has_object}
use Rattle.def_core.specs.Bind.{elements_of}
use Rattle.def_core.specs.Parts.{pair_of}
use Rattle.def_core.proofs.Good.{absent_where_none}
use Rattle.def_calls.specs.Values.{key_of, key_by}
use Rattle.def_calls.specs.Views.{a_string, if_there, kind_in, string_of}
use Rattle.rb_store.specs.Held.{Held}
use Rattle.heap.specs.Operands.{is_hash, own}
use Rattle.heap.specs.Made.{with_new}
use Rattle.heap.specs.Changes.{can_put, put_under, with_pair}
use Rattle.rows_items.specs.declared.error.RowError.{RowError}
use Rattle.rows_items.specs.declared.error.RowError.TheVariants.{Fails, NoMemory}
use Rattle.rows_items.specs.Told.{Leaves, Refused}
use Rattle.rows_items.specs.Keyed.{copied, put, put_shown, shown_beside}

-- A String has a key.

abbrev IsText : Store → Value → Type 0
IsText st v = is_some (a_string st.objects v) ≡ true

kind_key : (objects : List Object) (k : Kind) (id : ObjId) → is_some (if_there (string_of k) (Obj id)) ≡ true
    → is_some (key_by objects (Obj id) (elements_of k) (string_of k)) ≡ true
kind_key objects kind.Plain id h = cc
kind_key objects (kind.Class c) id h = cc
kind_key objects (kind.String s) id h = refl
kind_key objects (kind.Array a) id h = cc
kind_key objects (kind.Hash x) id h = cc
kind_key objects (kind.Range r) id h = cc
kind_key objects (kind.Proc p) id h = cc
kind_key objects (kind.CoreProc r v) id h = cc
kind_key objects (kind.Fiber b e) id h = cc
kind_key objects (kind.Exception m d) id h = cc
kind_key objects (kind.Enumerator e) id h = cc
kind_key objects (kind.Yielder b) id h = cc

text_key : (st : Store) (v : Value) → IsText st v → is_some (key_of st.objects v) ≡ true
unfolding key_of
text_key st Nil h = cc
text_key st True h = cc
text_key st False h = cc
text_key st (Int n) h = cc
text_key st (Sym s) h = cc
text_key st (Obj id) h = kind_key st.objects (object_at st.objects id).kind id h

text_own : (st : Store) (v : Value) → IsText st v → own st v ≡ v
text_own st Nil h = cc
text_own st True h = cc
text_own st False h = cc
text_own st (Int n) h = cc
text_own st (Sym s) h = cc
text_own st (Obj id) h = elim (has_object st.objects id) as (λ (b : Bool). has_object st.objects id ≡ b
    → (if b then Obj id else Nil) ≡ Obj id) [
      | true ↦ λ there. refl
      | false ↦ λ none. absurd (true≢false (sym h
          ∙ ap (λ (o : Object). is_some (if_there (string_of o.kind) (Obj id))) (absent_where_none st id none)))
    ] refl

text_can_be_put : (held : Held) (id : ObjId) (v : Value) → IsText held.store v → can_put held id v ≡ true
text_can_be_put held id v h = by (is_hash (sort_at held.store.objects id))
  where
    by : (b : Bool) → (if b then is_some (key_of held.store.objects (own held.store v)) else true) ≡ true
    by true = rw (text_own held.store v h) (text_key held.store v h)
    by false = refl

-- What is shown is a String, too.

new_is_text : (held : Held) (text : List ℕ)
    → IsText (with_new held (core class.String) (kind.String text)).store (Obj (next_number held.store))
new_is_text held text = ap (λ (o : Object). is_some (if_there (string_of o.kind) (Obj (next_number held.store))))
    (get_or_push held.store.objects (fresh (core class.String) (kind.String text)) absent (length held.store.objects) refl)

abbrev Puts : ObjId → Value → Value × Held → Type 0
Puts id value s = put_shown id value s ≡ Ok (with_pair s.1 id s.0 value)

text_puts : (id : ObjId) (value v : Value) (held : Held) → IsText held.store v → Puts id value (v, held)
text_puts id value v held h = rw (text_can_be_put held id v h) refl

copied_puts : (held : Held) (id : ObjId) (v value : Value) → IsText held.store v → (text : Option (List ℕ))
    → Puts id value (copied held v text)
copied_puts held id v value h None = text_puts id value v held h
copied_puts held id v value h (Some text) =
    by (same_object (plain_class_of held.store.objects (own held.store v)) (core class.String))
  where
    by : (b : Bool) → Puts id value (if b then (Obj (next_number held.store), with_new held (core class.String) (kind.String text))
        else (v, held))
    by true = text_puts id value (Obj (next_number held.store)) (with_new held (core class.String) (kind.String text))
        (new_is_text held text)
    by false = text_puts id value v held h

beside_puts : (held : Held) (id : ObjId) (v value : Value) → IsText held.store v → (item : Option HashItem)
    → Puts id value (shown_beside held v item)
beside_puts held id v value h None = copied_puts held id v value h (string_of (kind_in held.store.objects v))
beside_puts held id v value h (Some item) = text_puts id value v held h

-- a pair under a String isn't refused
pub text_put : (held : Held) (id : ObjId) (key value : Value) (c : Cause) → is_some (a_string held.store.objects key) ≡ true
    → put held id key value ≢ Err c
text_put held id key value c h = by (key_of held.store.objects key) refl
  where
    by : (k : Option Key) → key_of held.store.objects key ≡ k → put held id key value ≢ Err c
    by None e g = true≢false (sym (text_key held.store key h) ∙ ap (λ (o : Option Key). is_some o) e)
    by (Some k) e g =
        let s = beside_puts held id key value h (pair_of held.store.objects id k) in
        let all : put held id key value ≡ put_shown id value (shown_beside held key (pair_of held.store.objects id k))
        = rw (h, text_own held.store key h, e) refl in
        cc (sym s ∙ sym all ∙ g)

-- so the heap is left as it was where one is refused
pub text_leaves : {A : Type 0} → (before after : Held) (id : ObjId) (key value : Value) (result : Result A RowError)
    → is_some (a_string before.store.objects key) ≡ true
    → IfOk result (λ given. put before id key value ≡ Ok after) → IfErr result (Refused (put before id key value))
    → Leaves before after result (put before id key value)
text_leaves before after id key value (Ok given) h ok err = ok
text_leaves before after id key value (Err (Fails c)) h ok err = absurd (text_put before id key value c h err)
text_leaves before after id key value (Err NoMemory) h ok err = tt

-- a pair under another value
pub other_put : (held : Held) (id : ObjId) (key value : Value) → is_some (a_string held.store.objects key) ≡ false
    → put held id key value ≡ (if can_put held id key then Ok (with_pair held id key value) else Err StackTooDeep)
other_put held id key value h = rw h refl

pub other_refused : (held : Held) (id : ObjId) (key value : Value) → can_put held id key ≡ false
    → with_pair held id key value ≡ held
other_refused held id key value h = by (is_hash (sort_at held.store.objects id)) h
  where
    none : (o : Option Key) → is_some o ≡ false → put_under held id o (own held.store key) (own held.store value) ≡ held
    none None g = refl
    none (Some k) g = cc

    by : (b : Bool) → (if b then is_some (key_of held.store.objects (own held.store key)) else true) ≡ false
        → (if b then put_under held id (key_of held.store.objects (own held.store key)) (own held.store key) (own held.store value)
        else held) ≡ held
    by true g = none (key_of held.store.objects (own held.store key)) g
    by false g = refl
