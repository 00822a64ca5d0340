-- An Enumerator whose cursor is set.
use Rattle.std.proofs.Common.{◌≡◌, ◌<◌, ◌≢◌, ℕ, List, [], ◌∷◌, ◌++◌, length, Bool, true, false, get_or, refl, sym, ap, subst, ◌∙◌, arith, true≢false}
use Rattle.std.specs.Prelude.{Option, Some, None}
use Rattle.std.proofs.lemmas.List.{get_or-set_same, get_or-set_other, get_or_append_left}
use Rattle.rb_value.specs.declared.value.Value.{Value}
use Rattle.rb_value.specs.declared.value.ObjId.{ObjId}
use Rattle.rb_value.specs.declared.kind.Kind.{Kind}
use Rattle.rb_value.specs.declared.kind.Kind.TheVariants as kind
use Rattle.rb_value.specs.declared.kind.EnumeratorContents.{EnumeratorContents}
use Rattle.rb_value.specs.declared.kind.EnumeratorSource.{EnumeratorSource}
use Rattle.rb_value.specs.Sort.{sort_of}
use Rattle.rb_value.specs.Object.{Object}
use Rattle.def_core.specs.Store.{Store, absent, object_at, sort_at, set_object, with_object}
use Rattle.def_core.specs.Sound.{census, Sound, SoundKind, SoundObject, SoundEnumerator, Is, IsValue, OptionIs, Array, Fiber, has_object}
use Rattle.def_core.specs.Parts.{elements_in, elements_at, with_elements, with_kind}
use Rattle.def_core.proofs.Good.{absent_where_none, good_within, is_good}
use Rattle.def_core.proofs.PartsSound.{all_more, sound_with_elements}
use Rattle.def_core.proofs.Grows.{sound_with_object}
use Rattle.rb_store.proofs.Kept.{elements_are}
use Rattle.rb_store.specs.Held.{Held}
use Rattle.run_values.proofs.Members.{is_array as array_sort}
use Rattle.heap.specs.declared.enumerators.Cursor.{Cursor}
use Rattle.heap.specs.Reading.{cursor_in}
use Rattle.heap.specs.Operands.{own_source, own_fiber, own_result, is_array}
use Rattle.heap.specs.Changes.{with_cursor, with_objects, pushed}
use Rattle.iter_enumerators.specs.Items.{cursor_at}
use Rattle.enumerator_laws.specs.Told.{HasCome}
use Rattle.enumerator_laws.proofs.Own.{value_own, array_is, fiber_own, result_own, source_own}

abbrev cursor_with : EnumeratorContents → Cursor
cursor_with x = record { fiber = x.fiber; items = x.items; position = x.position; result = x.result }

-- what an object with a cursor holds
record Contents (k : Kind) (c : Cursor) : Type 0 where
  is : EnumeratorContents
  kind_is : k ≡ kind.Enumerator is
  cursor_is : cursor_with is ≡ c

contents : (k : Kind) (c : Cursor) → cursor_in k ≡ Some c → Contents k c
contents kind.Plain c e = absurd (cc)
contents (kind.Class x) c e = absurd (cc)
contents (kind.String x) c e = absurd (cc)
contents (kind.Array x) c e = absurd (cc)
contents (kind.Hash x) c e = absurd (cc)
contents (kind.Range x) c e = absurd (cc)
contents (kind.Proc x) c e = absurd (cc)
contents (kind.CoreProc r x) c e = absurd (cc)
contents (kind.Fiber b x) c e = absurd (cc)
contents (kind.Exception m x) c e = absurd (cc)
contents (kind.Enumerator x) c e = record { is = x; kind_is = refl; cursor_is = cc }
contents (kind.Yielder b) c e = absurd (cc)

within : (st : Store) (e : ObjId) (x : EnumeratorContents) → (object_at st.objects e).kind ≡ kind.Enumerator x
    → e.0 < length st.objects
within st e x is = elim (has_object st.objects e) as
    (λ (b : Bool). has_object st.objects e ≡ b → e.0 < length st.objects) [
      | true ↦ λ there. good_within st e (record { there = record { holds = there } })
      | false ↦ λ none. absurd (plain_is_none x (sym (ap (λ (o : Object). o.kind) (absent_where_none st e none)) ∙ is))
    ] refl
  where
    plain_is_none : (x : EnumeratorContents) → absent.kind ≡ kind.Enumerator x → ⊥
    plain_is_none x h = cc

-- what is known of an Enumerator of a heap
pub record Known (held : Held) (e : ObjId) (c : Cursor) : Type 0 where
  pub contents : EnumeratorContents
  pub kind_is : (object_at held.store.objects e).kind ≡ kind.Enumerator contents
  pub cursor_is : cursor_with contents ≡ c
  pub within : e.0 < length held.store.objects
  pub sound : SoundEnumerator (census held.store) contents

pub known : (held : Held) (e : ObjId) (c : Cursor) → Sound held.store → cursor_at held e ≡ Some c → Known held e c
known held e c sound there =
    let x = contents (object_at held.store.objects e).kind c there in
    let inside = within held.store e x.is x.kind_is in
    record {
      contents = x.is;
      kind_is = x.kind_is;
      cursor_is = x.cursor_is;
      within = inside;
      sound = subst (SoundKind (census held.store) e.0) x.kind_is (sound.objects e.0 inside).kind;
    }

-- what a cursor names is of the store
pub record Owned (held : Held) (d : Cursor) : Type 0 where
  pub fiber : OptionIs (Is (census held.store) Fiber) d.fiber
  pub items : Is (census held.store) Array d.items
  pub result : OptionIs (IsValue (census held.store)) d.result

pub owned : (held : Held) (e : ObjId) (c : Cursor) → Known held e c → Owned held c
owned held e c k = subst (Owned held) k.cursor_is
    (record { fiber = k.sound.fiber; items = k.sound.items; result = k.sound.result })

-- its Array of items is another object
pub apart : (held : Held) (e : ObjId) (c : Cursor) → Known held e c → (i : ObjId) → Is (census held.store) Array i
    → i.0 ≢ e.0
apart held e c k i is = λ same. true≢false (sym (array_is held.store i is)
    ∙ ap (λ (n : ℕ). is_array (sort_of (get_or held.store.objects n absent).kind)) same
    ∙ ap (λ (x : Kind). is_array (sort_of x)) k.kind_is)

pub other_elements : (objects : List Object) (e i : ObjId) (o : Object) → i.0 ≢ e.0
    → elements_at (set_object objects e o) i ≡ elements_at objects i
other_elements objects e i o other =
    ap (λ (x : Object). elements_in x.kind) (get_or-set_other objects e.0 i.0 o absent other)

abbrev kind_with : EnumeratorSource → Cursor → Kind
kind_with s d = kind.Enumerator (record {
  source = s;
  fiber = d.fiber;
  items = d.items;
  position = d.position;
  result = d.result;
})

abbrev set_to : Held → ObjId → Cursor → EnumeratorSource → Held
set_to held e d s = with_objects held (with_kind held.store.objects e (kind_with s d))

is_set : (held : Held) (e : ObjId) (c d : Cursor) (k : Known held e c) → Owned held d
    → with_cursor held e d ≡ set_to held e d k.contents.source
is_set held e c d k o = rw (
  k.kind_is,
  source_own held.store k.contents.source k.sound.source,
  array_is held.store d.items o.items,
  fiber_own held.store d.fiber o.fiber,
  result_own held.store d.result o.result,
) refl

has_come : (held : Held) (e : ObjId) (c d : Cursor) (k : Known held e c) → Owned held d
    → HasCome (set_to held e d k.contents.source) e
    (record { items = elements_at held.store.objects d.items; given = d.position; result = d.result }) d.fiber
has_come held e c d k o =
    let new = record (object_at held.store.objects e) { kind = kind_with k.contents.source d } in
    record {
      cursor = d;
      there = ap (λ (x : Object). cursor_in x.kind) (get_or-set_same held.store.objects e.0 new absent k.within);
      course = ap (λ (xs : List Value). record { items = xs; given = d.position; result = d.result })
          (other_elements held.store.objects e d.items new (apart held e c k d.items o.items));
      fiber_is = refl;
    }

-- the cursor is set
pub set_course : (held : Held) (e : ObjId) (c d : Cursor) → Known held e c → Owned held d
    → HasCome (with_cursor held e d) e
    (record { items = elements_at held.store.objects d.items; given = d.position; result = d.result }) d.fiber
set_course held e c d k o = subst (λ (h : Held). HasCome h e
    (record { items = elements_at held.store.objects d.items; given = d.position; result = d.result }) d.fiber)
    (sym (is_set held e c d k o)) (has_come held e c d k o)

-- An item more in its Array.

abbrev pub with_item : Held → Cursor → Value → Held
with_item held c v = with_objects held
    (with_elements held.store.objects c.items (elements_at held.store.objects c.items ++ v ∷ []))

pub is_pushed : (held : Held) (c : Cursor) (v : Value) → Owned held c → IsValue (census held.store) v
    → pushed held c.items v ≡ with_item held c v
is_pushed held c v o is = rw (array_is held.store c.items o.items, value_own held.store v is) refl

pub with_item_there : (held : Held) (e : ObjId) (c : Cursor) (v : Value) → Known held e c → cursor_at held e ≡ Some c
    → cursor_at (with_item held c v) e ≡ Some c
with_item_there held e c v k there =
    let items = (owned held e c k).items in
    let other = apart held e c k c.items items in
    let new = record (object_at held.store.objects c.items)
    { kind = kind.Array (elements_at held.store.objects c.items ++ v ∷ []) } in
    ap (λ (x : Object). cursor_in x.kind)
    (get_or-set_other held.store.objects c.items.0 e.0 new absent (λ same. other (sym same))) ∙ there

pub with_item_known : (held : Held) (e : ObjId) (c : Cursor) (v : Value) → Sound held.store → Known held e c
    → cursor_at held e ≡ Some c → IsValue (census held.store) v → Known (with_item held c v) e c
with_item_known held e c v sound k there is =
    let items = (owned held e c k).items in
    let good = is_good held.store Array c.items items in
    let all = all_more (IsValue (census held.store)) (elements_at held.store.objects c.items) (v ∷ [])
    (elements_are held.store sound c.items good) (is, tt) in
    known (with_item held c v) e c
    (sound_with_elements held.store sound c.items (elements_at held.store.objects c.items ++ v ∷ []) good
    (array_sort held.store c.items items) all)
    (with_item_there held e c v k there)

pub item_added : (held : Held) (e : ObjId) (c : Cursor) (v : Value) → Known held e c
    → elements_at (with_item held c v).store.objects c.items ≡ elements_at held.store.objects c.items ++ v ∷ []
item_added held e c v k =
    let items = (owned held e c k).items in
    let new = record (object_at held.store.objects c.items)
    { kind = kind.Array (elements_at held.store.objects c.items ++ v ∷ []) } in
    ap (λ (x : Object). elements_in x.kind)
    (get_or-set_same held.store.objects c.items.0 new absent (good_within held.store c.items (is_good held.store Array c.items items)))

-- A new object beside it.

abbrev pub with_one : Held → Object → Held
with_one held o = record held { store = with_object held.store o }

pub one_there : (held : Held) (e : ObjId) (c : Cursor) (o : Object) → Known held e c → cursor_at held e ≡ Some c
    → cursor_at (with_one held o) e ≡ Some c
one_there held e c o k there =
    ap (λ (x : Object). cursor_in x.kind) (get_or_append_left held.store.objects (o ∷ []) absent e.0 k.within) ∙ there

pub one_known : (held : Held) (e : ObjId) (c : Cursor) (o : Object) → Sound held.store
    → SoundObject (census held.store) (length held.store.objects) o → Known held e c → cursor_at held e ≡ Some c
    → Known (with_one held o) e c
one_known held e c o sound new k there = known (with_one held o) e c (sound_with_object held.store sound o new)
    (one_there held e c o k there)

pub same_elements : (held : Held) (e : ObjId) (c : Cursor) (o : Object) → Known held e c
    → elements_at (with_one held o).store.objects c.items ≡ elements_at held.store.objects c.items
same_elements held e c o k =
    let good = is_good held.store Array c.items (owned held e c k).items in
    ap (λ (x : Object). elements_in x.kind)
    (get_or_append_left held.store.objects (o ∷ []) absent c.items.0 (good_within held.store c.items good))
