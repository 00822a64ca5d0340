-- Changes of one object that keep a world fine: its elements, bytes, pairs and variables, and the methods, constants and
-- name of a class or module.
use Rattle.std.proofs.Common.{◌≡◌, ℕ, ◌<◌, List, [], ◌∷◌, ◌++◌, true, false, cond, refl, sym, ◌∙◌, subst}
use Rattle.std.specs.Prelude.{Option, Some, nat_eq}
use Rattle.std.proofs.lemmas.Option.{slice_get_within, get_or_from_slice_get}
use Rattle.indexmap.specs.IndexMap.{insert_entry}
use Rattle.rb_value.specs.declared.value.Value.{Value}
use Rattle.rb_value.specs.declared.value.Value.TheVariants.{Obj}
use Rattle.rb_value.specs.declared.value.ObjId.{ObjId}
use Rattle.rb_value.specs.declared.value.SymId.{SymId}
use Rattle.rb_value.specs.declared.method.Method.{Method}
use Rattle.rb_value.specs.declared.method.MethodEntry.{MethodEntry}
use Rattle.rb_value.specs.declared.method.Visibility.{Visibility}
use Rattle.rb_value.specs.declared.key.Key.{Key}
use Rattle.rb_value.specs.declared.kind.Kind.{Kind}
use Rattle.rb_value.specs.declared.kind.Kind.TheVariants as kind
use Rattle.rb_value.specs.declared.kind.ClassContents.{ClassContents}
use Rattle.rb_value.specs.declared.kind.Sort.{Sort}
use Rattle.rb_value.specs.declared.kind.Sort.TheVariants as sort
use Rattle.rb_value.specs.Object.{Object}
use Rattle.rb_value.specs.Sort.{sort_of}
use Rattle.rb_value.specs.Hash as hash
use Rattle.rb_value.specs.Sending.{sent_to}
use Rattle.rb_value.specs.Variables as variables
use Rattle.def_core.specs.Store.{Store, object_at, sort_at, set_object}
use Rattle.def_core.specs.Classes.{class_at, with_class}
use Rattle.def_core.specs.Changes.{with_method, with_default, with_constant, visibility_for}
use Rattle.def_core.specs.Parts.{with_objects, with_elements, with_more, elements_at, with_text, hash_at, with_pair, with_variable, sent, with_sent, ended, with_ended}
use Rattle.def_core.specs.Sound.{Census, sorts_of, census, Sound, Any, Array, Fiber, Proc, ClassOrModule, plays, Is, IsSymbol, IsValue, AllAre, SoundMethod, SoundKey, SoundKind}
use Rattle.def_core.proofs.Sorts.{sorts-set, sort_at-sorts, length-sorts, same_class_sort}
use Rattle.def_core.proofs.Roles.{is_plays, sound_class}
use Rattle.def_core.proofs.Good.{is_good, good_below, role_object}
use Rattle.def_core.proofs.Keeps.{sound_with_class, sound_with_method, sound_with_default, sound_with_constant}
use Rattle.def_core.proofs.PartsSound.{all_more, all_set, sound_with_variable, pair_kept}
use Rattle.rb_store.proofs.Kept as kept
use Rattle.def_calls.specs.World.{World, with_store}
use Rattle.def_calls.specs.Views.{detail_of}
use Rattle.def_calls.specs.Plain.{with_message}
use Rattle.world_laws.specs.Fine.{Bodies, HasSort, MethodIs, EntryHas, KindIs, ObjectIs, Fine, Keeps}
use Rattle.world_laws.proofs.Standing.{kind_stays, objects_stay, keeps_store}
use Rattle.world_laws.proofs.Stores.{extends_same, kind_held, keeps_kind}
use Rattle.world_laws.proofs.Holding.{methods_held, detail_is}

-- An object of a sort.

pub has_any : (st : Store) (s : Sort) (id : ObjId) → HasSort (census st) s id → Is (census st) Any id
has_any st s id h =
    (good_below st id (subst (λ (n : ℕ). id.0 < n) (length-sorts st.objects)
    (slice_get_within (sorts_of st.objects) id.0 s h))).there

pub is_of_sort : (st : Store) (s : Sort) (id : ObjId) → HasSort (census st) s id → sort_at st.objects id ≡ s
is_of_sort st s id h = sym (sort_at-sorts st.objects id)
    ∙ get_or_from_slice_get (sorts_of st.objects) id.0 s sort.Plain h

array_sort : (s : Sort) → plays Array s ≡ true → s ≡ sort.Array
array_sort sort.Plain h = cc
array_sort sort.Class h = cc
array_sort sort.Singleton h = cc
array_sort sort.Module h = cc
array_sort sort.String h = cc
array_sort sort.Array h = refl
array_sort sort.Hash h = cc
array_sort sort.Range h = cc
array_sort sort.Proc h = cc
array_sort sort.Fiber h = cc
array_sort sort.Exception h = cc
array_sort sort.Enumerator h = cc
array_sort sort.Yielder h = cc

-- What the changes of Procs and fibers leave.

sent_sort : (k : Kind) (a : Option ℕ) → sort_of (sent k a) ≡ sort_of k
sent_sort kind.Plain a = refl
sent_sort (kind.Class c) a = refl
sent_sort (kind.String s) a = refl
sent_sort (kind.Array xs) a = refl
sent_sort (kind.Hash h) a = refl
sent_sort (kind.Range r) a = refl
sent_sort (kind.Proc p) a = refl
sent_sort (kind.CoreProc r v) a = refl
sent_sort (kind.Fiber p e) a = refl
sent_sort (kind.Exception m d) a = refl
sent_sort (kind.Enumerator e) a = refl
sent_sort (kind.Yielder p) a = refl

sent_sound : (k : Census) (n : ℕ) (x : Kind) (a : Option ℕ) → SoundKind k n x → SoundKind k n (sent x a)
sent_sound k n kind.Plain a h = h
sent_sound k n (kind.Class c) a h = h
sent_sound k n (kind.String s) a h = h
sent_sound k n (kind.Array xs) a h = h
sent_sound k n (kind.Hash x) a h = h
sent_sound k n (kind.Range r) a h = h
sent_sound k n (kind.Proc p) a h = record { receiver = h.receiver; owner = h.owner; name = h.name; block = h.block }
sent_sound k n (kind.CoreProc r v) a h = h
sent_sound k n (kind.Fiber p e) a h = h
sent_sound k n (kind.Exception m d) a h = h
sent_sound k n (kind.Enumerator e) a h = h
sent_sound k n (kind.Yielder p) a h = h

sent_is : (b : Bodies) (w : World) (x : Kind) (a : Option ℕ) → KindIs b w x → KindIs b w (sent x a)
sent_is b w kind.Plain a h = h
sent_is b w (kind.Class c) a h = h
sent_is b w (kind.String s) a h = h
sent_is b w (kind.Array xs) a h = h
sent_is b w (kind.Hash x) a h = h
sent_is b w (kind.Range r) a h = h
sent_is b w (kind.Proc p) a h = b.proc_sent w p (sent_to p.sending a) h
sent_is b w (kind.CoreProc r v) a h = h
sent_is b w (kind.Fiber p e) a h = h
sent_is b w (kind.Exception m d) a h = h
sent_is b w (kind.Enumerator e) a h = h
sent_is b w (kind.Yielder p) a h = h

ended_sort : (k : Kind) → sort_of (ended k) ≡ sort_of k
ended_sort kind.Plain = refl
ended_sort (kind.Class c) = refl
ended_sort (kind.String s) = refl
ended_sort (kind.Array xs) = refl
ended_sort (kind.Hash h) = refl
ended_sort (kind.Range r) = refl
ended_sort (kind.Proc p) = refl
ended_sort (kind.CoreProc r v) = refl
ended_sort (kind.Fiber p e) = refl
ended_sort (kind.Exception m d) = refl
ended_sort (kind.Enumerator e) = refl
ended_sort (kind.Yielder p) = refl

ended_sound : (k : Census) (n : ℕ) (x : Kind) → SoundKind k n x → SoundKind k n (ended x)
ended_sound k n kind.Plain h = h
ended_sound k n (kind.Class c) h = h
ended_sound k n (kind.String s) h = h
ended_sound k n (kind.Array xs) h = h
ended_sound k n (kind.Hash x) h = h
ended_sound k n (kind.Range r) h = h
ended_sound k n (kind.Proc p) h = h
ended_sound k n (kind.CoreProc r v) h = h
ended_sound k n (kind.Fiber p e) h = h
ended_sound k n (kind.Exception m d) h = h
ended_sound k n (kind.Enumerator e) h = h
ended_sound k n (kind.Yielder p) h = h

ended_is : (b : Bodies) (w : World) (x : Kind) → KindIs b w x → KindIs b w (ended x)
ended_is b w kind.Plain h = h
ended_is b w (kind.Class c) h = h
ended_is b w (kind.String s) h = h
ended_is b w (kind.Array xs) h = h
ended_is b w (kind.Hash x) h = h
ended_is b w (kind.Range r) h = h
ended_is b w (kind.Proc p) h = h
ended_is b w (kind.CoreProc r v) h = h
ended_is b w (kind.Fiber p e) h = h
ended_is b w (kind.Exception m d) h = h
ended_is b w (kind.Enumerator e) h = h
ended_is b w (kind.Yielder p) h = h

-- the entries of a method table with one that is put in
entries_put : (b : Bodies) (w : World) (table : List (ℕ × MethodEntry)) (n : ℕ) (e : MethodEntry)
    → AllAre (EntryHas b w) table → MethodIs b w e.method → AllAre (EntryHas b w) (insert_entry nat_eq table n e)
entries_put b w [] n e all new = (new, tt)
entries_put b w (x ∷ xs) n e all new = elim (nat_eq n x.0) as
    (λ c. AllAre (EntryHas b w) (cond c ((x.0, e) ∷ xs) (x ∷ insert_entry nat_eq xs n e))) [
      | true ↦ (new, all.1)
      | false ↦ (all.0, entries_put b w xs n e all.1 new)
    ]

module _ (b : Bodies) (w : World) (fine : Fine b w) where
  -- the store that has another object in the place of one is sound
  pub keeps_put : (id : ObjId) (o : Object) → sort_of o.kind ≡ sort_at w.store.objects id → ObjectIs b w o
      → Sound (with_objects w.store (set_object w.store.objects id o))
      → Keeps b w (with_store w (with_objects w.store (set_object w.store.objects id o)))
  keeps_put id o sort has sound =
      let st : Store = with_objects w.store (set_object w.store.objects id o) in
      let v : World = with_store w st in
      let e = extends_same w (set_object w.store.objects id o) (sorts-set w.store.objects id o sort) in
      keeps_store b w st fine e sound
      (all_set (ObjectIs b v) w.store.objects id.0 o (objects_stay b w v e w.store.objects fine.objects)
      (kind_stays b w v e o.kind has))

  -- Contents.

  pub keeps_elements : (id : ObjId) (xs : List Value) → Is (census w.store) Array id
      → AllAre (IsValue (census w.store)) xs
      → Keeps b w (with_store w (with_objects w.store (with_elements w.store.objects id xs)))
  keeps_elements id xs is all =
      keeps_kind b w fine id (kind.Array xs) (is_good w.store Array id is).there
      (sym (array_sort (sort_at w.store.objects id) (is_plays w.store Array id is))) all tt

  pub keeps_more : (id : ObjId) (xs : List Value) → Is (census w.store) Array id → AllAre (IsValue (census w.store)) xs
      → Keeps b w (with_store w (with_objects w.store (with_more w.store.objects id xs)))
  keeps_more id xs is all = keeps_elements id (elements_at w.store.objects id ++ xs) is
      (all_more (IsValue (census w.store)) (elements_at w.store.objects id) xs
      (kept.elements_are w.store fine.store id (is_good w.store Array id is)) all)

  pub keeps_text : (id : ObjId) (bytes : List ℕ) → HasSort (census w.store) sort.String id
      → Keeps b w (with_store w (with_objects w.store (with_text w.store.objects id bytes)))
  keeps_text id bytes is = keeps_kind b w fine id (kind.String bytes) (has_any w.store sort.String id is)
      (sym (is_of_sort w.store sort.String id is)) tt tt

  pub keeps_pair : (id : ObjId) (key : Key) (shown v : Value) → HasSort (census w.store) sort.Hash id
      → SoundKey (census w.store) key → IsValue (census w.store) shown → IsValue (census w.store) v
      → Keeps b w (with_store w (with_objects w.store (with_pair w.store.objects id key shown v)))
  keeps_pair id key shown v is found seen value =
      let any = has_any w.store sort.Hash id is in
      let old = kept.hash_is w.store fine.store id (is_good w.store Any id any) in
      keeps_kind b w fine id
      (kind.Hash (record (hash_at w.store.objects id) {
        pairs = hash.with_pair (hash_at w.store.objects id).pairs key shown v;
      })) any (sym (is_of_sort w.store sort.Hash id is))
      (record {
        pairs = pair_kept (census w.store) (hash_at w.store.objects id).pairs key shown v old.pairs found seen value;
        default = old.default;
        block = old.block;
      }) tt

  -- an exception gets another message
  pub keeps_message : (id : ObjId) (m : Value) → HasSort (census w.store) sort.Exception id
      → IsValue (census w.store) m
      → Keeps b w (with_store w (with_objects w.store (with_message w.store.objects id m)))
  keeps_message id m is value =
      let any = has_any w.store sort.Exception id is in
      keeps_kind b w fine id (kind.Exception m (detail_of (object_at w.store.objects id).kind)) any
      (sym (is_of_sort w.store sort.Exception id is)) (value, detail_is w.store fine.store (Obj id) any) tt

  pub keeps_sent : (id : ObjId) (a : Option ℕ) → Is (census w.store) Proc id
      → Keeps b w (with_store w (with_objects w.store (with_sent w.store.objects id a)))
  keeps_sent id a is =
      let k : Kind = (object_at w.store.objects id).kind in
      keeps_kind b w fine id (sent k a) (is_good w.store Proc id is).there (sent_sort k a)
      (sent_sound (census w.store) id.0 k a (role_object w.store fine.store Proc id is).kind)
      (sent_is b w k a (kind_held b w fine id))

  pub keeps_ended : (id : ObjId) → Is (census w.store) Fiber id
      → Keeps b w (with_store w (with_objects w.store (with_ended w.store.objects id)))
  keeps_ended id is =
      let k : Kind = (object_at w.store.objects id).kind in
      keeps_kind b w fine id (ended k) (is_good w.store Fiber id is).there (ended_sort k)
      (ended_sound (census w.store) id.0 k (role_object w.store fine.store Fiber id is).kind)
      (ended_is b w k (kind_held b w fine id))

  pub keeps_variable : (id : ObjId) (name : SymId) (v : Value) → Is (census w.store) Any id
      → IsSymbol (census w.store) name → IsValue (census w.store) v
      → Keeps b w (with_store w (with_objects w.store (with_variable w.store.objects id name v)))
  keeps_variable id name v is symbol value =
      let o : Object = object_at w.store.objects id in
      keeps_put id (record o { variables = variables.with_variable o.variables name v }) refl (kind_held b w fine id)
      (sound_with_variable w.store fine.store id name v (is_good w.store Any id is) symbol value)

  -- Classes and modules.

  keeps_contents : (c : ObjId) (k : ClassContents) → Is (census w.store) ClassOrModule c
      → k.form ≡ (class_at w.store.objects c).form → AllAre (EntryHas b w) k.methods
      → Sound (with_objects w.store (with_class w.store.objects c k))
      → Keeps b w (with_store w (with_objects w.store (with_class w.store.objects c k)))
  keeps_contents c k is form has sound =
      keeps_put c (record (object_at w.store.objects c) { kind = kind.Class k })
      (same_class_sort w.store.objects c k (is_plays w.store ClassOrModule c is) form) has sound

  pub keeps_method : (c : ObjId) (name : SymId) (m : Method) (v : Visibility) → Is (census w.store) ClassOrModule c
      → IsSymbol (census w.store) name → SoundMethod (census w.store) m → MethodIs b w m
      → Keeps b w (with_store w (with_method w.store c name m v))
  unfolding with_method
  keeps_method c name m v is symbol sound has = keeps_contents c _ is refl
      (entries_put b w (class_at w.store.objects c).methods name.0
      (record { method = m; visibility = visibility_for w.store name v }) (methods_held b w fine c) has)
      (sound_with_method w.store fine.store c name m v is symbol sound)

  pub keeps_default : (c : ObjId) (v : Visibility) → Is (census w.store) ClassOrModule c
      → Keeps b w (with_store w (with_objects w.store (with_default w.store.objects c v)))
  unfolding with_default
  keeps_default c v is = keeps_contents c _ is refl (methods_held b w fine c)
      (sound_with_default w.store fine.store c v is)

  pub keeps_constant : (c : ObjId) (name : SymId) (v : Value) → Is (census w.store) ClassOrModule c
      → IsSymbol (census w.store) name → IsValue (census w.store) v
      → Keeps b w (with_store w (with_objects w.store (with_constant w.store.objects c name v)))
  keeps_constant c name v is symbol value = keeps_contents c _ is refl (methods_held b w fine c)
      (sound_with_constant w.store fine.store c name v is symbol value)

  pub keeps_name : (c : ObjId) (name : SymId) → Is (census w.store) ClassOrModule c → IsSymbol (census w.store) name
      → Keeps b w (with_store w (with_objects w.store (with_class w.store.objects c
      (record (class_at w.store.objects c) { name = Some name }))))
  keeps_name c name is symbol =
      let old = sound_class w.store fine.store c is in
      let k : ClassContents = record (class_at w.store.objects c) { name = Some name } in
      keeps_contents c k is refl (methods_held b w fine c)
      (sound_with_class w.store fine.store c k is refl (record {
        name = symbol;
        superclass = old.superclass;
        module_root = old.module_root;
        included = old.included;
        constants = old.constants;
        methods = old.methods;
      }))
