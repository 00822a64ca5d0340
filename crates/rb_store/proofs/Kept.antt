-- Each change of one part of an object keeps a store, where what is put in belongs to it.
use Rattle.std.proofs.Common.{◌≡◌, ℕ, ◌-◌, ◌<◌, List, [], ◌∷◌, ◌++◌, length, take, drop, true, false, refl, ap, sym, ◌∙◌, subst, true≢false}
use Rattle.std.specs.Prelude.{Option, Some, None, Result, Ok, Err, OnOk, OnErr, slice_set}
use Rattle.rb_value.specs.declared.value.Value.{Value}
use Rattle.rb_value.specs.declared.value.ObjId.{ObjId}
use Rattle.rb_value.specs.declared.value.SymId.{SymId}
use Rattle.rb_value.specs.declared.key.Key.{Key}
use Rattle.rb_value.specs.declared.hash.HashContents.{HashContents}
use Rattle.rb_value.specs.declared.kind.ClassForm.{ClassForm}
use Rattle.rb_value.specs.declared.kind.ClassForm.TheVariants as form
use Rattle.rb_value.specs.declared.kind.Kind.{Kind}
use Rattle.rb_value.specs.declared.kind.Kind.TheVariants as kind
use Rattle.rb_value.specs.declared.kind.Sort.TheVariants as sort
use Rattle.rb_value.specs.Object.{Object}
use Rattle.rb_value.specs.Sort.{sort_of, sort_of_form}
use Rattle.def_core.specs.Store.{Store, object_at, sort_at, set_object}
use Rattle.def_core.specs.Classes.{contents_of, class_at, empty_class}
use Rattle.def_core.specs.Parts as parts
use Rattle.def_core.specs.Parts.{with_objects, with_kind}
use Rattle.def_core.specs.Sound.{Census, census, Proc, ClassOrModule, plays, Is, IsGood, IsSymbol, IsValue, OptionIs, AllAre, SoundVariable, SoundKey, SoundPair, SoundHash, SoundKind, SoundObject, Sound, Extends}
use Rattle.def_core.proofs.Sorts.{sorts-set}
use Rattle.def_core.proofs.Grows.{same_objects}
use Rattle.def_core.proofs.Good.{good_object}
use Rattle.def_core.proofs.Keeps.{sound_with_set}
use Rattle.def_core.proofs.PartsSound.{all_more, all_set, all_first, all_rest, sound_with_variable, pair_kept, pair_removed}
use Rattle.rb_store.specs.Held.{Held}
use Rattle.rb_store.specs.Counted.{looks_of}
use Rattle.rb_store.specs.Keeps.{Keeps}
use Rattle.rb_store.proofs.Counted.{same_looks_counted}
use Rattle.rb_store.proofs.Keeping.{keeps_itself}

-- the store with other objects
abbrev pub becomes : Held → List Object → Held
becomes h objects = record h { store = with_objects h.store objects }

-- a call that leaves all as before where memory runs out
pub keeps_if : {A E : Type 0} (r : Result A E) (h g : Held) (objects : List Object) → Sound h.store
    → OnOk r (g ≡ becomes h objects) → OnErr r (g ≡ h) → (g ≡ becomes h objects → Keeps h g) → Keeps h g
keeps_if (Ok x) h g objects sound ok err f = f ok
keeps_if (Err e) h g objects sound ok err f = keeps_itself h g sound err

-- What an object of a sound store holds is right.

elements_right : (k : Census) (n : ℕ) (x : Kind) → SoundKind k n x → AllAre (IsValue k) (parts.elements_in x)
elements_right k n kind.Plain h = tt
elements_right k n (kind.Class c) h = tt
elements_right k n (kind.String s) h = tt
elements_right k n (kind.Array a) h = h
elements_right k n (kind.Hash x) h = tt
elements_right k n (kind.Range r) h = tt
elements_right k n (kind.Proc p) h = tt
elements_right k n (kind.CoreProc r v) h = tt
elements_right k n (kind.Fiber b e) h = tt
elements_right k n (kind.Exception m d) h = tt
elements_right k n (kind.Enumerator e) h = tt
elements_right k n (kind.Yielder b) h = tt

no_pairs_right : (k : Census) → SoundHash k parts.no_pairs
no_pairs_right k = record { pairs = tt; default = tt; block = tt }

pairs_right : (k : Census) (n : ℕ) (x : Kind) → SoundKind k n x → SoundHash k (parts.hash_in x)
pairs_right k n kind.Plain h = no_pairs_right k
pairs_right k n (kind.Class c) h = no_pairs_right k
pairs_right k n (kind.String s) h = no_pairs_right k
pairs_right k n (kind.Array a) h = no_pairs_right k
pairs_right k n (kind.Hash x) h = h
pairs_right k n (kind.Range r) h = no_pairs_right k
pairs_right k n (kind.Proc p) h = no_pairs_right k
pairs_right k n (kind.CoreProc r v) h = no_pairs_right k
pairs_right k n (kind.Fiber b e) h = no_pairs_right k
pairs_right k n (kind.Exception m d) h = no_pairs_right k
pairs_right k n (kind.Enumerator e) h = no_pairs_right k
pairs_right k n (kind.Yielder b) h = no_pairs_right k

-- the elements of an object
pub elements_are : (st : Store) → Sound st → (id : ObjId) → IsGood st id
    → AllAre (IsValue (census st)) (parts.elements_at st.objects id)
elements_are st sound id good =
    elements_right (census st) id.0 (object_at st.objects id).kind (good_object st sound id good).kind

-- the pairs of an object
pub hash_is : (st : Store) → Sound st → (id : ObjId) → IsGood st id
    → SoundHash (census st) (parts.hash_at st.objects id)
hash_is st sound id good =
    pairs_right (census st) id.0 (object_at st.objects id).kind (good_object st sound id good).kind

-- What isn't a class or module has the contents of none.

form_plays : (f : ClassForm) → plays ClassOrModule (sort_of_form f) ≡ true
form_plays form.Class = refl
form_plays form.Singleton = refl
form_plays form.Module = refl

no_contents : (k : Kind) → plays ClassOrModule (sort_of k) ≡ false → contents_of k ≡ empty_class form.Module None
no_contents kind.Plain h = refl
no_contents (kind.Class c) h = absurd (true≢false (sym (form_plays c.form) ∙ h))
no_contents (kind.String s) h = refl
no_contents (kind.Array a) h = refl
no_contents (kind.Hash x) h = refl
no_contents (kind.Range r) h = refl
no_contents (kind.Proc p) h = refl
no_contents (kind.CoreProc r v) h = refl
no_contents (kind.Fiber b e) h = refl
no_contents (kind.Exception m d) h = refl
no_contents (kind.Enumerator e) h = refl
no_contents (kind.Yielder b) h = refl

-- Changes of the contents of an object.

module _ (h g : Held) (sound : Sound h.store) (id : ObjId) (there : IsGood h.store id) where
  -- an object of the same sort, by which methods are found as before, in the place of another
  pub keeps_set : (o : Object) → sort_of o.kind ≡ sort_at h.store.objects id
      → looks_of (contents_of o.kind) ≡ looks_of (class_at h.store.objects id)
      → SoundObject (census h.store) id.0 o
      → g ≡ becomes h (set_object h.store.objects id o) → Keeps h g
  keeps_set o same looks is e =
      let s : g.store ≡ with_objects h.store (set_object h.store.objects id o) = ap (λ (x : Held). x.store) e in
      record {
        sound = subst Sound (sym s) (sound_with_set h.store sound id o there same is);
        extends = subst (λ (st : Store). Extends (census h.store) (census st)) (sym s)
            (same_objects h.store (set_object h.store.objects id o) (sorts-set h.store.objects id o same));
        counted = same_looks_counted h g id o there same looks s (ap (λ (x : Held). x.changes) e);
      }

  -- an object with other contents of the same sort, by which methods are found as before
  keeps_contents : (k : Kind) → sort_of k ≡ sort_at h.store.objects id
      → looks_of (contents_of k) ≡ looks_of (class_at h.store.objects id) → SoundKind (census h.store) id.0 k
      → g ≡ becomes h (with_kind h.store.objects id k) → Keeps h g
  keeps_contents k same looks is e =
      let old = good_object h.store sound id there in
      keeps_set (record (object_at h.store.objects id) { kind = k }) same looks
      (record { class = old.class; singleton = old.singleton; variables = old.variables; kind = is }) e

  -- an object that is no class or module with other contents of the same sort
  pub keeps_kind : (k : Kind) → sort_of k ≡ sort_at h.store.objects id → plays ClassOrModule (sort_of k) ≡ false
      → SoundKind (census h.store) id.0 k
      → g ≡ becomes h (with_kind h.store.objects id k) → Keeps h g
  keeps_kind k same not is e =
      let before : contents_of (object_at h.store.objects id).kind ≡ empty_class form.Module None =
      no_contents (object_at h.store.objects id).kind (ap (plays ClassOrModule) (sym same) ∙ not) in
      keeps_contents k same (ap looks_of (no_contents k not ∙ sym before)) is e

  pub keeps_elements : (xs : List Value) → sort_at h.store.objects id ≡ sort.Array
      → AllAre (IsValue (census h.store)) xs
      → g ≡ becomes h (parts.with_elements h.store.objects id xs) → Keeps h g
  keeps_elements xs is all e = keeps_kind (kind.Array xs) (sym is) refl all e

  pub keeps_element : (n : ℕ) (v : Value) → sort_at h.store.objects id ≡ sort.Array → IsValue (census h.store) v
      → g ≡ becomes h (parts.with_element h.store.objects id n v) → Keeps h g
  keeps_element n v is good e = keeps_elements _ is
      (all_set (IsValue (census h.store)) (parts.elements_at h.store.objects id) n v
      (elements_are h.store sound id there) good) e

  pub keeps_more : (xs : List Value) → sort_at h.store.objects id ≡ sort.Array → AllAre (IsValue (census h.store)) xs
      → g ≡ becomes h (parts.with_more h.store.objects id xs) → Keeps h g
  keeps_more xs is all e = keeps_elements _ is
      (all_more (IsValue (census h.store)) (parts.elements_at h.store.objects id) xs
      (elements_are h.store sound id there) all) e

  pub keeps_before : (v : Value) → sort_at h.store.objects id ≡ sort.Array → IsValue (census h.store) v
      → g ≡ becomes h (parts.with_elements h.store.objects id (v ∷ parts.elements_at h.store.objects id)) → Keeps h g
  keeps_before v is good e = keeps_elements _ is (good, elements_are h.store sound id there) e

  pub keeps_but_last : sort_at h.store.objects id ≡ sort.Array
      → g ≡ becomes h (parts.without_last h.store.objects id) → Keeps h g
  keeps_but_last is e = keeps_elements _ is
      (all_first (IsValue (census h.store)) (length (parts.elements_at h.store.objects id) - 1)
      (parts.elements_at h.store.objects id) (elements_are h.store sound id there)) e

  pub keeps_but_first : sort_at h.store.objects id ≡ sort.Array
      → g ≡ becomes h (parts.without_first h.store.objects id) → Keeps h g
  keeps_but_first is e = keeps_elements _ is
      (all_rest (IsValue (census h.store)) 1 (parts.elements_at h.store.objects id)
      (elements_are h.store sound id there)) e

  pub keeps_text : (bytes : List ℕ) → sort_at h.store.objects id ≡ sort.String
      → g ≡ becomes h (parts.with_text h.store.objects id bytes) → Keeps h g
  keeps_text bytes is e = keeps_kind (kind.String bytes) (sym is) refl tt e

  keeps_hash : (x : HashContents) → sort_at h.store.objects id ≡ sort.Hash → SoundHash (census h.store) x
      → g ≡ becomes h (parts.with_hash h.store.objects id x) → Keeps h g
  keeps_hash x is right e = keeps_kind (kind.Hash x) (sym is) refl right e

  pub keeps_pair : (key : Key) (shown v : Value) → sort_at h.store.objects id ≡ sort.Hash
      → SoundKey (census h.store) key
      → IsValue (census h.store) shown → IsValue (census h.store) v
      → g ≡ becomes h (parts.with_pair h.store.objects id key shown v) → Keeps h g
  keeps_pair key shown v is a b c e =
      let old = hash_is h.store sound id there in
      keeps_hash _ is (record {
        pairs = pair_kept (census h.store) (parts.hash_at h.store.objects id).pairs key shown v old.pairs a b c;
        default = old.default;
        block = old.block;
      }) e

  pub keeps_but_pair : (key : Key) → sort_at h.store.objects id ≡ sort.Hash
      → g ≡ becomes h (parts.without_key h.store.objects id key) → Keeps h g
  keeps_but_pair key is e =
      let old = hash_is h.store sound id there in
      keeps_hash _ is (record {
        pairs = pair_removed (census h.store) (parts.hash_at h.store.objects id).pairs key old.pairs;
        default = old.default;
        block = old.block;
      }) e

  pub keeps_but_first_pair : sort_at h.store.objects id ≡ sort.Hash
      → g ≡ becomes h (parts.without_first_pair h.store.objects id) → Keeps h g
  keeps_but_first_pair is e =
      let old = hash_is h.store sound id there in
      keeps_hash _ is (record {
        pairs = all_rest (SoundPair (census h.store)) 1 (parts.hash_at h.store.objects id).pairs old.pairs;
        default = old.default;
        block = old.block;
      }) e

  pub keeps_absent : (v : Value) (block : Option ObjId) → sort_at h.store.objects id ≡ sort.Hash
      → IsValue (census h.store) v → OptionIs (Is (census h.store) Proc) block
      → g ≡ becomes h (parts.with_absent h.store.objects id v block) → Keeps h g
  keeps_absent v block is a b e =
      let old = hash_is h.store sound id there in
      keeps_hash _ is (record { pairs = old.pairs; default = a; block = b }) e

  pub keeps_variable : (name : SymId) (v : Value) → IsSymbol (census h.store) name → IsValue (census h.store) v
      → g ≡ becomes h (parts.with_variable h.store.objects id name v) → Keeps h g
  keeps_variable name v symbol good e =
      let s = ap (λ (x : Held). x.store) e in
      let o : Object = object_at h.store.objects id in
      let after : Store = with_objects h.store (parts.with_variable h.store.objects id name v) in
      record {
        sound = subst Sound (sym s) (sound_with_variable h.store sound id name v there symbol good);
        extends = subst (λ (st : Store). Extends (census h.store) (census st)) (sym s)
            (same_objects h.store after.objects (sorts-set h.store.objects id _ refl));
        counted = same_looks_counted h g id _ there refl refl s (ap (λ (x : Held). x.changes) e);
      }

-- A Proc that is sent, and a fiber that ends.

sent_sort : (k : Kind) (a : Option ℕ) → sort_of (parts.sent k a) ≡ sort_of k
sent_sort kind.Plain a = refl
sent_sort (kind.Class c) a = refl
sent_sort (kind.String s) a = refl
sent_sort (kind.Array xs) a = refl
sent_sort (kind.Hash x) a = refl
sent_sort (kind.Range r) a = refl
sent_sort (kind.Proc p) a = refl
sent_sort (kind.CoreProc r v) a = refl
sent_sort (kind.Fiber b e) a = refl
sent_sort (kind.Exception m d) a = refl
sent_sort (kind.Enumerator e) a = refl
sent_sort (kind.Yielder b) a = refl

sent_contents : (k : Kind) (a : Option ℕ) → contents_of (parts.sent k a) ≡ contents_of k
sent_contents kind.Plain a = refl
sent_contents (kind.Class c) a = refl
sent_contents (kind.String s) a = refl
sent_contents (kind.Array xs) a = refl
sent_contents (kind.Hash x) a = refl
sent_contents (kind.Range r) a = refl
sent_contents (kind.Proc p) a = refl
sent_contents (kind.CoreProc r v) a = refl
sent_contents (kind.Fiber b e) a = refl
sent_contents (kind.Exception m d) a = refl
sent_contents (kind.Enumerator e) a = refl
sent_contents (kind.Yielder b) a = refl

sent_right : (k : Census) (n : ℕ) (x : Kind) (a : Option ℕ) → SoundKind k n x → SoundKind k n (parts.sent x a)
sent_right k n kind.Plain a h = h
sent_right k n (kind.Class c) a h = h
sent_right k n (kind.String s) a h = h
sent_right k n (kind.Array xs) a h = h
sent_right k n (kind.Hash x) a h = h
sent_right k n (kind.Range r) a h = h
sent_right k n (kind.Proc p) a h = record { receiver = h.receiver; owner = h.owner; name = h.name; block = h.block }
sent_right k n (kind.CoreProc r v) a h = h
sent_right k n (kind.Fiber b e) a h = h
sent_right k n (kind.Exception m d) a h = h
sent_right k n (kind.Enumerator e) a h = h
sent_right k n (kind.Yielder b) a h = h

ended_sort : (k : Kind) → sort_of (parts.ended k) ≡ sort_of k
ended_sort kind.Plain = refl
ended_sort (kind.Class c) = refl
ended_sort (kind.String s) = refl
ended_sort (kind.Array xs) = refl
ended_sort (kind.Hash x) = refl
ended_sort (kind.Range r) = refl
ended_sort (kind.Proc p) = refl
ended_sort (kind.CoreProc r v) = refl
ended_sort (kind.Fiber b e) = refl
ended_sort (kind.Exception m d) = refl
ended_sort (kind.Enumerator e) = refl
ended_sort (kind.Yielder b) = refl

ended_contents : (k : Kind) → contents_of (parts.ended k) ≡ contents_of k
ended_contents kind.Plain = refl
ended_contents (kind.Class c) = refl
ended_contents (kind.String s) = refl
ended_contents (kind.Array xs) = refl
ended_contents (kind.Hash x) = refl
ended_contents (kind.Range r) = refl
ended_contents (kind.Proc p) = refl
ended_contents (kind.CoreProc r v) = refl
ended_contents (kind.Fiber b e) = refl
ended_contents (kind.Exception m d) = refl
ended_contents (kind.Enumerator e) = refl
ended_contents (kind.Yielder b) = refl

ended_right : (k : Census) (n : ℕ) (x : Kind) → SoundKind k n x → SoundKind k n (parts.ended x)
ended_right k n kind.Plain h = h
ended_right k n (kind.Class c) h = h
ended_right k n (kind.String s) h = h
ended_right k n (kind.Array xs) h = h
ended_right k n (kind.Hash x) h = h
ended_right k n (kind.Range r) h = h
ended_right k n (kind.Proc p) h = h
ended_right k n (kind.CoreProc r v) h = h
ended_right k n (kind.Fiber b e) h = h
ended_right k n (kind.Exception m d) h = h
ended_right k n (kind.Enumerator e) h = h
ended_right k n (kind.Yielder b) h = h

module _ (h g : Held) (sound : Sound h.store) (id : ObjId) (there : IsGood h.store id) where
  pub keeps_sent : (a : Option ℕ)
      → g ≡ becomes h (parts.with_sent h.store.objects id a) → Keeps h g
  keeps_sent a e =
      let k : Kind = (object_at h.store.objects id).kind in
      keeps_contents h g sound id there (parts.sent k a) (sent_sort k a) (ap looks_of (sent_contents k a))
      (sent_right (census h.store) id.0 k a (good_object h.store sound id there).kind) e

  pub keeps_ended : g ≡ becomes h (parts.with_ended h.store.objects id) → Keeps h g
  keeps_ended e =
      let k : Kind = (object_at h.store.objects id).kind in
      keeps_contents h g sound id there (parts.ended k) (ended_sort k) (ap looks_of (ended_contents k))
      (ended_right (census h.store) id.0 k (good_object h.store sound id there).kind) e
