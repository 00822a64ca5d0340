-- A store that gets one more object stays sound.
use Rattle.std.proofs.Common.{◌≡◌, ℕ, ◌<◌, List, [], ◌∷◌, ◌++◌, length, get_or, true, false, refl, ap, sym, ◌∙◌, subst, arith, length-append}
use Rattle.std.specs.Prelude.{Option, Some, None, slice_get, nat_lt}
use Rattle.std.specs.List.{position}
use Rattle.std.specs.Str.{bytes_eq}
use Rattle.std.proofs.lemmas.Option.{slice_get_within, slice_get-get_or, get_or_from_slice_get}
use Rattle.std.proofs.lemmas.List.{map-append, get_or_append_left, get_or_push}
use Rattle.std.proofs.lemmas.Bool.Decides.{nat_tests}
use Rattle.rb_value.specs.declared.value.Value.{Value}
use Rattle.rb_value.specs.declared.value.Value.TheVariants.{Nil, True, False, Int, Sym, Obj}
use Rattle.rb_value.specs.declared.value.ObjId.{ObjId}
use Rattle.rb_value.specs.declared.value.SymId.{SymId}
use Rattle.rb_value.specs.declared.method.Method.{Method}
use Rattle.rb_value.specs.declared.method.Method.TheVariants as method
use Rattle.rb_value.specs.declared.key.KeyPart.{KeyPart}
use Rattle.rb_value.specs.declared.key.KeyPart.TheVariants as part
use Rattle.rb_value.specs.declared.key.Key.{Key}
use Rattle.rb_value.specs.declared.key.Key.TheVariants as key
use Rattle.rb_value.specs.Object.{Object}
use Rattle.rb_value.specs.declared.kind.ClassContents.{ClassContents}
use Rattle.rb_value.specs.declared.hash.HashItem.{HashItem}
use Rattle.rb_value.specs.declared.kind.EnumeratorSource.{EnumeratorSource}
use Rattle.rb_value.specs.declared.kind.EnumeratorSource.TheVariants as source
use Rattle.rb_value.specs.declared.kind.Kind.{Kind}
use Rattle.rb_value.specs.declared.kind.Kind.TheVariants as kind
use Rattle.rb_value.specs.declared.kind.Sort.{Sort}
use Rattle.rb_value.specs.declared.core_class.CoreClass.{CoreClass}
use Rattle.rb_value.specs.CoreClass.{number_of, is_module}
use Rattle.rb_value.specs.Sort.{sort_of}
use Rattle.def_core.specs.Store.{Store, absent, with_object, next_number}
use Rattle.def_core.specs.declared.cause.Cause.{Cause}
use Rattle.def_core.specs.Changes.{intern, intern_at, fails}
use Rattle.def_core.specs.Sound.{sorts_of, census, Census, Role, Any, Module, ClassOrModule, Proc, Fiber, Array, Superclass, Class, SingletonClass, plays, plays_at, Is, IsSymbol, IsValue, OptionIs, AllAre, SoundMethod, SoundEntry, SoundVariable, SoundConstant, IsSuperclass, SoundClass, SoundPart, SoundKey, SoundPair, SoundSource, SoundKind, SoundObject, core_sort, Sound, Extends}
use Rattle.def_core.proofs.Roles.{found, is_by_sort}

module _ (k l : Census) (e : Extends k l) where
  symbol : (s : SymId) → IsSymbol k s → IsSymbol l s
  symbol s h = record { below = e.names s.0 h.below }

  pub value_grows : (v : Value) → IsValue k v → IsValue l v
  value_grows Nil h = tt
  value_grows True h = tt
  value_grows False h = tt
  value_grows (Int n) h = tt
  value_grows (Sym s) h = symbol s h
  value_grows (Obj id) h = e.roles Any id h

  option_grows : {A : Type 0} (P Q : A → Type 0) → ((x : A) → P x → Q x) → (o : Option A) → OptionIs P o → OptionIs Q o
  option_grows P Q f None h = tt
  option_grows P Q f (Some x) h = f x h

  all_grows : {A : Type 0} (P Q : A → Type 0) → ((x : A) → P x → Q x) → (xs : List A) → AllAre P xs → AllAre Q xs
  all_grows P Q f [] h = tt
  all_grows P Q f (x ∷ xs) h = (f x h.0, all_grows P Q f xs h.1)

  method_grows : (m : Method) → SoundMethod k m → SoundMethod l m
  method_grows (method.Body b s) h = tt
  method_grows (method.Core r) h = tt
  method_grows (method.Reader n) h = symbol n h
  method_grows (method.Writer n) h = symbol n h
  method_grows (method.Block p) h = e.roles Proc p h
  method_grows method.Undefined h = tt

  class_grows : (n : ℕ) (c : ClassContents) → SoundClass k n c → SoundClass l n c
  class_grows n c h = record {
    name = option_grows (IsSymbol k) (IsSymbol l) symbol c.name h.name;
    superclass = option_grows (IsSuperclass k n) (IsSuperclass l n) (λ p b. (e.roles Superclass p b.0, b.1))
        c.superclass h.superclass;
    module_root = h.module_root;
    included = all_grows (Is k Module) (Is l Module) (e.roles Module) c.included h.included;
    constants = all_grows (SoundConstant k) (SoundConstant l) (λ x b. (e.names x.0 b.0, value_grows x.1 b.1))
        c.constants h.constants;
    methods = all_grows (SoundEntry k) (SoundEntry l) (λ x b. (e.names x.0 b.0, method_grows x.1.method b.1)) c.methods
        h.methods;
  }

  part_grows : (p : KeyPart) → SoundPart k p → SoundPart l p
  part_grows (part.Plain v) h = value_grows v h
  part_grows (part.Text t) h = tt
  part_grows (part.Array n) h = tt

  key_grows : (x : Key) → SoundKey k x → SoundKey l x
  key_grows (key.Plain v) h = value_grows v h
  key_grows (key.Text t) h = tt
  key_grows (key.Array ps) h = all_grows (SoundPart k) (SoundPart l) part_grows ps h

  pair_grows : (p : Key × HashItem) → SoundPair k p → SoundPair l p
  pair_grows p h = (key_grows p.0 h.0, value_grows p.1.shown h.1, value_grows p.1.value h.2)

  source_grows : (s : EnumeratorSource) → SoundSource k s → SoundSource l s
  source_grows (source.Call r n args) h = (
    value_grows r h.0,
    symbol n h.1,
    all_grows (IsValue k) (IsValue l) value_grows args h.2,
  )
  source_grows (source.Block b) h = e.roles Proc b h

  kind_grows : (n : ℕ) (x : Kind) → SoundKind k n x → SoundKind l n x
  kind_grows n kind.Plain h = tt
  kind_grows n (kind.Class c) h = class_grows n c h
  kind_grows n (kind.String s) h = tt
  kind_grows n (kind.Array a) h = all_grows (IsValue k) (IsValue l) value_grows a h
  kind_grows n (kind.Hash x) h = record {
    pairs = all_grows (SoundPair k) (SoundPair l) pair_grows x.pairs h.pairs;
    default = value_grows x.default h.default;
    block = option_grows (Is k Proc) (Is l Proc) (e.roles Proc) x.block h.block;
  }
  kind_grows n (kind.Range r) h = tt
  kind_grows n (kind.Proc p) h = record {
    receiver = value_grows p.receiver h.receiver;
    owner = option_grows (Is k ClassOrModule) (Is l ClassOrModule) (e.roles ClassOrModule) p.owner h.owner;
    name = option_grows (IsSymbol k) (IsSymbol l) symbol p.name h.name;
    block = option_grows (Is k Proc) (Is l Proc) (e.roles Proc) p.block h.block;
  }
  kind_grows n (kind.CoreProc r v) h = value_grows v h
  kind_grows n (kind.Fiber b x) h = e.roles Proc b h
  kind_grows n (kind.Exception m d) h = (value_grows m h.0, value_grows d h.1)
  kind_grows n (kind.Enumerator x) h = record {
    source = source_grows x.source h.source;
    fiber = option_grows (Is k Fiber) (Is l Fiber) (e.roles Fiber) x.fiber h.fiber;
    items = e.roles Array x.items h.items;
    result = option_grows (IsValue k) (IsValue l) value_grows x.result h.result;
  }
  kind_grows n (kind.Yielder b) h = e.roles Proc b h

  pub object_grows : (n : ℕ) (o : Object) → SoundObject k n o → SoundObject l n o
  object_grows n o h = record {
    class = e.roles Class o.class h.class;
    singleton = option_grows (Is k SingletonClass) (Is l SingletonClass) (e.roles SingletonClass) o.singleton
        h.singleton;
    variables = all_grows (SoundVariable k) (SoundVariable l) (λ x b. (symbol x.name b.0, value_grows x.value b.1))
        o.variables h.variables;
    kind = kind_grows n o.kind h.kind;
  }

there_still : (xs ys : List Sort) (n : ℕ) (s : Sort) → slice_get xs n ≡ Some s → slice_get (xs ++ ys) n ≡ Some s
there_still xs ys n s h =
    let within = slice_get_within xs n s h in
    let longer : n < length (xs ++ ys) = rw length-append (omega (arith, within)) in
    slice_get-get_or (xs ++ ys) n s longer ∙ ap Some
    (get_or_append_left xs ys s n within ∙ get_or_from_slice_get xs n s s h)

sorts_grow : (st : Store) (more : List Object) → sorts_of (st.objects ++ more) ≡ sorts_of st.objects ++ sorts_of more
sorts_grow st more = map-append (λ (x : Object). sort_of x.kind) st.objects more

-- objects that come behind the others
pub more_objects : (st : Store) (more : List Object)
    → Extends (census st) (census (record st { objects = st.objects ++ more }))
more_objects st more = record {
  roles = λ r id is.
      let f = found (sorts_of st.objects) id.0 r is.holds in
      record {
        holds = ap (plays_at r) (ap (λ (ss : List Sort). slice_get ss id.0) (sorts_grow st more)
            ∙ there_still _ _ id.0 f.0 f.1) ∙ f.2;
      };
  names = λ n h. h;
}

pub one_more : (st : Store) (o : Object) → Extends (census st) (census (with_object st o))
one_more st o = more_objects st (o ∷ [])

-- a new object that is sound in the store before it
pub sound_with_object : (st : Store) → Sound st → (o : Object) → SoundObject (census st) (length st.objects) o
    → Sound (with_object st o)
sound_with_object st sound o new = record {
  objects = λ n h. elim (nat_lt n (length st.objects)) as
      (λ b. nat_lt n (length st.objects) ≡ b → SoundObject (census (with_object st o)) n
      (get_or (st.objects ++ o ∷ []) n absent)) [
        | true ↦ λ b.
            let within : n < length st.objects = grind (arith, nat_tests, b) in
            subst (SoundObject (census (with_object st o)) n) (sym (get_or_append_left st.objects (o ∷ []) absent n within))
            (object_grows _ _ (one_more st o) n (get_or st.objects n absent) (sound.objects n within))
        | false ↦ λ b.
            let last : length st.objects ≡ n = grind (arith, nat_tests, b, rw length-append at h) in
            subst (λ (m : ℕ). SoundObject (census (with_object st o)) m (get_or (st.objects ++ o ∷ []) m absent)) last
            (subst (SoundObject (census (with_object st o)) (length st.objects))
            (sym (get_or_push st.objects o absent (length st.objects) refl))
            (object_grows _ _ (one_more st o) (length st.objects) o new))
      ] refl;
  core = λ q. ap (λ (ss : List Sort). slice_get ss (number_of q)) (sorts_grow st (o ∷ []))
      ∙ there_still _ _ (number_of q) _ (sound.core q);
}

-- the core classes stand at their numbers still
pub core_still : (st : Store) → Sound st → (more : List Object) → (c : CoreClass)
    → slice_get (sorts_of (st.objects ++ more)) (number_of c) ≡ Some (core_sort (is_module c))
core_still st sound more c = ap (λ (ss : List Sort). slice_get ss (number_of c)) (sorts_grow st more)
    ∙ there_still _ _ (number_of c) _ (sound.core c)

-- a core class is a class
pub core_is_class : (st : Store) → Sound st → (c : CoreClass) → is_module c ≡ false
    → Is (census st) Class (record { 0 = number_of c })
core_is_class st sound c plain = record {
  holds =
      ap (plays_at Class) (sound.core c ∙ ap (λ b. Some (core_sort b)) plain);
}

-- the new object has each role that its sort plays
pub new_role : (st : Store) (o : Object) (r : Role) → plays r (sort_of o.kind) ≡ true
    → Is (census (with_object st o)) r (next_number st)
new_role st o r h =
    let longer : length st.objects < length (st.objects ++ o ∷ []) = rw length-append (omega arith) in
    is_by_sort (with_object st o) r (next_number st) longer
    (ap (λ (x : Object). plays r (sort_of x.kind)) (get_or_push st.objects o absent (length st.objects) refl) ∙ h)

-- a store that gets more names of symbols
pub more_names : (st : Store) (names : List (List ℕ))
    → Extends (census st) (census (record st { symbols = st.symbols ++ names }))
more_names st names = record {
  roles = λ r id is. record { holds = is.holds };
  names = λ n h. rw length-append (omega (arith, h));
}

pub sound_with_symbols : (st : Store) → Sound st → (names : List (List ℕ))
    → Sound (record st { symbols = st.symbols ++ names })
sound_with_symbols st sound names = record {
  objects = λ n h. object_grows _ _ (more_names st names) n (get_or st.objects n absent) (sound.objects n h);
  core = sound.core;
}

pub extends_itself : (k : Census) → Extends k k
extends_itself k = record { roles = λ r id is. is; names = λ n h. h }

pub extends_both : (k l m : Census) → Extends k l → Extends l m → Extends k m
extends_both k l m e f = record {
  roles = λ r id is. f.roles r id (e.roles r id is);
  names =
      λ n h. f.names n (e.names n h);
}

-- a store with objects of the same sorts
pub same_objects : (st : Store) (objects : List Object) → sorts_of objects ≡ sorts_of st.objects
    → Extends (census st) (census (record st { objects = objects }))
same_objects st objects e = subst (λ (ss : List Sort). Extends (census st)
    (record { sorts = ss; symbols = length st.symbols })) (sym e) (extends_itself (census st))

-- the text of an exception is a new object
pub raised : (st : Store) (c : Cause) → Extends (census st) (census (fails st c).store)
unfolding fails
raised st c = one_more st _

-- a name as a symbol keeps all that is there
pub interned : (st : Store) (name : List ℕ) → Extends (census st) (census (intern st name).store)
unfolding intern
interned st name = by (position (bytes_eq name) st.symbols)
  where
    by : (p : Option ℕ) → Extends (census st) (census (intern_at st name p).store)
    by None = more_names st (name ∷ [])
    by (Some i) = extends_itself (census st)

pub sound_with_interned : (st : Store) → Sound st → (name : List ℕ) → Sound (intern st name).store
unfolding intern
sound_with_interned st sound name = by (position (bytes_eq name) st.symbols)
  where
    by : (p : Option ℕ) → Sound (intern_at st name p).store
    by None = sound_with_symbols st sound (name ∷ [])
    by (Some i) = sound
