-- What forms and instructions do with values keeps a world fine.
use Rattle.std.proofs.Common.{ℕ, ℤ, zero, suc, ◌-◌, List, [], ◌∷◌, ◌++◌, length, get_or, take, drop, map, Bool, true, false, refl, sym, subst, if◌then◌else◌}
use Rattle.std.specs.Prelude.{Option, Some, None, unwrap_or, nat_lt, pos, negsuc, max}
use Rattle.std.specs.List.{position}
use Rattle.rb_value.specs.declared.value.Value.{Value}
use Rattle.rb_value.specs.declared.value.Value.TheVariants.{Nil, True, False, Int, Sym, Obj}
use Rattle.rb_value.specs.declared.value.ObjId.{ObjId}
use Rattle.rb_value.specs.declared.value.SymId.{SymId}
use Rattle.rb_value.specs.declared.key.KeyPart.{KeyPart}
use Rattle.rb_value.specs.declared.key.KeyPart.TheVariants as part
use Rattle.rb_value.specs.declared.key.Key.{Key}
use Rattle.rb_value.specs.declared.hash.HashItem.{HashItem}
use Rattle.rb_value.specs.declared.hash.HashContents.{HashContents}
use Rattle.rb_value.specs.declared.kind.Sort.TheVariants as sort
use Rattle.rb_value.specs.declared.variables.Variable.{Variable}
use Rattle.rb_value.specs.declared.core_class.CoreClass.TheVariants as class
use Rattle.rb_value.specs.Variables as variables
use Rattle.def_core.specs.declared.cause.Cause.TheVariants as cause
use Rattle.def_core.specs.Store.{Store, core, next_number, same_object, with_object}
use Rattle.def_core.specs.Classes.{plain_class_of}
use Rattle.def_core.specs.Bind.{elements_in}
use Rattle.def_core.specs.Parts.{text_at, pair_of}
use Rattle.def_core.specs.Changes.{intern}
use Rattle.def_core.specs.Sound.{Census, census, Sound, Any, Array, Is, IsSymbol, IsValue, OptionIs, AllAre, SoundVariable, SoundPair, SoundPart, SoundKey, SoundHash}
use Rattle.def_core.proofs.Good.{role_object}
use Rattle.def_core.proofs.PartsSound.{all_more, all_first, all_rest}
use Rattle.rb_store.proofs.Start.{interned_symbol}
use Rattle.rb_integer.specs.declared.ends.Bounds.{Bounds}
use Rattle.rb_integer.specs.declared.ends.Bounds.TheVariants.{Integers, Bytes}
use Rattle.rb_integer.specs.declared.ends.Ends.{Ends}
use Rattle.rb_integer.specs.Ends as ends
use Rattle.def_rows.specs.Answers.{items_object, text_object, with_texts}
use Rattle.def_rows.specs.RangeRows.{range_of, items, integers_of, texts_of}
use Rattle.run_values.proofs.Made.{new_is, items_sound, text_sound}
use Rattle.run_values.proofs.Splatting as splatting
use Rattle.def_calls.specs.World.{World, with_store}
use Rattle.def_calls.specs.Views.{object_in, kind_in, string_of, hash_of}
use Rattle.def_calls.specs.Values.{wrong_value, variables_of, instance_variable, set_variable_of, set_instance_variable, elements_or_itself, element_at, element, elements_between, last_elements, pairs_of, splat_hash, splat_items, splat_range, splat_array, splat, pushed, push_splat, appended, intern_bytes, make_symbol, joined, all_parts, text_part, array_part, parts_of, key_of_parts, key_by, key_of, copied_text, shown_as, put_shown, put_by_key, with_pair}
use Rattle.world_laws.specs.Fine.{Bodies, HasSort, ObjectIs, Fine, Keeps}
use Rattle.world_laws.specs.Outcomes.{AnswerIs, GivesSpace, SplattedIs}
use Rattle.world_laws.proofs.Growing.{sort_stays, value_stays, role_stays, key_stays, all_stay}
use Rattle.world_laws.proofs.Standing.{keeps_itself, keeps_then}
use Rattle.world_laws.proofs.Stores.{keeps_object, keeps_objects, keeps_interned}
use Rattle.world_laws.proofs.Answers.{answer_then, gives_value, gives_in, makes_items, fails_with, fail_gives}
use Rattle.world_laws.proofs.Changing.{has_any, keeps_more, keeps_text, keeps_pair, keeps_variable}
use Rattle.world_laws.proofs.Holding.{object_is, elements_are, hash_of_is}

-- Lists of values.

pub value_at : (k : Census) (vs : List Value) (n : ℕ) → AllAre (IsValue k) vs → IsValue k (get_or vs n Nil)
value_at k [] n all = tt
value_at k (v ∷ vs) zero all = all.0
value_at k (v ∷ vs) (suc n) all = value_at k vs n all.1

pub element_at_is : (k : Census) (vs : List Value) (z : ℤ) → AllAre (IsValue k) vs → IsValue k (element_at vs z)
element_at_is k vs (pos n) all = value_at k vs n all
element_at_is k vs (negsuc n) all = by (nat_lt n (length vs))
  where
    by : (c : Bool) → IsValue k (if c then get_or vs (length vs - 1 - n) Nil else Nil)
    by true = value_at k vs (length vs - 1 - n) all
    by false = tt

pub values_or : (k : Census) (o : Option (List Value)) (other : List Value) → OptionIs (AllAre (IsValue k)) o
    → AllAre (IsValue k) other → AllAre (IsValue k) (unwrap_or o other)
values_or k None other h g = g
values_or k (Some vs) other h g = h

-- Instance variables.

variable_at : (k : Census) (vs : List Variable) (n : ℕ) (d : Variable) → AllAre (SoundVariable k) vs → IsValue k d.value
    → IsValue k (get_or vs n d).value
variable_at k [] n d all h = h
variable_at k (v ∷ vs) zero d all h = all.0.1
variable_at k (v ∷ vs) (suc n) d all h = variable_at k vs n d all.1 h

variable_or_nil : (k : Census) (vs : List Variable) (place : Option ℕ) → AllAre (SoundVariable k) vs
    → IsValue k (unwrap_or (variables.value_at vs place) Nil)
variable_or_nil k vs None all = tt
variable_or_nil k vs (Some n) all = variable_at k vs n _ all tt

module _ (st : Store) (sound : Sound st) where
  variables_are : (v : Value) → IsValue (census st) v → AllAre (SoundVariable (census st)) (variables_of st.objects v)
  variables_are Nil is = tt
  variables_are True is = tt
  variables_are False is = tt
  variables_are (Int z) is = tt
  variables_are (Sym s) is = tt
  variables_are (Obj id) is = (role_object st sound Any id is).variables

-- Pairs that are shown.

abbrev pub Shown : Census → Key × HashItem → Type 0
Shown k p = IsValue k p.1.shown × IsValue k p.1.value

-- what is shown as a key is a value of the store that has it
abbrev ShownIs : Bodies → World → Value × Store → Type 0
ShownIs b w s = Keeps b w (with_store w s.1) × IsValue (census s.1) s.0

pub texts_hold_nothing : (b : Bodies) (w : World) (texts : List (List ℕ)) → AllAre (ObjectIs b w) (map text_object texts)
texts_hold_nothing b w [] = tt
texts_hold_nothing b w (t ∷ ts) = (tt, texts_hold_nothing b w ts)

-- Keys.

joined_are : (k : Census) (o p : Option (List KeyPart)) → OptionIs (AllAre (SoundPart k)) o
    → OptionIs (AllAre (SoundPart k)) p → OptionIs (AllAre (SoundPart k)) (joined o p)
joined_are k None p h g = tt
joined_are k (Some ps) None h g = tt
joined_are k (Some ps) (Some qs) h g = all_more (SoundPart k) ps qs h g

all_parts_are : (k : Census) (parts : Value → Option (List KeyPart))
    → ((v : Value) → IsValue k v → OptionIs (AllAre (SoundPart k)) (parts v)) → (vs : List Value)
    → AllAre (IsValue k) vs → OptionIs (AllAre (SoundPart k)) (all_parts parts vs)
all_parts_are k parts f [] all = tt
all_parts_are k parts f (v ∷ vs) all =
    joined_are k (parts v) (all_parts parts vs) (f v all.0) (all_parts_are k parts f vs all.1)

text_part_is : (k : Census) (v : Value) (o : Option (List ℕ)) → IsValue k v
    → OptionIs (AllAre (SoundPart k)) (text_part v o)
text_part_is k v None is = (is, tt)
text_part_is k v (Some bytes) is = (tt, tt)

module _ (st : Store) (sound : Sound st) where
  array_part_is : (v : Value) (parts : Value → Option (List KeyPart)) (o : Option (List Value))
      → ((u : Value) → IsValue (census st) u → OptionIs (AllAre (SoundPart (census st))) (parts u))
      → IsValue (census st) v → OptionIs (AllAre (IsValue (census st))) o
      → OptionIs (AllAre (SoundPart (census st))) (array_part st.objects v parts o)
  array_part_is v parts None f is h = text_part_is (census st) v (string_of (kind_in st.objects v)) is
  array_part_is v parts (Some vs) f is h =
      joined_are (census st) (Some (part.Array (length vs) ∷ [])) (all_parts parts vs) (tt, tt)
      (all_parts_are (census st) parts f vs h)

  parts_are : (n : ℕ) (v : Value) → IsValue (census st) v
      → OptionIs (AllAre (SoundPart (census st))) (parts_of n st.objects v)
  unfolding parts_of
  parts_are zero v is = array_part_is v (λ u. None) (elements_in st.objects v) (λ u h. tt) is (elements_are st sound v is)
  parts_are (suc n) v is = array_part_is v (λ u. parts_of n st.objects u) (elements_in st.objects v)
      (λ u h. parts_are n u h) is (elements_are st sound v is)

  key_of_parts_is : (o : Option (List KeyPart)) → OptionIs (AllAre (SoundPart (census st))) o
      → OptionIs (SoundKey (census st)) (key_of_parts o)
  key_of_parts_is None h = tt
  key_of_parts_is (Some ps) h = h

  key_by_is : (v : Value) (o : Option (List Value)) (bytes : Option (List ℕ)) → IsValue (census st) v
      → OptionIs (AllAre (IsValue (census st))) o → OptionIs (SoundKey (census st)) (key_by st.objects v o bytes)
  key_by_is v None None is h = is
  key_by_is v None (Some bytes) is h = tt
  key_by_is v (Some vs) bytes is h = key_of_parts_is (all_parts (λ u. parts_of 9998 st.objects u) vs)
      (all_parts_are (census st) (λ u. parts_of 9998 st.objects u) (λ u g. parts_are 9998 u g) vs h)

  pub key_is : (v : Value) → IsValue (census st) v → OptionIs (SoundKey (census st)) (key_of st.objects v)
  unfolding key_of
  key_is v is =
      key_by_is v (elements_in st.objects v) (string_of (kind_in st.objects v)) is (elements_are st sound v is)

-- The pairs of a Hash as new Arrays.
pub pairs_are : (b : Bodies) (w : World) → Fine b w → (ps : List (Key × HashItem)) → AllAre (Shown (census w.store)) ps
    → SplattedIs b w (pairs_of ps w.store)
pairs_are b w fine [] all = record { keeps = keeps_itself b w fine; values = tt }
pairs_are b w fine (p ∷ ps) all =
    let xs : List Value = p.1.shown ∷ p.1.value ∷ [] in
    let v : World = with_store w (with_object w.store (items_object xs)) in
    let k = keeps_object b w fine (items_object xs) (items_sound w.store fine.store xs (all.0.0, (all.0.1, tt))) tt in
    let later = all_stay (Shown (census w.store)) (Shown (census v.store))
    (λ q h. (value_stays w v k.extends q.1.shown h.0, value_stays w v k.extends q.1.value h.1)) ps all.1 in
    let rest = pairs_are b v k.fine ps later in
    let u : World = with_store w (pairs_of ps v.store).store in
    record {
      keeps = keeps_then b w v u k rest.keeps;
      values = (
        value_stays v u rest.keeps.extends (Obj (next_number w.store)) (new_is w.store (items_object xs)),
        rest.values,
      );
    }

module _ (b : Bodies) (w : World) (fine : Fine b w) where
  -- an instruction that meets another value than it is made for
  pub wrong_value_is : (instruction : List ℕ) → AnswerIs b w (wrong_value w instruction)
  unfolding wrong_value
  wrong_value_is instruction =
      let named = intern w.store instruction in
      let v : World = with_store w named.store in
      let k = keeps_interned b w fine instruction in
      answer_then b w v _ k (fails_with b v k.fine (cause.WrongValue named.symbol) (interned_symbol w.store instruction))

  -- what it gives then is no value
  pub wrong_value_gives : (instruction : List ℕ)
      → GivesSpace (census (wrong_value w instruction).world.store) (wrong_value w instruction).result
  unfolding wrong_value
  wrong_value_gives instruction =
      let named = intern w.store instruction in
      let v : World = with_store w named.store in
      fail_gives b v (keeps_interned b w fine instruction).fine (cause.WrongValue named.symbol)
      (interned_symbol w.store instruction)

  pub instance_variable_is : (self : Value) (name : SymId) → IsValue (census w.store) self
      → IsValue (census w.store) (instance_variable w self name)
  unfolding instance_variable
  instance_variable_is self name is =
      variable_or_nil (census w.store) (variables_of w.store.objects self)
      (position (variables.is_named name) (variables_of w.store.objects self))
      (variables_are w.store fine.store self is)

  set_of : (name : SymId) (x : Value) (o : Option ObjId) → IsSymbol (census w.store) name → IsValue (census w.store) x
      → OptionIs (Is (census w.store) Any) o → AnswerIs b w (set_variable_of w name x o)
  set_of name x None symbol is there = fails_with b w fine cause.NoVariable tt
  set_of name x (Some id) symbol is there =
      let k = keeps_variable b w fine id name x there symbol is in
      gives_in b w fine _ x k (value_stays w _ k.extends x is)

  pub set_instance_variable_is : (self : Value) (name : SymId) (x : Value) → IsValue (census w.store) self
      → IsSymbol (census w.store) name → IsValue (census w.store) x → AnswerIs b w (set_instance_variable w self name x)
  unfolding set_instance_variable
  set_instance_variable_is self name x is symbol value =
      set_of name x (object_in self) symbol value (object_is w.store fine.store self is)

  -- Elements.

  pub elements_or_itself_are : (x : Value) → IsValue (census w.store) x
      → AllAre (IsValue (census w.store)) (elements_or_itself w x)
  elements_or_itself_are x is = values_or (census w.store) (elements_in w.store.objects x) (x ∷ [])
      (elements_are w.store fine.store x is) (is, tt)

  pub element_is : (x : Value) (z : ℤ) → IsValue (census w.store) x → AnswerIs b w (element w x z)
  unfolding element
  element_is x z is = gives_value b w fine (element_at (elements_or_itself w x) z)
      (element_at_is (census w.store) (elements_or_itself w x) z (elements_or_itself_are x is))

  pub elements_between_is : (x : Value) (from post : ℕ) → IsValue (census w.store) x
      → AnswerIs b w (elements_between w x from post)
  unfolding elements_between
  elements_between_is x from post is =
      let vs : List Value = elements_or_itself w x in
      makes_items b w fine (drop from (take (length vs - post) vs))
      (all_rest (IsValue (census w.store)) from (take (length vs - post) vs)
      (all_first (IsValue (census w.store)) (length vs - post) vs (elements_or_itself_are x is)))

  pub last_elements_is : (x : Value) (from count : ℕ) → IsValue (census w.store) x
      → AnswerIs b w (last_elements w x from count)
  unfolding last_elements
  last_elements_is x from count is =
      let vs : List Value = elements_or_itself w x in
      makes_items b w fine (drop (max from (length vs - count)) vs)
      (all_rest (IsValue (census w.store)) (max from (length vs - count)) vs (elements_or_itself_are x is))

  -- Splats.

  hash_splatted : (x : Value) (o : Option HashContents) → IsValue (census w.store) x
      → OptionIs (SoundHash (census w.store)) o → SplattedIs b w (splat_hash w.store x o)
  hash_splatted x None is h = record {
    keeps = keeps_itself b w fine;
    values = splatting.itself_is (census w.store) x is;
  }
  hash_splatted x (Some h) is sound = pairs_are b w fine h.pairs
      (all_stay (SoundPair (census w.store)) (Shown (census w.store)) (λ p g. (g.1, g.2)) h.pairs sound.pairs)

  items_splatted : (bounds : Bounds) (n : ℕ) → SplattedIs b w (splat_items w.store bounds (items bounds n))
  items_splatted (Integers x y) n = record {
    keeps = keeps_itself b w fine;
    values = splatting.integers_are (census w.store) (integers_of (items (Integers x y) n));
  }
  items_splatted (Bytes x y) n =
      let texts : List (List ℕ) = texts_of (items (Bytes x y) n) in
      record {
        keeps = keeps_objects b w fine (map text_object texts)
            (splatting.texts_sound w.store fine.store texts (map text_object texts) refl) (texts_hold_nothing b w texts);
        values = subst (AllAre (IsValue (census (with_texts w.store texts))))
            (sym (splatting.bytes_values w.store (Bytes x y) x y n refl))
            (splatting.added_are w.store (with_texts w.store texts) (map text_object texts) refl);
      }

  range_splatted : (x : Value) (o : Option Ends) → IsValue (census w.store) x → SplattedIs b w (splat_range w.store x o)
  range_splatted x None is =
      hash_splatted x (hash_of (kind_in w.store.objects x)) is (hash_of_is w.store fine.store x is)
  range_splatted x (Some e) is = items_splatted e.bounds (ends.count e.bounds e.is_exclusive)

  array_splatted : (x : Value) (o : Option (List Value)) → IsValue (census w.store) x
      → OptionIs (AllAre (IsValue (census w.store))) o → SplattedIs b w (splat_array w.store x o)
  array_splatted x None is h = range_splatted x (range_of w.store.objects x) is
  array_splatted x (Some vs) is h = record { keeps = keeps_itself b w fine; values = h }

  pub splat_is : (x : Value) → IsValue (census w.store) x → SplattedIs b w (splat w.store x)
  unfolding splat
  splat_is x is = array_splatted x (elements_in w.store.objects x) is (elements_are w.store fine.store x is)

  pub pushed_keeps : (id : ObjId) (vs : List Value) → Is (census w.store) Array id → AllAre (IsValue (census w.store)) vs
      → Keeps b w (with_store w (pushed w.store id vs))
  pushed_keeps id vs is all = keeps_more b w fine id vs is all

  -- Texts.

  pub appended_keeps : (id : ObjId) (more : List ℕ) → HasSort (census w.store) sort.String id
      → Keeps b w (with_store w (appended w.store id more))
  appended_keeps id more is = keeps_text b w fine id (text_at w.store.objects id ++ more) is

  interned_is : (o : Option (List ℕ)) → AnswerIs b w (intern_bytes w o)
  interned_is None = wrong_value_is _
  interned_is (Some bytes) = gives_in b w fine (intern w.store bytes).store (Sym (intern w.store bytes).symbol)
      (keeps_interned b w fine bytes) (interned_symbol w.store bytes)

  pub make_symbol_is : (x : Value) → AnswerIs b w (make_symbol w x)
  make_symbol_is x = interned_is (string_of (kind_in w.store.objects x))

  -- Hashes.

  text_copied : (x : Value) (o : Option (List ℕ)) → IsValue (census w.store) x → ShownIs b w (copied_text w.store x o)
  text_copied x None is = (keeps_itself b w fine, is)
  text_copied x (Some bytes) is = by (same_object (plain_class_of w.store.objects x) (core class.String))
    where
      by : (c : Bool) → ShownIs b w
          (if c then (Obj (next_number w.store), with_object w.store (text_object bytes)) else (x, w.store))
      by true = (
        keeps_object b w fine (text_object bytes) (text_sound w.store fine.store bytes) tt,
        new_is w.store (text_object bytes),
      )
      by false = (keeps_itself b w fine, is)

  shown_is : (x : Value) (o : Option HashItem) → IsValue (census w.store) x → ShownIs b w (shown_as w.store x o)
  shown_is x None is = text_copied x (string_of (kind_in w.store.objects x)) is
  shown_is x (Some item) is = (keeps_itself b w fine, is)

  put_shown_is : (id : ObjId) (value : Value) (x : Key) (s : Value × Store) → HasSort (census w.store) sort.Hash id
      → IsValue (census w.store) value → SoundKey (census w.store) x → ShownIs b w s
      → AnswerIs b w (put_shown w id value x s)
  put_shown_is id value x s is h found shown =
      let v : World = with_store w s.1 in
      let e = shown.0.extends in
      let there = sort_stays w v e sort.Hash id is in
      let kept = keeps_pair b v shown.0.fine id x s.0 value there (key_stays w v e x found) shown.1
      (value_stays w v e value h) in
      gives_in b w fine _ (Obj id) (keeps_then b w v _ shown.0 kept)
      (value_stays v _ kept.extends (Obj id) (has_any v.store sort.Hash id there))

  put_is : (id : ObjId) (shown value : Value) (o : Option Key) → HasSort (census w.store) sort.Hash id
      → IsValue (census w.store) shown → IsValue (census w.store) value → OptionIs (SoundKey (census w.store)) o
      → AnswerIs b w (put_by_key w id shown value o)
  put_is id shown value None is k v found = fails_with b w fine cause.StackTooDeep tt
  put_is id shown value (Some x) is k v found =
      put_shown_is id value x (shown_as w.store shown (pair_of w.store.objects id x)) is v found
      (shown_is shown (pair_of w.store.objects id x) k)

  pub with_pair_is : (id : ObjId) (shown value : Value) → HasSort (census w.store) sort.Hash id
      → IsValue (census w.store) shown → IsValue (census w.store) value → AnswerIs b w (with_pair w id shown value)
  with_pair_is id shown value is k v = put_is id shown value (key_of w.store.objects shown) is k v
      (key_is w.store fine.store shown k)

-- a splat into an Array that was there before it
pub push_splat_keeps : (b : Bodies) (w : World) → Fine b w → (id : ObjId) (x : Value) → Is (census w.store) Array id
    → IsValue (census w.store) x → Keeps b w (with_store w (push_splat (splat w.store x) id))
push_splat_keeps b w fine id x is value =
    let s = splat_is b w fine x value in
    let v : World = with_store w (splat w.store x).store in
    keeps_then b w v _ s.keeps (pushed_keeps b v s.keeps.fine id (splat w.store x).values
    (role_stays w v s.keeps.extends Array id is) s.values)
