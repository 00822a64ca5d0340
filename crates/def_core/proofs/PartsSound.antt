-- Each change of one part of an object keeps a store sound.
use Rattle.std.proofs.Common.{◌≡◌, ℕ, zero, suc, ◌-◌, ◌<◌, List, [], ◌∷◌, ◌++◌, length, get_or, take, drop, true, false, cond, refl, ap, sym, ◌∙◌, subst}
use Rattle.std.specs.Prelude.{Option, Some, None, slice_set, nat_eq}
use Rattle.std.specs.List.{position}
use Rattle.std.specs.Map.{lookup, remove_entry}
use Rattle.indexmap.specs.IndexMap.{insert_entry}
use Rattle.rb_value.specs.declared.value.Value.{Value}
use Rattle.rb_value.specs.declared.value.ObjId.{ObjId}
use Rattle.rb_value.specs.declared.value.SymId.{SymId}
use Rattle.rb_value.specs.declared.variables.Variable.{Variable}
use Rattle.rb_value.specs.declared.key.Key.{Key}
use Rattle.rb_value.specs.declared.hash.HashItem.{HashItem}
use Rattle.rb_value.specs.declared.kind.Kind.{Kind}
use Rattle.rb_value.specs.declared.kind.Kind.TheVariants as kind
use Rattle.rb_value.specs.declared.kind.Sort.TheVariants as sort
use Rattle.rb_value.specs.Object.{Object}
use Rattle.rb_value.specs.Key.{same_key}
use Rattle.rb_value.specs.Hash as hash
use Rattle.rb_value.specs.Variables as variables
use Rattle.rb_value.specs.Sort.{sort_of}
use Rattle.def_core.specs.Store.{Store, object_at, sort_at}
use Rattle.def_core.specs.Parts.{with_objects, with_kind, with_elements, with_text, with_hash, with_variable}
use Rattle.def_core.specs.Sound.{Census, census, Sound, IsGood, AllAre, IsValue, IsSymbol, SoundVariable, SoundKey, SoundPair, SoundHash, SoundKind, SoundObject}
use Rattle.def_core.proofs.Good.{good_object}
use Rattle.def_core.proofs.Keeps.{sound_with_set}

-- Lists of which each member is right.

module _ {A : Type 0} (P : A → Type 0) where
  pub all_more : (xs ys : List A) → AllAre P xs → AllAre P ys → AllAre P (xs ++ ys)
  all_more [] ys h g = g
  all_more (x ∷ xs) ys h g = (h.0, all_more xs ys h.1 g)

  pub all_set : (xs : List A) (n : ℕ) (x : A) → AllAre P xs → P x → AllAre P (slice_set xs n x)
  all_set [] n x h g = h
  all_set (y ∷ ys) zero x h g = (g, h.1)
  all_set (y ∷ ys) (suc n) x h g = (h.0, all_set ys n x h.1 g)

  pub all_first : (n : ℕ) (xs : List A) → AllAre P xs → AllAre P (take n xs)
  all_first zero [] h = tt
  all_first zero (x ∷ xs) h = tt
  all_first (suc n) [] h = tt
  all_first (suc n) (x ∷ xs) h = (h.0, all_first n xs h.1)

  pub all_rest : (n : ℕ) (xs : List A) → AllAre P xs → AllAre P (drop n xs)
  all_rest zero xs h = h
  all_rest (suc n) [] h = h
  all_rest (suc n) (x ∷ xs) h = all_rest n xs h.1

-- an object of the same sort with other contents
pub sound_with_kind : (st : Store) → Sound st → (id : ObjId) (k : Kind) → IsGood st id
    → sort_of k ≡ sort_at st.objects id → SoundKind (census st) id.0 k
    → Sound (with_objects st (with_kind st.objects id k))
sound_with_kind st sound id k good same is =
    let old = good_object st sound id good in
    sound_with_set st sound id (record (object_at st.objects id) { kind = k }) good same
    (record { class = old.class; singleton = old.singleton; variables = old.variables; kind = is })

pub sound_with_elements : (st : Store) → Sound st → (id : ObjId) (xs : List Value) → IsGood st id
    → sort_at st.objects id ≡ sort.Array → AllAre (IsValue (census st)) xs
    → Sound (with_objects st (with_elements st.objects id xs))
sound_with_elements st sound id xs good is all = sound_with_kind st sound id (kind.Array xs) good (sym is) all

pub sound_with_text : (st : Store) → Sound st → (id : ObjId) (bytes : List ℕ) → IsGood st id
    → sort_at st.objects id ≡ sort.String → Sound (with_objects st (with_text st.objects id bytes))
sound_with_text st sound id bytes good is = sound_with_kind st sound id (kind.String bytes) good (sym is) tt

-- Instance variables.

put_kept : (k : Census) (vs : List Variable) (v : Variable) (place : Option ℕ) → AllAre (SoundVariable k) vs
    → SoundVariable k v → AllAre (SoundVariable k) (variables.put_at vs v place)
put_kept k vs v None h g = all_more (SoundVariable k) vs (v ∷ []) h (g, tt)
put_kept k vs v (Some n) h g = all_set (SoundVariable k) vs n v h g

pub sound_with_variable : (st : Store) → Sound st → (id : ObjId) (name : SymId) (v : Value) → IsGood st id
    → IsSymbol (census st) name → IsValue (census st) v
    → Sound (with_objects st (with_variable st.objects id name v))
sound_with_variable st sound id name v good symbol value =
    let old = good_object st sound id good in
    let o : Object = object_at st.objects id in
    sound_with_set st sound id
    (record o { variables = variables.with_variable o.variables name v }) good refl
    (record {
      class = old.class;
      singleton = old.singleton;
      variables = put_kept (census st) o.variables (record { name = name; value = v })
          (position (variables.is_named name) o.variables) old.variables (symbol, value);
      kind = old.kind;
    })

-- Pairs of a Hash.

module _ (k : Census) where
  pair_put : (pairs : List (Key × HashItem)) (key : Key) (item : HashItem) → AllAre (SoundPair k) pairs
      → SoundPair k (key, item) → AllAre (SoundPair k) (insert_entry same_key pairs key item)
  pair_put [] key item h g = (g, tt)
  pair_put (p ∷ ps) key item h g = elim (same_key key p.0) as
      (λ b. AllAre (SoundPair k) (cond b ((p.0, item) ∷ ps) (p ∷ insert_entry same_key ps key item))) [
        | true ↦ ((h.0.0, g.1, g.2), h.1)
        | false ↦ (h.0, pair_put ps key item h.1 g)
      ]

  shown_is_value : (pairs : List (Key × HashItem)) (key : Key) (shown : Value) → AllAre (SoundPair k) pairs
      → IsValue k shown → IsValue k (hash.shown_as (hash.item_of pairs key) shown)
  shown_is_value [] key shown h g = g
  shown_is_value (p ∷ ps) key shown h g = elim (same_key key p.0) as
      (λ b. IsValue k (hash.shown_as (cond b (Some p.1) (lookup (same_key key) ps)) shown)) [
        | true ↦ h.0.1
        | false ↦ shown_is_value ps key shown h.1 g
      ]

  pub pair_kept : (pairs : List (Key × HashItem)) (key : Key) (shown v : Value) → AllAre (SoundPair k) pairs
      → SoundKey k key → IsValue k shown → IsValue k v → AllAre (SoundPair k) (hash.with_pair pairs key shown v)
  pair_kept pairs key shown v h a b c =
      pair_put pairs key (record { shown = hash.shown_as (hash.item_of pairs key) shown; value = v }) h
      (a, shown_is_value pairs key shown h b, c)

  pub pair_removed : (pairs : List (Key × HashItem)) (key : Key) → AllAre (SoundPair k) pairs
      → AllAre (SoundPair k) (hash.without_key pairs key)
  pair_removed [] key h = tt
  pair_removed (p ∷ ps) key h = elim (same_key key p.0) as
      (λ b. AllAre (SoundPair k) (cond b ps (p ∷ remove_entry (same_key key) ps))) [
        | true ↦ h.1
        | false ↦ (h.0, pair_removed ps key h.1)
      ]
