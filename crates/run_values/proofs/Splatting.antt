-- What a splat adds to a store.
use Rattle.std.proofs.Common.{◌≡◌, ℕ, ℤ, zero, suc, ◌+◌, ◌≤◌, List, [], ◌∷◌, ◌++◌, length, map, take, drop, refl, ap, sym, ◌∙◌, subst, arith, append_assoc, append-nil, length-append}
use Rattle.std.specs.Prelude.{Some, None, option_map, slice_get}
use Rattle.std.specs.List.{range_with_len}
use Rattle.std.proofs.lemmas.List.{map-append}
use Rattle.std.proofs.Math.Seq.{take-add}
use Rattle.rb_value.specs.declared.value.Value.{Value}
use Rattle.rb_value.specs.declared.value.Value.TheVariants.{Nil, True, False, Int, Sym, Obj}
use Rattle.rb_value.specs.declared.value.ObjId.{ObjId}
use Rattle.rb_value.specs.declared.key.Key.{Key}
use Rattle.rb_value.specs.declared.hash.HashItem.{HashItem}
use Rattle.rb_value.specs.declared.core_class.CoreClass.TheVariants as class
use Rattle.rb_value.specs.Object.{Object}
use Rattle.def_core.specs.Store.{Store, core, object_number, next_number, with_object}
use Rattle.def_core.specs.Parts.{with_objects, hash_at}
use Rattle.def_core.specs.Sound.{Census, census, Sound, SoundFrom, SoundPair, Any, Class, Is, IsValue, AllAre, Extends}
use Rattle.def_core.proofs.Grows.{more_objects, core_is_class, value_grows}
use Rattle.def_core.proofs.Good.{is_good}
use Rattle.core_rows.proofs.Texts.{numbered_are}
use Rattle.rb_store.proofs.Kept as kept
use Rattle.def_rows.specs.Answers.{text_object, numbered}
use Rattle.rb_integer.specs.declared.ends.Bounds.{Bounds}
use Rattle.rb_integer.specs.declared.ends.Bounds.TheVariants.{Integers, Bytes}
use Rattle.rb_integer.specs.Ends as ends
use Rattle.def_rows.specs.RangeRows.{items, integers_of, texts_of}
use Rattle.def_calls.specs.Values.{splat_items, pairs_of, itself_or_none}
use Rattle.def_calls.specs.Views.{present}
use Rattle.core_range.proofs.MoreItems as more
use Rattle.run_values.specs.Splats.{item_object, pair_object}

-- numbers in a row, from the first on
numbered_first : (first n : ℕ) → numbered first (suc n) ≡ Obj (object_number first) ∷ numbered (first + 1) n
unfolding numbered
numbered_first first zero = let e : first + zero ≡ first = omega arith in
    ap (λ (m : ℕ). Obj (object_number m) ∷ []) e
numbered_first first (suc n) =
    let e : first + suc n ≡ first + 1 + n = omega arith in
    ap (λ (vs : List Value). vs ++ Obj (object_number (first + suc n)) ∷ []) (numbered_first first n)
    ∙ ap (λ (m : ℕ). Obj (object_number first) ∷ (numbered (first + 1) n ++ Obj (object_number m) ∷ [])) e

-- the pairs are new Arrays with numbers in a row
pub pairs_numbered : (ps : List (Key × HashItem)) (st : Store)
    → (pairs_of ps st).values ≡ numbered (length st.objects) (length (map pair_object ps))
unfolding numbered
pairs_numbered [] st = refl
pairs_numbered (p ∷ ps) st =
    let longer : length (st.objects ++ pair_object p ∷ []) ≡ length st.objects + 1 = length-append st.objects
    (pair_object p ∷ []) in
    ap (λ (vs : List Value). Obj (next_number st) ∷ vs)
    (pairs_numbered ps (with_object st (pair_object p))
    ∙ ap (λ (n : ℕ). numbered n (length (map pair_object ps))) longer)
    ∙ sym (numbered_first (length st.objects) (length (map pair_object ps)))

pub pairs_added : (ps : List (Key × HashItem)) (st : Store)
    → (pairs_of ps st).store ≡ with_objects st (st.objects ++ map pair_object ps)
pairs_added [] st = ap (with_objects st) (sym (append-nil st.objects))
pairs_added (p ∷ ps) st = pairs_added ps (with_object st (pair_object p))
    ∙ ap (with_objects st) (append_assoc st.objects (pair_object p ∷ []) (map pair_object ps))

-- the pairs of a Hash of the store, as Arrays, are sound in each store that has more
pairs_from : (k l : Census) → Extends k l → Is l Class (core class.Array) → (n : ℕ) (ps : List (Key × HashItem))
    → AllAre (SoundPair k) ps → SoundFrom l n (map pair_object ps)
pairs_from k l e is n [] all = tt
pairs_from k l e is n (p ∷ ps) all = (
  record {
    class = is;
    singleton = tt;
    variables = tt;
    kind = (value_grows k l e p.1.shown all.0.1, (value_grows k l e p.1.value all.0.2, tt));
  },
  pairs_from k l e is (n + 1) ps all.1,
)

pub pairs_sound : (st : Store) → Sound st → (id : ObjId) → Is (census st) Any id
    → (more : List Object) → more ≡ map pair_object (hash_at st.objects id).pairs
    → SoundFrom (census (with_objects st (st.objects ++ more))) (length st.objects) more
pairs_sound st sound id is more e =
    let grown = more_objects st (map pair_object (hash_at st.objects id).pairs) in
    subst (λ (os : List Object). SoundFrom (census (with_objects st (st.objects ++ os))) (length st.objects) os) (sym e)
    (pairs_from _ _ grown (grown.roles Class (core class.Array) (core_is_class st sound class.Array refl))
    (length st.objects) (hash_at st.objects id).pairs (kept.hash_is st sound id (is_good st Any id is)).pairs)

-- new Strings are sound in each store that has them
pub texts_sound : (st : Store) → Sound st → (texts : List (List ℕ)) (more : List Object) → more ≡ map text_object texts
    → SoundFrom (census (with_objects st (st.objects ++ more))) (length st.objects) more
texts_sound st sound texts more e =
    let grown = more_objects st (map text_object texts) in
    subst (λ (os : List Object). SoundFrom (census (with_objects st (st.objects ++ os))) (length st.objects) os) (sym e)
    (texts_all (census (with_objects st (st.objects ++ map text_object texts))) (length st.objects) texts
    (grown.roles Class (core class.String) (core_is_class st sound class.String refl)))
  where
    texts_all : (k : Census) (n : ℕ) (ts : List (List ℕ)) → Is k Class (core class.String)
        → SoundFrom k n (map text_object ts)
    texts_all k n [] is = tt
    texts_all k n (t ∷ ts) is = (
      record { class = is; singleton = tt; variables = tt; kind = tt },
      texts_all k (n + 1) ts is,
    )

-- objects that were added are values
pub added_are : (st after : Store) (more : List Object) → after ≡ with_objects st (st.objects ++ more)
    → AllAre (IsValue (census after)) (numbered (length st.objects) (length more))
added_are st after more e =
    subst (λ (s : Store). AllAre (IsValue (census s)) (numbered (length st.objects) (length more))) (sym e)
    (numbered_are st more (length more) (omega arith))

pub itself_is : (k : Census) (v : Value) → IsValue k v → AllAre (IsValue k) (itself_or_none (present v))
itself_is k Nil is = tt
itself_is k True is = (is, tt)
itself_is k False is = (is, tt)
itself_is k (Int n) is = (is, tt)
itself_is k (Sym s) is = (is, tt)
itself_is k (Obj id) is = (is, tt)

-- The items of a Range.

bytes_length : (a b : ℕ) (places : List ℕ)
    → length (map text_object (texts_of (map (ends.item (Bytes a b)) places)))
    ≡ length (map (ends.item (Bytes a b)) places)
bytes_length a b [] = refl
bytes_length a b (n ∷ ns) = ap (λ (m : ℕ). suc m) (bytes_length a b ns)

pub bytes_values : (st : Store) (bounds : Bounds) (a b n : ℕ) → bounds ≡ Bytes a b
    → (splat_items st bounds (items bounds n)).values
    ≡ numbered (length st.objects) (length (map text_object (texts_of (items bounds n))))
bytes_values st bounds a b n h =
    subst (λ (x : Bounds). (splat_items st x (items x n)).values
    ≡ numbered (length st.objects) (length (map text_object (texts_of (items x n))))) (sym h)
    (ap (numbered (length st.objects)) (sym (bytes_length a b (range_with_len 0 n))))

pub bytes_store : (st : Store) (bounds : Bounds) (a b n : ℕ) → bounds ≡ Bytes a b
    → (splat_items st bounds (items bounds n)).store
    ≡ with_objects st (st.objects ++ map text_object (texts_of (items bounds n)))
bytes_store st bounds a b n h =
    subst (λ (x : Bounds). (splat_items st x (items x n)).store
    ≡ with_objects st (st.objects ++ map text_object (texts_of (items x n)))) (sym h) refl

pub integers_values : (st : Store) (bounds : Bounds) (a b : ℤ) (n : ℕ) → bounds ≡ Integers a b
    → (splat_items st bounds (items bounds n)).values ≡ map Int (integers_of (items bounds n))
integers_values st bounds a b n h =
    subst (λ (x : Bounds). (splat_items st x (items x n)).values ≡ map Int (integers_of (items x n))) (sym h) refl

pub integers_store : (st : Store) (bounds : Bounds) (a b : ℤ) (n : ℕ) → bounds ≡ Integers a b
    → (splat_items st bounds (items bounds n)).store ≡ st
integers_store st bounds a b n h =
    subst (λ (x : Bounds). (splat_items st x (items x n)).store ≡ st) (sym h) refl

pub integers_are : (k : Census) (zs : List ℤ) → AllAre (IsValue k) (map Int zs)
integers_are k [] = tt
integers_are k (z ∷ zs) = (tt, integers_are k zs)

-- One more item, and one more pair.

pub integers_more : (b : Bounds) (k : ℕ) → map Int (integers_of (items b (k + 1)))
    ≡ map Int (integers_of (items b k)) ++ map Int (integers_of (ends.item b k ∷ []))
integers_more b k = ap (λ (zs : List ℤ). map Int zs) (more.integers_more b k)
    ∙ map-append Int (integers_of (items b k)) (integers_of (ends.item b k ∷ []))

pub texts_more : (b : Bounds) (k : ℕ) → map text_object (texts_of (items b (k + 1)))
    ≡ map text_object (texts_of (items b k)) ++ map text_object (texts_of (ends.item b k ∷ []))
texts_more b k = ap (λ (ts : List (List ℕ)). map text_object ts) (more.texts_more b k)
    ∙ map-append text_object (texts_of (items b k)) (texts_of (ends.item b k ∷ []))

pub pairs_more : (ps : List (Key × HashItem)) (k : ℕ) → map pair_object (take (k + 1) ps)
    ≡ map pair_object (take k ps) ++ map pair_object (take 1 (drop k ps))
pairs_more ps k = ap (λ (qs : List (Key × HashItem)). map pair_object qs) (take-add k 1 ps)
    ∙ map-append pair_object (take k ps) (take 1 (drop k ps))

pub pair_there : (ps : List (Key × HashItem)) (k : ℕ) (item : HashItem)
    → Some item ≡ option_map (λ p. p.1) (slice_get ps k)
    → map pair_object (take 1 (drop k ps)) ≡ item_object item ∷ []
pair_there [] k item h = cc
pair_there (p ∷ ps) zero item h =
    let e : item ≡ p.1 = cc in ap (λ (i : HashItem). item_object i ∷ []) (sym e)
pair_there (p ∷ ps) (suc k) item h = pair_there ps k item h

pub no_pair : (ps : List (Key × HashItem)) (k : ℕ) → None ≡ option_map (λ p. p.1) (slice_get ps k)
    → map pair_object (take 1 (drop k ps)) ≡ []
no_pair [] zero h = refl
no_pair [] (suc k) h = refl
no_pair (p ∷ ps) zero h = cc
no_pair (p ∷ ps) (suc k) h = no_pair ps k h
