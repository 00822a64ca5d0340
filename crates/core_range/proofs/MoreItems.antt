-- One more item of a Range.
use Rattle.std.proofs.Common.{◌≡◌, ℕ, ℤ, ◌+◌, List, [], ◌∷◌, ◌++◌, refl, ap, ◌∙◌, arith}
use Rattle.std.proofs.lemmas.List.FromFn.{map-range_with_len_more}
use Rattle.rb_integer.specs.declared.ends.Bounds.{Bounds}
use Rattle.rb_integer.specs.declared.ends.Item.{Item}
use Rattle.rb_integer.specs.declared.ends.Item.TheVariants.{Integer, Byte}
use Rattle.rb_integer.specs.Ends as ends
use Rattle.def_rows.specs.RangeRows.{items, integers_of, texts_of}

integers-append : (xs ys : List Item) → integers_of (xs ++ ys) ≡ integers_of xs ++ integers_of ys
integers-append [] ys = refl
integers-append (Integer z ∷ xs) ys = ap (λ (zs : List ℤ). z ∷ zs) (integers-append xs ys)
integers-append (Byte b ∷ xs) ys = integers-append xs ys

texts-append : (xs ys : List Item) → texts_of (xs ++ ys) ≡ texts_of xs ++ texts_of ys
texts-append [] ys = refl
texts-append (Integer z ∷ xs) ys = texts-append xs ys
texts-append (Byte b ∷ xs) ys = ap (λ (ts : List (List ℕ)). (b ∷ []) ∷ ts) (texts-append xs ys)

pub integers_more : (b : Bounds) (k : ℕ)
    → integers_of (items b (k + 1)) ≡ integers_of (items b k) ++ integers_of (ends.item b k ∷ [])
integers_more b k = ap integers_of (map-range_with_len_more (ends.item b) 0 k k (omega arith))
    ∙ integers-append (items b k) (ends.item b k ∷ [])

pub texts_more : (b : Bounds) (k : ℕ)
    → texts_of (items b (k + 1)) ≡ texts_of (items b k) ++ texts_of (ends.item b k ∷ [])
texts_more b k = ap texts_of (map-range_with_len_more (ends.item b) 0 k k (omega arith))
    ∙ texts-append (items b k) (ends.item b k ∷ [])
