-- What is among entries that were read.
use Rattle.std.specs.Prelude.{◌≡◌, ◌-◌, ◌≤◌, ℕ, ℤ, List, [], ◌∷◌, length, slice_range}
use Rattle.rite_code.specs.declared.code.PoolItem.{PoolItem}
use Rattle.rite_code.specs.declared.code.PoolItem.TheVariants.{Int, Text}

-- the integers, and the texts
abbrev pub integers_in : List PoolItem → List ℤ
integers_in [] = []
integers_in (Int n ∷ xs) = n ∷ integers_in xs
integers_in (Text t ∷ xs) = integers_in xs

abbrev pub texts_in : List PoolItem → List (List ℕ)
texts_in [] = []
texts_in (Int n ∷ xs) = texts_in xs
texts_in (Text t ∷ xs) = t ∷ texts_in xs

pub record AreSeen (items : List PoolItem) (integers : List ℤ) (texts : List (List ℕ)) : Type 0 where
  pub integers_are : integers ≡ integers_in items
  pub texts_are : texts ≡ texts_in items

-- a text is the last of the bytes before a place
pub record IsBefore (bytes : List ℕ) (next : ℕ) (x : List ℕ) : Type 0 where
  pub enough : length x ≤ next
  pub is : slice_range bytes (next - length x) next ≡ x

abbrev pub StandsBefore : List ℕ → ℕ → PoolItem → Type 0
StandsBefore bytes next (Int n) = Unit {0}
StandsBefore bytes next (Text x) = IsBefore bytes next x
