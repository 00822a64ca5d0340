-- Ranges over Integers and over one-byte Strings (ISO/IEC 30170:2012, 15.2.14).
use Rattle.std.specs.Prelude.{ℕ, ◌+◌, min, ℤ, pos, negsuc, ◌+ℤ◌, int_lt, int_le, List, [], ◌∷◌, ◌++◌, Bool, true, false, ◌&&◌, Result, Ok, Err}
use Rattle.std.specs.Fmt.{signed_decimal}
use Rattle.std.specs.Int.{int_gap}
use Rattle.rb_integer.specs.declared.ends.Bounds.{Bounds}
use Rattle.rb_integer.specs.declared.ends.Bounds.TheVariants.{Integers, Bytes}
use Rattle.rb_integer.specs.declared.ends.Ends.{Ends}
use Rattle.rb_integer.specs.declared.ends.Item.{Item}
use Rattle.rb_integer.specs.declared.ends.Item.TheVariants.{Integer, Byte}
use Rattle.rb_integer.specs.declared.failure.IntegerFailure.{IntegerFailure}
use Rattle.rb_integer.specs.declared.failure.IntegerFailure.TheVariants.{NegativeCount, BadEnds}
use Rattle.rb_integer.specs.Dots.{dots_of}
use Rattle.rb_integer.specs.Exact.{exact}

-- the ends as numbers
abbrev pub low : Bounds → ℤ
low (Integers a b) = a
low (Bytes a b) = pos a

abbrev pub high : Bounds → ℤ
high (Integers a b) = b
high (Bytes a b) = pos b

-- the number behind the last item
abbrev pub behind : Bounds → Bool → ℤ
behind b true = high b
behind b false = high b +ℤ pos 1

-- how many items there are
abbrev pub count : Bounds → Bool → ℕ
count b exclusive = int_gap (low b) (behind b exclusive)

-- item k, counted from 0
abbrev pub item : Bounds → ℕ → Item
item (Integers a b) k = Integer (a +ℤ pos k)
item (Bytes a b) k = Byte (a + k)

abbrev pub first : Bounds → Item
first (Integers a b) = Integer a
first (Bytes a b) = Byte a

abbrev pub last : Bounds → Item
last (Integers a b) = Integer b
last (Bytes a b) = Byte b

abbrev pub size : Bounds → Bool → Result ℤ IntegerFailure
size b exclusive = exact (pos (count b exclusive))

-- how many items the first n are
abbrev pub first_count : Bounds → Bool → ℤ → Result ℕ IntegerFailure
first_count b exclusive (pos n) = Ok (min n (count b exclusive))
first_count b exclusive (negsuc n) = Err NegativeCount

abbrev pub stands_within : ℤ → ℤ → ℤ → Bool
stands_within from z after = int_le from z && int_lt z after

-- whether this is one of the items
abbrev pub includes : Bounds → Bool → Item → Bool
includes (Integers a b) exclusive (Integer z) = stands_within a z (behind (Integers a b) exclusive)
includes (Integers a b) exclusive (Byte c) = false
includes (Bytes a b) exclusive (Integer z) = false
includes (Bytes a b) exclusive (Byte c) = stands_within (pos a) (pos c) (behind (Bytes a b) exclusive)

abbrev pub item_text : Item → List ℕ
item_text (Integer z) = signed_decimal z
item_text (Byte c) = c ∷ []

abbrev pub text : Bounds → Bool → List ℕ
text b exclusive = item_text (first b) ++ dots_of exclusive ++ item_text (last b)

-- two Strings as ends, which must have one byte each
abbrev pub string_ends : List ℕ → List ℕ → Bool → Result Ends IntegerFailure
string_ends (a ∷ []) (b ∷ []) exclusive = Ok (record { bounds = Bytes a b; is_exclusive = exclusive })
string_ends (a ∷ []) [] exclusive = Err BadEnds
string_ends (a ∷ []) (b ∷ d ∷ bs) exclusive = Err BadEnds
string_ends [] bs exclusive = Err BadEnds
string_ends (a ∷ c ∷ cs) bs exclusive = Err BadEnds
