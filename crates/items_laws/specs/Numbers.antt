-- Numbers that are counted up to a last one, or down to it.
use Rattle.std.specs.Prelude.{◌≡◌, ℕ, zero, suc, ◌+◌, nat_lt, ℤ, pos, ◌+ℤ◌, int_lt, List, [], ◌∷◌, length, map, Bool, true, false, if◌then◌else◌, Some}
use Rattle.std.specs.Int.{w64, int_wrapping_add}
use Rattle.rb_value.specs.declared.value.Value.{Value}
use Rattle.rb_value.specs.declared.value.Value.TheVariants.{Int, Obj}
use Rattle.rb_value.specs.declared.value.ObjId.{ObjId}
use Rattle.rb_value.specs.declared.kind.RangeContents.{RangeContents}
use Rattle.rb_value.specs.declared.kind.RangeEnds.TheVariants as range
use Rattle.rb_integer.specs.Exact.{fits}
use Rattle.def_core.specs.Parts.{elements_at}
use Rattle.rb_store.specs.Held.{Held}
use Rattle.iter_items.specs.declared.source.Source.{Source}
use Rattle.iter_items.specs.declared.source.Source.TheVariants as source
use Rattle.items_laws.specs.Run.{Turn}
use Rattle.items_laws.specs.Items.{IsValue, calls_of, last_heap}

-- so many numbers from one on, by steps
abbrev pub numbers_from : ℤ → ℤ → ℕ → List ℤ
numbers_from z by zero = []
numbers_from z by (suc k) = z ∷ numbers_from (z +ℤ by) by k

-- and the one behind them
abbrev pub number_behind : ℤ → ℤ → ℕ → ℤ
number_behind z by zero = z
number_behind z by (suc k) = number_behind (z +ℤ by) by k

-- above the last one, or below it where the steps go down
abbrev pub is_past : ℤ → ℤ → ℤ → Bool
is_past last by z = if int_lt (pos 0) by then int_lt last z else int_lt z last

abbrev pub any_past : ℤ → ℤ → List ℤ → Bool
any_past last by [] = false
any_past last by (z ∷ zs) = if is_past last by z then true else any_past last by zs

-- past the last one, or no number of 64 bits
abbrev pub is_over : ℤ → ℤ → ℤ → Bool
is_over last by z = if fits z then is_past last by z else true

-- the block is called with each number from the first one to the last one
pub record Counts (first last by : ℤ) (b : ObjId) (ts : List Turn) : Type 0 where
  pub called : calls_of ts ≡ map (λ z. Some (b, Int z ∷ [])) (numbers_from first by (length ts))
  pub within : any_past last by (numbers_from first by (length ts)) ≡ false
  pub over : is_over last by (number_behind first by (length ts)) ≡ true

-- a Range of Integers
abbrev pub integers : ℤ → ℤ → Bool → RangeContents
integers a z exclusive = record { ends = range.Integers a z; exclusive = exclusive }

-- so many places from one on
abbrev pub places_from : ℕ → ℕ → List ℕ
places_from n zero = []
places_from n (suc k) = n ∷ places_from (n + 1) k

-- the block is called with the number of each place from one on that is within an Array
pub record Places (held : Held) (a : ObjId) (n : ℕ) (b : ObjId) (ts : List Turn) (v : Value) (after : Held) : Type 0 where
  pub called : calls_of ts ≡ map (λ k. Some (b, Int (pos k) ∷ [])) (places_from n (length ts))
  pub over : nat_lt (n + length ts) (length (elements_at (last_heap held ts).store.objects a)) ≡ false
  pub result : IsValue (last_heap held ts) (Obj a) v after

-- so many Integers of 64 bits from one on
abbrev pub integers_from : ℤ → ℕ → List ℤ
integers_from z zero = []
integers_from z (suc k) = z ∷ integers_from (int_wrapping_add w64 z (pos 1)) k

-- as a source of items
abbrev pub so_many : ℤ → ℤ → ℕ → Source
so_many z last k = source.Numbers (record { first = z; last = last; left = k; as_bytes = false })
