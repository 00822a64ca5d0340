-- What a bank is seen as, and what its calls do to it.
use Rattle.std.specs.Prelude.{◌≡◌, ℕ, ◌+◌, ◌-◌, List, [], ◌∷◌, ◌++◌, Option, Some, None, length, take, replicate, unwrap_or, IsSome, slice_set}
use Rattle.std.specs.List.{slice_index_or}
use Rattle.std.specs.Int.{div_ceil}
use Rattle.rb_value.specs.declared.value.Value.{Value}
use Rattle.rb_value.specs.declared.value.Value.TheVariants.{Nil}

pub record Bank : Type 0 where
  -- by number: a live stack as its slots, a closed one as none
  pub stacks : List (Option (List Value))
  -- by number: the blocks that hold a stack, in order
  pub tables : List (List ℕ)

abbrev pub no_stacks : Bank
no_stacks = record { stacks = []; tables = [] }

-- the slots of a live stack, none of every other number
abbrev pub stack : Bank → ℕ → Option (List Value)
stack bank id = slice_index_or bank.stacks id None

abbrev pub IsLive : Bank → ℕ → Type 0
IsLive bank id = IsSome (stack bank id)

-- the slots of a live stack
abbrev pub slots : Bank → ℕ → List Value
slots bank id = unwrap_or (stack bank id) []

-- the blocks that hold a stack
abbrev pub table : Bank → ℕ → List ℕ
table bank id = slice_index_or bank.tables id []

abbrev pub nil : Value
nil = Nil

-- a stack without slots has the next number
abbrev pub opened : Bank → Bank
opened bank = record { stacks = bank.stacks ++ Some [] ∷ []; tables = bank.tables ++ [] ∷ [] }

-- n times nil stand behind the slots, and more blocks behind the others
pub record Grows (old new : Bank) (id n : ℕ) : Type 0 where
  pub stacks : new.stacks ≡ slice_set old.stacks id (Some (slots old id ++ replicate n nil))
  pub more : List ℕ
  pub tables : new.tables ≡ slice_set old.tables id (table old id ++ more)

-- how many blocks hold so many slots
abbrev pub blocks_for : ℕ → ℕ
blocks_for n = div_ceil n 64

abbrev pub blocks_of : Option (List Value) → ℕ
blocks_of None = 0
blocks_of (Some xs) = blocks_for (length xs)

-- the stack has the first n slots, and the blocks that hold them
abbrev pub cut : Bank → ℕ → ℕ → Bank
cut bank id n = record {
  stacks = slice_set bank.stacks id (Some (take n (slots bank id)));
  tables =
      slice_set bank.tables id (take (blocks_for n) (table bank id));
}

abbrev pub shrunk : Bank → ℕ → ℕ → Bank
shrunk bank id n = cut bank id (length (slots bank id) - n)

abbrev pub with_slot : Bank → ℕ → ℕ → Value → Bank
with_slot bank id i v = record bank { stacks = slice_set bank.stacks id (Some (slice_set (slots bank id) i v)) }

abbrev pub closed : Bank → ℕ → Bank
closed bank id = record { stacks = slice_set bank.stacks id None; tables = slice_set bank.tables id [] }
