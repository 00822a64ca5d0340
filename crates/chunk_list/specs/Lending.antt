-- A value of a list that is lent.
use Rattle.std.specs.Prelude.{ℕ, List, slice_set}
use Rattle.std.specs.Borrow.{Lends, MutBor, Fml, RattleType}
use Rattle.chunk_list.specs.contracts.list.ChunkList.{the_row}

-- the list ends with the last value that the loan had in that place
abbrev pub LendsItem : (T : RattleType) → MutBor (List T.Denot) → ℕ → MutBor T.Denot → Fml
LendsItem T list place r = Lends (the_row T) T list r (slice_set list.now place)
