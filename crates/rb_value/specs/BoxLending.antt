-- Contents that are lent.
use Rattle.std.specs.Borrow.{Lends, MutBor, Fml, RattleType}
use Rattle.rb_value.specs.contracts.boxed.Boxed.{the_row}

-- what holds them ends with the last value that the loan had
abbrev pub LendsContents : (T : RattleType) → MutBor T.Denot → MutBor T.Denot → Fml
LendsContents T b r = Lends (the_row T) T b r (λ w. w)
