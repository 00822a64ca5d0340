-- The values that a block is called with.
use Rattle.std.specs.Prelude.{List, [], ◌∷◌}
use Rattle.rb_value.specs.declared.value.Value.{Value}
use Rattle.core_calls.specs.declared.beat.Passed.{Passed}
use Rattle.core_calls.specs.declared.beat.Passed.TheVariants.{Nothing, One, Two}

abbrev pub args_of : Passed → List Value
args_of Nothing = []
args_of (One v) = v ∷ []
args_of (Two v u) = v ∷ u ∷ []
