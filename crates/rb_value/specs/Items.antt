-- The elements of an Array, wherever they stand.
use Rattle.std.specs.Prelude.{List, [], ◌∷◌}
use Rattle.rb_value.specs.declared.value.Value.{Value}
use Rattle.rb_value.specs.declared.items.Form.{Form}
use Rattle.rb_value.specs.declared.items.Form.TheVariants.{Empty, One, Two, Apart}

abbrev pub seen : Form → List Value
seen Empty = []
seen (One value) = value ∷ []
seen (Two values) = values
seen (Apart values) = values
