-- When two keys are the same.
use Rattle.std.specs.Prelude.{Bool}
use Rattle.rb_value.specs.declared.key.Key.{Key}
use Rattle.rb_value.specs.contracts.key.KeyPartialEq.TheImpl as derived

abbrev pub same_key : Key → Key → Bool
same_key = derived.ghosts.eq
