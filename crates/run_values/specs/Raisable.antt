-- An outcome that can be raised: its exception has the class of a class, and no module.
use Rattle.std.specs.Prelude.{◌≡◌, false}
use Rattle.rb_value.specs.declared.outcome.Outcome.{Outcome}
use Rattle.rb_value.specs.declared.outcome.Outcome.TheVariants as outcome
use Rattle.rb_value.specs.CoreClass.{is_module}

abbrev pub IsRaisable : Outcome → Type 0
IsRaisable (outcome.Value v) = Unit {0}
IsRaisable (outcome.Raise f) = is_module f.class ≡ false
