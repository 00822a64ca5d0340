use Rattle.std.proofs.Common.{◌≡◌}
use Rattle.rb_parser.specs.Levels as deep
use Rattle.rb_parser.proofs.level.levels_above.Given as goal

abbrev pub invariant-loop : goal.invariant-loop
invariant-loop l = deep.inside l.levels ≡ deep.levels l.counter
