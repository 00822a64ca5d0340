use Rattle.std.proofs.Common.{◌≡◌, [], drop}
use Rattle.parser_checks.specs.Doubled.{are_distinct}
use Rattle.parser_checks.proofs.doubled.are_distinct.Given as goal

abbrev pub invariant-loop-name : goal.invariant-loop-name
invariant-loop-name l = are_distinct l.seen (drop l.name-index l.names) ≡ are_distinct [] l.names
