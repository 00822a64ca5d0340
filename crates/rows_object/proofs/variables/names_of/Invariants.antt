use Rattle.std.proofs.Common.{◌≡◌, ◌++◌, drop, map}
use Rattle.rows_object.specs.Variables.{symbol}
use Rattle.rows_object.proofs.variables.names_of.Given as goal

abbrev pub invariant-variables : goal.invariant-variables
invariant-variables l = map symbol l.fn.list ≡ l.names.items ++ map symbol (drop l.variable-index l.list)
