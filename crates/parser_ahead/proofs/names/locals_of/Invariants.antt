use Rattle.std.proofs.Common.{◌≡◌, ◌++◌, drop}
use Rattle.parser_ahead.specs.Names.{locals_of}
use Rattle.parser_ahead.specs.Kept.{variables}
use Rattle.parser_ahead.proofs.names.locals_of.Given as goal

abbrev pub invariant-loop-one : goal.invariant-loop-one
invariant-loop-one l = locals_of (variables l.fn.kept) ≡ l.locals ++ locals_of (variables (drop l.one-index l.kept))
