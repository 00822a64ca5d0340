use Rattle.std.proofs.Common.{◌≡◌, ◌++◌, drop}
use Rattle.ir_core.specs.View.{locals_of}
use Rattle.lower_table.specs.Lowering as table
use Rattle.lower_table.proofs.functions.named_locals.Given as goal

abbrev pub invariant-loop-name : goal.invariant-loop-name
invariant-loop-name l =
    locals_of l.locals.items ++ table.locals_of (drop l.name-index l.names) ≡ table.locals_of l.names
