use Rattle.std.proofs.Common.{◌≡◌, ◌++◌, drop}
use Rattle.scope_resolver.proofs.table.share_all.Given as goal

abbrev pub invariant-loop-table : goal.invariant-loop-table
invariant-loop-table l = l.list.items ++ drop l.table-index l.around ≡ l.fn.list.items ++ l.around
