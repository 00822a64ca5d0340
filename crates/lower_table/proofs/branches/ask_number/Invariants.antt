use Rattle.std.proofs.Common.{◌≡◌, map}
use Rattle.ir_core.specs.View.{core_view}
use Rattle.lower_table.specs.Subject.{asks_number}
use Rattle.lower_table.proofs.branches.ask_number.Given as goal

abbrev pub invariant-loop-test : goal.invariant-loop-test
invariant-loop-test l = map core_view l.all.items ≡ map (asks_number l.fn.number) (map core_view l.yielded)
