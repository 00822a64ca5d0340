use Rattle.std.proofs.Common.{◌≡◌, ◌++◌, replicate}
use Rattle.rb_value.specs.declared.value.Value.TheVariants.{Nil}
use Rattle.method_lookup.proofs.binding.push_nils.Given as goal

abbrev pub invariant-loop-done : goal.invariant-loop-done
invariant-loop-done l = record { so_far : l.list ≡ l.fn.list ++ replicate l._done Nil }
