use Rattle.std.proofs.Common.{◌≡◌, ◌++◌, drop}
use Rattle.text_set.specs.Sets.{texts}
use Rattle.gen_forms.proofs.layout.add_names.Given as goal

abbrev pub invariant-loop-symbol : goal.invariant-loop-symbol
invariant-loop-symbol l =
    l.names.items ++ texts (drop l.symbol-index l.symbols) ≡ l.fn.names.items ++ texts l.symbols
