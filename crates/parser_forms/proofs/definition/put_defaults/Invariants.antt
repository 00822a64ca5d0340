use Rattle.std.proofs.Common.{◌≡◌, ◌++◌, length, map}
use Rattle.std.specs.Vec.Iter.{into_iter_items, into_iter_len}
use Rattle.parser_tree.specs.Parts.{optional_node}
use Rattle.parser_tree.specs.View.{view}
use Rattle.parser_forms.specs.Definitions.{defaults}
use Rattle.parser_forms.proofs.definition.put_defaults.Given as goal

abbrev pub invariant-loop-parameter : goal.invariant-loop-parameter
invariant-loop-parameter l =
    (map view l.parts.items ++ defaults (map optional_node (into_iter_items l.parameter-iterator)) ≡ map view
    l.fn.parts.items ++ defaults (map optional_node l.fn.optional.items))
    × (into_iter_len l.parameter-iterator ≡ length (into_iter_items l.parameter-iterator))
