use Rattle.std.proofs.Common.{◌≡◌, ◌++◌, length, map}
use Rattle.std.specs.Vec.Iter.{into_iter_items, into_iter_len}
use Rattle.parser_tree.specs.Parts.{when_node}
use Rattle.parser_form_nodes.specs.Sections.{section_view, when_of}
use Rattle.parser_form_nodes.proofs.sections.when_clauses.Given as goal

abbrev pub invariant-loop-section : goal.invariant-loop-section
invariant-loop-section l =
    (map when_node l.list.items ++ map when_of (map section_view (into_iter_items l.section-iterator)) ≡ map when_of
    (map section_view l.fn.sections.items))
    × (into_iter_len l.section-iterator ≡ length (into_iter_items l.section-iterator))
