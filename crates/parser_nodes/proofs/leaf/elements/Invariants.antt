use Rattle.std.proofs.Common.{◌≡◌, ◌≤◌, length}
use Rattle.parser_nodes.specs.Leaf.{elements_from}
use Rattle.parser_nodes.proofs.leaf.elements.Given as goal

abbrev pub invariant-elements : goal.invariant-elements
invariant-elements l = (elements_from l.list l.rest ≡ elements_from l.fn.list l.fn.tokens)
    × (length l.rest ≤ length l.fn.tokens)

abbrev pub decreases-elements : goal.decreases-elements
decreases-elements l = length l.rest
