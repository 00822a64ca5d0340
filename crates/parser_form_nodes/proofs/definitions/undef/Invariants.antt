use Rattle.std.proofs.Common.{◌≡◌, ◌≤◌, [], length}
use Rattle.parser_form_nodes.specs.Definitions.{undef_from}
use Rattle.parser_form_nodes.proofs.definitions.undef.Given as goal

abbrev pub invariant-names : goal.invariant-names
invariant-names l = (undef_from l.list l.rest ≡ undef_from [] l.fn.tokens) × (length l.rest ≤ length l.fn.tokens)

abbrev pub decreases-names : goal.decreases-names
decreases-names l = length l.rest
