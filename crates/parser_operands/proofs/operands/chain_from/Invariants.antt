use Rattle.std.proofs.Common.{◌≡◌, ℕ, ◌<◌, ◌≤◌, length}
use Rattle.parser_nodes.specs.Calls.{operand_view}
use Rattle.parser_operands.specs.Operands.{chain_from, chain_within}
use Rattle.parser_operands.proofs.operands.chain_from.Given as goal

abbrev pub invariant-postfixes : goal.invariant-postfixes
invariant-postfixes g l =
    (n : ℕ) × (length l.rest < n)
    × (chain_from (g.I.Inner.inside l.inner) (operand_view l.fn.operand) l.fn.names l.fn.tokens l.commands
    l.owner ≡ chain_within (g.I.Inner.inside l.inner) n l.commands l.owner (operand_view l.operand) l.names l.rest)
    × (length l.rest ≤ length l.fn.tokens)

abbrev pub decreases-postfixes : goal.decreases-postfixes
decreases-postfixes g l = length l.rest
