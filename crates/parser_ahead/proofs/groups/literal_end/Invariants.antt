use Rattle.std.proofs.Common.{◌≡◌, ◌≤◌, ◌+◌, length}
use Rattle.parser_ahead.specs.Groups.{literal_end}
use Rattle.parser_ahead.proofs.groups.literal_end.Given as goal

abbrev pub invariant-tokens : goal.invariant-tokens
invariant-tokens l = (literal_end l.count l.rest ≡ literal_end 0 l.fn.tokens)
    × (l.count + length l.rest ≤ length l.fn.tokens)

abbrev pub decreases-tokens : goal.decreases-tokens
decreases-tokens l = length l.rest
