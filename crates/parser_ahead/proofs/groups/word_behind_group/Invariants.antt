use Rattle.std.proofs.Common.{◌≡◌, ◌≤◌, ◌+◌, length}
use Rattle.parser_ahead.specs.Groups.{behind_brackets}
use Rattle.parser_ahead.proofs.groups.word_behind_group.Given as goal

abbrev pub invariant-tokens : goal.invariant-tokens
invariant-tokens l = (behind_brackets l.count l.rest ≡ behind_brackets 0 l.fn.tokens)
    × (l.count + length l.rest ≤ length l.fn.tokens)

abbrev pub decreases-tokens : goal.decreases-tokens
decreases-tokens l = length l.rest
