use Rattle.std.proofs.Common.{◌≡◌, ◌≤◌, length}
use Rattle.parser_tokens.specs.Expect.{skip_newlines}
use Rattle.parser_tokens.proofs.expect.skip_newlines.Given as goal

abbrev pub invariant-newlines : goal.invariant-newlines
invariant-newlines l = (skip_newlines l.rest ≡ skip_newlines l.fn.tokens) × (length l.rest ≤ length l.fn.tokens)

abbrev pub decreases-newlines : goal.decreases-newlines
decreases-newlines l = length l.rest
