use Rattle.std.proofs.Common.{◌≡◌, ◌≤◌, length}
use Rattle.parser_tokens.specs.Expect.{skip_separators}
use Rattle.parser_tokens.proofs.expect.skip_separators.Given as goal

abbrev pub invariant-separators : goal.invariant-separators
invariant-separators l = (skip_separators l.rest ≡ skip_separators l.fn.tokens) × (length l.rest ≤ length l.fn.tokens)

abbrev pub decreases-separators : goal.decreases-separators
decreases-separators l = length l.rest
