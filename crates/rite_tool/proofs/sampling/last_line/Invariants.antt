use Rattle.std.proofs.Common.{◌≡◌, drop}
use Rattle.rite_tool.specs.Sampling.{line_at_end}
use Rattle.rite_tool.proofs.sampling.last_line.Given as goal

abbrev pub invariant-bytes : goal.invariant-bytes
invariant-bytes l = line_at_end l.line (drop l.at l.text) ≡ line_at_end l.text l.text
