use Rattle.std.proofs.Common.{◌≡◌, drop}
use Rattle.gen_parts.specs.Emission.{led}
use Rattle.gen_parts.proofs.emitter.Emitter.lead.Given as goal

abbrev pub invariant-loop-line : goal.invariant-loop-line
invariant-loop-line l = led l.self l.place (drop l.line-index l.lines) ≡ led l.fn.self l.fn.first l.lines
