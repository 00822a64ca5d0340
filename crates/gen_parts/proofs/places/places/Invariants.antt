use Rattle.std.proofs.Common.{◌≡◌, ◌++◌, drop}
use Rattle.gen_parts.specs.Assembly as assembly
use Rattle.gen_parts.proofs.places.places.Given as goal

abbrev pub invariant-loop-line : goal.invariant-loop-line
invariant-loop-line l =
    l.at.items ++ assembly.places l.wide l.here (drop l.line-index l.lines) ≡ assembly.places l.wide 0 l.lines
