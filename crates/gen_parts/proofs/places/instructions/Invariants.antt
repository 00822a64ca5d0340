use Rattle.std.proofs.Common.{◌≡◌, ◌++◌, drop}
use Rattle.gen_parts.specs.Assembly as assembly
use Rattle.gen_parts.proofs.places.instructions.Given as goal

abbrev pub invariant-loop-line : goal.invariant-loop-line
invariant-loop-line l =
    l.list.items ++ assembly.instructions l.wide l.at l.here (drop l.line-index l.lines)
    ≡ assembly.instructions l.wide l.at 0 l.lines
