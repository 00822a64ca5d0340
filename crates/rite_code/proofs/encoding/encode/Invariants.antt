use Rattle.std.proofs.Common.{◌≡◌, take}
use Rattle.rite_code.specs.Spelling.{encodings}
use Rattle.rite_code.proofs.encoding.encode.Given as goal

abbrev pub invariant-loop-instr : goal.invariant-loop-instr
invariant-loop-instr l = l.out.items ≡ encodings (take l.instr-index l.list)
