use Rattle.std.proofs.Common.{◌≡◌, drop}
use Rattle.ir_counts.specs.Counts.{text_bytes}
use Rattle.text_set.specs.Sets.{texts}
use Rattle.ir_counts.proofs.counts.text_bytes.Given as goal

abbrev pub invariant-loop-text : goal.invariant-loop-text
invariant-loop-text l = text_bytes l.fn.bytes (texts l.texts) ≡ text_bytes l.bytes (texts (drop l.text-index l.texts))
