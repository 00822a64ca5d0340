use Rattle.std.proofs.Common.{◌≡◌, drop}
use Rattle.text_set.specs.Sets.{is_among}
use Rattle.code_generator.proofs.names.is_known.Given as goal

abbrev pub invariant-loop-known : goal.invariant-loop-known
invariant-loop-known l = is_among l.name (drop l.known-index l.names) ≡ is_among l.name l.names
