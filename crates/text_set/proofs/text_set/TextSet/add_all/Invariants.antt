use Rattle.std.proofs.Common.{◌≡◌, drop}
use Rattle.text_set.specs.Sets.{with_texts}
use Rattle.text_set.proofs.text_set.TextSet.add_all.Given as goal

abbrev pub invariant-loop-other : goal.invariant-loop-other
invariant-loop-other l = with_texts l.fn.self l.fn.others ≡ with_texts l.self (drop l.other-index l.others)
