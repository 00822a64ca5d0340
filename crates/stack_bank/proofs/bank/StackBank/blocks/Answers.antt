use Rattle.std.proofs.Common.{◌≡◌, ◌+◌, ◌-◌, ◌/◌, ◌%◌, ◌<◌, ◌≤◌, length, map, arith, refl, ap, sym, ◌∙◌}
use Rattle.std.proofs.lemmas.List.{map-set}
use Rattle.stack_bank.specs.Inside.{held}
use Rattle.stack_bank.proofs.Calls.{all_blocks}
use Rattle.stack_bank.proofs.bank.StackBank.blocks.Goals as goal

pub returns : goal.returns
returns c = rw (← c.self.view_is) (c.live.ensures ∙ all_blocks _ _ c.self.invariant)
