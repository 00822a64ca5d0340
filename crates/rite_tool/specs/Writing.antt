-- What it means to give an answer.
use Rattle.std.specs.Prelude.{◌≡◌, ◌⊎◌, ℕ, List}
use Rattle.rb_base.specs.Outside.{Rose, with_more, TookFront}
use Rattle.rb_refusal.specs.Writing.{Stream}
use Rattle.rite_tool.specs.declared.end.End.{End}
use Rattle.rite_tool.specs.declared.end.End.TheVariants.{OutputFault}

-- the text was written and the answer is the end that is meant, or the text couldn't be written
abbrev pub IsAnswer : List ℕ → End → Stream → Stream → End → Type 0
IsAnswer text meant before after end =
    ((end ≡ meant) × (after.taken ≡ with_more before.taken text) × (after.faults ≡ before.faults))
    ⊎ ((end ≡ OutputFault) × TookFront before.taken after.taken text × Rose before.faults after.faults)
