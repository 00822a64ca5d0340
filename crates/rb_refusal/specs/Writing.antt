-- What it means to write a text.
use Rattle.std.specs.Prelude.{◌≡◌, ℕ, List, Option, Result, Ok, Err}
use Rattle.rb_base.specs.Outside.{Rose, with_more, TookFront}
use Rattle.rb_base.specs.declared.outside.Failed.{Failed}

-- what was taken of a stream and how many of its calls failed, before and after
pub record Stream : Type 0 where
  pub taken : Option (List ℕ)
  pub faults : ℕ

-- the text went out whole, or a call failed and a front of it went out
abbrev pub Says : List ℕ → Stream → Stream → Result Unit Failed → Type 0
Says text before after (Ok done) = (after.taken ≡ with_more before.taken text) × (after.faults ≡ before.faults)
Says text before after (Err failed) = TookFront before.taken after.taken text × Rose before.faults after.faults
