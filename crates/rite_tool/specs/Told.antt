-- What files and streams tell at one moment, and what of it stays.
use Rattle.std.specs.Prelude.{◌≡◌, ℕ, List, Option}
use Rattle.rb_refusal.specs.Writing.{Stream}
use Rattle.file_maker.specs.Disk.{Disk}

pub record Input : Type 0 where
  -- what is left to read, where the input tells
  pub left : Option (List ℕ)
  pub faults : ℕ

pub record Told : Type 0 where
  pub disk : Disk
  pub input : Input
  pub out : Stream
  pub err : Stream

-- nothing was written, and no call failed
abbrev pub Silent : Stream → Stream → Type 0
Silent before after = (after.taken ≡ before.taken) × (after.faults ≡ before.faults)
