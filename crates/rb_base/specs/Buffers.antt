-- Bytes between a sink that takes them and the one that they go to.
use Rattle.std.specs.Prelude.{◌≡◌, ℕ, ◌<◌, List, [], length, take, drop, Option, nat_eq, if◌then◌else◌}
use Rattle.rb_base.specs.Outside.{with_more}

-- the sink that bytes go to, and those that didn't go there yet
pub record BufferState (O : Type 0) : Type 0 where
  pub inner : O
  pub pending : List ℕ

-- what stays pending where one more byte comes: nothing of a full buffer
unfoldable pub kept : List ℕ → List ℕ
kept pending = if nat_eq (length pending) 8192 then [] else pending

-- some of the pending bytes went out, those at the front, and the others are still pending
abbrev pub LeavesSome : Option (List ℕ) → Option (List ℕ) → List ℕ → List ℕ → Type 0
LeavesSome told now old new = (k : ℕ) × (k < length old) × (now ≡ with_more told (take k old)) × (new ≡ drop k old)
