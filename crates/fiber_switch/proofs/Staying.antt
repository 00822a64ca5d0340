-- A fiber that doesn't go on: all stays as it is.
use Rattle.std.proofs.Common.{◌≡◌, ℕ, List, false, refl, ap, ◌∙◌}
use Rattle.std.specs.Prelude.{Option, Some}
use Rattle.std.specs.List.{slice_index_or, slice_set}
use Rattle.std.proofs.lemmas.List.{set-get_or}
use Rattle.vm_unwind.specs.Levels.{Seen}
use Rattle.fiber_switch.specs.declared.fibers.Fiber.{Fiber}
use Rattle.fiber_switch.specs.Switching.{Begun, goes_on, switched_in, lines_switched_in}

-- an item is put where it is
pub same_item : {X : Type 0} (xs : List X) (n : ℕ) (x : X) → x ≡ slice_index_or xs n x → slice_set xs n x ≡ xs
same_item xs n x same = ap (slice_set xs n) same ∙ set-get_or xs n x

pub stays : (b : Begun) (n : ℕ) (f : Fiber) (o : Option Fiber) → o ≡ Some f → goes_on f.state ≡ false
    → switched_in b n o ≡ b
stays b n f o there off = rw (there, off) refl

pub lines_stay : (r : Seen) (b : Begun) (n : ℕ) (f : Fiber) (o : Option Fiber) → o ≡ Some f
    → goes_on f.state ≡ false → lines_switched_in r b n o ≡ r
lines_stay r b n f o there off = rw (there, off) refl
