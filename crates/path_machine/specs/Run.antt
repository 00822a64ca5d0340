-- How a run comes out.
use Rattle.std.specs.Prelude.{◌≡◌, ℕ, List, Option, take}
use Rattle.rb_base.specs.Outside.{with_more}
use Rattle.rite_code.specs.Code.{Program}
use Rattle.path_eval.specs.Steps.{times}
use Rattle.path_eval.specs.Seen.{Ended, Uncaught, Seen, Going, Over, output_of}
use Rattle.path_turns.specs.State.{start, shown}
use Rattle.path_turns.specs.Turn.{turn}
use Rattle.path_machine.specs.declared.ran.Ran.{Ran}
use Rattle.path_machine.specs.declared.ran.Ran.TheVariants as rans

-- what is seen after n turns
unfoldable pub seen_after : Program → ℕ → List ℕ → Seen
seen_after c n input = shown (times n (turn c) (start c input))

abbrev pub IsRan : Ran → Seen → Type 0
IsRan rans.Spent s = (out : List ℕ) × (s ≡ Going out)
IsRan (rans.Ended n) s = (out : List ℕ) × (s ≡ Over (Ended out n))
IsRan (rans.Uncaught f) s = (out : List ℕ) × (s ≡ Over (Uncaught out f))

-- what was taken is a front of what the turns write
abbrev pub StoppedWithin : Program → ℕ → List ℕ → Option (List ℕ) → Option (List ℕ) → Type 0
StoppedWithin c n input old new = (k : ℕ) × (new ≡ with_more old (take k (output_of (seen_after c n input))))
