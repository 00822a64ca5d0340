-- How a machine stands before and after a run, and what the run tells.
use Rattle.std.specs.Prelude.{◌≡◌, ℕ, ◌+◌, ◌-◌, ◌^◌, ◌≤◌, min}
use Rattle.frame_machine.specs.declared.machine.Machine.{Machine}
use Rattle.frame_machine.specs.declared.machine.Ran.{Ran}
use Rattle.frame_machine.specs.declared.machine.Ran.TheVariants as ran
use Rattle.frame_machine.specs.declared.machine.Turn.{Turn}
use Rattle.frame_machine.specs.declared.machine.Turn.TheVariants as turn
use Rattle.frame_machine.specs.declared.machine.Standing.{Standing}
use Rattle.frame_machine.specs.declared.machine.Standing.TheVariants.{At, Over, Stopped}
use Rattle.vm_acts.specs.Ends.{End}
use Rattle.vm_acts.specs.Ends.end as end

-- what an end is to the caller of a run
abbrev pub ran_by : End → Ran
ran_by (end.Ended n) = ran.Ended n
ran_by (end.Uncaught e) = ran.Uncaught e

abbrev pub standing_at : Machine → Standing → Machine
standing_at m s = record m { standing = s }

-- what is told of how a machine stands
abbrev pub told : Standing → Ran
told (At at) = ran.Spent
told (Over e) = ran_by e
told Stopped = ran.Spent

-- what a turn comes to by what a run of one turn tells
abbrev pub turn_by : Ran → Turn
turn_by ran.Spent = turn.Going
turn_by (ran.Ended n) = turn.Ended n
turn_by (ran.Uncaught e) = turn.Uncaught e

-- what is done at a level counts no turns, and leaves how the machine stands to the run
abbrev pub Apart : Machine → Machine → Type 0
Apart m n = (n.turns ≡ m.turns) × (n.standing ≡ m.standing)

-- so many turns are counted, up to a number's limit, and no more than are allowed
abbrev pub Counts : Machine → Machine → ℕ → Type 0
Counts m n budget = (made : ℕ) × ((made ≤ budget) × (n.turns ≡ min (m.turns + made) (2 ^ 64 - 1)))
