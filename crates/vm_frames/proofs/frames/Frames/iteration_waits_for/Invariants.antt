use Rattle.std.proofs.Common.{◌≡◌, ◌≤◌, length, take, reverse}
use Rattle.std.specs.Prelude.{find, nat_le}
use Rattle.vm_frames.specs.Levels.{is_iteration}
use Rattle.vm_frames.proofs.frames.Frames.iteration_waits_for.Given as goal

-- none of those above is the one that tells
abbrev pub invariant-iterations : goal.invariant-iterations
invariant-iterations l = record {
  within : l.left ≤ length l.iterations;
  same : is_iteration l.number (find (λ i. nat_le i.number l.number) (reverse (take l.left l.iterations)))
      ≡ is_iteration l.number (find (λ i. nat_le i.number l.number) (reverse l.iterations));
}

abbrev pub decreases-iterations : goal.decreases-iterations
decreases-iterations l = l.left
