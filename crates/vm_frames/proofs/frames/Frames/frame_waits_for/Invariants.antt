use Rattle.std.proofs.Common.{◌≡◌, ◌≤◌, length, take, reverse}
use Rattle.std.specs.Prelude.{find, nat_le}
use Rattle.vm_frames.specs.Levels.{is_frame}
use Rattle.vm_frames.proofs.frames.Frames.frame_waits_for.Given as goal

-- none of those above is the one that tells
abbrev pub invariant-frames : goal.invariant-frames
invariant-frames l = record {
  within : l.left ≤ length l.frames;
  same : is_frame l.number (find (λ f. nat_le f.number l.number) (reverse (take l.left l.frames)))
      ≡ is_frame l.number (find (λ f. nat_le f.number l.number) (reverse l.frames));
}

abbrev pub decreases-frames : goal.decreases-frames
decreases-frames l = l.left
