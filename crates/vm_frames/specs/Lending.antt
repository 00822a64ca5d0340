-- The innermost iteration, lent.
use Rattle.std.specs.Prelude.{◌-◌, vec_len, Option}
use Rattle.std.specs.Borrow.{LendsIf, MutBor, Fml}
use Rattle.std.specs.Vec.{with_item}
use Rattle.vm_frames.specs.declared.frames.Frames.{Frames}
use Rattle.vm_frames.specs.declared.level.Iterating.{Iterating}
use Rattle.vm_frames.specs.contracts.frames.Frames as frames
use Rattle.vm_frames.specs.contracts.level.Iterating as iterating

-- the iteration in the place of the innermost of the line that runs
abbrev pub with_innermost : Frames → Iterating → Frames
with_innermost f i = record f {
  line = record f.line { iterations = with_item f.line.iterations (vec_len f.line.iterations - 1) i };
}

-- the levels end with the last iteration behind the reference in that place, and as they are where there is none
abbrev pub LendsInnermost : MutBor Frames → Option (MutBor Iterating) → Fml
LendsInnermost s r = LendsIf frames.the_row iterating.the_row s r (with_innermost s.now) s.now
