-- Levels that wait, and which line runs.
use Rattle.std.specs.Prelude.{ℕ, ◌+◌, ◌-◌, ◌%◌, ◌^◌, ◌&&◌, ◌||◌, List, [], ◌∷◌, ◌++◌, length, take, reverse, find, slice_get, slice_set, nat_eq, nat_le, nat_lt, Bool, true, false, Option, Some, None, is_none, unwrap_or, if◌then◌else◌}
use Rattle.rb_value.specs.declared.value.Value.{Value}
use Rattle.vm_frames.specs.declared.frame.Frame.{Frame}
use Rattle.vm_frames.specs.declared.level.Iterating.{Iterating}
use Rattle.vm_frames.specs.declared.level.Begun.{Begun}
use Rattle.vm_frames.specs.declared.level.Level.{Level}
use Rattle.vm_frames.specs.declared.level.Level.TheVariants as level
use Rattle.vm_frames.specs.Seen.{Seen, Line, innermost, no_levels}
use Rattle.vm_frames.specs.Exits.{written}
use Rattle.vm_frames.specs.Registers.{extended}
use Rattle.vm_frames.specs.Blocks.{switched}
use Rattle.vm_frames.specs.Environments as environments

-- there is room for registers up to a place
abbrev pub line_extended : Line → ℕ → Line
line_extended l end = record l { registers = extended l.registers end }

-- how many levels of a line wait
abbrev pub depth : Line → ℕ
depth l = length l.frames + length l.iterations

abbrev pub with_frames : Seen → List Frame → Seen
with_frames r fs = record r { line = record r.line { frames = fs } }

abbrev pub with_iterations : Seen → List Iterating → Seen
with_iterations r is = record r { line = record r.line { iterations = is } }

abbrev pub with_begun : Seen → Option Begun → Seen
with_begun r b = record r { line = record r.line { begun = b } }

-- the same without the innermost of them
abbrev pub shorter : {X : Type 0} → List X → List X
shorter xs = take (length xs - 1) xs

-- whether the innermost frame stands above the innermost iteration, by their numbers
abbrev pub is_above : Option Frame → Option Iterating → Bool
is_above None i = false
is_above (Some f) None = true
is_above (Some f) (Some i) = nat_lt i.number f.number

abbrev pub frame_is_innermost : Line → Bool
frame_is_innermost l = is_above (innermost l.frames) (innermost l.iterations)

-- Levels begin to wait.

abbrev pub frame_pushed : Seen → Frame → Seen
frame_pushed r f = with_frames r (r.line.frames ++ f ∷ [])

-- a frame that waits for the value of a call in register a
abbrev pub waiting_in : Frame → ℕ → Frame
waiting_in f a = record f { waits = a }

abbrev pub iteration_pushed : Seen → Iterating → Seen
iteration_pushed r i = with_iterations r (r.line.iterations ++ i ∷ [])

abbrev pub pushed : Seen → Level → Seen
pushed r (level.Frame f) = frame_pushed r f
pushed r (level.Iteration i) = iteration_pushed r i

-- Levels go on.

abbrev pub frame_popped : Seen → Seen
frame_popped r = with_frames r (shorter r.line.frames)

abbrev pub iteration_popped : Seen → Seen
iteration_popped r = with_iterations r (shorter r.line.iterations)

abbrev pub frame_level : Option Frame → Option Level
frame_level None = None
frame_level (Some f) = Some (level.Frame f)

abbrev pub iteration_level : Option Iterating → Option Level
iteration_level None = None
iteration_level (Some i) = Some (level.Iteration i)

-- the innermost level that waits, where no iteration begins
abbrev pub innermost_level : Line → Option Level
innermost_level l = if frame_is_innermost l then frame_level (innermost l.frames)
    else iteration_level (innermost l.iterations)

-- the innermost level that waits, where it is an iteration
abbrev pub innermost_iteration : Line → Option Iterating
innermost_iteration l = if frame_is_innermost l then None else innermost l.iterations

abbrev pub popped : Seen → Seen
popped r = if frame_is_innermost r.line then frame_popped r else iteration_popped r

abbrev pub frame_of : Seen → Option Frame
frame_of r = innermost r.line.frames

abbrev pub iteration_of : Seen → Option Iterating
iteration_of r = innermost r.line.iterations

-- whether the innermost level is a frame that waits
abbrev pub frame_is_next : Line → Bool
frame_is_next l = is_none l.begun && frame_is_innermost l

abbrev pub frame_popped_if : Bool → Seen → Seen
frame_popped_if b r = if b then frame_popped r else r

abbrev pub frame_or : Bool → Option Frame → Frame → Frame
frame_or b f hot = if b then unwrap_or f hot else hot

-- A value.

-- the frame goes on behind its call
abbrev pub behind : Frame → Frame
behind f = record f { index = (f.index + 1) % 2 ^ 32 }

abbrev pub frame_handed : Seen → Option Frame → Value → Seen
frame_handed r None v = r
frame_handed r (Some f) v =
    written (with_frames r (slice_set r.line.frames (length r.line.frames - 1) (behind f))) (behind f) f.waits v

abbrev pub iteration_handed : Seen → Option Iterating → Value → Seen
iteration_handed r None v = r
iteration_handed r (Some i) v =
    with_iterations r (slice_set r.line.iterations (length r.line.iterations - 1) (record i { answer = v }))

-- the innermost level that waits is given a value
abbrev pub handed : Seen → Value → Seen
handed r v = if frame_is_innermost r.line then frame_handed r (innermost r.line.frames) v
    else iteration_handed r (innermost r.line.iterations) v

-- Which levels wait. Numbers fall from callee to caller, so the first that isn't greater decides.

abbrev pub is_frame : ℕ → Option Frame → Bool
is_frame n None = false
is_frame n (Some f) = nat_eq f.number n

abbrev pub is_iteration : ℕ → Option Iterating → Bool
is_iteration n None = false
is_iteration n (Some i) = nat_eq i.number n

abbrev pub frame_waits : Line → ℕ → Bool
frame_waits l n = is_frame n (find (λ f. nat_le f.number n) (reverse l.frames))

abbrev pub iteration_waits : Line → ℕ → Bool
iteration_waits l n = is_iteration n (find (λ i. nat_le i.number n) (reverse l.iterations))

abbrev pub waits_for : Line → ℕ → Bool
waits_for l n = frame_waits l n || iteration_waits l n

-- Lines.

abbrev pub line_at : Seen → ℕ → Line
line_at r n = unwrap_or (slice_get r.around.others n) no_levels

-- a line more, without levels
abbrev pub line_added : Seen → Seen
line_added r = record r { around = environments.line_added r.around no_levels }

-- the line that runs and that of a number, each in the place of the other
abbrev pub exchanged : Seen → ℕ → Option Line → Seen
exchanged r n None = r
exchanged r n (Some l) =
    record r { line = l; around = record r.around { others = slice_set r.around.others n r.line } }

abbrev pub exchange : Seen → ℕ → Seen
exchange r n = exchanged r n (slice_get r.around.others n)

abbrev pub running_set : Seen → ℕ → Seen
running_set r n = record r { around = record r.around { running = n } }

-- one line waits and another runs, of which each holds its registers
abbrev pub switch_counted : Seen → Seen → Seen
switch_counted r q = record q { blocks = switched q.blocks r.line.held q.line.held }

-- the line of a number runs, if there is one
abbrev pub line_run : Seen → ℕ → Seen
line_run r n = if nat_lt n (length r.around.others)
    then switch_counted r (running_set (exchange (exchange r r.around.running) n) n) else r

abbrev pub line_ended : Seen → ℕ → Seen
line_ended r n = record r { around = record r.around { others = slice_set r.around.others n no_levels } }
