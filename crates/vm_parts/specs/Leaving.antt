-- Values that go back to levels that wait, and exits.
use Rattle.std.specs.Prelude.{◌≡◌, ℕ, zero, suc, length, Bool, ◌&&◌, Option, Some, None, is_some, if◌then◌else◌}
use Rattle.rb_value.specs.declared.value.Value.{Value}
use Rattle.rb_value.specs.declared.value.ObjId.{ObjId}
use Rattle.rb_value.specs.declared.exit.Exit.{Exit}
use Rattle.rb_value.specs.declared.exit.Exit.TheVariants.{Raise, Return, Break, Jump}
use Rattle.rite_code.specs.Code.{Program}
use Rattle.rb_store.specs.Held.{one_more}
use Rattle.run_values.specs.declared.given.Given.{Given}
use Rattle.run_values.specs.declared.given.Given.TheVariants.{Gives, Raises}
use Rattle.fiber_switch.specs.Frames.{Frame}
use Rattle.fiber_switch.specs.Frames.{Level}
use Rattle.fiber_switch.specs.Frames.level as level
use Rattle.fiber_switch.specs.Frames.levels as levels
use Rattle.fiber_switch.specs.Frames.landings.{Thrown}
use Rattle.fiber_switch.specs.Frames.{Landing}
use Rattle.fiber_switch.specs.Frames.landing as landing
use Rattle.fiber_switch.specs.Switching.{resumer_of, ended, lines_ended, heap_ended}
use Rattle.vm_parts.specs.declared.flow.Flow.{Flow}
use Rattle.vm_parts.specs.declared.flow.Flow.TheVariants.{Stays, Wakes, Ends}
use Rattle.vm_parts.specs.declared.flow.End.TheVariants.{Uncaught}
use Rattle.vm_parts.specs.declared.flow.Handed.{Handed}
use Rattle.vm_parts.specs.declared.flow.Handed.TheVariants as handing
use Rattle.vm_parts.specs.Beside.{Beside, with_seen, written}

-- the innermost level that waits
abbrev pub next_level : Beside → Option Level
next_level b = levels.innermost_level b.seen.line

abbrev pub level_waits : Beside → Bool
level_waits b = is_some (next_level b)

abbrev pub is_resumed : Beside → Bool
is_resumed b = is_some (resumer_of b.fibers)

-- A value.

-- it goes to the level that waits, if one does
abbrev pub handed : Beside → Value → Beside
handed b v = with_seen b (levels.handed b.seen v)

-- a level wakes, if there is one
abbrev pub wakes_if : Bool → Flow
wakes_if b = if b then Wakes else Ends

-- the fiber that runs ends, and the one that resumed it runs, if one did
abbrev pub fiber_ended : Beside → Beside
fiber_ended b = record b {
  heap = heap_ended b.heap b.fibers (resumer_of b.fibers);
  seen = lines_ended b.seen b.fibers (resumer_of b.fibers);
  fibers = ended b.fibers (resumer_of b.fibers);
}

-- its value is that of the resume
abbrev pub fiber_given : Beside → Value → Beside
fiber_given b v = if is_resumed b then handed (fiber_ended b) v else fiber_ended b

abbrev pub fiber_flow : Beside → Flow
fiber_flow b = wakes_if (is_resumed b && level_waits (fiber_ended b))

-- a value goes to the level that waits, or else the fiber ends with it

abbrev pub received : Beside → Value → Beside
received b v = if level_waits b then handed b v else fiber_given (handed b v) v

abbrev pub received_flow : Beside → Value → Flow
received_flow b v = if level_waits b then Wakes else fiber_flow (handed b v)

-- the same, with a frame that waits in hand

abbrev pub frame_waits : Beside → Bool
frame_waits b = levels.frame_is_innermost b.seen.line

abbrev pub waiting_frame : Beside → Frame → Frame
waiting_frame b f = levels.frame_or (frame_waits b) (levels.frame_of b.seen) f

abbrev pub frame_taken : Beside → Beside
frame_taken b = with_seen b (levels.frame_popped b.seen)

abbrev pub given_to : Beside → Frame → Value → Beside
given_to b f v = written b f f.waits v

abbrev pub received_here : Beside → Frame → Value → Beside
received_here b f v = if frame_waits b then given_to (frame_taken b) (waiting_frame b f) v else received b v

abbrev pub frame_here : Beside → Frame → Frame
frame_here b f = if frame_waits b then levels.behind (waiting_frame b f) else f

abbrev pub flow_here : Beside → Value → Flow
flow_here b v = if frame_waits b then Stays else received_flow b v

-- An exception past the last level of a fiber.

-- it is raised at the resume, where there is one
abbrev pub level_at_resume : Beside → Option Level
level_at_resume b = if is_resumed b then next_level (fiber_ended b) else None

abbrev pub fallen : Beside → Beside
fallen b = if is_resumed b then with_seen (fiber_ended b) (levels.popped (fiber_ended b).seen) else fiber_ended b

-- nothing rescued it
abbrev pub uncaught : Beside → ObjId → Beside
uncaught b e = record b { ending = Uncaught e }

-- Where an exit comes to from a level, through as many fibers.

-- it lands somewhere among the levels of its fiber
pub record Through (p : Program) (b : Beside) (l : Level) (x : Exit) (After : Landing → Beside → Type 0) : Type 0 where
  pub landing : Landing
  pub left : Beside
  pub thrown : Thrown p b.heap.store b.seen l x landing left.heap.store left.seen
  pub others : left ≡ record b { heap = left.heap; seen = left.seen }
  pub after : After landing left

-- where an exception that fell past the last level goes on
abbrev pub FallsTo : Option Level → Beside → ObjId → (Level → Type 0) → Flow → Beside → Type 0
FallsTo None b e Further flow c = (flow ≡ Ends) × (c ≡ uncaught b e)
FallsTo (Some l) b e Further flow c = Further l

abbrev pub raised_by : Exit → Option ObjId
raised_by (Raise e) = Some e
raised_by (Return a v) = None
raised_by (Break a v) = None
raised_by (Jump a t) = None

-- where an exit goes on that fell past the last level: one that is no exception ends the program
abbrev pub FallsBy : Option ObjId → Beside → (Beside → Level → ObjId → Type 0) → Flow → Beside → Type 0
FallsBy None b Further flow c = (flow ≡ Ends) × (c ≡ b)
FallsBy (Some e) b Further flow c =
    FallsTo (level_at_resume b) (fallen b) e (λ l. Further (fallen b) l e) flow c

-- what becomes of an exit that has landed
abbrev pub LandsIn : Landing → Beside → (Beside → Level → ObjId → Type 0) → Flow → Beside → Type 0
LandsIn (landing.Runs l) b Further flow c = (flow ≡ Wakes) × (c ≡ with_seen b (levels.pushed b.seen l))
LandsIn (landing.Gives v) b Further flow c = (flow ≡ received_flow b v) × (c ≡ received b v)
LandsIn (landing.Falls x) b Further flow c = FallsBy (raised_by x) b Further flow c

abbrev pub ThrownThrough : ℕ → Program → Beside → Level → Exit → Flow → Beside → Type 0
ThrownThrough zero p b l x flow c = (flow ≡ Ends) × (c ≡ b)
ThrownThrough (suc n) p b l x flow c = Through p b l x
    (λ to left. LandsIn to left (λ further m e. ThrownThrough n p further m (Raise e) flow c) flow c)

abbrev pub ThrownFrom : Program → Beside → Level → Exit → Flow → Beside → Type 0
ThrownFrom p b l x flow c = ThrownThrough (one_more (length b.fibers.begun)) p b l x flow c

-- an exception that is raised at the innermost level that waits, or past the last one

abbrev pub raising_level : Beside → Option Level
raising_level b = if level_waits b then next_level b else level_at_resume (with_seen b (levels.popped b.seen))

abbrev pub raising : Beside → Beside
raising b = if level_waits b then with_seen b (levels.popped b.seen) else fallen (with_seen b (levels.popped b.seen))

abbrev pub RaisedOut : Program → Beside → ObjId → Flow → Beside → Type 0
RaisedOut p b e flow c =
    FallsTo (raising_level b) (raising b) e (λ l. ThrownFrom p (raising b) l (Raise e) flow c) flow c

-- What a call of the frame in hand gives: register a gets the value and the frame goes on, or it is raised there.
abbrev pub After : Program → Beside → Frame → Given → ℕ → Flow → Frame → Beside → Type 0
After p b f (Gives v) a flow g c = (flow ≡ Stays) × (g ≡ levels.behind f) × (c ≡ written b f a v)
After p b f (Raises e) a flow g c = (g ≡ f) × ThrownFrom p b (level.Frame f) (Raise e) flow c

-- the same where no register gets it
abbrev pub Only : Program → Beside → Frame → Given → Flow → Frame → Beside → Type 0
Only p b f (Gives v) flow g c = (flow ≡ Stays) × (g ≡ levels.behind f) × (c ≡ b)
Only p b f (Raises e) flow g c = (g ≡ f) × ThrownFrom p b (level.Frame f) (Raise e) flow c

-- What is handed to the innermost level that waits; where none waits the fiber ends with it.
abbrev pub HandedOut : Program → Beside → Handed → Flow → Beside → Type 0
HandedOut p b (handing.Value v) flow c = (flow ≡ received_flow b v) × (c ≡ received b v)
HandedOut p b (handing.Exception e) flow c = RaisedOut p b e flow c

abbrev pub handed_of : Given → Handed
handed_of (Gives v) = handing.Value v
handed_of (Raises e) = handing.Exception e
