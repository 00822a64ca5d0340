-- How a value goes back to the level that waits for it, and where an exit goes: to its handler or its target within the
-- turn that begins it or goes on with it.
use Rattle.std.specs.Prelude.{ℕ, zero, suc, List, [], ◌∷◌, reverse, filter, length, nat_eq, nat_le, nat_lt, Bool, true, false, not, ◌&&◌, if◌then◌else◌, Option, Some, None}
use Rattle.rb_value.specs.declared.value.Value.{Value}
use Rattle.rb_value.specs.declared.value.Value.TheVariants.{Nil, Obj}
use Rattle.rb_value.specs.declared.value.ObjId.{ObjId}
use Rattle.rb_value.specs.declared.exit.Exit.{Exit}
use Rattle.rb_value.specs.declared.exit.Exit.TheVariants.{Raise, Return, Break, Jump}
use Rattle.rite_code.specs.Code.{Program}
use Rattle.rite_code.specs.declared.code.CatchEntry.{CatchEntry}
use Rattle.def_calls.specs.Seen.{Ended, Uncaught}
use Rattle.def_calls.specs.World.{Answer, Result, gives, raises, next_activation, with_activation, with_store}
use Rattle.def_calls.specs.Calls.{core_activation, Unrescued, is_asked, asking, unrescued, close}
use Rattle.def_calls.specs.Plans.{Iteration, reporting, caught}
use Rattle.def_calls.specs.Fibers.{Onward}
use Rattle.def_calls.specs.Fibers as fibers
use Rattle.def_machine.specs.State.{Frame, Level, frame, iteration, Memory, State, On, Off, Stuck, body_at, with_world, write, goto}

abbrev pub closed : Memory → ℕ → Memory
closed m a = with_world m (close m.world a)

-- the levels of a fiber that goes on, where the running one has ended
abbrev pub in_resumer : Memory → Onward (List Level) → Memory
in_resumer m o = record m {
  fibers = o.fibers;
  world = with_store m.world (fibers.with_ended m.world.store m.fibers.running);
}

-- A value.

-- the register that waits gets the value, and the frame goes on after its call
abbrev pub receive_here : Value → Level → List Level → Memory → State
receive_here v (frame f) ls m = On (frame (goto f f.after) ∷ ls) (write m f f.waits v)
receive_here v (iteration a it old) ls m = On (iteration a it v ∷ ls) m

-- the value of a fiber's body is that of its resume, and the end of the main program ends the program
abbrev pub receive_in_resumer : Value → List Level → Memory → State
receive_in_resumer v [] m = Stuck m.world.out
receive_in_resumer v (l ∷ ls) m = receive_here v l ls m

abbrev pub end_fiber : Value → Option (Onward (List Level)) → Memory → State
end_fiber v None m = Off (Ended m.world.out 0)
end_fiber v (Some o) m = receive_in_resumer v o.kept (in_resumer m o)

unfoldable pub receive : Value → List Level → Memory → State
receive v [] m = end_fiber v (fibers.finish m.fibers) m
receive v (l ∷ ls) m = receive_here v l ls m

-- An exit.

abbrev pub covers : ℕ → CatchEntry → Bool
covers at c = nat_le c.begin at && nat_lt at c.end

-- the entries that cover a place, the last first
unfoldable pub covering : Program → ℕ → ℕ → List CatchEntry
covering c b at = filter (covers at) (reverse (body_at c b).catches)

-- a rescue entry takes exceptions alone, and an ensure entry every exit that leaves what it covers
abbrev pub takes : Exit → CatchEntry → Bool
takes (Raise o) c = true
takes (Return a v) c = not c.rescue
takes (Break a v) c = not c.rescue
takes (Jump a t) c = not c.rescue && not (covers t c)

abbrev pub handler : Exit → List CatchEntry → Option ℕ
handler x [] = None
handler x (c ∷ cs) = if takes x c then Some c.target else handler x cs

-- Where an exit comes to in one fiber: a state, or past the last level.
pub data Landing : Type 0 where
  lands : State → Landing
  falls : Exit → Memory → Landing

-- an activation ends with the value of a return or a break that is for it
abbrev pub reach : Bool → Value → List Level → Memory → Landing → Landing
reach true v ls m further = lands (receive v ls m)
reach false v ls m further = further

-- a frame that doesn't take the exit; further is where the exit goes past it
abbrev pub past_frame : Exit → Frame → List Level → Memory → Landing → Landing
past_frame (Raise o) f ls m further = further
past_frame (Return a v) f ls m further = reach (nat_eq a f.activation) v ls (closed m f.activation) further
past_frame (Break a v) f ls m further = reach (nat_eq a f.activation) v ls (closed m f.activation) further
past_frame (Jump a t) f ls m further = if nat_eq a f.activation then lands (On (frame (goto f t) ∷ ls) m) else further

abbrev pub at_frame : Option ℕ → Exit → Frame → List Level → Memory → Landing → Landing
at_frame None x f ls m further = past_frame x f ls m further
at_frame (Some t) x f ls m further = lands (On (frame (record (goto f t) { pending = Some x }) ∷ ls) m)

abbrev pub end_by : Option Value → List Level → Memory → Landing → Landing
end_by None ls m further = further
end_by (Some v) ls m further = lands (receive v ls m)

abbrev pub at_iteration : Exit → ℕ → Iteration → List Level → Memory → Landing → Landing
at_iteration (Raise o) a it ls m further = end_by (caught it o m.world.store) ls m further
at_iteration (Return b v) a it ls m further = reach (nat_eq b a) v ls m further
at_iteration (Break b v) a it ls m further = reach (nat_eq b a) v ls m further
at_iteration (Jump b t) a it ls m further = further

unfoldable pub unwind : Program → Exit → List Level → Memory → Landing
unwind c x [] m = falls x m
unwind c x (frame f ∷ ls) m =
    at_frame (handler x (covering c f.body f.place)) x f ls m (unwind c x ls (closed m f.activation))
unwind c x (iteration a it v ∷ ls) m = at_iteration x a it ls m (unwind c x ls m)

abbrev pub end_program : Unrescued → List ℕ → State
end_program u out = if u.exits then Off (Ended out u.status) else Off (Uncaught out u.class u.message)

-- one that nothing rescued is asked for its message before it ends the program
abbrev pub end_or_ask : Bool → ObjId → Memory → State
end_or_ask true e m =
    On (iteration (next_activation m.world) (reporting e) Nil ∷ [])
    (with_world m (with_activation (asking m.world) (core_activation m.world (Obj e))))
end_or_ask false e m = end_program (unrescued m.world.store e) m.world.out

-- Past the last level of a fiber an exception is raised at the resume, and ends the program where there is none. The
-- number bounds how many fibers are left.
abbrev pub fallen : (Exit → List Level → Memory → State) → ObjId → Option (Onward (List Level)) → Memory → State
fallen again e None m = end_or_ask (is_asked m.world e) e m
fallen again e (Some o) m = again (Raise e) o.kept (in_resumer m o)

abbrev pub land : (Exit → List Level → Memory → State) → Landing → State
land again (lands t) = t
land again (falls (Raise e) m) = fallen again e (fibers.finish m.fibers) m
land again (falls (Return a v) m) = Stuck m.world.out
land again (falls (Break a v) m) = Stuck m.world.out
land again (falls (Jump a t) m) = Stuck m.world.out

abbrev pub throw_within : ℕ → Program → Exit → List Level → Memory → State
throw_within zero c x ls m = Stuck m.world.out
throw_within (suc n) c x ls m = land (λ y ks k. throw_within n c y ks k) (unwind c x ls m)

unfoldable pub throw : Program → Exit → List Level → Memory → State
throw c x ls m = throw_within (suc (length m.fibers.others)) c x ls m

-- the register gets what an answer gives, and the frame goes on; or its exception is thrown
abbrev pub after_result : Program → Result → ℕ → ℕ → Frame → List Level → Memory → State
after_result c (gives v) a next f ls m = On (frame (goto f next) ∷ ls) (write m f a v)
after_result c (raises e) a next f ls m = throw c (Raise e) (frame f ∷ ls) m

abbrev pub after : Program → Answer → ℕ → ℕ → Frame → List Level → Memory → State
after c r a next f ls m = after_result c r.result a next f ls (with_world m r.world)
