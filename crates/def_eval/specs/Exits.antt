-- Where an exit goes (ISO/IEC 30170:2012, 11.5.2.4 and 11.5.2.5): each transition drops one pending item.
use Rattle.std.specs.Prelude.{ℕ, ◌+◌, List, [], ◌∷◌, Bool, true, false, nat_eq, if◌then◌else◌, Option, Some, None}
use Rattle.rb_value.specs.declared.value.Value.{Value}
use Rattle.rb_value.specs.declared.value.Value.TheVariants.{Nil, Obj}
use Rattle.rb_value.specs.declared.value.ObjId.{ObjId}
use Rattle.def_calls.specs.Calls.{core_activation, Unrescued, is_asked, asking, unrescued}
use Rattle.def_calls.specs.Plans.{Iteration, reporting, caught}
use Rattle.def_calls.specs.Fibers.{Onward}
use Rattle.def_calls.specs.Fibers as fibers
use Rattle.ir_core.specs.CoreForm.{CoreForm}
use Rattle.def_calls.specs.Seen.{Ended, Uncaught}
use Rattle.def_eval.specs.Configuration.{Exit, raise, return, break, leave_loop, next, begin_anew, Rescue, Part, loop_test, Stop, passes, loops, rescues, assigns, retries, ensures, stop_of, exit, Item, part, activation, iteration, ensuring, Kept, perform, give, travel, Memory, Config, Run, Halt}
use Rattle.def_eval.specs.Entering.{open_iteration}
use Rattle.def_eval.specs.Giving.{next_clause, begin_rescue, returned, end_fiber}

-- a loop ends by a break, and goes on by a next
abbrev pub travel_loop : Exit → ℕ → CoreForm → CoreForm → List Item → Memory → Config
travel_loop (leave_loop v) n t b ks m = Run (give v) ks m
travel_loop (next v) n t b ks m = Run (perform n t) (part (loop_test n t b) ∷ ks) m
travel_loop (raise e) n t b ks m = Run (travel (raise e)) ks m
travel_loop (return a v) n t b ks m = Run (travel (return a v)) ks m
travel_loop (break a v) n t b ks m = Run (travel (break a v)) ks m
travel_loop begin_anew n t b ks m = Run (travel begin_anew) ks m

abbrev pub travel_rescue : Exit → ℕ → Rescue → List Item → Memory → Config
travel_rescue (raise e) n r ks m = next_clause n e r.clauses r ks m
travel_rescue (return a v) n r ks m = Run (travel (return a v)) ks m
travel_rescue (break a v) n r ks m = Run (travel (break a v)) ks m
travel_rescue (leave_loop v) n r ks m = Run (travel (leave_loop v)) ks m
travel_rescue (next v) n r ks m = Run (travel (next v)) ks m
travel_rescue begin_anew n r ks m = Run (travel begin_anew) ks m

abbrev pub travel_clause : Exit → Rescue → List Item → Memory → Config
travel_clause begin_anew r ks m = begin_rescue r ks m
travel_clause (raise e) r ks m = Run (travel (raise e)) ks m
travel_clause (return a v) r ks m = Run (travel (return a v)) ks m
travel_clause (break a v) r ks m = Run (travel (break a v)) ks m
travel_clause (leave_loop v) r ks m = Run (travel (leave_loop v)) ks m
travel_clause (next v) r ks m = Run (travel (next v)) ks m

abbrev pub travel_part : Exit → Stop → List Item → Memory → Config
travel_part x passes ks m = Run (travel x) ks m
travel_part x (loops n t b) ks m = travel_loop x n t b ks m
travel_part x (rescues n r) ks m = travel_rescue x n r ks m
travel_part x (assigns e r) ks m = travel_clause x r ks m
travel_part x (retries r) ks m = travel_clause x r ks m
travel_part x (ensures n e) ks m = Run (perform n e) (ensuring (exit x) ∷ ks) m

-- an activation ends by a return or a break that is for it, and by the next of its block
abbrev pub reach : Bool → Exit → Value → List Item → Memory → Config
reach true x v ks m = Run (give v) ks m
reach false x v ks m = Run (travel x) ks m

abbrev pub travel_activation : Exit → ℕ → List Item → Memory → Config
travel_activation (return b v) a ks m = reach (nat_eq a b) (return b v) v ks m
travel_activation (break b v) a ks m = reach (nat_eq a b) (break b v) v ks m
travel_activation (next v) a ks m = Run (give v) ks m
travel_activation (raise e) a ks m = Run (travel (raise e)) ks m
travel_activation (leave_loop v) a ks m = Run (travel (leave_loop v)) ks m
travel_activation begin_anew a ks m = Run (travel begin_anew) ks m

-- an iteration may take an exception as its end
abbrev pub travel_caught : ObjId → Option Value → List Item → Memory → Config
travel_caught e None ks m = Run (travel (raise e)) ks m
travel_caught e (Some v) ks m = Run (give v) ks m

abbrev pub travel_iteration : Exit → ℕ → Iteration → List Item → Memory → Config
travel_iteration (raise e) a it ks m = travel_caught e (caught it e m.world.store) ks m
travel_iteration (return b v) a it ks m = reach (nat_eq a b) (return b v) v ks m
travel_iteration (break b v) a it ks m = reach (nat_eq a b) (break b v) v ks m
travel_iteration (next v) a it ks m = Run (give v) ks m
travel_iteration (leave_loop v) a it ks m = Run (travel (leave_loop v)) ks m
travel_iteration begin_anew a it ks m = Run (travel begin_anew) ks m

-- nothing rescued the exception: it ends the program, after it was asked for its message, or leaves the fiber
abbrev pub end_by : Unrescued → List ℕ → Config
end_by u out = if u.exits then Halt (Ended out u.status) else Halt (Uncaught out u.class u.message)

abbrev pub end_or_ask : Bool → ObjId → Memory → Config
end_or_ask true e m = open_iteration (reporting e) (core_activation m.world (Obj e)) [] m (asking m.world)
end_or_ask false e m = end_by (unrescued m.world.store e) m.world.out

abbrev pub leave_fiber : ObjId → Option (Onward Kept) → Memory → Config
leave_fiber e None m = end_or_ask (is_asked m.world e) e m
leave_fiber e (Some o) m = end_fiber (travel (raise e)) (Some o) m

-- every exit but an exception has its item in its fiber's list, so only an exception gets past the last
abbrev pub travel_out : Exit → Memory → Config
travel_out (raise e) m = leave_fiber e (fibers.finish m.fibers) m
travel_out (return a v) m = end_fiber (give v) (fibers.finish m.fibers) m
travel_out (break a v) m = end_fiber (give v) (fibers.finish m.fibers) m
travel_out (leave_loop v) m = end_fiber (give v) (fibers.finish m.fibers) m
travel_out (next v) m = end_fiber (give v) (fibers.finish m.fibers) m
travel_out begin_anew m = end_fiber (give Nil) (fibers.finish m.fibers) m

unfoldable pub do_travel : Exit → List Item → Memory → Config
do_travel x [] m = travel_out x m
do_travel x (part p ∷ ks) m = travel_part x (stop_of p) ks m
do_travel x (activation a place ∷ ks) m = travel_activation x a ks (returned m a place)
do_travel x (iteration a it place ∷ ks) m = travel_iteration x a it ks (returned m a place)
-- the exit takes the place of what the ensure part would have gone on with
do_travel x (ensuring o ∷ ks) m = Run (travel x) ks m
