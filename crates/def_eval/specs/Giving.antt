-- What goes on with a value: a part of a form, an iteration, and the end of an activation or a fiber.
use Rattle.std.specs.Prelude.{ℕ, ◌+◌, List, [], ◌∷◌, ◌++◌, Bool, true, false, if◌then◌else◌, Option, Some, None}
use Rattle.rb_value.specs.declared.value.Value.{Value}
use Rattle.rb_value.specs.declared.value.Value.TheVariants.{Nil, True, False, Int, Sym, Obj}
use Rattle.rb_value.specs.declared.value.ObjId.{ObjId}
use Rattle.rb_value.specs.Value.{is_true}
use Rattle.rb_value.specs.declared.core_class.CoreClass.TheVariants as class
use Rattle.def_core.specs.declared.cause.Cause.TheVariants as cause
use Rattle.def_core.specs.Store.{core}
use Rattle.def_calls.specs.World.{Answer, Result, fail, write, with_store}
use Rattle.def_calls.specs.World as world
use Rattle.def_calls.specs.Values as values
use Rattle.def_calls.specs.Calls.{Sending, by_name, BlockArgument, no_block, block_of, not_a_block, block_argument, passing, is_of, close, one_of, read, send_by_core, enter_proc}
use Rattle.def_calls.specs.Plans.{Plan, Planned, finishes, fails, raises, sends, calls, writes, reads, resumes, yields}
use Rattle.def_calls.specs.Plans as plans
use Rattle.def_calls.specs.Fibers.{Onward, Resumed, refused, begins, continues}
use Rattle.def_calls.specs.Fibers as fibers
use Rattle.ir_core.specs.CoreForm.{CoreForm, Maybe, absent, there, Forms, none, more, Pairs, Branches, Clauses, no_clauses, clause}
use Rattle.def_calls.specs.Seen.{Ended}
use Rattle.def_eval.specs.Source.{Source, span, span_maybe, span_forms}
use Rattle.def_eval.specs.Configuration.{Place, raise, Rescue, Part, operands, receiver, items, block, elements, hash_key, hash_value, pieces, rest, test, chosen, and_then, or_else, loop_test, loop_body, rescued, clause_class, clause_target, clause_body, ensured, Outgoing, value, exit, Item, part, activation, iteration, ensuring, Kept, Focus, perform, give, travel, Memory, with_world, Config, Run, Halt}
use Rattle.def_eval.specs.Entering.{symbol, after, enter}
use Rattle.def_eval.specs.Forms.{next_operand, do_call, next_item, perform_call, next_element, next_pair, next_piece, next_branch}

-- Parts of forms: each goes on as its form does (Forms).

-- the block argument of a call, which has to be one
abbrev pub with_block : Source → Sending → Value → List Value → BlockArgument → List Item → Memory → Config
with_block s k recv args no_block ks m = perform_call s k recv args None ks m
with_block s k recv args (block_of p w) ks m = perform_call s k recv args (Some p) ks (with_world m w)
with_block s k recv args not_a_block ks m = after (values.wrong_value m.world (passing k)) ks m

-- an element of an Array, or the elements of a splat
abbrev pub with_element : Memory → ObjId → Bool → Value → Memory
with_element m id false v = with_world m (with_store m.world (values.pushed m.world.store id (v ∷ [])))
with_element m id true v = with_world m (with_store m.world (values.push_splat (values.splat m.world.store v) id))

abbrev pub after_pair : ℕ → ObjId → Pairs → List Item → Memory → Answer → Result → Config
after_pair n id ps ks m a (world.gives v) = next_pair n id ps ks (with_world m a.world)
after_pair n id ps ks m a (world.raises e) = after a ks m

abbrev pub with_piece : Memory → ObjId → Value → Memory
with_piece m id v = with_world m
    (with_store m.world (values.appended m.world.store id (values.text_of_value m.world.store v)))

abbrev pub choose : Bool → ℕ → CoreForm → Branches → CoreForm → List Item → Memory → Config
choose true n b bs o ks m = Run (perform n b) (part chosen ∷ ks) m
choose false n b bs o ks m = next_branch (n + span b) bs o ks m

-- the right side of `and` is done where the left is true, that of `or` where it isn't
abbrev pub go_right : Bool → ℕ → CoreForm → Value → List Item → Memory → Config
go_right true n e v ks m = Run (perform n e) ks m
go_right false n e v ks m = Run (give v) ks m

abbrev pub go_left : Bool → ℕ → CoreForm → Value → List Item → Memory → Config
go_left true n e v ks m = Run (give v) ks m
go_left false n e v ks m = Run (perform n e) ks m

abbrev pub turn_loop : Bool → ℕ → CoreForm → CoreForm → List Item → Memory → Config
turn_loop true n t b ks m = Run (perform (n + span t) b) (part (loop_body n t b) ∷ ks) m
turn_loop false n t b ks m = Run (give Nil) ks m

-- the otherwise part of a begin form
abbrev pub do_otherwise : ℕ → Maybe → Value → List Item → Memory → Config
do_otherwise n absent v ks m = Run (give v) ks m
do_otherwise n (there e) v ks m = Run (perform n e) (part chosen ∷ ks) m

-- Clauses (11.5.2.5): the first with a class of the exception takes it; where no class stands StandardError is given.

abbrev pub do_clause_body : ℕ → CoreForm → Rescue → List Item → Memory → Config
do_clause_body n b r ks m = Run (perform n b) (part (clause_body r) ∷ ks) m

abbrev pub take_exception : ℕ → ObjId → Maybe → CoreForm → Rescue → List Item → Memory → Config
take_exception n e absent b r ks m = do_clause_body n b r ks m
take_exception n e (there t) b r ks m = Run (perform n t) (part (clause_target (n + span t) e b r) ∷ ks) m

-- n is the number of the first body in the classes that are left
abbrev pub next_class : ℕ → ObjId → Forms → Maybe → CoreForm → Clauses → Rescue → List Item → Memory → Config → Config
next_class n e none t b cs r ks m further = further
next_class n e (more c es) t b cs r ks m further =
    Run (perform n c) (part (clause_class (n + span c) e es t b cs r) ∷ ks) m

abbrev pub take_if : Answer → Result → ℕ → ObjId → Forms → Maybe → CoreForm → Rescue → List Item → Memory → Config
    → Config
take_if a (world.gives v) n e es t b r ks m further =
    if is_true v then take_exception (n + span_forms es) e t b r ks m else further
take_if a (world.raises x) n e es t b r ks m further = after a ks m

unfoldable pub next_clause : ℕ → ObjId → Clauses → Rescue → List Item → Memory → Config
next_clause n e no_clauses r ks m = Run (travel (raise e)) ks m
next_clause n e (clause none t b cs) r ks m =
    Run (give (Obj (core class.StandardError))) (part (clause_class n e none t b cs r) ∷ ks) m
next_clause n e (clause (more c es) t b cs) r ks m =
    Run (perform n c) (part (clause_class (n + span c) e es t b cs r) ∷ ks) m

-- the class of a clause is v
abbrev pub match_class : ℕ → Value → ObjId → Forms → Maybe → CoreForm → Clauses → Rescue → List Item → Memory → Config
match_class n v e es t b cs r ks m =
    take_if (is_of m.world (Obj e) v) (is_of m.world (Obj e) v).result n e es t b r ks m
    (next_class n e es t b cs r ks m
    (next_clause (n + span_forms es + span_maybe t + span b) e cs r ks m))

abbrev pub begin_rescue : Rescue → List Item → Memory → Config
begin_rescue r ks m = Run (perform r.number r.body) (part (rescued r.number r.body r.clauses r.otherwise) ∷ ks) m

unfoldable pub give_part : Source → Value → Part → List Item → Memory → Config
give_part s v (operands n a vs es) ks m = next_operand s n a (vs ++ v ∷ []) es ks m
give_part s v (receiver n x is b) ks m = do_call s n (by_name (symbol m x)) v is b ks m
give_part s v (items n k recv vs is b) ks m = next_item s n k recv (vs ++ v ∷ []) is b ks m
give_part s v (block k recv args) ks m = with_block s k recv args (block_argument m.world v) ks m
give_part s v (elements n g id splat is) ks m = next_element s n g id is ks (with_element m id splat v)
give_part s v (hash_key n id e ps) ks m = Run (perform n e) (part (hash_value (n + span e) id v ps) ∷ ks) m
give_part s v (hash_value n id k ps) ks m =
    after_pair n id ps ks m (values.with_pair m.world id k v) (values.with_pair m.world id k v).result
give_part s v (pieces n id es) ks m = next_piece n id es ks (with_piece m id v)
give_part s v (rest n none) ks m = Run (give v) ks m
give_part s v (rest n (more e es)) ks m = Run (perform n e) (part (rest (n + span e) es) ∷ ks) m
give_part s v (test n b bs o) ks m = choose (is_true v) n b bs o ks m
give_part s v chosen ks m = Run (give v) ks m
give_part s v (and_then n e) ks m = go_right (is_true v) n e v ks m
give_part s v (or_else n e) ks m = go_left (is_true v) n e v ks m
give_part s v (loop_test n t b) ks m = turn_loop (is_true v) n t b ks m
give_part s v (loop_body n t b) ks m = Run (perform n t) (part (loop_test n t b) ∷ ks) m
give_part s v (rescued n b cs o) ks m = do_otherwise (n + span b) o v ks m
give_part s v (clause_class n e es t b cs r) ks m = match_class n v e es t b cs r ks m
give_part s v (clause_target n e b r) ks m = do_clause_body n b r ks m
give_part s v (clause_body r) ks m = Run (give v) ks m
give_part s v (ensured n e) ks m = Run (perform n e) (ensuring (value v) ∷ ks) m

-- Iterations (15).

-- back at the place of the caller, where activation a has ended
abbrev pub returned : Memory → ℕ → Place → Memory
returned m a place = record m { place = place; world = close m.world a }

abbrev pub in_fiber : Memory → Onward Kept → Memory
in_fiber m o = record m { place = o.kept.place; fibers = o.fibers }

abbrev pub resume_by : Source → Resumed Kept → List Value → List Item → Memory → Config
resume_by s (refused c) args ks m = after (fail m.world c) ks m
resume_by s (begins p fs) args ks m = enter s (enter_proc m.world p args None) None [] (record m { fibers = fs })
resume_by s (continues o) args ks m = after (one_of m.world args) o.kept.items (in_fiber m o)

abbrev pub yield_by : Option (Onward Kept) → List Value → List Item → Memory → Config
yield_by None args ks m = after (fail m.world cause.RootYield) ks m
yield_by (Some o) args ks m = after (one_of m.world args) o.kept.items (in_fiber m o)

abbrev pub kept_as : List Item → Memory → Kept
kept_as ks m = record { items = ks; place = m.place }

-- carries out a plan of the iteration of activation a
abbrev pub carry_out : Source → Plan → ℕ → Place → List Item → Memory → Config
carry_out s (finishes v) a place ks m = Run (give v) ks (returned m a place)
carry_out s (fails c) a place ks m = after (fail m.world c) ks (returned m a place)
carry_out s (raises e) a place ks m = Run (travel (raise e)) ks (returned m a place)
carry_out s (sends it v x args b public) a place ks m =
    enter s (send_by_core m.world v x args b public) None (iteration a it place ∷ ks) m
carry_out s (calls it p args b) a place ks m =
    enter s (enter_proc m.world p args b) None (iteration a it place ∷ ks) m
carry_out s (writes it bytes) a place ks m =
    Run (give Nil) (iteration a it place ∷ ks) (with_world m (write m.world bytes))
carry_out s (reads it) a place ks m = after (read m.world) (iteration a it place ∷ ks) m
carry_out s (resumes it f args) a place ks m =
    resume_by s (fibers.resume m.fibers (kept_as (iteration a it place ∷ ks) m) m.world.store f) args
    (iteration a it place ∷ ks) m
carry_out s (yields it args) a place ks m =
    yield_by (fibers.yield m.fibers (kept_as (iteration a it place ∷ ks) m)) args (iteration a it place ∷ ks) m

abbrev pub go_on : Source → Planned → ℕ → Place → List Item → Memory → Config
go_on s p a place ks m = carry_out s p.plan a place ks (with_world m (with_store m.world p.store))

-- The end of a fiber's body, and of the program (10.1); that of the main program ends the program.

abbrev pub end_fiber : Focus → Option (Onward Kept) → Memory → Config
end_fiber f None m = Halt (Ended m.world.out 0)
end_fiber f (Some o) m = Run f o.kept.items
    (with_world (in_fiber m o) (with_store m.world (fibers.with_ended m.world.store m.fibers.running)))

abbrev pub give_outgoing : Outgoing → List Item → Memory → Config
give_outgoing (value v) ks m = Run (give v) ks m
give_outgoing (exit x) ks m = Run (travel x) ks m

unfoldable pub do_give : Source → Value → List Item → Memory → Config
do_give s v [] m = end_fiber (give v) (fibers.finish m.fibers) m
do_give s v (part p ∷ ks) m = give_part s v p ks m
do_give s v (activation a place ∷ ks) m = Run (give v) ks (returned m a place)
do_give s v (iteration a it place ∷ ks) m = go_on s (plans.next it v m.world.store) a place ks m
do_give s v (ensuring o ∷ ks) m = give_outgoing o ks m
