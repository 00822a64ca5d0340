-- One transition of the evaluation, by cases on what is under way.
use Rattle.std.specs.Prelude.{ℕ, ◌+◌, List, [], ◌∷◌, ◌++◌, Bool, true, false, get_or, map}
use Rattle.path_core.specs.Form.{Name, Action, give_nil, give_true, give_int, call_operator, call_puts, Form, strict, local, set_local, seq, cond, while_form, Forms, none, more}
use Rattle.rb_syntax.specs.declared.operator.Operator.{Operator}
use Rattle.path_value.specs.Value.{is_true}
use Rattle.path_value.specs.declared.value.Value.{Value}
use Rattle.path_value.specs.declared.value.Value.TheVariants.{Nil, True, Int}
use Rattle.path_value.specs.declared.failure.Failure.{Failure}
use Rattle.path_core.specs.Rows.{Outcome, gives, raises, writes, call, line_of}
use Rattle.path_eval.specs.Seen.{End, Ended, Uncaught}
use Rattle.path_eval.specs.Configuration.{Source, Part, operands, rest, branch, chosen, loop_test, loop_body, assign, Item, inside, activation, Exit, raise, Focus, perform, give, travel, World, Config, Run, Halt, named, local_of, with_local}

-- what a strict form does with the values of its operands
unfoldable pub outcome : Action → List Value → Outcome
outcome give_nil vs = gives Nil
outcome give_true vs = gives True
outcome (give_int z) vs = gives (Int z)
outcome (call_operator o) vs = call o (get_or vs 0 Nil) (get_or vs 1 Nil)
outcome call_puts vs = writes (line_of (get_or vs 0 Nil))

abbrev pub write : World → List ℕ → World
write w bytes = record w { out = w.out ++ bytes }

abbrev pub after : Outcome → List Item → World → Config
after (gives v) ks w = Run (give v) ks w
after (raises f) ks w = Run (travel (raise f)) ks w
after (writes bytes) ks w = Run (give Nil) ks (write w bytes)

-- the next operand, or the action once all have their values
abbrev pub next_operand : Action → List Value → Forms → List Item → World → Config
next_operand a vs none ks w = after (outcome a vs) ks w
next_operand a vs (more e es) ks w = Run (perform e) (inside (operands a vs es) ∷ ks) w

-- the forms of a sequence, whose value is that of the last, or nil where there is none
abbrev pub do_all : Forms → List Item → World → Config
do_all none ks w = Run (give Nil) ks w
do_all (more e es) ks w = Run (perform e) (inside (rest es) ∷ ks) w

abbrev pub do_form : Source → Form → List Item → World → Config
do_form s (strict a es) ks w = next_operand a [] es ks w
do_form s (local x) ks w = Run (give (named s w x)) ks w
do_form s (set_local x e) ks w = Run (perform e) (inside (assign x) ∷ ks) w
do_form s (seq es) ks w = do_all es ks w
do_form s (cond t a b) ks w = Run (perform t) (inside (branch a b) ∷ ks) w
do_form s (while_form t e) ks w = Run (perform t) (inside (loop_test t e) ∷ ks) w

abbrev pub choose : Bool → Form → Form → List Item → World → Config
choose true a b ks w = Run (perform a) (inside chosen ∷ ks) w
choose false a b ks w = Run (perform b) (inside chosen ∷ ks) w

abbrev pub turn_loop : Bool → Form → Form → List Item → World → Config
turn_loop true t e ks w = Run (perform e) (inside (loop_body t e) ∷ ks) w
turn_loop false t e ks w = Run (give Nil) ks w

-- the value of a form of a sequence is dropped where another form follows
abbrev pub go_on_with : Value → Forms → List Item → World → Config
go_on_with v none ks w = Run (give v) ks w
go_on_with v (more e es) ks w = Run (perform e) (inside (rest es) ∷ ks) w

abbrev pub give_part : Source → Value → Part → List Item → World → Config
give_part s v (operands a vs es) ks w = next_operand a (vs ++ v ∷ []) es ks w
give_part s v (rest es) ks w = go_on_with v es ks w
give_part s v (branch a b) ks w = choose (is_true v) a b ks w
give_part s v chosen ks w = Run (give v) ks w
give_part s v (loop_test t e) ks w = turn_loop (is_true v) t e ks w
give_part s v (loop_body t e) ks w = Run (perform t) (inside (loop_test t e) ∷ ks) w
give_part s v (assign x) ks w = Run (give v) ks (with_local w (local_of s w x) v)

-- an exit that nothing stops ends the program
abbrev pub leave : Exit → World → Config
leave (raise f) w = Halt (Uncaught w.out f)

abbrev pub go : Source → Config → Config
go s (Halt e) = Halt e
go s (Run (perform e) ks w) = do_form s e ks w
go s (Run (give v) [] w) = Halt (Ended w.out 0)
go s (Run (give v) (inside k ∷ ks) w) = give_part s v k ks w
go s (Run (give v) (activation a ∷ ks) w) = Run (give v) ks w
go s (Run (travel x) [] w) = leave x w
go s (Run (travel x) (inside k ∷ ks) w) = Run (travel x) ks w
go s (Run (travel x) (activation a ∷ ks) w) = Run (travel x) ks w
