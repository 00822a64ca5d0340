-- What each core form does first, and what it does once its parts have their values (ISO/IEC 30170:2012, clauses 8, 11
-- and 13).
use Rattle.std.specs.Prelude.{ℕ, ◌+◌, List, [], ◌∷◌, ◌++◌, length, get_or, codes, nat_eq, nat_lt, Bool, true, false, ◌||◌, if◌then◌else◌, Option, Some, None}
use Rattle.rb_value.specs.declared.value.Value.{Value}
use Rattle.rb_value.specs.declared.value.Value.TheVariants.{Nil, True, False, Int, Sym, Obj}
use Rattle.rb_value.specs.declared.value.ObjId.{ObjId}
use Rattle.rb_value.specs.declared.core_class.CoreClass.TheVariants as class
use Rattle.rb_syntax.specs.declared.core_form.DefinedKind.{DefinedKind}
use Rattle.rb_syntax.specs.declared.core_form.DefinedKind.TheVariants as asks
use Rattle.rb_value.specs.declared.kind.Kind.TheVariants as kind
use Rattle.def_core.specs.declared.cause.Cause.TheVariants as cause
use Rattle.def_core.specs.Store.{core, fresh, next_number, with_object}
use Rattle.def_core.specs.Parts as parts
use Rattle.def_rows.specs.Answers.{items_object, text_object}
use Rattle.def_calls.specs.World.{Answer, fail, make, class_around, global, with_global, with_store}
use Rattle.def_calls.specs.World as world
use Rattle.def_calls.specs.Constants.{get_constant, get_constant_in, set_constant, set_constant_in}
use Rattle.def_calls.specs.Values as values
use Rattle.def_calls.specs.Definitions as definitions
use Rattle.def_calls.specs.Calls.{Sending, by_name, by_bare_name, to_proc, to_super, break_target}
use Rattle.def_calls.specs.Calls as calls
use Rattle.ir_core.specs.CoreForm.{Name, CoreForm, nil, truth, falsehood, self_ref, int, str, sym, local, own, exception, set_local, ivar, set_ivar, gvar, set_gvar, constant, top_constant, in_constant, set_constant as constant_set, set_in_constant, array, hash, range, text, intern, seq, cond, and_form, or_form, while_form, call, yield_form, super_form, function, lambda, begin_form, return_form, break_form, next_form, retry, define, define_on as form_on, class_form, module_form, singleton_class, alias_form, undef_form, defined, item, rest_of, tail_of, Maybe, absent, there, Forms, none, more, Items, no_items, plain, splat, Pairs, no_pairs, pair, Branches, no_branches, branch, Clauses, Receiver, to, on_self, bare}
use Rattle.def_eval.specs.Source.{Source, span, span_maybe, span_clauses}
use Rattle.def_eval.specs.Configuration.{Exit, return, break, leave_loop, next, begin_anew, Action, assign, assign_ivar, assign_gvar, constant_in, assign_constant, assign_constant_in, make_range, make_symbol, element, elements_between, last_elements, leave_method, leave_call, leave_round, define_on, open_class, open_module, open_singleton, tell, Gathering, an_array, arguments_of, Part, operands, receiver, items, block, elements, hash_key, hash_value, pieces, rest, test, and_then, or_else, loop_test, loop_body, rescued, ensured, Stop, passes, loops, rescues, assigns, retries, ensures, stop_of, Item, part, activation, iteration, ensuring, perform, give, travel, Memory, with_world, Config, Run}
use Rattle.def_eval.specs.Scopes.{variable, with_variable, own_variable, running}
use Rattle.def_eval.specs.Entering.{symbol, after, do_all, enter, run_opened, make_proc}

abbrev pub self_of : Memory → Value
self_of m = (running m).self

-- Exits (11.5.2.4).

-- whether a loop is under way in the running body
abbrev pub is_loop : Stop → Bool
is_loop passes = false
is_loop (loops n t b) = true
is_loop (rescues n r) = false
is_loop (assigns e r) = false
is_loop (retries r) = false
is_loop (ensures n e) = false

abbrev pub in_loop : List Item → Bool
in_loop [] = false
in_loop (part p ∷ ks) = is_loop (stop_of p) || in_loop ks
in_loop (activation a place ∷ ks) = false
in_loop (iteration a it place ∷ ks) = false
in_loop (ensuring o ∷ ks) = in_loop ks

-- whether an activation is under way in the running fiber
abbrev pub is_under_way : List Item → ℕ → Bool
is_under_way [] a = false
is_under_way (part p ∷ ks) a = is_under_way ks a
is_under_way (activation b place ∷ ks) a = nat_eq a b || is_under_way ks a
is_under_way (iteration b it place ∷ ks) a = nat_eq a b || is_under_way ks a
is_under_way (ensuring o ∷ ks) a = is_under_way ks a

abbrev pub leave_to : (ℕ → Value → Exit) → Answer → Value → List Item → Memory → Option ℕ → Config
leave_to exit failure v ks m None = after failure ks m
leave_to exit failure v ks m (Some a) =
    if is_under_way ks a then Run (travel (exit a v)) ks m else after failure ks m

-- out of the innermost loop, or else out of the call to which the block was passed
abbrev pub leave_from : Bool → Value → List Item → Memory → Config
leave_from true v ks m = Run (travel (leave_loop v)) ks m
leave_from false v ks m =
    leave_to break (fail m.world cause.BreakFromProc) v ks m
    (break_target m.world m.place.activation (running m).runs)

-- Calls (11.3): the receiver, the items, the block, each part left to right.

-- what a call with this block argument calls; super passes the block of its method where none is given
abbrev pub perform_call : Source → Sending → Value → List Value → Option ObjId → List Item → Memory → Config
perform_call s k recv args b ks m = enter s (calls.call m.world (running m) k recv args b) b ks m

abbrev pub own_block : Sending → Memory → Option ObjId
own_block (by_name x) m = None
own_block (by_bare_name x) m = None
own_block to_proc m = None
own_block to_super m = (running m).block

-- super without a block asks whether its method has one, as `defined?` does, and lets go of the answer
abbrev pub asked : Sending → Memory → Memory
asked (by_name x) m = m
asked (by_bare_name x) m = m
asked to_proc m = m
asked to_super m = with_world m (definitions.yield_told m.world (running m)).world

abbrev pub with_arguments : Source → ℕ → Sending → Value → List Value → Maybe → List Item → Memory → Config
with_arguments s n k recv args absent ks m = perform_call s k recv args (own_block k m) ks (asked k m)
with_arguments s n k recv args (there e) ks m = Run (perform n e) (part (block k recv args) ∷ ks) m

-- more than 253 items are passed in an Array
abbrev pub packed : Memory → List Value → Memory
packed m args =
    if nat_lt 253 (length args)
    then with_world m (with_store m.world (with_object m.world.store (items_object args))) else m

abbrev pub next_item : Source → ℕ → Sending → Value → List Value → Items → Maybe → List Item → Memory → Config
next_item s n k recv vs no_items b ks m = with_arguments s n k recv vs b ks (packed m vs)
next_item s n k recv vs (plain e is) b ks m = Run (perform n e) (part (items (n + span e) k recv vs is b) ∷ ks) m
next_item s n k recv vs (splat e is) b ks m = Run (perform n e) (part (items (n + span e) k recv vs is b) ∷ ks) m

abbrev pub gathered : Source → ℕ → Gathering → ObjId → List Item → Memory → Config
gathered s n an_array id ks m = Run (give (Obj id)) ks m
gathered s n (arguments_of k recv b) id ks m =
    with_arguments s n k recv (values.elements_or_itself m.world (Obj id)) b ks m

abbrev pub next_element : Source → ℕ → Gathering → ObjId → Items → List Item → Memory → Config
next_element s n g id no_items ks m = gathered s n g id ks m
next_element s n g id (plain e is) ks m = Run (perform n e) (part (elements (n + span e) g id false is) ∷ ks) m
next_element s n g id (splat e is) ks m = Run (perform n e) (part (elements (n + span e) g id true is) ∷ ks) m

abbrev pub with_new_array : Memory → Memory
with_new_array m = with_world m (with_store m.world (with_object m.world.store (items_object [])))

abbrev pub gather : Source → ℕ → Gathering → Items → List Item → Memory → Config
gather s n g is ks m = next_element s n g (next_number m.world.store) is ks (with_new_array m)

abbrev pub has_splat : Items → Bool
has_splat no_items = false
has_splat (plain e is) = has_splat is
has_splat (splat e is) = true

abbrev pub do_call : Source → ℕ → Sending → Value → Items → Maybe → List Item → Memory → Config
do_call s n k recv is b ks m =
    if has_splat is then gather s n (arguments_of k recv b) is ks m else next_item s n k recv [] is b ks m

abbrev pub do_receiver : Source → ℕ → Receiver → Name → Items → Maybe → List Item → Memory → Config
do_receiver s n (to e) x is b ks m = Run (perform n e) (part (receiver (n + span e) x is b) ∷ ks) m
do_receiver s n on_self x is b ks m = do_call s n (by_name (symbol m x)) (self_of m) is b ks m
do_receiver s n bare x is b ks m = do_call s n (by_bare_name (symbol m x)) (self_of m) is b ks m

abbrev pub do_yield : Source → ℕ → Option ObjId → Items → List Item → Memory → Config
do_yield s n None is ks m = after (fail m.world cause.NoBlockToYield) ks m
do_yield s n (Some p) is ks m = do_call s n to_proc (Obj p) is absent ks m

-- Hashes and texts (11.5.5.2 and 8.7.6.3): their object is there before their parts.

abbrev pub next_pair : ℕ → ObjId → Pairs → List Item → Memory → Config
next_pair n id no_pairs ks m = Run (give (Obj id)) ks m
next_pair n id (pair a b ps) ks m = Run (perform n a) (part (hash_key (n + span a) id b ps) ∷ ks) m

abbrev pub next_piece : ℕ → ObjId → Forms → List Item → Memory → Config
next_piece n id none ks m = Run (give (Obj id)) ks m
next_piece n id (more e es) ks m = Run (perform n e) (part (pieces (n + span e) id es) ∷ ks) m

-- Conditions and loops (11.5.2.2 and 11.5.2.3).

abbrev pub next_branch : ℕ → Branches → CoreForm → List Item → Memory → Config
next_branch n no_branches o ks m = Run (perform n o) ks m
next_branch n (branch t b bs) o ks m = Run (perform n t) (part (test (n + span t) b bs o) ∷ ks) m

abbrev pub do_loop : ℕ → Bool → CoreForm → CoreForm → List Item → Memory → Config
do_loop n false t b ks m = Run (perform n t) (part (loop_test n t b) ∷ ks) m
do_loop n true t b ks m = Run (perform (n + span t) b) (part (loop_body n t b) ∷ ks) m

-- Begin forms (11.5.2.5): the ensure part is outside of the clauses.
abbrev pub with_ensure : ℕ → Maybe → List Item → List Item
with_ensure n absent ks = ks
with_ensure n (there e) ks = part (ensured n e) ∷ ks

abbrev pub do_begin : ℕ → CoreForm → Clauses → Maybe → Maybe → List Item → Memory → Config
do_begin n b cs o e ks m =
    Run (perform n b) (part (rescued n b cs o)
    ∷ with_ensure (n + span b + span_maybe o + span_clauses cs) e ks) m

-- the exception of the innermost clause whose target is assigned
abbrev pub exception_or : Stop → Value → Value
exception_or passes v = v
exception_or (loops n t b) v = v
exception_or (rescues n r) v = v
exception_or (assigns e r) v = Obj e
exception_or (retries r) v = v
exception_or (ensures n e) v = v

abbrev pub exception_in : List Item → Value
exception_in [] = Nil
exception_in (part p ∷ ks) = exception_or (stop_of p) (exception_in ks)
exception_in (activation a place ∷ ks) = exception_in ks
exception_in (iteration a it place ∷ ks) = exception_in ks
exception_in (ensuring o ∷ ks) = exception_in ks

-- What `defined?` tells (11.4.3.2) of what has no receiver, and of a constant or a method with one.

abbrev pub tell_alone : DefinedKind → Name → Memory → Answer
tell_alone asks.Expression x m = make m.world (text_object (codes "expression"))
tell_alone asks.LocalVariable x m = make m.world (text_object (codes "local-variable"))
tell_alone asks.SelfReference x m = make m.world (text_object (codes "self"))
tell_alone asks.Assignment x m = make m.world (text_object (codes "assignment"))
tell_alone asks.InstanceVariable x m = definitions.instance_variable_told m.world (self_of m) (symbol m x)
tell_alone asks.GlobalVariable x m = definitions.global_told m.world (symbol m x)
tell_alone asks.Constant x m = definitions.constant_told m.world (running m).classes (symbol m x)
tell_alone asks.Method x m = definitions.method_told m.world (self_of m) (self_of m) (symbol m x)
tell_alone asks.Yield x m = definitions.yield_told m.world (running m)
tell_alone asks.Super x m = definitions.super_told m.world (running m)

abbrev pub tell_of : DefinedKind → Name → Value → Memory → Answer
tell_of asks.Expression x v m = tell_alone asks.Expression x m
tell_of asks.LocalVariable x v m = tell_alone asks.LocalVariable x m
tell_of asks.SelfReference x v m = tell_alone asks.SelfReference x m
tell_of asks.Assignment x v m = tell_alone asks.Assignment x m
tell_of asks.InstanceVariable x v m = tell_alone asks.InstanceVariable x m
tell_of asks.GlobalVariable x v m = tell_alone asks.GlobalVariable x m
tell_of asks.Constant x v m = definitions.constant_in_told m.world v (symbol m x)
tell_of asks.Method x v m = definitions.method_told m.world (self_of m) v (symbol m x)
tell_of asks.Yield x v m = tell_alone asks.Yield x m
tell_of asks.Super x v m = tell_alone asks.Super x m

-- What an action does with the values of all parts.

abbrev pub within : Memory → List ℕ → Value → (ObjId → Answer) → Answer
within m instruction v further = definitions.with_space m.world instruction v
    (definitions.space_in m.world.store.objects v) further

abbrev pub define_in : Memory → Name → ℕ → Value → Answer
define_in m x n v =
    within m (codes "DEF") v (λ c. definitions.define_method m.world c (symbol m x) n (running m).classes)

abbrev pub define_after : Answer → Name → ℕ → List Item → Memory → world.Result → Config
define_after a x n ks m (world.gives v) = after (define_in (with_world m a.world) x n v) ks m
define_after a x n ks m (world.raises e) = after a ks m

abbrev pub open_after : Source → ℕ → Answer → List Item → Memory → Config
open_after s n a ks m = run_opened s n a.result a.world ks m

unfoldable pub finish : Source → Action → Value → Value → List Item → Memory → Config
finish s (assign x) v u ks m = Run (give v) ks (with_variable m x v)
finish s (assign_ivar x) v u ks m = after (values.set_instance_variable m.world (self_of m) (symbol m x) v) ks m
finish s (assign_gvar x) v u ks m = Run (give v) ks (with_world m (with_global m.world (symbol m x) v))
finish s (constant_in x) v u ks m =
    after (within m (codes "GETMCNST") v (λ c. get_constant_in m.world c (symbol m x))) ks m
finish s (assign_constant x) v u ks m = after (set_constant m.world (running m).classes (symbol m x) v) ks m
finish s (assign_constant_in x) v u ks m =
    after (within m (codes "SETMCNST") v (λ c. set_constant_in m.world c (symbol m x) u)) ks m
finish s (make_range x) v u ks m = after (values.make_range m.world v u x) ks m
finish s make_symbol v u ks m = after (values.make_symbol m.world v) ks m
finish s (element k) v u ks m = after (values.element m.world v k) ks m
finish s (elements_between from post) v u ks m = after (values.elements_between m.world v from post) ks m
finish s (last_elements from count) v u ks m = after (values.last_elements m.world v from count) ks m
finish s leave_method v u ks m =
    leave_to return (fail m.world cause.UnexpectedReturn) v ks m (Some (running m).home)
finish s leave_call v u ks m = leave_from (in_loop ks) v ks m
finish s leave_round v u ks m = Run (travel (next v)) ks m
finish s (define_on x n) v u ks m =
    define_after (definitions.singleton_class m.world v) x n ks m (definitions.singleton_class m.world v).result
finish s (open_class x n) v u ks m = open_after s n (definitions.open_class m.world v (symbol m x) u) ks m
finish s (open_module x n) v u ks m = open_after s n (definitions.open_module m.world v (symbol m x)) ks m
finish s (open_singleton n) v u ks m = open_after s n (definitions.singleton_class m.world v) ks m
finish s (tell k x) v u ks m = after (tell_of k x v m) ks m

-- all parts have their values, of which there are at most two; a parent that is absent counts as nil
abbrev pub complete : Source → Action → List Value → List Item → Memory → Config
complete s a vs ks m = finish s a (get_or vs 0 Nil) (get_or vs 1 Nil) ks m

abbrev pub next_operand : Source → ℕ → Action → List Value → Forms → List Item → Memory → Config
next_operand s n a vs none ks m = complete s a vs ks m
next_operand s n a vs (more e es) ks m = Run (perform n e) (part (operands (n + span e) a vs es) ∷ ks) m

abbrev pub one : CoreForm → Forms
one e = more e none

abbrev pub two : CoreForm → CoreForm → Forms
two a b = more a (more b none)

abbrev pub any : Maybe → Forms
any absent = none
any (there e) = one e

-- the class of the text stands in for a scope that is absent
abbrev pub in_scope : Source → ℕ → Action → Maybe → Forms → List Item → Memory → Config
in_scope s n a absent es ks m =
    next_operand s n a (Obj (class_around m.world (running m).classes) ∷ []) es ks m
in_scope s n a (there e) es ks m = next_operand s n a [] (more e es) ks m

abbrev pub do_defined : Source → ℕ → DefinedKind → Name → Maybe → List Item → Memory → Config
do_defined s n k x absent ks m = after (tell_alone k x m) ks m
do_defined s n k x (there e) ks m = next_operand s n (tell k x) [] (one e) ks m

-- A form whose first body has the number n, in the order of the forms: pseudo variables and literals (11.5.4.8 and 8.7.6),
-- variables and constants with their assignments (11.5.4 and 11.4.2.2), constructors (11.5.5), control structures (11.5.2
-- and 11.2), calls and blocks (11.3), jumps (11.5.2.4), definitions (13.1 to 13.4), `defined?` (11.4.3.2), and the
-- elements of multiple assignments (11.4.2.4).
unfoldable pub do_form : Source → ℕ → CoreForm → List Item → Memory → Config
do_form s n nil ks m = Run (give Nil) ks m
do_form s n truth ks m = Run (give True) ks m
do_form s n falsehood ks m = Run (give False) ks m
do_form s n self_ref ks m = Run (give (self_of m)) ks m
do_form s n (int z) ks m = Run (give (Int z)) ks m
do_form s n (str bytes) ks m = after (make m.world (text_object bytes)) ks m
do_form s n (sym x) ks m = Run (give (Sym (symbol m x))) ks m
do_form s n (local x) ks m = Run (give (variable m x)) ks m
do_form s n (own x) ks m = Run (give (own_variable m x)) ks m
do_form s n exception ks m = Run (give (exception_in ks)) ks m
do_form s n (set_local x e) ks m = next_operand s n (assign x) [] (one e) ks m
do_form s n (ivar x) ks m = Run (give (values.instance_variable m.world (self_of m) (symbol m x))) ks m
do_form s n (set_ivar x e) ks m = next_operand s n (assign_ivar x) [] (one e) ks m
do_form s n (gvar x) ks m = Run (give (global m.world (symbol m x))) ks m
do_form s n (set_gvar x e) ks m = next_operand s n (assign_gvar x) [] (one e) ks m
do_form s n (constant x) ks m = after (get_constant m.world (running m).classes (symbol m x)) ks m
do_form s n (top_constant x) ks m = after (get_constant_in m.world (core class.Object) (symbol m x)) ks m
do_form s n (in_constant e x) ks m = next_operand s n (constant_in x) [] (one e) ks m
do_form s n (constant_set x e) ks m = next_operand s n (assign_constant x) [] (one e) ks m
do_form s n (set_in_constant e x v) ks m = next_operand s n (assign_constant_in x) [] (two e v) ks m
do_form s n (array is) ks m = gather s n an_array is ks m
do_form s n (hash ps) ks m =
    next_pair n (next_number m.world.store) ps ks
    (with_world m (with_store m.world (with_object m.world.store
    (fresh (core class.Hash) (kind.Hash parts.no_pairs)))))
do_form s n (range a b x) ks m = next_operand s n (make_range x) [] (two a b) ks m
do_form s n (text es) ks m =
    next_piece n (next_number m.world.store) es ks
    (with_world m (with_store m.world (with_object m.world.store (text_object []))))
do_form s n (intern e) ks m = next_operand s n make_symbol [] (one e) ks m
do_form s n (seq es) ks m = do_all n es ks m
do_form s n (cond bs o) ks m = next_branch n bs o ks m
do_form s n (and_form a b) ks m = Run (perform n a) (part (and_then (n + span a) b) ∷ ks) m
do_form s n (or_form a b) ks m = Run (perform n a) (part (or_else (n + span a) b) ∷ ks) m
do_form s n (while_form first t b) ks m = do_loop n first t b ks m
do_form s n (call r x is b) ks m = do_receiver s n r x is b ks m
do_form s n (yield_form is) ks m = do_yield s n (running m).block is ks m
do_form s n (super_form is b) ks m = do_call s n to_super (self_of m) is b ks m
do_form s n (function f) ks m = after (make_proc m n f false) ks m
do_form s n (lambda f) ks m = after (make_proc m n f true) ks m
do_form s n (begin_form b cs o e) ks m = do_begin n b cs o e ks m
do_form s n (return_form e) ks m = next_operand s n leave_method [] (one e) ks m
do_form s n (break_form e) ks m = next_operand s n leave_call [] (one e) ks m
do_form s n (next_form e) ks m = next_operand s n leave_round [] (one e) ks m
do_form s n retry ks m = Run (travel begin_anew) ks m
do_form s n (define x f) ks m =
    after (definitions.define_method m.world (class_around m.world (running m).classes) (symbol m x) n
    (running m).classes) ks m
do_form s n (form_on e x f) ks m = next_operand s n (define_on x (n + span e)) [] (one e) ks m
do_form s n (class_form c x p f) ks m =
    in_scope s n (open_class x (n + span_maybe c + span_maybe p)) c (any p) ks m
do_form s n (module_form c x f) ks m = in_scope s n (open_module x (n + span_maybe c)) c none ks m
do_form s n (singleton_class e f) ks m = next_operand s n (open_singleton (n + span e)) [] (one e) ks m
do_form s n (alias_form new old) ks m =
    after (definitions.alias_method m.world (class_around m.world (running m).classes) (symbol m new) (symbol m old))
    ks m
do_form s n (undef_form x) ks m =
    after (definitions.undefine_method m.world (class_around m.world (running m).classes) (symbol m x)) ks m
do_form s n (defined k x e) ks m = do_defined s n k x e ks m
do_form s n (item e k) ks m = next_operand s n (element k) [] (one e) ks m
do_form s n (rest_of e from post) ks m = next_operand s n (elements_between from post) [] (one e) ks m
do_form s n (tail_of e from count) ks m = next_operand s n (last_elements from count) [] (one e) ks m
