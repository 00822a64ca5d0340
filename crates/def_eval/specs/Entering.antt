-- How the evaluation enters what a call or an iteration calls, and how it runs the bodies of classes
-- (ISO/IEC 30170:2012, 11.3, 13.2.2 and 13.3.3).
use Rattle.std.specs.Prelude.{ℕ, zero, suc, ◌+◌, List, [], ◌∷◌, ◌++◌, length, codes, Bool, if◌then◌else◌, Option, Some, None}
use Rattle.rb_value.specs.declared.value.Value.{Value}
use Rattle.rb_value.specs.declared.value.Value.TheVariants.{Nil, True, False, Int, Sym, Obj}
use Rattle.rb_value.specs.declared.value.ObjId.{ObjId}
use Rattle.rb_value.specs.declared.value.SymId.{SymId}
use Rattle.rb_value.specs.declared.procs.Sending.TheVariants.{Unsent}
use Rattle.rb_value.specs.declared.kind.Kind.TheVariants as kind
use Rattle.rb_value.specs.declared.core_class.CoreClass.TheVariants as class
use Rattle.def_core.specs.declared.bound.Bound.{Bound}
use Rattle.def_core.specs.declared.bound.Bound.TheVariants.{Values, Wrong}
use Rattle.def_core.specs.declared.cause.Cause.TheVariants as cause
use Rattle.def_core.specs.Store.{core, fresh}
use Rattle.def_core.specs.Bind.{Binding, bind, least, most}
use Rattle.rb_value.specs.declared.method.Shape.{Shape}
use Rattle.def_core.specs.Changes.{intern}
use Rattle.def_calls.specs.World.{World, Activation, Answer, Result, gives, raises, make, fail, next_activation, with_activation, with_store}
use Rattle.def_calls.specs.Calls.{Entry, answers, enters, begins, Opening, is_full, settle, with_class_body}
use Rattle.def_calls.specs.Plans.{Iteration}
use Rattle.def_calls.specs.Views.{object_in}
use Rattle.def_calls.specs.Values.{wrong_value}
use Rattle.ir_core.specs.CoreForm.{Name, CoreForm, seq, Forms, none, more, Body}
use Rattle.def_eval.specs.Source.{Source, body_at, form_of, parameters_of, locals_of, span}
use Rattle.def_eval.specs.Configuration.{Place, Scope, raise, perform, give, travel, Item, part, activation, iteration, ensuring, rest, Memory, with_world, Config, Run}
use Rattle.def_eval.specs.Scopes.{scopes_around, shape_of, first_variables, running}

-- the symbol of a name, which the opening store has
abbrev pub symbol : Memory → Name → SymId
symbol m x = (intern m.world.store x).symbol

abbrev pub after_result : Result → World → List Item → Memory → Config
after_result (gives v) w ks m = Run (give v) ks (with_world m w)
after_result (raises e) w ks m = Run (travel (raise e)) ks (with_world m w)

-- goes on with what an answer gives or raises
abbrev pub after : Answer → List Item → Memory → Config
after a ks m = after_result a.result a.world ks m

-- how many activations are under way in the running fiber
abbrev pub depth : List Item → ℕ
depth [] = 0
depth (part p ∷ ks) = depth ks
depth (activation a place ∷ ks) = depth ks + 1
depth (iteration a it place ∷ ks) = depth ks + 1
depth (ensuring o ∷ ks) = depth ks

-- Bodies (13.3.2 and 13.3.3). Where k optional parameters are given, the body begins after the forms that assign their defaults.

abbrev pub do_all : ℕ → Forms → List Item → Memory → Config
do_all n none ks m = Run (give Nil) ks m
do_all n (more e es) ks m = Run (perform n e) (part (rest (n + span e) es) ∷ ks) m

abbrev pub do_from : ℕ → ℕ → Forms → List Item → Memory → Config
do_from zero n es ks m = do_all n es ks m
do_from (suc k) n none ks m = do_all n none ks m
do_from (suc k) n (more e es) ks m = do_from k (n + span e) es ks m

-- the forms of a body that is a sequence
abbrev pub forms_in : CoreForm → Forms
forms_in (seq es) = es
forms_in e = more e none

abbrev pub begin_body : ℕ → ℕ → CoreForm → List Item → Memory → Config
begin_body zero n e ks m = Run (perform n e) ks m
begin_body (suc k) n e ks m = do_from (suc k) n (forms_in e) ks m

abbrev pub first_of : List ℕ → Option ℕ
first_of [] = None
first_of (n ∷ ns) = Some n

-- the next place, with a new scope
abbrev pub next_place : Memory → World → Place
next_place m w = record { activation = next_activation w; scope = length m.scopes }

abbrev pub in_new_scope : Memory → World → Scope → Activation → Memory
in_new_scope m w scope a =
    record m { place = next_place m w; scopes = m.scopes ++ scope ∷ []; world = with_activation w a }

abbrev pub count_failure : World → Shape → ℕ → Answer
count_failure w s given =
    fail w (cause.WrongCount given (least s) (if s.rest then None else Some (most s)))

abbrev pub begin_bound : Opening → Body → Bound → List Item → Memory → World → Config
begin_bound o b (Values list filled) ks m w =
    begin_body filled (o.body + 1) (form_of b) (activation (next_activation w) m.place ∷ ks)
    (in_new_scope m w (record {
      parent = first_of o.scopes;
      variables = first_variables (parameters_of b) (locals_of b) list o.block;
    }) o.activation)
begin_bound o b (Wrong given) ks m w =
    let inside = in_new_scope m w (record {
      parent = first_of o.scopes;
      variables = first_variables (parameters_of b) (locals_of b) [] None;
    }) o.activation in
    after (count_failure inside.world (shape_of (parameters_of b)) given)
    (activation (next_activation w) m.place ∷ ks) inside

abbrev pub open_bound : Opening → Body → Binding → List Item → Memory → World → Config
open_bound o b bound ks m w = begin_bound o b bound.bound ks m (with_store w bound.store)

abbrev pub open_body : Source → Opening → List Item → Memory → World → Config
open_body s o ks m w =
    open_bound o (body_at s o.body)
    (bind w.store (shape_of (parameters_of (body_at s o.body))) o.arguments o.binds) ks m w

-- an iteration begins with nil as the answer to nothing
abbrev pub open_iteration : Iteration → Activation → List Item → Memory → World → Config
open_iteration it a ks m w =
    Run (give Nil) (iteration (next_activation w) it m.place ∷ ks) (record m {
      place = record m.place { activation = next_activation w };
      world = with_activation w a;
    })

-- Enters what a call of that block argument calls; at most 10,000 activations of a fiber are under way.
unfoldable pub enter : Source → Entry → Option ObjId → List Item → Memory → Config
enter s (answers a) block ks m = after (record a { world = settle a.world block None }) ks m
enter s (enters o w) block ks m =
    if is_full (depth ks) then after (fail (settle w block None) cause.StackTooDeep) ks m
    else open_body s o ks m (settle w block (Some (next_activation w)))
enter s (begins it a w) block ks m =
    if is_full (depth ks) then after (fail (settle w block None) cause.StackTooDeep) ks m
    else open_iteration it a ks m (settle w block (Some (next_activation w)))

-- The body of a class or module (13.2.2 and 13.1.2), which has a scope without a parent.

abbrev pub begin_class : ℕ → Body → ObjId → List Item → Memory → Config
begin_class n b c ks m =
    let w = with_class_body m.world (running m) c in
    Run (perform (n + 1) (form_of b)) (activation (next_activation m.world) m.place ∷ ks) (record m {
      place = next_place m m.world;
      scopes =
          m.scopes ++ (record {
            parent = None;
            variables = first_variables (parameters_of b) (locals_of b) [] None;
          }) ∷ [];
      world = w;
    })

abbrev pub run_class : Source → ℕ → Option ObjId → List Item → Memory → Config
run_class s n None ks m = after (wrong_value m.world (codes "EXEC")) ks m
run_class s n (Some c) ks m =
    if is_full (depth ks) then after (fail m.world cause.StackTooDeep) ks m
    else begin_class n (body_at s n) c ks m

-- runs the body of the class that an answer gives
abbrev pub run_opened : Source → ℕ → Result → World → List Item → Memory → Config
run_opened s n (gives v) w ks m = run_class s n (object_in v) ks (with_world m w)
run_opened s n (raises e) w ks m = Run (travel (raise e)) ks (with_world m w)

-- A Proc of body n with the scopes around it (11.3.3 and 15.2.17).
unfoldable pub make_proc : Memory → ℕ → Body → Bool → Answer
make_proc m n b lambda =
    let a = running m in
    make m.world (fresh (core class.Proc) (kind.Proc (record {
      code = n;
      shape = shape_of (parameters_of b);
      scopes = scopes_around m.scopes m.place.scope;
      receiver = a.self;
      owner = a.owner;
      name = a.name;
      classes = a.classes;
      home = a.home;
      sending = Unsent;
      block = a.block;
      lambda = lambda;
    })))
