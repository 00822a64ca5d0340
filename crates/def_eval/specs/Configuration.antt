-- Where the evaluation of a source stands (ISO/IEC 30170:2012, clauses 7 and 9; fibers are an addition).
use Rattle.std.specs.Prelude.{ℕ, ℤ, ◌+◌, List, [], ◌∷◌, ◌++◌, Bool, ◌||◌, Option, None}
use Rattle.rb_value.specs.declared.value.Value.{Value}
use Rattle.rb_value.specs.declared.value.Value.TheVariants.{Nil}
use Rattle.rb_value.specs.declared.value.ObjId.{ObjId}
use Rattle.rb_syntax.specs.declared.core_form.DefinedKind.{DefinedKind}
use Rattle.def_calls.specs.World.{World}
use Rattle.def_calls.specs.Calls.{Sending, opening_world}
use Rattle.def_calls.specs.Plans.{Iteration}
use Rattle.def_calls.specs.Fibers.{Fibers}
use Rattle.def_calls.specs.Fibers as fibers
use Rattle.ir_core.specs.CoreForm.{Name, Local, CoreForm, Maybe, Forms, Items, Pairs, Branches, Clauses}
use Rattle.def_calls.specs.Seen.{End, Seen, Going, Over}
use Rattle.def_eval.specs.Source.{Source, body_at, form_of, locals_of, all_names, span, span_maybe}

-- an activation and a scope, by their numbers
pub record Place : Type 0 where
  pub activation : ℕ
  pub scope : ℕ

-- the variables of a run of a body; a block's has those around its text as its parent
pub record Scope : Type 0 where
  pub parent : Option ℕ
  pub variables : List (Local × Value)

-- What leaves forms before they have a value.
pub data Exit : Type 0 where
  raise : ObjId → Exit
  -- the value of the activation of that number, by a return and by a break
  return : ℕ → Value → Exit
  break : ℕ → Value → Exit
  -- the value of the innermost loop
  leave_loop : Value → Exit
  -- the next round of the innermost loop, or the value of the block's call
  next : Value → Exit
  -- the begin form of the innermost clause, from its start
  begin_anew : Exit

-- What a form does once all its parts have their values.
pub data Action : Type 0 where
  assign : Local → Action
  assign_ivar : Name → Action
  assign_gvar : Name → Action
  constant_in : Name → Action
  assign_constant : Name → Action
  assign_constant_in : Name → Action
  make_range : Bool → Action
  make_symbol : Action
  element : ℤ → Action
  elements_between : ℕ → ℕ → Action
  last_elements : ℕ → ℕ → Action
  leave_method : Action
  leave_call : Action
  leave_round : Action
  -- with the number of the body
  define_on : Name → ℕ → Action
  open_class : Name → ℕ → Action
  open_module : Name → ℕ → Action
  open_singleton : ℕ → Action
  tell : DefinedKind → Name → Action

-- what gathers elements: an Array, or a call with a splat, with what it calls, its receiver and its block
pub data Gathering : Type 0 where
  an_array : Gathering
  arguments_of : Sending → Value → Maybe → Gathering

-- the begin form that a retry runs anew
pub record Rescue : Type 0 where
  pub number : ℕ
  pub body : CoreForm
  pub clauses : Clauses
  pub otherwise : Maybe

-- The part of a form that waits for a value inside one body. A number is that of the first body in what is left to do.
pub data Part : Type 0 where
  operands : ℕ → Action → List Value → Forms → Part
  -- the receiver of a call
  receiver : ℕ → Name → Items → Maybe → Part
  -- an item of a call whose items are plain, after the receiver and these values
  items : ℕ → Sending → Value → List Value → Items → Maybe → Part
  -- the block argument of a call
  block : Sending → Value → List Value → Part
  -- an element of the new Array, whether it is a splat
  elements : ℕ → Gathering → ObjId → Bool → Items → Part
  -- a key and a value of the new Hash
  hash_key : ℕ → ObjId → CoreForm → Pairs → Part
  hash_value : ℕ → ObjId → Value → Pairs → Part
  -- a piece of the new String
  pieces : ℕ → ObjId → Forms → Part
  rest : ℕ → Forms → Part
  -- a test, with what is done where it is true, and the branches after it
  test : ℕ → CoreForm → Branches → CoreForm → Part
  -- the branch that a test chose, or the part that is done where nothing was raised
  chosen : Part
  and_then : ℕ → CoreForm → Part
  or_else : ℕ → CoreForm → Part
  loop_test : ℕ → CoreForm → CoreForm → Part
  loop_body : ℕ → CoreForm → CoreForm → Part
  -- the body of a begin form, whose clauses rescue it
  rescued : ℕ → CoreForm → Clauses → Maybe → Part
  -- a class of a clause, with the exception, the classes after it, the rest of the clause, and the clauses after it
  clause_class : ℕ → ObjId → Forms → Maybe → CoreForm → Clauses → Rescue → Part
  -- the assignment of the exception, and then the clause's body
  clause_target : ℕ → ObjId → CoreForm → Rescue → Part
  -- the body of a clause
  clause_body : Rescue → Part
  -- the body that an ensure part goes with
  ensured : ℕ → CoreForm → Part

-- What a part is for an exit that comes to it.
pub data Stop : Type 0 where
  passes : Stop
  -- a loop, with the number of its test
  loops : ℕ → CoreForm → CoreForm → Stop
  -- clauses, with their number
  rescues : ℕ → Rescue → Stop
  -- the assignment of an exception, in its clause
  assigns : ObjId → Rescue → Stop
  -- a clause, whose begin form may be begun anew: its classes and its body
  retries : Rescue → Stop
  ensures : ℕ → CoreForm → Stop

abbrev pub stop_of : Part → Stop
stop_of (operands n a vs es) = passes
stop_of (receiver n x is b) = passes
stop_of (items n k r vs is b) = passes
stop_of (block k r vs) = passes
stop_of (elements n g o s is) = passes
stop_of (hash_key n o v ps) = passes
stop_of (hash_value n o k ps) = passes
stop_of (pieces n o es) = passes
stop_of (rest n es) = passes
stop_of (test n b bs o) = passes
stop_of chosen = passes
stop_of (and_then n e) = passes
stop_of (or_else n e) = passes
stop_of (loop_test n t b) = loops n t b
stop_of (loop_body n t b) = loops n t b
stop_of (rescued n b cs o) = rescues (n + span b + span_maybe o) (record { number = n; body = b; clauses = cs; otherwise = o })
stop_of (clause_class n e es t b cs r) = retries r
stop_of (clause_target n e b r) = assigns e r
stop_of (clause_body r) = retries r
stop_of (ensured n e) = ensures n e

-- what an ensure part goes on with
pub data Outgoing : Type 0 where
  value : Value → Outgoing
  exit : Exit → Outgoing

-- What waits: a part of a form; the end of an activation, with its number and the place of its caller; an iteration
-- with its activation's number and the place of its caller; and an ensure part.
pub data Item : Type 0 where
  part : Part → Item
  activation : ℕ → Place → Item
  iteration : ℕ → Iteration → Place → Item
  ensuring : Outgoing → Item

-- what a fiber that waits goes on with
pub record Kept : Type 0 where
  pub items : List Item
  pub place : Place

pub data Focus : Type 0 where
  -- a form, and the number of the first body in it
  perform : ℕ → CoreForm → Focus
  give : Value → Focus
  travel : Exit → Focus

pub record Memory : Type 0 where
  pub place : Place
  pub scopes : List Scope
  pub fibers : Fibers Kept
  pub world : World

pub data Config : Type 0 where
  Run : Focus → List Item → Memory → Config
  Halt : End → Config

abbrev pub with_world : Memory → World → Memory
with_world m w = record m { world = w }

-- The opening configuration: the main program, all of whose variables are nil, over the opening store with the names
-- of all bodies.

abbrev pub opening_place : Place
opening_place = record { activation = 1; scope = 0 }

abbrev pub all_nil : List Local → List (Local × Value)
all_nil [] = []
all_nil (x ∷ xs) = (x, Nil) ∷ all_nil xs

unfoldable pub opening : Source → List ℕ → Config
opening s input =
    Run (perform 1 (form_of (body_at s 0))) (activation 1 opening_place ∷ []) (record {
      place = opening_place;
      scopes = (record { parent = None; variables = all_nil (locals_of (body_at s 0)) }) ∷ [];
      fibers = fibers.opening;
      world = opening_world (all_names s) input;
    })

unfoldable pub seen : Config → Seen
seen (Run f ks m) = Going m.world.out
seen (Halt e) = Over e
