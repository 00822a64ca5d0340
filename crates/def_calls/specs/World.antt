-- What the evaluation of a source and the machine keep alike: the store, the global variables, the classes around
-- texts, the activations, what is left of the input, and the output (ISO/IEC 30170:2012, clause 7).
use Rattle.std.specs.Prelude.{ℕ, ◌+◌, ◌-◌, suc, zero, List, [], ◌∷◌, ◌++◌, length, get_or, nat_eq, Bool, Option, None, unwrap_or}
use Rattle.std.specs.Map.{lookup}
use Rattle.indexmap.specs.IndexMap.{insert_entry}
use Rattle.rb_value.specs.declared.value.Value.{Value}
use Rattle.rb_value.specs.declared.value.Value.TheVariants.{Nil, Obj}
use Rattle.rb_value.specs.declared.value.ObjId.{ObjId}
use Rattle.rb_value.specs.declared.value.SymId.{SymId}
use Rattle.rb_value.specs.declared.outcome.Failure.{Failure}
use Rattle.rb_value.specs.declared.outcome.Outcome.{Outcome}
use Rattle.rb_value.specs.declared.outcome.Outcome.TheVariants as outcome
use Rattle.rb_value.specs.Object.{Object}
use Rattle.rb_value.specs.declared.kind.Kind.TheVariants as kind
use Rattle.rb_value.specs.declared.core_class.CoreClass.TheVariants as class
use Rattle.def_core.specs.declared.cause.Cause.{Cause}
use Rattle.def_core.specs.Store.{Store, Done, core, fresh, next_number, with_object}
use Rattle.def_core.specs.Changes.{fails}

-- what an activation runs
pub data Runs : Type 0 where
  main_program : Runs
  method_body : Runs
  -- the body of this Proc, which doesn't count its arguments
  block_body : ObjId → Runs
  -- the body of a lambda, or of a block that was made a method: return and break end the activation itself
  lambda_body : Runs
  class_body : Runs
  core_method : Runs

pub record Activation : Type 0 where
  pub runs : Runs
  pub self : Value
  -- the class that has the method in whose text the body stands, and the name by which that method was called
  pub owner : Option ObjId
  pub name : Option SymId
  -- the activation that a return ends
  pub home : ℕ
  -- the number of the list of classes around the text
  pub classes : ℕ
  -- the Proc that a yield calls
  pub block : Option ObjId

-- the classes whose bodies enclose a text: the innermost, and the number of the list of those around it
pub record Enclosing : Type 0 where
  pub class : ObjId
  pub around : ℕ

pub record World : Type 0 where
  pub store : Store
  -- by the numbers of their names
  pub globals : List (ℕ × Value)
  -- list 0 has no classes, and the others are numbered from 1
  pub enclosing : List Enclosing
  -- numbered from 1, which is the main program
  pub activations : List Activation
  pub input : List ℕ
  pub out : List ℕ
  -- whether an exception that nothing rescued was asked for its message
  pub asked : Bool

-- what a form or an instruction gives or raises, and what it leaves
pub data Result : Type 0 where
  gives : Value → Result
  raises : ObjId → Result

pub record Answer : Type 0 where
  pub result : Result
  pub world : World

abbrev pub with_store : World → Store → World
with_store w st = record w { store = st }

abbrev pub give : World → Value → Answer
give w v = record { result = gives v; world = w }

-- a value, and a store that it is of
abbrev pub give_in : World → Store → Value → Answer
give_in w st v = give (with_store w st) v

-- a new object
abbrev pub make : World → Object → Answer
make w o = give_in w (with_object w.store o) (Obj (next_number w.store))

abbrev pub exception_object : Failure → Object
exception_object f = fresh (core f.class) (kind.Exception (Obj f.message) f.detail)

-- what fails adds its exception to the store
abbrev pub answer_in : World → Store → Outcome → Answer
answer_in w st (outcome.Value v) = give_in w st v
answer_in w st (outcome.Raise f) = record {
  result = raises (next_number st);
  world = with_store w (with_object st (exception_object f));
}

abbrev pub answer : World → Done → Answer
answer w d = answer_in w d.store d.outcome

unfoldable pub fail : World → Cause → Answer
fail w c = answer w (fails w.store c)

abbrev pub write : World → List ℕ → World
write w bytes = record w { out = w.out ++ bytes }

-- Activations (7.1).

abbrev pub no_activation : Activation
no_activation = record {
  runs = main_program;
  self = Nil;
  owner = None;
  name = None;
  home = 0;
  classes = 0;
  block = None;
}

unfoldable pub activation_at : World → ℕ → Activation
activation_at w a = get_or w.activations (a - 1) no_activation

-- the number of the next activation
abbrev pub next_activation : World → ℕ
next_activation w = length w.activations + 1

abbrev pub with_activation : World → Activation → World
with_activation w a = record w { activations = w.activations ++ a ∷ [] }

-- Enclosing classes (7.1).

abbrev pub no_enclosing : Enclosing
no_enclosing = record { class = core class.Object; around = 0 }

abbrev pub enclosing_at : World → ℕ → Enclosing
enclosing_at w n = get_or w.enclosing (n - 1) no_enclosing

-- the class in which a method is defined (13.3.1): the innermost, and Object outside of all
abbrev pub class_around : World → ℕ → ObjId
class_around w zero = core class.Object
class_around w (suc n) = (enclosing_at w (suc n)).class

-- the classes of a list, the innermost first: each list is around one with a greater number
abbrev pub classes_within : ℕ → World → ℕ → List ObjId
classes_within zero w n = []
classes_within (suc k) w zero = []
classes_within (suc k) w (suc n) = (enclosing_at w (suc n)).class ∷ classes_within k w (enclosing_at w (suc n)).around

unfoldable pub classes_around : World → ℕ → List ObjId
classes_around w n = classes_within n w n

-- the list with one class more has the next number
abbrev pub next_classes : World → ℕ
next_classes w = length w.enclosing + 1

abbrev pub with_enclosing : World → ObjId → ℕ → World
with_enclosing w c around = record w { enclosing = w.enclosing ++ (record { class = c; around = around }) ∷ [] }

-- Global variables (11.5.4.4): one that was never set is nil.

abbrev pub global : World → SymId → Value
global w name = unwrap_or (lookup (nat_eq name.0) w.globals) Nil

abbrev pub with_global : World → SymId → Value → World
with_global w name v = record w { globals = insert_entry nat_eq w.globals name.0 v }
