-- Where the evaluation of a source stands.
use Rattle.std.specs.Prelude.{ℕ, ◌+◌, List, [], ◌∷◌, map, get_or, set, length, replicate}
use Rattle.path_core.specs.Form.{Name, Action, give_nil, Form, strict, Forms, none}
use Rattle.path_core.specs.Form.{place_of}
use Rattle.path_value.specs.declared.value.Value.{Value}
use Rattle.path_value.specs.declared.value.Value.TheVariants.{Nil}
use Rattle.path_value.specs.declared.failure.Failure.{Failure}
use Rattle.path_eval.specs.Seen.{End, Seen, Going, Over}

-- a body, with the names of its locals
pub record Body : Type 0 where
  pub names : List Name
  pub form : Form

-- the bodies of a source by number, of which 0 is the main program
abbrev pub Source : Type 0
Source = List Body

abbrev pub no_body : Body
no_body = record { names = []; form = strict give_nil none }

abbrev pub body_at : Source → ℕ → Body
body_at s k = get_or s k no_body

-- the part of a form that waits for a value inside one body
pub data Part : Type 0 where
  -- the operands that are left of a strict form, after these values
  operands : Action → List Value → Forms → Part
  -- the rest of a sequence
  rest : Forms → Part
  -- a test, whose form goes on with one of these two
  branch : Form → Form → Part
  -- the form that a test chose
  chosen : Part
  loop_test : Form → Form → Part
  loop_body : Form → Form → Part
  assign : Name → Part

-- What waits: a part of a form, or the end of an activation.
pub data Item : Type 0 where
  inside : Part → Item
  activation : ℕ → Item

-- what leaves forms before they have a value
pub data Exit : Type 0 where
  raise : Failure → Exit

pub data Focus : Type 0 where
  perform : Form → Focus
  give : Value → Focus
  travel : Exit → Focus

-- the local variables of an activation, by the names of the body that it runs
pub record Scope : Type 0 where
  pub of : ℕ
  pub values : List Value

-- an activation and a scope
pub record Place : Type 0 where
  pub activation : ℕ
  pub scope : ℕ

pub record World : Type 0 where
  pub place : Place
  pub scopes : List Scope
  pub input : List ℕ
  pub out : List ℕ

pub data Config : Type 0 where
  Run : Focus → List Item → World → Config
  Halt : End → Config

abbrev pub no_scope : Scope
no_scope = record { of = 0; values = [] }

abbrev pub scope_at : World → Scope
scope_at w = get_or w.scopes w.place.scope no_scope

-- the place of a name among the locals of the running body
abbrev pub local_of : Source → World → Name → ℕ
local_of s w x = place_of x (body_at s (scope_at w).of).names

abbrev pub named : Source → World → Name → Value
named s w x = get_or (scope_at w).values (local_of s w x) Nil

abbrev pub with_local : World → ℕ → Value → World
with_local w i v = record w {
  scopes = set w.scopes w.place.scope
      (record (scope_at w) { values = set (scope_at w).values i v });
}

-- the main program, with all its locals nil, nothing written, and this input
abbrev pub opening : Source → List ℕ → Config
opening s input =
    Run (perform (body_at s 0).form) (activation 1 ∷ []) (record {
      place = record { activation = 1; scope = 0 };
      scopes = record { of = 0; values = replicate (length (body_at s 0).names) Nil } ∷ [];
      input = input;
      out = [];
    })

abbrev pub seen : Config → Seen
seen (Run f ks w) = Going w.out
seen (Halt e) = Over e
