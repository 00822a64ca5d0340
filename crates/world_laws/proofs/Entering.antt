-- What a call of a Proc or of a method enters.
use Rattle.std.proofs.Common.{◌≡◌, ℕ, ◌+◌, List, [], ◌∷◌, ◌++◌, length, get_or, Bool, true, false, refl, arith, length-append, inl, inr, if◌then◌else◌}
use Rattle.std.specs.Prelude.{Option, Some, None, nat_eq}
use Rattle.rb_value.specs.declared.value.Value.{Value}
use Rattle.rb_value.specs.declared.value.Value.TheVariants.{Nil, Obj}
use Rattle.rb_value.specs.declared.value.ObjId.{ObjId}
use Rattle.rb_value.specs.declared.value.SymId.{SymId}
use Rattle.rb_value.specs.declared.method.Method.{Method}
use Rattle.rb_value.specs.declared.method.Method.TheVariants as method
use Rattle.rb_value.specs.declared.procs.ProcContents.{ProcContents}
use Rattle.rb_value.specs.declared.kind.Sort.TheVariants as sort
use Rattle.def_core.specs.declared.cause.Cause.TheVariants as cause
use Rattle.def_core.specs.Store.{Store}
use Rattle.def_core.specs.Classes.{plain_class_of}
use Rattle.def_core.specs.Sound.{Census, census, Any, ClassOrModule, Proc, Is, IsSymbol, IsValue, OptionIs, AllAre, SoundMethod}
use Rattle.class_model.proofs.Lineages.{any_of}
use Rattle.def_rows.specs.Rows.{prim}
use Rattle.def_calls.specs.World.{World, Activation, Answer, with_store, give, fail, with_activation, next_activation}
use Rattle.def_calls.specs.Views.{Callable, by_body, by_row, kind_in, callable_of}
use Rattle.def_calls.specs.Values.{instance_variable, set_instance_variable}
use Rattle.def_calls.specs.Rows as rows
use Rattle.def_calls.specs.Plain.{outright}
use Rattle.def_calls.specs.Plans.{reporting}
use Rattle.def_calls.specs.Calls.{Opening, Entry, answers, enters, begins, core_activation, asking, enter_kind, enter_row, proc_runs, proc_home, proc_activation, enter_callable, enter_proc, as_method, enter_block, method_activation, counted, enter_method}
use Rattle.world_laws.specs.Fine.{Bodies, Extends, IsException, IsActivation, MethodIs, RunIs, Fine, Keeps}
use Rattle.world_laws.specs.Outcomes.{AnswerIs, CallableIs, OpensBody, OpensIn, OpeningIs, BeginsIs, EntryIs}
use Rattle.world_laws.proofs.Growing.{extends_itself, activation_number_stays}
use Rattle.world_laws.proofs.Standing.{activation_stays, keeps_itself, keeps_then}
use Rattle.world_laws.proofs.Worlds.{extends_activation, keeps_asking}
use Rattle.world_laws.proofs.Answers.{answer_then, answers_done, gives_value, fails_with}
use Rattle.world_laws.proofs.Changing.{has_any}
use Rattle.world_laws.proofs.Holding.{callable_is, runs_proc}
use Rattle.world_laws.proofs.Searching.{plain_class_is}
use Rattle.world_laws.proofs.Values.{value_at, wrong_value_is, instance_variable_is, set_instance_variable_is}
use Rattle.world_laws.proofs.Tables.{prim_is}
use Rattle.world_laws.proofs.PlainRows.{outright_is}
use Rattle.world_laws.proofs.Plans.{values_stay, block_stays}

-- Activations that are opened.

next_is_there : (w : World) (a : Activation) → IsActivation (with_activation w a) (next_activation w)
next_is_there w a =
    let e : length (w.activations ++ a ∷ []) ≡ length w.activations + 1 = length-append w.activations (a ∷ []) in
    (omega arith, omega (arith, e))

core_opens : (w : World) (recv : Value) → IsValue (census w.store) recv → OpensIn w (core_activation w recv)
core_opens w recv is = record {
  runs = tt;
  self = is;
  owner = tt;
  name = tt;
  home = next_is_there w (core_activation w recv);
  classes = omega arith;
  block = tt;
}

-- an exception that nothing rescued is asked for its message
pub report_begins : (b : Bodies) (w : World) → Fine b w → (e : ObjId) → IsException (census w.store) e
    → BeginsIs b w (reporting e) (core_activation w (Obj e)) (asking w)
report_begins b w fine e is = record {
  keeps = keeps_asking b w fine;
  state = is;
  activation = core_opens (asking w) (Obj e) (has_any w.store sort.Exception e is);
  core = refl;
}

runs_by : (k : Census) (self : Value) (p : ObjId) (lambda : Bool) → Is k Proc p → RunIs k self (proc_runs lambda p)
runs_by k self p true is = tt
runs_by k self p false is = is

home_by : (w : World) (a : Activation) (lambda : Bool) (home : ℕ) → IsActivation w home
    → IsActivation (with_activation w a) (proc_home lambda w home)
home_by w a true home is = next_is_there w a
home_by w a false home is = activation_number_stays w (with_activation w a) (extends_activation w a) home is

module _ (b : Bodies) (w : World) where
  proc_opens : (p : ObjId) (c : ProcContents) → Is (census w.store) Proc p → CallableIs b w (by_body c)
      → OpensIn w (proc_activation w p c)
  proc_opens p c is h = record {
    runs = runs_by (census w.store) c.receiver p c.lambda is;
    self = h.0.receiver;
    owner = h.0.owner;
    name = h.0.name;
    home = home_by w (proc_activation w p c) c.lambda c.home (b.proc_home w c h.1);
    classes = b.proc_classes w c h.1;
    block = h.0.block;
  }

  block_opens : (recv : Value) (c : ProcContents) → IsValue (census w.store) recv → CallableIs b w (by_body c)
      → OpensIn w (as_method w recv c)
  block_opens recv c is h = record {
    runs = tt;
    self = is;
    owner = h.0.owner;
    name = h.0.name;
    home = next_is_there w (as_method w recv c);
    classes = b.proc_classes w c h.1;
    block = h.0.block;
  }

  method_opens : (owner : ObjId) (name : SymId) (body classes : ℕ) (recv : Value) (block : Option ObjId)
      → Is (census w.store) ClassOrModule owner → IsSymbol (census w.store) name → b.BodyIs w body classes
      → IsValue (census w.store) recv → OptionIs (Is (census w.store) Proc) block
      → OpensIn w (method_activation w owner name classes recv block)
  method_opens owner name body classes recv block space symbol has is proc = record {
    runs = tt;
    self = is;
    owner = space;
    name = symbol;
    home = next_is_there w (method_activation w owner name classes recv block);
    classes = b.body_classes w body classes has;
    block = proc;
  }

-- a call that comes after a change of the world
pub entry_then : (b : Bodies) (w v : World) (e : Entry) → Keeps b w v → EntryIs b v e → EntryIs b w e
entry_then b w v (answers a) k h = answer_then b w v a k h
entry_then b w v (enters o u) k h = record { keeps = keeps_then b w v u k h.keeps; opening = h.opening }
entry_then b w v (begins it a u) k h = record {
  keeps = keeps_then b w v u k h.keeps;
  state = h.state;
  activation = h.activation;
  core = h.core;
}

-- an activation to open, and what is entered, are right where only the store grows
opens_later : (w : World) (st : Store) (a : Activation) → Extends w (with_store w st)
    → Extends (with_activation w a) (with_activation (with_store w st) a)
opens_later w st a e = record {
  sorts = e.sorts;
  symbols = e.symbols;
  enclosing = e.enclosing;
  activations = (extends_itself (with_activation w a)).activations;
}

pub opens_stays : (w : World) (st : Store) (a : Activation) → Extends w (with_store w st) → OpensIn w a
    → OpensIn (with_store w st) a
opens_stays w st a e h = activation_stays (with_activation w a) (with_activation (with_store w st) a)
    (opens_later w st a e) a h

body_stays : (b : Bodies) (w v : World) → Extends w v → (body : ℕ) (scopes : List ℕ) (classes : ℕ)
    → OpensBody b w body scopes classes → OpensBody b v body scopes classes
body_stays b w v e body scopes classes (inl h) = inl (b.body_stays w v body classes e h.0, h.1)
body_stays b w v e body scopes classes (inr h) = inr (h.0, b.proc_stays w v h.0 e h.1, h.2, h.3, h.4)

pub opening_stays : (b : Bodies) (w : World) (st : Store) (o : Opening) → Extends w (with_store w st) → OpeningIs b w o
    → OpeningIs b (with_store w st) o
opening_stays b w st o e h = record {
  body = body_stays b w (with_store w st) e o.body o.scopes o.activation.classes h.body;
  activation = opens_stays w st o.activation e h.activation;
  arguments = values_stay w (with_store w st) e o.arguments h.arguments;
  block = block_stays w (with_store w st) e o.block h.block;
}

module _ (b : Bodies) (w : World) (fine : Fine b w) where
  module _ (args : List Value) (block : Option ObjId) (all : AllAre (IsValue (census w.store)) args)
      (proc : OptionIs (Is (census w.store) Proc) block) where
    kind_is : (r : ℕ) (row : rows.Row) (recv : Value) → IsValue (census w.store) recv
        → EntryIs b w (enter_kind w r row recv args block)
    kind_is r rows.of_table recv is =
        answers_done b w fine (prim r recv args block w.store) (prim_is b w fine r recv args block is all)
    kind_is r (rows.outright p) recv is =
        answers_done b w fine (outright p w.store recv args block) (outright_is b w fine recv args block is all proc p)
    kind_is r (rows.iterates s) recv is = record {
      keeps = keeps_itself b w fine;
      state = (is, all, proc);
      activation = core_opens w recv is;
      core = refl;
    }

    pub row_is : (r : ℕ) (recv : Value) → IsValue (census w.store) recv → EntryIs b w (enter_row w r recv args block)
    row_is r recv is = kind_is r (rows.row_at r) recv is

    -- Procs.

    callable_enters : (p : ObjId) (o : Option Callable) → OptionIs (CallableIs b w) o
        → OptionIs (λ _. Is (census w.store) Proc p) o → EntryIs b w (enter_callable w p args block o)
    callable_enters p None h runs = wrong_value_is b w fine _
    callable_enters p (Some (by_row r v)) h runs = row_is r v h
    callable_enters p (Some (by_body c)) h runs = record {
      keeps = keeps_itself b w fine;
      opening = record {
        body = inr (c, h.1, refl, refl, refl);
        activation = proc_opens b w p c runs h;
        arguments = all;
        block = proc;
      };
    }

    pub proc_enters : (p : ObjId) → Is (census w.store) Any p → EntryIs b w (enter_proc w p args block)
    unfolding enter_proc
    proc_enters p is = callable_enters p (callable_of (kind_in w.store.objects (Obj p)))
        (callable_is b w fine (Obj p) is) (runs_proc w.store fine.store p is)

    block_enters : (recv : Value) (o : Option Callable) → IsValue (census w.store) recv → OptionIs (CallableIs b w) o
        → EntryIs b w (enter_block w recv args block o)
    block_enters recv None is h = wrong_value_is b w fine _
    block_enters recv (Some (by_row r v)) is h = row_is r v h
    block_enters recv (Some (by_body c)) is h = record {
      keeps = keeps_itself b w fine;
      opening = record {
        body = inr (c, h.1, refl, refl, refl);
        activation = block_opens b w recv c is h;
        arguments = all;
        block = proc;
      };
    }

    -- Methods.

    count : (n : ℕ) (a : Answer) → AnswerIs b w a → AnswerIs b w (counted w n args a)
    count n a h = by (nat_eq (length args) n)
      where
        by : (c : Bool) → AnswerIs b w (if c then a else fail w (cause.WrongCount (length args) n (Some n)))
        by true = h
        by false = fails_with b w fine (cause.WrongCount (length args) n (Some n)) tt

    pub method_enters : (owner : ObjId) (name : SymId) (m : Method) (recv : Value)
        → Is (census w.store) ClassOrModule owner → IsSymbol (census w.store) name → SoundMethod (census w.store) m
        → MethodIs b w m → IsValue (census w.store) recv → EntryIs b w (enter_method w owner name m recv args block)
    unfolding enter_method
    method_enters owner name (method.Body body classes) recv space symbol sound has is = record {
      keeps = keeps_itself b w fine;
      opening = record {
        body = inl (has, refl);
        activation = method_opens b w owner name body classes recv block space symbol has is proc;
        arguments = all;
        block = proc;
      };
    }
    method_enters owner name (method.Core r) recv space symbol sound has is = row_is r recv is
    method_enters owner name (method.Reader n) recv space symbol sound has is =
        count 0 (give w (instance_variable w recv n))
        (gives_value b w fine (instance_variable w recv n) (instance_variable_is b w fine recv n is))
    method_enters owner name (method.Writer n) recv space symbol sound has is =
        count 1 (set_instance_variable w recv n (get_or args 0 Nil))
        (set_instance_variable_is b w fine recv n (get_or args 0 Nil) is sound (value_at (census w.store) args 0 all))
    method_enters owner name (method.Block p) recv space symbol sound has is =
        block_enters recv (callable_of (kind_in w.store.objects (Obj p))) is
        (callable_is b w fine (Obj p) (any_of w.store Proc p sound))
    method_enters owner name method.Undefined recv space symbol sound has is =
        fails_with b w fine (cause.UndefinedMethod name (plain_class_of w.store.objects recv))
        (symbol, plain_class_is w.store fine.store recv is)
