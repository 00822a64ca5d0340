-- Code of the body of a method or a block, and what is asked of the bodies that are entered.
use Rattle.std.specs.Prelude.{◌≡◌, ◌⊎◌, ◌≤◌, ℕ, zero, suc, ◌+◌, List, [], ◌∷◌, length, Bool, Option, Some, None}
use Rattle.rb_value.specs.declared.value.Value.{Value}
use Rattle.rb_value.specs.declared.value.ObjId.{ObjId}
use Rattle.rb_value.specs.declared.value.SymId.{SymId}
use Rattle.rb_value.specs.declared.method.Method.{Method}
use Rattle.rb_value.specs.declared.method.Method.TheVariants as method
use Rattle.rb_value.specs.declared.method.MethodEntry.{MethodEntry}
use Rattle.rb_value.specs.Object.{Object}
use Rattle.def_core.specs.Find.{entry_of}
use Rattle.rite_code.specs.Code.{Program}
use Rattle.rite_code.specs.declared.operation.Operation.TheVariants as op
use Rattle.ir_core.specs.CoreForm.{hidden, CoreForm, seq, Forms, none, more, Body, Parameters}
use Rattle.scope_resolver.specs.declared.body_kind.BodyKind.TheVariants as kind
use Rattle.scope_resolver.specs.declared.seek.Search.TheVariants.{Past}
use Rattle.scope_resolver.specs.Layout.{Scopes, named_slots, slots_of, seek}
use Rattle.gen_parts.specs.declared.line.Line.TheVariants as line
use Rattle.gen_parts.specs.declared.emitter.Spot.{Spot}
use Rattle.gen_parts.specs.Pieces.{past, behind}
use Rattle.gen_forms.specs.Gen.{Context, gen, others_in_turn, first_spot, ahead, parameters, return_by}
use Rattle.def_calls.specs.World.{World, Runs, next_activation}
use Rattle.def_calls.specs.Views.{Callable, by_body, by_row, callable_of, kind_in}
use Rattle.def_calls.specs.Calls.{Entry, answers, enters, begins, Opening}
use Rattle.def_eval.specs.Source.{Source, no_parameters, body_at, form_of, parameters_of, locals_of}
use Rattle.eval_laws.specs.Kinds.{IsKind, of_method, of_class}
use Rattle.eval_laws.specs.Procs.{HasProc}
use Rattle.step_laws.specs.Around.{Around}
use Rattle.step_laws.specs.Site.{Site, at_line, LineAt, Room}
use Rattle.step_laws.specs.Covers.{Covers, CoversAll}
use Rattle.step_laws.specs.Standing.{high, Stands}
use Rattle.step_laws.specs.Behind.{Static}

-- the body of a site
abbrev pub body_of : Site → Body
body_of h = body_at h.source h.body

-- one parameter for the rest of the arguments at most, and one for the block
pub record AreSingle (p : Parameters) : Type 0 where
  pub one_rest : length p.rest ≤ 1
  pub one_block : length p.block ≤ 1

-- Where none of its parameters is optional the code of the form stands behind ENTER, and the return of its value.
pub record FormAt (h : Site) (optional : ℕ) (f : CoreForm) : Type 0 where
  pub none_optional : optional ≡ 0
  pub covered : Covers h None h.first (behind (first_spot h.body)) (h.body + 1) f
  pub code : Stands h 1 (gen h.context (behind (first_spot h.body)) h.first f)
  pub ends : LineAt h (1 + high (gen h.context (behind (first_spot h.body)) h.first f)) (line.Does (op.Return h.first))

-- Else the form is a list that begins with the defaults, in the order of the parameters, behind jumps to each of them and
-- to what follows them.

-- where the form of that number in a list begins
abbrev pub start_of : Site → Spot → ℕ → Forms → ℕ
start_of h s zero es = s.line
start_of h s (suc i) none = s.line
start_of h s (suc i) (more e es) = start_of h (past s (gen h.context s h.first e)) i es

abbrev pub behind_jumps : Site → ℕ → Spot
behind_jumps h optional = ahead (behind (first_spot h.body)) (optional + 1)

pub record DefaultsAt (h : Site) (optional : ℕ) (f : CoreForm) : Type 0 where
  pub e : CoreForm
  pub es : Forms
  pub is : f ≡ seq (more e es)
  pub room : Room h h.first
  pub covered : CoversAll h None h.first (behind_jumps h optional) (h.body + 1) (more e es)
  pub jumps : (i : ℕ) → i ≤ optional
      → LineAt h (1 + i) (line.Jump (start_of h (behind_jumps h optional) i (more e es)))
  pub code : Stands h (2 + optional) (others_in_turn h.context (behind_jumps h optional) h.first (more e es))
  pub ends : LineAt h (2 + optional + high (others_in_turn h.context (behind_jumps h optional) h.first (more e es)))
      (line.Does (op.Return h.first))

-- ENTER, the code of the form, and the return of its value.
pub record BodyAt (h : Site) : Type 0 where
  pub static : Static h
  pub begins : at_line h 0 ≡ 0
  pub single : AreSingle (parameters_of (body_of h))
  -- the slots of its parameters and locals, and those that it sees around it
  pub around : Scopes
  pub scopes : h.context.scopes ≡ slots_of kind.Method (body_of h) ∷ around
  pub sees : Around h.source h.body around
  pub low : 1 + length (slots_of kind.Method (body_of h)) ≤ h.first
  -- hidden locals stand behind the slots
  pub none_hidden : (d : ℕ) → seek (hidden d) (slots_of kind.Method (body_of h)) (Past 1)
      ≡ Past (1 + length (slots_of kind.Method (body_of h)))
  pub outside : h.context.loop ≡ None
  pub enters : LineAt h 0 (line.Does (op.Enter (parameters (parameters_of (body_of h)))))
  pub form : FormAt h (length (parameters_of (body_of h)).optional) (form_of (body_of h))
      ⊎ DefaultsAt h (length (parameters_of (body_of h)).optional) (form_of (body_of h))

-- so it is in every run of the body
pub record BodyCode (s : Source) (p : Program) (b : ℕ) : Type 0 where
  pub wide : Bool
  pub at : List ℕ
  pub context : Context
  pub first : ℕ
  pub everywhere : (activation list : ℕ) (self : Value) (runs : Runs) → BodyAt (record {
    source = s;
    program = p;
    body = b;
    activation = activation;
    list = list;
    self = self;
    runs = runs;
    wide = wide;
    at = at;
    context = context;
    first = first;
    guards = [];
  })

-- and that of a block, in which a return is for the method around it
pub record ProcCode (s : Source) (p : Program) (b : ℕ) : Type 0 where
  pub code : BodyCode s p b
  pub of_block : code.context.kind_of ≡ kind.Block

-- and that of a method
pub record MethodCode (s : Source) (p : Program) (b : ℕ) : Type 0 where
  pub code : BodyCode s p b
  pub of_method : IsKind s b of_method

-- Code of the body of a class or a module, which sees no locals but its own: that of the form, and the return of its
-- value.
pub record ClassAt (h : Site) : Type 0 where
  pub static : Static h
  pub begins : at_line h 0 ≡ 0
  pub of_class : h.context.kind_of ≡ kind.Class
  pub bare : parameters_of (body_of h) ≡ no_parameters
  pub scopes : h.context.scopes ≡ named_slots (locals_of (body_of h)) ∷ []
  pub outside : h.context.loop ≡ None
  pub covered : Covers h None h.first (first_spot h.body) (h.body + 1) (form_of (body_of h))
  pub code : Stands h 0 (gen h.context (first_spot h.body) h.first (form_of (body_of h)))
  pub ends : LineAt h (high (gen h.context (first_spot h.body) h.first (form_of (body_of h))))
      (line.Does (op.Return h.first))

-- so it is in every run of the body
pub record ClassCode (s : Source) (p : Program) (b : ℕ) : Type 0 where
  pub wide : Bool
  pub at : List ℕ
  pub context : Context
  pub first : ℕ
  pub everywhere : (activation list : ℕ) (self : Value) (runs : Runs) → ClassAt (record {
    source = s;
    program = p;
    body = b;
    activation = activation;
    list = list;
    self = self;
    runs = runs;
    wide = wide;
    at = at;
    context = context;
    first = first;
    guards = [];
  })

-- A body that is entered is that of a method, or of a Proc that there was before.
pub data IsCalled (s : Source) (before : List Object) (o : Opening) : Type 0 where
  by_method : IsKind s o.body of_method → o.scopes ≡ [] → IsCalled s before o
  by_proc : HasProc before o.body o.scopes → IsCalled s before o

-- It has such code.
pub record OpensBody (s : Source) (p : Program) (before : List Object) (w : World) (o : Opening) : Type 0 where
  pub code : BodyCode s p o.body
  pub called : IsCalled s before o
  -- a return in the code of a method ends the activation that is opened
  pub home : (r : ℕ) → return_by code.context.kind_of r ≡ op.Return r → o.activation.home ≡ next_activation w

-- what a call enters is no body, or one with such code
abbrev pub EntersBody : Source → Program → List Object → Entry → Type 0
EntersBody s p before (answers a) = Unit {0}
EntersBody s p before (enters o w) = OpensBody s p before w o
EntersBody s p before (begins it a w) = Unit {0}

-- a method has no body, or one with such code
abbrev pub IsMethod : Source → Program → Method → Type 0
IsMethod s p (method.Body b classes) = MethodCode s p b
IsMethod s p (method.Core r) = Unit {0}
IsMethod s p (method.Reader x) = Unit {0}
IsMethod s p (method.Writer x) = Unit {0}
IsMethod s p (method.Block o) = Unit {0}
IsMethod s p method.Undefined = Unit {0}

abbrev pub IsEntry : Source → Program → Option MethodEntry → Type 0
IsEntry s p None = Unit {0}
IsEntry s p (Some e) = IsMethod s p e.method

-- a Proc is that of a row, or of a block with such code, and there was such a one before
abbrev pub HasCode : Source → Program → List Object → Option Callable → Type 0
HasCode s p before None = Unit {0}
HasCode s p before (Some (by_row r v)) = Unit {0}
HasCode s p before (Some (by_body c)) = ProcCode s p c.code × HasProc before c.code c.scopes

-- The methods of all classes are such ones, and all Procs: what a call enters is one of them.
pub record CallsBodies (s : Source) (p : Program) (before objects : List Object) : Type 0 where
  pub methods : (c : ObjId) (name : SymId) → IsEntry s p (entry_of objects c name)
  pub procs : (v : Value) → HasCode s p before (callable_of (kind_in objects v))
  -- and each body of a class or a module has code
  pub classes : (b : ℕ) → IsKind s b of_class → ClassCode s p b
