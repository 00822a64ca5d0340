-- What a call enters where all methods and Procs have such code: no body, or that of one of them.
use Rattle.std.proofs.Common.{◌≡◌, ℕ, List, [], ◌∷◌, refl, sym, ap, ◌∙◌, subst, Bool, true, false}
use Rattle.std.specs.Prelude.{if◌then◌else◌, bytes_eq, codes, nat_eq, position, Option, Some, None}
use Rattle.rb_value.specs.declared.value.Value.{Value}
use Rattle.rb_value.specs.declared.value.Value.TheVariants.{Sym, Obj}
use Rattle.rb_value.specs.declared.value.ObjId.{ObjId}
use Rattle.rb_value.specs.declared.value.SymId.{SymId}
use Rattle.rb_value.specs.declared.method.Method.{Method}
use Rattle.rb_value.specs.declared.method.Method.TheVariants as method
use Rattle.rb_value.specs.declared.method.MethodEntry.{MethodEntry}
use Rattle.rb_value.specs.declared.method.Visibility.{Visibility}
use Rattle.rb_value.specs.Object.{Object}
use Rattle.def_core.specs.declared.cause.Cause.{Cause}
use Rattle.def_core.specs.declared.cause.Cause.TheVariants as cause
use Rattle.def_core.specs.declared.found.Found.{Found}
use Rattle.def_core.specs.Store.{Store}
use Rattle.def_core.specs.Classes.{chain, class_of, plain_class_of}
use Rattle.def_core.specs.Find.{entry_of, found_as, found_or, first_of, find, behind, find_super, allowed}
use Rattle.def_core.specs.Changes.{Interned, intern_at, intern}
use Rattle.rite_code.specs.Code.{Program}
use Rattle.rite_code.specs.declared.operation.Operation.TheVariants as op
use Rattle.scope_resolver.specs.declared.body_kind.BodyKind.{BodyKind}
use Rattle.scope_resolver.specs.declared.body_kind.BodyKind.TheVariants as kind
use Rattle.gen_forms.specs.Gen.{return_by}
use Rattle.def_calls.specs.World.{World, Activation, fail, with_store}
use Rattle.def_calls.specs.Views.{Callable, by_body, by_row, callable_of, kind_in, object_in}
use Rattle.def_calls.specs.Definitions.{super_of}
use Rattle.def_calls.specs.Rows.{row_at, method_missing_row}
use Rattle.def_calls.specs.Rows
use Rattle.def_calls.specs.Calls.{Sending, by_name, by_bare_name, to_proc, to_super, answers, enter_kind, enter_row, enter_callable, enter_proc, enter_block, enter_method, enter_found, enter_missing, missing_by, missing, forbidden, enter_allowed, find_for, enter_unchecked, is_public, enter_public, send_by_core, enter_super, enter_value, call}
use Rattle.def_eval.specs.Source.{Source}
use Rattle.step_laws.specs.Bodies.{by_method, by_proc, EntersBody, IsMethod, IsEntry, HasCode, CallsBodies}

-- what a look-up finds is a method of some class
abbrev FoundIs : Source → Program → Option Found → Type 0
FoundIs s p None = Unit {0}
FoundIs s p (Some f) = IsMethod s p f.method

objects_interned : (st : Store) (name : List ℕ) → (intern st name).store.objects ≡ st.objects
unfolding intern
objects_interned st name = by (position (bytes_eq name) st.symbols)
  where
    by : (o : Option ℕ) → (intern_at st name o).store.objects ≡ st.objects
    by None = refl
    by (Some i) = refl

-- a return in the code of a block isn't that of a method
no_return : (k : BodyKind) (r : ℕ) → k ≡ kind.Block → return_by k r ≡ op.Return r → ⊥
no_return k r e f = absurd (cc (sym (ap (λ (q : BodyKind). return_by q r) e) ∙ f))

module _ (s : Source) (p : Program) (before : List Object) where
  found_as_is : (c : ObjId) (v : Visibility) (x : Method) → IsMethod s p x → FoundIs s p (found_as c v x)
  found_as_is c v (method.Body b classes) is = is
  found_as_is c v (method.Core r) is = tt
  found_as_is c v (method.Reader x) is = tt
  found_as_is c v (method.Writer x) is = tt
  found_as_is c v (method.Block o) is = tt
  found_as_is c v method.Undefined is = tt

  found_or_is : (c : ObjId) (e : Option MethodEntry) (o : Option Found) → IsEntry s p e → FoundIs s p o
      → FoundIs s p (found_or c e o)
  found_or_is c None o e is = is
  found_or_is c (Some x) o e is = found_as_is c x.visibility x.method e

  first_is : (objects : List Object) → CallsBodies s p before objects → (cs : List ObjId) (name : SymId)
      → FoundIs s p (first_of objects cs name)
  unfolding first_of
  first_is objects is [] name = tt
  first_is objects is (c ∷ cs) name =
      found_or_is c (entry_of objects c name) (first_of objects cs name) (is.methods c name)
      (first_is objects is cs name)

  find_is : (objects : List Object) → CallsBodies s p before objects → (c : ObjId) (name : SymId)
      → FoundIs s p (find objects c name)
  unfolding find
  find_is objects is c name = first_is objects is (chain objects c) name

  find_above : (objects : List Object) → CallsBodies s p before objects → (c owner : ObjId) (name : SymId)
      → FoundIs s p (find_super objects c owner name)
  unfolding find_super
  find_above objects is c owner name = first_is objects is (behind owner (chain objects c)) name

  row_entered : (w : World) (r : ℕ) (recv : Value) (args : List Value) (block : Option ObjId)
      → EntersBody s p before (enter_row w r recv args block)
  row_entered w r recv args block = by (row_at r)
    where
      by : (x : Rows.Row) → EntersBody s p before (enter_kind w r x recv args block)
      by Rows.of_table = tt
      by (Rows.outright q) = tt
      by (Rows.iterates q) = tt

  callable_entered : (w : World) (o : ObjId) (args : List Value) (block : Option ObjId) (x : Option Callable)
      → HasCode s p before x → EntersBody s p before (enter_callable w o args block x)
  callable_entered w o args block None is = tt
  callable_entered w o args block (Some (by_row r v)) is = row_entered w r v args block
  callable_entered w o args block (Some (by_body c)) is =
      record {
        code = is.0.code;
        called = by_proc is.1;
        home = λ r e. absurd (no_return is.0.code.context.kind_of r is.0.of_block e);
      }

  block_entered : (w : World) (recv : Value) (args : List Value) (block : Option ObjId) (x : Option Callable)
      → HasCode s p before x → EntersBody s p before (enter_block w recv args block x)
  block_entered w recv args block None is = tt
  block_entered w recv args block (Some (by_row r v)) is = row_entered w r v args block
  block_entered w recv args block (Some (by_body c)) is =
      record {
        code = is.0.code;
        called = by_proc is.1;
        home = λ r e. absurd (no_return is.0.code.context.kind_of r is.0.of_block e);
      }

  pub proc_entered : (w : World) → CallsBodies s p before w.store.objects → (o : ObjId) (args : List Value)
      (block : Option ObjId) → EntersBody s p before (enter_proc w o args block)
  unfolding enter_proc
  proc_entered w is o args block =
      callable_entered w o args block (callable_of (kind_in w.store.objects (Obj o))) (is.procs (Obj o))

  method_entered : (w : World) → CallsBodies s p before w.store.objects → (owner : ObjId) (name : SymId) (x : Method)
      (recv : Value) (args : List Value) (block : Option ObjId) → IsMethod s p x
      → EntersBody s p before (enter_method w owner name x recv args block)
  unfolding enter_method
  method_entered w is owner name (method.Body b classes) recv args block x =
      record { code = x.code; called = by_method x.of_method refl; home = λ r e. refl }
  method_entered w is owner name (method.Core r) recv args block x = row_entered w r recv args block
  method_entered w is owner name (method.Reader y) recv args block x = tt
  method_entered w is owner name (method.Writer y) recv args block x = tt
  method_entered w is owner name (method.Block o) recv args block x =
      block_entered w recv args block (callable_of (kind_in w.store.objects (Obj o))) (is.procs (Obj o))
  method_entered w is owner name method.Undefined recv args block x = tt

  -- where nothing is found, or what is found isn't allowed
  missing_entered : (w : World) → CallsBodies s p before w.store.objects → (name : SymId) (c : Cause) (recv : Value)
      (args : List Value) (block : Option ObjId) → EntersBody s p before (missing w name c recv args block)
  unfolding missing
  missing_entered w is name c recv args block = by (find u.store.objects (class_of u.store.objects recv) called)
      (find_is u.store.objects kept (class_of u.store.objects recv) called)
    where
      named : Interned
      named = intern w.store (codes "method_missing")

      u : World
      u = with_store w named.store

      called : SymId
      called = named.symbol

      kept : CallsBodies s p before u.store.objects
      kept = subst (CallsBodies s p before) (sym (objects_interned w.store (codes "method_missing"))) is

      core : (b : Bool) (r : ℕ) → EntersBody s p before (if b then answers (fail u c) else enter_row u r recv (Sym name ∷ args) block)
      core true r = tt
      core false r = row_entered u r recv (Sym name ∷ args) block

      on : (f : Found) (x : Method) → IsMethod s p f.method
          → EntersBody s p before (enter_missing u name c called f recv args block x)
      on f (method.Core r) i = core (nat_eq r method_missing_row) r
      on f (method.Body b classes) i = method_entered u kept f.owner called f.method recv (Sym name ∷ args) block i
      on f (method.Reader y) i = method_entered u kept f.owner called f.method recv (Sym name ∷ args) block i
      on f (method.Writer y) i = method_entered u kept f.owner called f.method recv (Sym name ∷ args) block i
      on f (method.Block o) i = method_entered u kept f.owner called f.method recv (Sym name ∷ args) block i
      on f method.Undefined i = tt

      by : (o : Option Found) → FoundIs s p o
          → EntersBody s p before (missing_by u name c called recv args block o)
      by None i = tt
      by (Some f) i = on f f.method i

  allowed_entered : (w : World) → CallsBodies s p before w.store.objects → (caller : Value) (name : SymId) (c : Cause)
      (recv : Value) (args : List Value) (block : Option ObjId) (o : Option Found) → FoundIs s p o
      → EntersBody s p before (enter_allowed w caller name c recv args block o)
  allowed_entered w is caller name c recv args block None i = missing_entered w is name c recv args block
  allowed_entered w is caller name c recv args block (Some f) i = by (allowed w.store.objects caller recv f)
    where
      by : (b : Bool) → EntersBody s p before (if b then enter_found w name f recv args block
          else missing w name (forbidden f.visibility name (plain_class_of w.store.objects recv)) recv args block)
      by true = method_entered w is f.owner name f.method recv args block i
      by false =
          missing_entered w is name (forbidden f.visibility name (plain_class_of w.store.objects recv)) recv args block

  unchecked_entered : (w : World) → CallsBodies s p before w.store.objects → (name : SymId) (recv : Value)
      (args : List Value) (block : Option ObjId) (o : Option Found) → FoundIs s p o
      → EntersBody s p before (enter_unchecked w name recv args block o)
  unchecked_entered w is name recv args block None i =
      missing_entered w is name (cause.UndefinedMethod name (plain_class_of w.store.objects recv)) recv args block
  unchecked_entered w is name recv args block (Some f) i =
      method_entered w is f.owner name f.method recv args block i

  public_entered : (w : World) → CallsBodies s p before w.store.objects → (name : SymId) (recv : Value)
      (args : List Value) (block : Option ObjId) (o : Option Found) → FoundIs s p o
      → EntersBody s p before (enter_public w name recv args block o)
  public_entered w is name recv args block None i = unchecked_entered w is name recv args block None tt
  public_entered w is name recv args block (Some f) i = by (is_public f.visibility)
    where
      by : (b : Bool) → EntersBody s p before (if b then enter_found w name f recv args block
          else missing w name (forbidden f.visibility name (plain_class_of w.store.objects recv)) recv args block)
      by true = method_entered w is f.owner name f.method recv args block i
      by false =
          missing_entered w is name (forbidden f.visibility name (plain_class_of w.store.objects recv)) recv args block

  pub sent_entered : (w : World) → CallsBodies s p before w.store.objects → (recv : Value) (name : SymId)
      (args : List Value) (block : Option ObjId) (public : Bool)
      → EntersBody s p before (send_by_core w recv name args block public)
  unfolding send_by_core
  sent_entered w is recv name args block false =
      unchecked_entered w is name recv args block (find_for w recv name)
      (find_is w.store.objects is (class_of w.store.objects recv) name)
  sent_entered w is recv name args block true =
      public_entered w is name recv args block (find_for w recv name)
      (find_is w.store.objects is (class_of w.store.objects recv) name)

  super_entered : (w : World) → CallsBodies s p before w.store.objects → (recv : Value) (args : List Value)
      (block : Option ObjId) (name : Option SymId) (o : Option Found) → FoundIs s p o
      → EntersBody s p before (enter_super w recv args block name o)
  super_entered w is recv args block None o i = tt
  super_entered w is recv args block (Some name) None i =
      missing_entered w is name (cause.NoSuperMethod name (plain_class_of w.store.objects recv)) recv args block
  super_entered w is recv args block (Some name) (Some f) i =
      method_entered w is f.owner name f.method recv args block i

  value_entered : (w : World) → CallsBodies s p before w.store.objects → (args : List Value) (block : Option ObjId)
      (o : Option ObjId) → EntersBody s p before (enter_value w args block o)
  value_entered w is args block None = tt
  value_entered w is args block (Some o) = proc_entered w is o args block

  pub call_entered : (w : World) → CallsBodies s p before w.store.objects → (a : Activation) (k : Sending) (recv : Value)
      (args : List Value) (block : Option ObjId) → EntersBody s p before (call w a k recv args block)
  unfolding call
  call_entered w is a (by_name x) recv args block =
      allowed_entered w is a.self x (cause.UndefinedMethod x (plain_class_of w.store.objects recv)) recv args block
      (find_for w recv x) (find_is w.store.objects is (class_of w.store.objects recv) x)
  call_entered w is a (by_bare_name x) recv args block =
      allowed_entered w is a.self x _ recv args block (find_for w recv x)
      (find_is w.store.objects is (class_of w.store.objects recv) x)
  call_entered w is a to_proc recv args block = value_entered w is args block (object_in recv)
  call_entered w is a to_super recv args block =
      super_entered w is recv args block a.name (super_of w a.self a.owner a.name) (above a.owner a.name)
    where
      above : (owner : Option ObjId) (name : Option SymId) → FoundIs s p (super_of w a.self owner name)
      above None name = tt
      above (Some owner) None = tt
      above (Some owner) (Some name) =
          find_above w.store.objects is (class_of w.store.objects a.self) owner name
