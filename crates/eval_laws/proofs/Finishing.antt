-- What a form does once its parts have their values fits.
use Rattle.std.proofs.Common.{◌≡◌, ◌≤◌, ℕ, ◌+◌, List, length, arith, Bool, true, false, refl}
use Rattle.std.specs.Prelude.{Option, Some, None, codes, get_or}
use Rattle.rb_value.specs.declared.value.Value.{Value}
use Rattle.rb_value.specs.declared.value.Value.TheVariants.{Nil, True, False, Int, Sym, Obj}
use Rattle.rb_value.specs.declared.value.ObjId.{ObjId}
use Rattle.rb_syntax.specs.declared.core_form.DefinedKind.{DefinedKind}
use Rattle.rb_syntax.specs.declared.core_form.DefinedKind.TheVariants as asks
use Rattle.def_core.specs.declared.cause.Cause.TheVariants as cause
use Rattle.def_core.specs.Sound.{Census, census, ClassOrModule, Is, IsValue, OptionIs, AllAre}
use Rattle.ir_core.specs.CoreForm.{Name, Forms, none, more}
use Rattle.ir_core.specs.Program.{Around}
use Rattle.def_calls.specs.World.{Answer, Result, gives, raises, fail, with_global}
use Rattle.def_calls.specs.Calls.{break_target}
use Rattle.def_calls.specs.Views.{object_in}
use Rattle.def_calls.specs.Constants.{get_constant_in, set_constant_in}
use Rattle.def_calls.specs.Definitions as definitions
use Rattle.def_calls.specs.Definitions.{with_space, space_in}
use Rattle.def_calls.specs.Values as values
use Rattle.def_calls.specs.Values.{wrong_value}
use Rattle.def_eval.specs.Source.{Source, body_at, span}
use Rattle.def_eval.specs.Configuration as eval
use Rattle.def_eval.specs.Configuration.{Exit, Action, Item, Memory, with_world, Config, Run}
use Rattle.def_eval.specs.Scopes.{with_variable, running}
use Rattle.def_eval.specs.Entering.{symbol, after, run_class, run_opened}
use Rattle.def_eval.specs.Forms.{self_of, in_loop, is_under_way, leave_to, leave_from, tell_alone, tell_of, within, define_in, define_after, open_after, finish, next_operand}
use Rattle.world_laws.specs.Fine.{Bodies}
use Rattle.world_laws.specs.Outcomes.{AnswerIs, ResultIs, GivesSpace}
use Rattle.world_laws.proofs.Answers.{fails_with, answer_then, makes_text}
use Rattle.world_laws.proofs.Worlds.{keeps_global}
use Rattle.class_model.specs.Given.{IsClass}
use Rattle.world_laws.proofs.Holding.{space_is}
use Rattle.world_laws.proofs.Tables.{make_range_is}
use Rattle.world_laws.proofs.Classes.{singleton_class_gives, open_class_gives, open_module_gives, define_method_is, singleton_class_is, open_class_is, open_module_is, instance_variable_told_is, global_told_is, constant_told_is, constant_in_told_is, method_told_is, yield_told_is, super_told_is}
use Rattle.world_laws.proofs.Constants.{set_constant_is, set_constant_in_is, get_constant_in_is}
use Rattle.world_laws.proofs.Values.{value_at, wrong_value_is, set_instance_variable_is, element_is, elements_between_is, last_elements_is, make_symbol_is}
use Rattle.eval_laws.specs.Standing.{IsNamed, FormsStand, MethodStands, ClassStands}
use Rattle.eval_laws.specs.Fits.{Past, wanted, count, ActionFits, ExitFits, Fits, bodies}
use Rattle.eval_laws.proofs.Tests.{tested}
use Rattle.eval_laws.proofs.Going.{Under, Text, under_then, under_variable, running_is, symbol_is, goes, after_fits, does_part}
use Rattle.eval_laws.proofs.Entered.{class_fits}

-- Exits that lead to an item that is under way.

module _ (s : Source) (early : Past) (ks : List Item) (m : Memory) (u : Under s early ks m) where
  leaves_to : (exit : ℕ → Value → Exit) (failure : Answer) (v : Value) (o : Option ℕ)
      → ((a : ℕ) → is_under_way ks a ≡ true → ExitFits (census m.world.store) ks (exit a v))
      → AnswerIs (bodies s early.Known m.scopes) m.world failure → Fits s early (leave_to exit failure v ks m o)
  leaves_to exit failure v None f h = after_fits s early failure ks m u h
  leaves_to exit failure v (Some a) f h =
      tested (Fits s early) (is_under_way ks a) (Run (eval.travel (exit a v)) ks m) (after failure ks m)
      (λ e. goes s early (eval.travel (exit a v)) ks m u (f a e)) (λ e. after_fits s early failure ks m u h)

  leaves_from : (t : Bool) → in_loop ks ≡ t → (v : Value) → IsValue (census m.world.store) v
      → Fits s early (leave_from t v ks m)
  leaves_from true e v is = goes s early (eval.travel (eval.leave_loop v)) ks m u (e, is)
  leaves_from false e v is =
      leaves_to eval.break (fail m.world cause.BreakFromProc) v
      (break_target m.world m.place.activation (running m).runs) (λ a under. (under, is))
      (fails_with (bodies s early.Known m.scopes) m.world u.memory.world cause.BreakFromProc tt)

  spaced : (instruction : List ℕ) (v : Value) (next : ObjId → Answer) (o : Option ObjId)
      → OptionIs (Is (census m.world.store) ClassOrModule) o
      → ((c : ObjId) → Is (census m.world.store) ClassOrModule c → AnswerIs (bodies s early.Known m.scopes) m.world (next c))
      → AnswerIs (bodies s early.Known m.scopes) m.world (with_space m.world instruction v o next)
  spaced instruction v next None h f = wrong_value_is (bodies s early.Known m.scopes) m.world u.memory.world instruction
  spaced instruction v next (Some c) h f = f c h

  within_is : (instruction : List ℕ) (v : Value) (next : ObjId → Answer) → IsValue (census m.world.store) v
      → ((c : ObjId) → Is (census m.world.store) ClassOrModule c → AnswerIs (bodies s early.Known m.scopes) m.world (next c))
      → AnswerIs (bodies s early.Known m.scopes) m.world (within m instruction v next)
  within_is instruction v next is f =
      spaced instruction v next (space_in m.world.store.objects v)
      (space_is m.world.store u.memory.world.store v is) f

-- Bodies of classes that are opened.

space_there : (k : Census) (v : Value) → IsClass k v → OptionIs (Is k ClassOrModule) (object_in v)
space_there k Nil h = absurd h
space_there k True h = absurd h
space_there k False h = absurd h
space_there k (Int z) h = absurd h
space_there k (Sym x) h = absurd h
space_there k (Obj id) h = h

opened_space : (s : Source) (early : Past) (n : ℕ) (o : Option ObjId) (ks : List Item) (m : Memory)
    → Under s early ks m
    → OptionIs (Is (census m.world.store) ClassOrModule) o → ClassStands s n (body_at s n)
    → Fits s early (run_class s n o ks m)
opened_space s early n None ks m u h stands =
    after_fits s early (wrong_value m.world (codes "EXEC")) ks m u
    (wrong_value_is (bodies s early.Known m.scopes) m.world u.memory.world (codes "EXEC"))
opened_space s early n (Some c) ks m u h stands = class_fits s early n c ks m u h stands

-- a method that is defined on a class
defined_in : (s : Source) (early : Past) (ks : List Item) (m : Memory) (u : Under s early ks m) (x : Name) (n : ℕ) (v : Value) → IsNamed s x
    → MethodStands s n (body_at s n) → IsValue (census m.world.store) v
    → AnswerIs (bodies s early.Known m.scopes) m.world (define_in m x n v)
unfolding bodies
defined_in s early ks m u x n v named stands is =
    let own = running_is s early m u.memory in
    within_is s early ks m u (codes "DEF") v
    (λ c. definitions.define_method m.world c (symbol m x) n (running m).classes) is
    (λ c h. define_method_is (bodies s early.Known m.scopes) m.world u.memory.world c (symbol m x) n (running m).classes h
    (symbol_is s early m u.memory x named) (record { body = stands; classes = own.classes }))

module _ (s : Source) (early : Past) (ks : List Item) (m : Memory) (u : Under s early ks m) where
  opened : (n : ℕ) (a : Answer) → AnswerIs (bodies s early.Known m.scopes) m.world a → GivesSpace (census a.world.store) a.result
      → ClassStands s n (body_at s n) → Fits s early (open_after s n a ks m)
  opened n a h space stands = by a.result space
    where
      by : (r : Result) → GivesSpace (census a.world.store) r → Fits s early (run_opened s n r a.world ks m)
      by (gives v) is =
          opened_space s early n (object_in v) ks (with_world m a.world) (under_then s early ks m a.world u h.keeps)
          (space_there (census a.world.store) v is) stands
      by (raises e) is =
          goes s early (eval.travel (eval.raise e)) ks (with_world m a.world) (under_then s early ks m a.world u h.keeps) is

  defined_after : (a : Answer) (x : Name) (n : ℕ) → AnswerIs (bodies s early.Known m.scopes) m.world a → IsNamed s x
      → MethodStands s n (body_at s n) → Fits s early (define_after a x n ks m a.result)
  defined_after a x n h named stands = by a.result h.result
    where
      by : (r : Result) → ResultIs (census a.world.store) r → Fits s early (define_after a x n ks m r)
      by (gives v) is =
          let w = with_world m a.world in
          let later = under_then s early ks m a.world u h.keeps in
          after_fits s early (define_in w x n v) ks m u
          (answer_then (bodies s early.Known m.scopes) m.world a.world (define_in w x n v) h.keeps
          (defined_in s early ks w later x n v named stands is))
      by (raises e) is = after_fits s early a ks m u h

  -- What `defined?` tells.

  pub told_alone : (k : DefinedKind) (x : Name) → AnswerIs (bodies s early.Known m.scopes) m.world (tell_alone k x m)
  told_alone asks.Expression x = makes_text (bodies s early.Known m.scopes) m.world u.memory.world (codes "expression")
  told_alone asks.LocalVariable x = makes_text (bodies s early.Known m.scopes) m.world u.memory.world (codes "local-variable")
  told_alone asks.SelfReference x = makes_text (bodies s early.Known m.scopes) m.world u.memory.world (codes "self")
  told_alone asks.Assignment x = makes_text (bodies s early.Known m.scopes) m.world u.memory.world (codes "assignment")
  told_alone asks.InstanceVariable x =
      instance_variable_told_is (bodies s early.Known m.scopes) m.world u.memory.world (self_of m) (symbol m x)
  told_alone asks.GlobalVariable x = global_told_is (bodies s early.Known m.scopes) m.world u.memory.world (symbol m x)
  told_alone asks.Constant x =
      constant_told_is (bodies s early.Known m.scopes) m.world u.memory.world (running m).classes (symbol m x)
  told_alone asks.Method x =
      method_told_is (bodies s early.Known m.scopes) m.world u.memory.world (self_of m) (self_of m) (symbol m x)
  told_alone asks.Yield x = yield_told_is (bodies s early.Known m.scopes) m.world u.memory.world (running m)
  told_alone asks.Super x = super_told_is (bodies s early.Known m.scopes) m.world u.memory.world (running m)

  told : (k : DefinedKind) (x : Name) (v : Value) → AnswerIs (bodies s early.Known m.scopes) m.world (tell_of k x v m)
  told asks.Expression x v = told_alone asks.Expression x
  told asks.LocalVariable x v = told_alone asks.LocalVariable x
  told asks.SelfReference x v = told_alone asks.SelfReference x
  told asks.Assignment x v = told_alone asks.Assignment x
  told asks.InstanceVariable x v = told_alone asks.InstanceVariable x
  told asks.GlobalVariable x v = told_alone asks.GlobalVariable x
  told asks.Constant x v = constant_in_told_is (bodies s early.Known m.scopes) m.world u.memory.world v (symbol m x)
  told asks.Method x v = method_told_is (bodies s early.Known m.scopes) m.world u.memory.world (self_of m) v (symbol m x)
  told asks.Yield x v = told_alone asks.Yield x
  told asks.Super x v = told_alone asks.Super x

-- An action with its values.

module _ (s : Source) (early : Past) (ks : List Item) (m : Memory) (a : Around) (t : Text s early ks m a) where
  abbrev b : Bodies
  b = bodies s early.Known m.scopes

  pub finished : (action : Action) (v w : Value) → ActionFits s action → IsValue (census m.world.store) v
      → IsValue (census m.world.store) w → Fits s early (finish s action v w ks m)
  unfolding finish with_variable
  finished (eval.assign x) v w h is other =
      goes s early (eval.give v) ks (with_variable m x v) (under_variable s early ks m x v t.under is) is
  finished (eval.assign_ivar x) v w h is other =
      let fine = t.under.memory.world in
      after_fits s early (values.set_instance_variable m.world (self_of m) (symbol m x) v) ks m t.under
      (set_instance_variable_is b m.world fine (self_of m) (symbol m x) v (running_is s early m t.under.memory).self
      (symbol_is s early m t.under.memory x h) is)
  finished (eval.assign_gvar x) v w h is other =
      let k = keeps_global b m.world t.under.memory.world (symbol m x) v (symbol_is s early m t.under.memory x h) is in
      let u = with_global m.world (symbol m x) v in
      goes s early (eval.give v) ks (with_world m u) (under_then s early ks m u t.under k) is
  finished (eval.constant_in x) v w h is other =
      let further : ObjId → Answer = λ c. get_constant_in m.world c (symbol m x) in
      after_fits s early (within m (codes "GETMCNST") v further) ks m t.under
      (within_is s early ks m t.under (codes "GETMCNST") v further is
      (λ c space. get_constant_in_is b m.world t.under.memory.world c (symbol m x) space
      (symbol_is s early m t.under.memory x h)))
  finished (eval.assign_constant x) v w h is other =
      after_fits s early _ ks m t.under
      (set_constant_is b m.world t.under.memory.world (running m).classes (symbol m x) v
      (symbol_is s early m t.under.memory x h) is)
  finished (eval.assign_constant_in x) v w h is other =
      let further : ObjId → Answer = λ c. set_constant_in m.world c (symbol m x) w in
      after_fits s early (within m (codes "SETMCNST") v further) ks m t.under
      (within_is s early ks m t.under (codes "SETMCNST") v further is
      (λ c space. set_constant_in_is b m.world t.under.memory.world c (symbol m x) w space
      (symbol_is s early m t.under.memory x h) other))
  finished (eval.make_range x) v w h is other =
      after_fits s early (values.make_range m.world v w x) ks m t.under
      (make_range_is b m.world t.under.memory.world v w x)
  finished eval.make_symbol v w h is other =
      after_fits s early (values.make_symbol m.world v) ks m t.under (make_symbol_is b m.world t.under.memory.world v)
  finished (eval.element k) v w h is other =
      after_fits s early (values.element m.world v k) ks m t.under (element_is b m.world t.under.memory.world v k is)
  finished (eval.elements_between from post) v w h is other =
      after_fits s early (values.elements_between m.world v from post) ks m t.under
      (elements_between_is b m.world t.under.memory.world v from post is)
  finished (eval.last_elements from count) v w h is other =
      after_fits s early (values.last_elements m.world v from count) ks m t.under
      (last_elements_is b m.world t.under.memory.world v from count is)
  finished eval.leave_method v w h is other =
      leaves_to s early ks m t.under eval.return (fail m.world cause.UnexpectedReturn) v (Some (running m).home)
      (λ i under. (under, is)) (fails_with b m.world t.under.memory.world cause.UnexpectedReturn tt)
  finished eval.leave_call v w h is other = leaves_from s early ks m t.under (in_loop ks) refl v is
  finished eval.leave_round v w h is other = goes s early (eval.travel (eval.next v)) ks m t.under (t.there, is)
  finished (eval.define_on x n) v w h is other =
      defined_after s early ks m t.under (definitions.singleton_class m.world v) x n
      (singleton_class_is b m.world t.under.memory.world v is) h.0 h.1
  finished (eval.open_class x n) v w h is other =
      let name = symbol_is s early m t.under.memory x h.0 in
      opened s early ks m t.under n (definitions.open_class m.world v (symbol m x) w)
      (open_class_is b m.world t.under.memory.world v (symbol m x) w is name other)
      (open_class_gives b m.world t.under.memory.world v (symbol m x) w is name other) h.1
  finished (eval.open_module x n) v w h is other =
      let name = symbol_is s early m t.under.memory x h.0 in
      opened s early ks m t.under n (definitions.open_module m.world v (symbol m x))
      (open_module_is b m.world t.under.memory.world v (symbol m x) is name)
      (open_module_gives b m.world t.under.memory.world v (symbol m x) is name) h.1
  finished (eval.open_singleton n) v w h is other =
      opened s early ks m t.under n (definitions.singleton_class m.world v)
      (singleton_class_is b m.world t.under.memory.world v is)
      (singleton_class_gives b m.world t.under.memory.world v is) h
  finished (eval.tell k x) v w h is other =
      after_fits s early (tell_of k x v m) ks m t.under (told s early ks m t.under k x v)

  -- the operands of an action, left to right
  pub operands_done : (n : ℕ) (action : Action) (vs : List Value) (es : Forms) → wanted action ≤ length vs + count es
      → ActionFits s action → AllAre (IsValue (census m.world.store)) vs → FormsStand s a n es
      → Fits s early (next_operand s n action vs es ks m)
  operands_done n action vs none enough h all stands = finished action (get_or vs 0 Nil) (get_or vs 1 Nil) h
      (value_at (census m.world.store) vs 0 all) (value_at (census m.world.store) vs 1 all)
  operands_done n action vs (more e es) enough h all stands =
      does_part s early (eval.operands (n + span e) action vs es) n e ks m a t
      (h, all, stands.1, omega (arith, enough)) stands.0
