-- What begins and ends an activation keeps a world fine, and what is read.
use Rattle.std.proofs.Common.{◌≡◌, ℕ, zero, suc, ◌+◌, ◌-◌, ◌<◌, List, [], ◌∷◌, length, get_or, take, drop, Bool, true, false, refl, arith, length-append, if◌then◌else◌, ◌^◌}
use Rattle.std.specs.Prelude.{Option, Some, None, nat_lt, nat_eq}
use Rattle.rb_value.specs.declared.value.Value.{Value}
use Rattle.rb_value.specs.declared.value.Value.TheVariants.{Nil, True, False, Int, Sym, Obj}
use Rattle.rb_value.specs.declared.value.ObjId.{ObjId}
use Rattle.rb_value.specs.declared.method.Visibility.TheVariants.{Public}
use Rattle.rb_value.specs.declared.kind.Kind.TheVariants as kind
use Rattle.rb_value.specs.declared.core_class.CoreClass.TheVariants as class
use Rattle.rb_value.specs.Value.{truth}
use Rattle.def_core.specs.declared.cause.Cause.TheVariants as cause
use Rattle.def_core.specs.Store.{core, fresh}
use Rattle.def_core.specs.Classes.{class_of, chain, is_member}
use Rattle.def_core.specs.Sound.{census, ClassOrModule, Proc, Is, IsValue, OptionIs, AllAre}
use Rattle.def_core.proofs.Grows.{core_is_class, new_role}
use Rattle.class_model.proofs.Lineages.{any_of}
use Rattle.def_rows.specs.Answers.{text_object}
use Rattle.def_calls.specs.World.{World, Activation, Runs, main_program, method_body, block_body, lambda_body, class_body, core_method, give, make, fail, no_activation, activation_at, with_activation, with_enclosing}
use Rattle.def_calls.specs.Views.{object_in, Callable, kind_in, callable_of}
use Rattle.def_calls.specs.Definitions.{space_in, with_public_default}
use Rattle.def_calls.specs.Rows.{send_kept_row}
use Rattle.def_calls.specs.Plans.{line_length}
use Rattle.def_calls.specs.Calls.{proc_or_not, block_argument, settle, is_of_space, is_of, class_activation, with_class_body, close_space, close_run, close, one_of, read_line, read_limit, read}
use Rattle.world_laws.specs.Fine.{Bodies, Extends, IsActivation, RunIs, ActivationIs, Fine, Keeps}
use Rattle.world_laws.specs.Outcomes.{AnswerIs, OpensIn, BlockArgumentIs}
use Rattle.world_laws.proofs.Growing.{role_stays, activation_number_stays}
use Rattle.world_laws.proofs.Standing.{keeps_itself, keeps_then}
use Rattle.world_laws.proofs.Stores.{keeps_object}
use Rattle.world_laws.proofs.Worlds.{keeps_input, keeps_activation, keeps_enclosing, extends_activation}
use Rattle.world_laws.proofs.Answers.{answer_then, gives_value, makes_items, makes_text, fails_with}
use Rattle.world_laws.proofs.Changing.{keeps_default, keeps_sent}
use Rattle.world_laws.proofs.Holding.{runs_proc}
use Rattle.world_laws.proofs.Checking.{truth_is}

-- Activations by their numbers.

runs_at : (w : World) (list : List Activation) (n : ℕ) → AllAre (ActivationIs w) list
    → RunIs (census w.store) (get_or list n no_activation).self (get_or list n no_activation).runs
runs_at w [] n all = tt
runs_at w (a ∷ rest) zero all = all.0.runs
runs_at w (a ∷ rest) (suc n) all = runs_at w rest n all.1

activation_in : (w : World) (list : List Activation) (n : ℕ) → AllAre (ActivationIs w) list → n < length list
    → ActivationIs w (get_or list n no_activation)
activation_in w [] n all h = absurd (omega (arith, h))
activation_in w (a ∷ rest) zero all h = all.0
activation_in w (a ∷ rest) (suc n) all h = activation_in w rest n all.1 (omega (arith, h))

module _ (b : Bodies) (w : World) (fine : Fine b w) where
  -- the activation of a number
  pub activation_at_is : (a : ℕ) → IsActivation w a → ActivationIs w (activation_at w a)
  unfolding activation_at
  activation_at_is a is = activation_in w w.activations (a - 1) fine.activations (omega (arith, is.0, is.1))

  -- Blocks.

  proc_or_not_is : (p : ObjId) (o : Option Callable) → OptionIs (λ _. Is (census w.store) Proc p) o
      → BlockArgumentIs b w (proc_or_not w p o)
  proc_or_not_is p None is = tt
  proc_or_not_is p (Some c) is = (keeps_itself b w fine, is)

  pub block_argument_is : (x : Value) → IsValue (census w.store) x → BlockArgumentIs b w (block_argument w x)
  unfolding block_argument
  block_argument_is Nil is = tt
  block_argument_is True is = tt
  block_argument_is False is = tt
  block_argument_is (Int z) is = tt
  block_argument_is (Sym s) is = (
    keeps_object b w fine (fresh (core class.Proc) (kind.CoreProc send_kept_row (Sym s)))
        (record {
          class = core_is_class w.store fine.store class.Proc refl;
          singleton = tt;
          variables = tt;
          kind = is;
        }) tt,
    new_role w.store (fresh (core class.Proc) (kind.CoreProc send_kept_row (Sym s))) Proc refl,
  )
  block_argument_is (Obj p) is =
      proc_or_not_is p (callable_of (kind_in w.store.objects (Obj p))) (runs_proc w.store fine.store p is)

  pub settle_keeps : (block : Option ObjId) (target : Option ℕ) → OptionIs (Is (census w.store) Proc) block
      → Keeps b w (settle w block target)
  unfolding settle
  settle_keeps None target is = keeps_itself b w fine
  settle_keeps (Some p) target is = keeps_sent b w fine p target is

  -- Clauses of begin forms.

  of_space : (x : Value) (o : Option ObjId) → AnswerIs b w (is_of_space w x o)
  of_space x None = fails_with b w fine cause.RescueNotClass tt
  of_space x (Some c) = gives_value b w fine (truth (is_member (chain w.store.objects (class_of w.store.objects x)) c))
      (truth_is (census w.store) (is_member (chain w.store.objects (class_of w.store.objects x)) c))

  pub is_of_is : (x class : Value) → AnswerIs b w (is_of w x class)
  unfolding is_of
  is_of_is x class = of_space x (space_in w.store.objects class)

  -- Bodies of classes.

  pub public_default_keeps : (c : ObjId) → Is (census w.store) ClassOrModule c → Keeps b w (with_public_default w c)
  public_default_keeps c is = keeps_default b w fine c Public is

  close_space_keeps : (o : Option ObjId) → OptionIs (Is (census w.store) ClassOrModule) o
      → Keeps b w (close_space w o)
  close_space_keeps None is = keeps_itself b w fine
  close_space_keeps (Some c) is = public_default_keeps c is

  close_run_keeps : (self : Value) (r : Runs) → RunIs (census w.store) self r → Keeps b w (close_run w self r)
  close_run_keeps self main_program is = keeps_itself b w fine
  close_run_keeps self method_body is = keeps_itself b w fine
  close_run_keeps self (block_body p) is = keeps_itself b w fine
  close_run_keeps self lambda_body is = keeps_itself b w fine
  close_run_keeps self class_body is = close_space_keeps (object_in self) is
  close_run_keeps self core_method is = keeps_itself b w fine

  -- the end of an activation
  pub close_keeps : (a : ℕ) → Keeps b w (close w a)
  unfolding close activation_at
  close_keeps a = close_run_keeps (activation_at w a).self (activation_at w a).runs
      (runs_at w w.activations (a - 1) fine.activations)

  -- What a resume gives, and what is read.

  pub one_of_is : (xs : List Value) → AllAre (IsValue (census w.store)) xs → AnswerIs b w (one_of w xs)
  one_of_is [] all = gives_value b w fine Nil tt
  one_of_is (x ∷ []) all = gives_value b w fine x all.0
  one_of_is (x ∷ y ∷ ys) all = makes_items b w fine (x ∷ y ∷ ys) all

  line_is : (n : ℕ) → AnswerIs b w (read_line w n)
  line_is n =
      let v : World = record w { input = drop n w.input } in
      let k = keeps_input b w fine (drop n w.input) in
      answer_then b w v (make v (text_object (take n w.input))) k (makes_text b v k.fine (take n w.input))

  limit_is : (n : ℕ) → AnswerIs b w (read_limit w n)
  limit_is n = by (nat_lt (2 ^ 28) n)
    where
      by : (c : Bool) → AnswerIs b w
          (if c then fail (record w { input = drop (2 ^ 28) w.input }) cause.StringTooLong else read_line w n)
      by true =
          let v : World = record w { input = drop (2 ^ 28) w.input } in
          let k = keeps_input b w fine (drop (2 ^ 28) w.input) in
          answer_then b w v (fail v cause.StringTooLong) k (fails_with b v k.fine cause.StringTooLong tt)
      by false = line_is n

  pub read_is : AnswerIs b w (read w)
  unfolding read
  read_is = by (nat_eq (length w.input) 0)
    where
      by : (c : Bool) → AnswerIs b w (if c then give w Nil else read_limit w (line_length w.input))
      by true = gives_value b w fine Nil tt
      by false = limit_is (line_length w.input)

-- the body of a class or module begins
module _ (b : Bodies) (w : World) (fine : Fine b w) (a : Activation) (c : ObjId) (own : ActivationIs w a)
    (is : Is (census w.store) ClassOrModule c) where
  body_opens : (v : World) → Extends w v → length v.enclosing ≡ length w.enclosing + 1
      → OpensIn v (class_activation w a c)
  body_opens v e longer =
      let there = role_stays w v e ClassOrModule c is in
      record {
        runs = there;
        self = any_of v.store ClassOrModule c there;
        owner = tt;
        name = tt;
        home = activation_number_stays v (with_activation v (class_activation w a c))
            (extends_activation v (class_activation w a c)) a.home (activation_number_stays w v e a.home own.home);
        classes = omega (arith, longer);
        block = tt;
      }

  pub class_body_keeps : Keeps b w (with_class_body w a c)
  unfolding with_class_body
  class_body_keeps =
      let v : World = with_public_default w c in
      let k = public_default_keeps b w fine c is in
      let u : World = with_enclosing v c a.classes in
      let there = role_stays w v k.extends ClassOrModule c is in
      let h = keeps_enclosing b v k.fine c a.classes there own.classes in
      let both = keeps_then b w v u k h in
      let longer : length u.enclosing ≡ length w.enclosing + 1 =
      length-append w.enclosing ((record { class = c; around = a.classes }) ∷ []) in
      keeps_then b w u (with_activation u (class_activation w a c)) both
      (keeps_activation b u h.fine (class_activation w a c) (body_opens u both.extends longer))
