-- The core methods that open no activation keep a world fine.
use Rattle.std.proofs.Common.{ℕ, ℤ, List, length, get_or, Bool, true, false, refl, if◌then◌else◌}
use Rattle.std.specs.Prelude.{Option, Some, None, pos, negsuc, nat_lt, not}
use Rattle.rb_value.specs.declared.value.Value.{Value}
use Rattle.rb_value.specs.declared.value.Value.TheVariants.{Nil, True, False, Int, Sym, Obj}
use Rattle.rb_value.specs.declared.value.ObjId.{ObjId}
use Rattle.rb_value.specs.declared.method.Method.TheVariants as method
use Rattle.rb_value.specs.declared.kind.Kind.TheVariants as kind
use Rattle.rb_value.specs.declared.kind.Sort.TheVariants as sort
use Rattle.rb_value.specs.declared.core_class.CoreClass.{CoreClass}
use Rattle.rb_value.specs.declared.core_class.CoreClass.TheVariants as class
use Rattle.rb_value.specs.Value.{truth, is_true}
use Rattle.def_core.specs.declared.cause.Cause.{Cause}
use Rattle.def_core.specs.declared.cause.Cause.TheVariants as cause
use Rattle.def_core.specs.Store.{Done, core, fresh, object_at}
use Rattle.def_core.specs.Classes.{class_at, class_of, plain_class_of, chain, is_member}
use Rattle.def_core.specs.Find.{same_value}
use Rattle.def_core.specs.Bind.{elements_in}
use Rattle.def_core.specs.Changes.{gives as done, fails, object_of_sort, is_class_sort}
use Rattle.def_core.specs.Texts.{class_name}
use Rattle.def_core.specs.Parts.{with_objects}
use Rattle.def_core.specs.Sound.{census, Class, ClassOrModule, Proc, Array, Is, IsSymbol, IsValue, OptionIs, AllAre}
use Rattle.def_core.proofs.Grows.{core_is_class}
use Rattle.rb_raise.specs.Causes.{SoundCause}
use Rattle.class_model.proofs.Lineages.{any_of}
use Rattle.def_rows.specs.Answers.{makes, text_object}
use Rattle.def_calls.specs.World.{World}
use Rattle.def_calls.specs.Views.{Callable, by_body, by_row, integer_in, symbol_in, kind_in, callable_of, message_of, fiber_of, an_array, an_exception}
use Rattle.def_calls.specs.Checks.{counted, with_block, wanted}
use Rattle.def_calls.specs.Values.{element_at, shown}
use Rattle.def_calls.specs.Rows as rows
use Rattle.def_calls.specs.Plain.{shown_object, exits_with, status_in, as_lambda, message_text, with_message, a_space, outright}
use Rattle.world_laws.specs.Fine.{Bodies, IsException, Fine}
use Rattle.world_laws.specs.Outcomes.{DoneIs, CallableIs}
use Rattle.world_laws.proofs.Growing.{value_stays}
use Rattle.world_laws.proofs.Answers.{done_gives, done_gives_in, done_makes, done_makes_text, done_fails}
use Rattle.world_laws.proofs.Changing.{keeps_method, keeps_message}
use Rattle.world_laws.proofs.Holding.{callable_is, symbol_is, space_is, class_is, array_is, exception_is, elements_are, message_is}
use Rattle.world_laws.proofs.Searching.{plain_class_is}
use Rattle.world_laws.proofs.Values.{value_at, element_at_is, pushed_keeps}
use Rattle.world_laws.proofs.Checking.{truth_is, argument_or, anything, counted_is, block_is, wanted_is}

module _ (b : Bodies) (w : World) (fine : Fine b w) where
  refused : (c : Cause) → SoundCause (census w.store) c → DoneIs b w (fails w.store c)
  refused c is = done_fails b w fine c is

  exits : (z : ℤ) → DoneIs b w (exits_with w.store z)
  exits (pos n) = by (nat_lt n 256)
    where
      by : (c : Bool)
          → DoneIs b w (if c then fails w.store (cause.Exit n) else fails w.store cause.StatusOutOfRange)
      by true = refused (cause.Exit n) tt
      by false = refused cause.StatusOutOfRange tt
  exits (negsuc n) = refused cause.StatusOutOfRange tt

  lambda_is : (p : ObjId) (o : Option Callable) → Is (census w.store) Proc p → OptionIs (CallableIs b w) o
      → DoneIs b w (as_lambda w.store p o)
  lambda_is p None is h = done_gives b w fine (Obj p) (any_of w.store Proc p is)
  lambda_is p (Some (by_row r v)) is h = done_gives b w fine (Obj p) (any_of w.store Proc p is)
  lambda_is p (Some (by_body c)) is h = done_makes b w fine
      (fresh (core class.Proc) (kind.Proc (record c { lambda = true })))
      (record {
        class = core_is_class w.store fine.store class.Proc refl;
        singleton = tt;
        variables = tt;
        kind = record { receiver = h.0.receiver; owner = h.0.owner; name = h.0.name; block = h.0.block };
      })
      (b.proc_lambda w c true h.1)

  message_text_is : (e m : Value) → IsValue (census w.store) m → DoneIs b w (message_text w.store e m)
  message_text_is e Nil h = done_makes_text b w fine (class_name w.store (plain_class_of w.store.objects e))
  message_text_is e True h = done_makes_text b w fine (shown w.store True)
  message_text_is e False h = done_makes_text b w fine (shown w.store False)
  message_text_is e (Int z) h = done_makes_text b w fine (shown w.store (Int z))
  message_text_is e (Sym s) h = done_makes_text b w fine (shown w.store (Sym s))
  message_text_is e (Obj id) h = done_gives b w fine (Obj id) h

  message_set : (id : ObjId) (m : Value) → IsException (census w.store) id → IsValue (census w.store) m
      → DoneIs b w (done Nil (with_objects w.store (with_message w.store.objects id m)))
  message_set id m is value =
      done_gives_in b w fine _ Nil (keeps_message b w fine id m is value) tt

  module _ (recv : Value) (args : List Value) (block : Option ObjId) (is : IsValue (census w.store) recv)
      (all : AllAre (IsValue (census w.store)) args) (proc : OptionIs (Is (census w.store) Proc) block) where
    count : (least : ℕ) (most : Option ℕ) (d : Done) → DoneIs b w d → DoneIs b w (counted (fails w.store) least most args d)
    count least most d h = counted_is w.store fine.store (fails w.store) (DoneIs b w) refused least most args d h

    with_a_block : (further : ObjId → Done) → ((p : ObjId) → Is (census w.store) Proc p → DoneIs b w (further p))
        → DoneIs b w (with_block (fails w.store) block further)
    with_a_block further h =
        block_is w.store fine.store (fails w.store) (DoneIs b w) refused block further proc h

    want : {A : Type 0} (P : A → Type 0) (c : CoreClass) (v : Value) (o : Option A) (further : A → Done)
        → IsValue (census w.store) v → OptionIs P o → ((x : A) → P x → DoneIs b w (further x))
        → DoneIs b w (wanted (fails w.store) w.store.objects c v o further)
    want P c v o further value found h =
        wanted_is w.store fine.store (fails w.store) (DoneIs b w) refused P c v o further value found h

    first_is : IsValue (census w.store) (get_or args 0 Nil)
    first_is = value_at (census w.store) args 0 all

    gives_nothing : DoneIs b w (done Nil w.store)
    gives_nothing = done_gives b w fine Nil tt

    gives_truth : (c : Bool) → DoneIs b w (done (truth c) w.store)
    gives_truth c = done_gives b w fine (truth c) (truth_is (census w.store) c)

    gives_text : (bytes : List ℕ) → DoneIs b w (makes w.store (text_object bytes))
    gives_text bytes = done_makes_text b w fine bytes

    method_missing_is : DoneIs b w (outright rows.method_missing w.store recv args block)
    method_missing_is = count 1 None _
        (want (IsSymbol (census w.store)) class.Symbol (get_or args 0 Nil) (symbol_in (get_or args 0 Nil)) _ first_is
        (symbol_is w.store fine.store (get_or args 0 Nil) first_is)
        (λ s symbol. refused (cause.UndefinedMethod s (plain_class_of w.store.objects recv))
        (symbol, plain_class_is w.store fine.store recv is)))

    exit_is : DoneIs b w (outright rows.exit_program w.store recv args block)
    exit_is = count 0 (Some 1) _
        (want (λ _. Unit {0}) class.Integer (get_or args 0 True) (status_in (get_or args 0 True)) _
        (argument_or (census w.store) args 0 True all tt) (anything (status_in (get_or args 0 True)))
        (λ z _. exits z))

    push_is : DoneIs b w (outright rows.array_push w.store recv args block)
    push_is = count 1 (Some 1) _
        (want (Is (census w.store) Array) class.Array recv (an_array w.store.objects recv) _ is
        (array_is w.store fine.store recv is)
        (λ id array.
        let k = pushed_keeps b w fine id args array all in
        done_gives_in b w fine _ recv k (value_stays w _ k.extends recv is)))

    element_of_is : DoneIs b w (outright rows.array_element w.store recv args block)
    element_of_is = count 1 (Some 1) _
        (want (AllAre (IsValue (census w.store))) class.Array recv (elements_in w.store.objects recv) _ is
        (elements_are w.store fine.store recv is)
        (λ vs values.
        want (λ _. Unit {0}) class.Integer (get_or args 0 Nil) (integer_in (get_or args 0 Nil)) _ first_is
        (anything (integer_in (get_or args 0 Nil)))
        (λ z _. done_gives b w fine (element_at vs z) (element_at_is (census w.store) vs z values))))

    define_is : DoneIs b w (outright rows.method_of_block w.store recv args block)
    define_is = count 1 (Some 1) _
        (with_a_block _
        (λ p run.
        want (Is (census w.store) ClassOrModule) class.Module recv (a_space w.store.objects recv) _ is
        (space_is w.store fine.store recv is)
        (λ c space.
        want (IsSymbol (census w.store)) class.Symbol (get_or args 0 Nil) (symbol_in (get_or args 0 Nil)) _ first_is
        (symbol_is w.store fine.store (get_or args 0 Nil) first_is)
        (λ s symbol.
        let k = keeps_method b w fine c s (method.Block p) (class_at w.store.objects c).visibility space symbol run tt in
        done_gives_in b w fine _ (Sym s) k (value_stays w _ k.extends (Sym s) symbol)))))

    initialize_is : DoneIs b w (outright rows.initialize_exception w.store recv args block)
    initialize_is = count 0 (Some 1) _
        (want (IsException (census w.store)) class.Exception recv (an_exception w.store.objects recv) _ is
        (exception_is w.store fine.store recv is)
        (λ id e. message_set id (get_or args 0 Nil) e first_is))

    fiber_is : DoneIs b w (outright rows.new_fiber w.store recv args block)
    fiber_is = count 0 (Some 0) _
        (with_a_block _
        (λ p run.
        want (Is (census w.store) Class) class.Class recv (object_of_sort is_class_sort w.store.objects recv) _ is
        (class_is w.store fine.store recv is)
        (λ c plain. done_makes b w fine (fresh c (kind.Fiber p false))
        (record { class = plain; singleton = tt; variables = tt; kind = run }) tt)))

    pub outright_is : (p : rows.PlainRow) → DoneIs b w (outright p w.store recv args block)
    outright_is rows.initialize_object = count 0 (Some 0) _ gives_nothing
    outright_is rows.method_missing = method_missing_is
    outright_is rows.object_text = count 0 (Some 0) _ (gives_text (shown_object w.store recv))
    outright_is rows.object_inspection = count 0 (Some 0) _ (gives_text (shown_object w.store recv))
    outright_is rows.same_object = count 1 (Some 1) _ (gives_truth (same_value recv (get_or args 0 Nil)))
    outright_is rows.negation = count 0 (Some 0) _ (gives_truth (not (is_true recv)))
    outright_is rows.class_of_object = count 0 (Some 0) _
        (done_gives b w fine (Obj (plain_class_of w.store.objects recv))
        (any_of w.store ClassOrModule _ (plain_class_is w.store fine.store recv is)))
    outright_is rows.exit_program = exit_is
    outright_is rows.proc_of_block = count 0 (Some 0) _
        (with_a_block _ (λ p run. done_gives b w fine (Obj p) (any_of w.store Proc p run)))
    outright_is rows.lambda_of_block = count 0 (Some 0) _
        (with_a_block _
        (λ p run. lambda_is p (callable_of (kind_in w.store.objects (Obj p))) run
        (callable_is b w fine (Obj p) (any_of w.store Proc p run))))
    outright_is rows.proc_of_symbol = count 0 (Some 0) _
        (done_makes b w fine (fresh (core class.Proc) (kind.CoreProc rows.send_kept_row recv))
        (record {
          class = core_is_class w.store fine.store class.Proc refl;
          singleton = tt;
          variables = tt;
          kind = is;
        }) tt)
    outright_is rows.array_push = push_is
    outright_is rows.array_length = count 0 (Some 0) _
        (want (λ _. Unit {0}) class.Array recv (elements_in w.store.objects recv) _ is
        (anything (elements_in w.store.objects recv)) (λ vs _. done_gives b w fine (Int (pos (length vs))) tt))
    outright_is rows.array_element = element_of_is
    outright_is rows.has_ancestor = count 1 (Some 1) _
        (want (λ _. Unit {0}) class.Module recv (a_space w.store.objects recv) _ is
        (anything (a_space w.store.objects recv))
        (λ c _. gives_truth (is_member (chain w.store.objects (class_of w.store.objects (get_or args 0 Nil))) c)))
    outright_is rows.class_text = count 0 (Some 0) _
        (want (λ _. Unit {0}) class.Module recv (a_space w.store.objects recv) _ is
        (anything (a_space w.store.objects recv)) (λ c _. gives_text (class_name w.store c)))
    outright_is rows.method_of_block = define_is
    outright_is rows.initialize_exception = initialize_is
    outright_is rows.exception_text = count 0 (Some 0) _
        (want (λ _. Unit {0}) class.Exception recv (an_exception w.store.objects recv) _ is
        (anything (an_exception w.store.objects recv))
        (λ id _. message_text_is recv (message_of (kind_in w.store.objects recv)) (message_is w.store fine.store recv is)))
    outright_is rows.new_fiber = fiber_is
    outright_is rows.is_alive = count 0 (Some 0) _
        (want (λ _. Unit {0}) class.Fiber recv (fiber_of (kind_in w.store.objects recv)) _ is
        (anything (fiber_of (kind_in w.store.objects recv))) (λ f _. gives_truth (not f.1)))
