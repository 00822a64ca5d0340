-- An exception that the language raises itself isn't asked for its message while no class of the program is there.
use Rattle.std.proofs.Common.{◌≡◌, List, [], ◌∷◌, ◌++◌, length, Bool, true, false, true≢false, refl, sym, ap, ◌∙◌, arith, length-append, append_assoc}
use Rattle.std.specs.Prelude.{codes, ◌&&◌, ◌||◌, not, is_some, None}
use Rattle.std.proofs.lemmas.List.{get_or_append_left, get_or_push}
use Rattle.rb_value.specs.Object.{Object}
use Rattle.rb_value.specs.Sort.{sort_of}
use Rattle.rb_value.specs.declared.value.Value.TheVariants.{Obj}
use Rattle.rb_value.specs.declared.value.ObjId.{ObjId}
use Rattle.rb_value.specs.declared.kind.Kind.TheVariants as kind
use Rattle.rb_value.specs.declared.core_class.CoreClass.{CoreClass}
use Rattle.rb_value.specs.declared.core_class.CoreClass.TheVariants as class
use Rattle.def_core.specs.declared.cause.Cause.{Cause}
use Rattle.def_core.specs.declared.cause.Cause.TheVariants as cause
use Rattle.def_core.specs.Store.{Store, core, fresh, absent, object_at, next_number, with_object}
use Rattle.def_core.specs.Classes.{nearest_singleton, singletons_from, class_of}
use Rattle.def_core.specs.Find.{find}
use Rattle.def_core.specs.Changes.{Interned, intern}
use Rattle.def_core.specs.Texts as texts
use Rattle.ir_core.specs.CoreForm.{Name}
use Rattle.def_calls.specs.World.{World, with_store, exception_object}
use Rattle.def_calls.specs.Views.{present, string_of, message_of}
use Rattle.def_calls.specs.Rows
use Rattle.def_calls.specs.Calls.{finds_written, writes, has_text, is_exit, is_asked}
use Rattle.def_eval.specs.Source.{Source}
use Rattle.def_eval.proofs.Running.{run}
use Rattle.step_laws.specs.Site.{opening_store}
use Rattle.step_laws.proofs.Symbols.{IsCoreName, the_symbol, interned_core}
use Rattle.step_laws.proofs.Found.{grown}

-- what tells the message of an exception of a class of the core is a core method
pub record Silent (more : List Object) (c : CoreClass) : Type 0 where
  pub message : finds_written (find (grown more) (core c) (the_symbol (codes "message"))) ≡ false
  pub text : finds_written (find (grown more) (core c) (the_symbol (codes "to_s"))) ≡ false

record AreSilent (more : List Object) : Type 0 where
  pub no_method : Silent more class.NoMethodError
  pub name : Silent more class.NameError
  pub argument : Silent more class.ArgumentError
  pub type : Silent more class.TypeError
  pub index : Silent more class.IndexError
  pub key : Silent more class.KeyError
  pub range : Silent more class.RangeError
  pub zero_division : Silent more class.ZeroDivisionError
  pub local_jump : Silent more class.LocalJumpError
  pub fiber : Silent more class.FiberError
  pub stop : Silent more class.StopIteration
  pub stack : Silent more class.SystemStackError
  pub exit : Silent more class.SystemExit
  pub runtime : Silent more class.RuntimeError

are_silent : (more : List Object) → AreSilent more
unfolding run the_symbol
are_silent more = record {
  no_method = record { message = refl; text = refl };
  name = record { message = refl; text = refl };
  argument = record { message = refl; text = refl };
  type = record { message = refl; text = refl };
  index = record { message = refl; text = refl };
  key = record { message = refl; text = refl };
  range = record { message = refl; text = refl };
  zero_division = record { message = refl; text = refl };
  local_jump = record { message = refl; text = refl };
  fiber = record { message = refl; text = refl };
  stop = record { message = refl; text = refl };
  stack = record { message = refl; text = refl };
  exit = record { message = refl; text = refl };
  runtime = record { message = refl; text = refl };
}

silent : (more : List Object) (c : Cause) → Silent more (texts.class_of c)
silent more (cause.UndefinedMethod s c) = (are_silent more).no_method
silent more (cause.PrivateMethod s c) = (are_silent more).no_method
silent more (cause.ProtectedMethod s c) = (are_silent more).no_method
silent more (cause.NoSuperMethod s c) = (are_silent more).no_method
silent more cause.SuperOutside = (are_silent more).no_method
silent more (cause.UndefinedName s c) = (are_silent more).name
silent more (cause.UninitializedConstant o s) = (are_silent more).name
silent more (cause.UndefinedInClass s c) = (are_silent more).name
silent more (cause.WrongCount g n m) = (are_silent more).argument
silent more cause.NegativeExponent = (are_silent more).argument
silent more cause.NoBlockGiven = (are_silent more).argument
silent more (cause.Incomparable c d) = (are_silent more).argument
silent more cause.ComparisonFailed = (are_silent more).argument
silent more cause.BadRange = (are_silent more).argument
silent more cause.InvalidInteger = (are_silent more).argument
silent more cause.StatusOutOfRange = (are_silent more).argument
silent more cause.ArrayTooBig = (are_silent more).argument
silent more cause.NegativeCount = (are_silent more).argument
silent more cause.BadBase = (are_silent more).argument
silent more cause.TooFewItems = (are_silent more).argument
silent more (cause.Expected c d) = (are_silent more).type
silent more (cause.WrongValue s) = (are_silent more).type
silent more cause.RescueNotClass = (are_silent more).type
silent more cause.NotException = (are_silent more).type
silent more (cause.SuperclassMismatch s) = (are_silent more).type
silent more cause.SuperclassNotClass = (are_silent more).type
silent more (cause.NotClass s) = (are_silent more).type
silent more (cause.NotModule s) = (are_silent more).type
silent more cause.NoSingleton = (are_silent more).type
silent more cause.NoVariable = (are_silent more).type
silent more (cause.IndexOutOfRange i) = (are_silent more).index
silent more (cause.KeyNotFound k) = (are_silent more).key
silent more cause.IntegerOverflow = (are_silent more).range
silent more cause.StringTooLong = (are_silent more).range
silent more (cause.CharOutOfRange i) = (are_silent more).range
silent more cause.DividedByZero = (are_silent more).zero_division
silent more cause.UnexpectedReturn = (are_silent more).local_jump
silent more cause.BreakFromProc = (are_silent more).local_jump
silent more cause.NoBlockToYield = (are_silent more).local_jump
silent more cause.DeadFiber = (are_silent more).fiber
silent more cause.DoubleResume = (are_silent more).fiber
silent more cause.RootYield = (are_silent more).fiber
silent more (cause.IterationEnd v) = (are_silent more).stop
silent more cause.StackTooDeep = (are_silent more).stack
silent more (cause.Exit n) = (are_silent more).exit
silent more cause.Unhandled = (are_silent more).runtime

message_known : IsCoreName (codes "message")
unfolding run IsCoreName
message_known = refl

text_known : IsCoreName (codes "to_s")
unfolding run IsCoreName
text_known = refl

nearest_alone : (objects : List Object) (c other : ObjId) → (object_at objects c).singleton ≡ None
    → nearest_singleton objects (c ∷ []) other ≡ other
unfolding nearest_singleton
nearest_alone objects c other h = rw h refl

none_of_three : (a b c : Bool) → a ≡ false → b ≡ false → c ≡ true → (a || b || not c) ≡ false
none_of_three true b c e f g = absurd (true≢false e)
none_of_three false true c e f g = absurd (true≢false f)
none_of_three false false true e f g = refl
none_of_three false false false e f g = absurd (true≢false (sym g))

and_last : (a b x : Bool) → x ≡ false → (a && b && x) ≡ false
and_last true true x h = h
and_last true false x h = refl
and_last false b x h = refl

-- What a failure adds to such a world: the text, and then the exception.
module _ (s : Source) (w : World) (more : List Object) (symbols : w.store.symbols ≡ (opening_store s).symbols)
    (objects : w.store.objects ≡ grown more) (c : Cause) where
  abbrev told : Object
  told = fresh (core class.String) (kind.String (texts.text_of w.store c))

  abbrev st : Store
  st = with_object w.store told

  abbrev made : Object
  made = exception_object
      (record { class = texts.class_of c; message = next_number w.store; detail = texts.detail_of c })

  abbrev pub after : World
  after = with_store w (with_object st made)

  abbrev all : List Object
  all = (more ++ told ∷ []) ++ made ∷ []

  grows : after.store.objects ≡ grown all
  grows =
      ap (λ (os : List Object). (os ++ told ∷ []) ++ made ∷ []) objects
      ∙ ap (λ (os : List Object). os ++ made ∷ []) (append_assoc Rows.opening.objects more (told ∷ []))
      ∙ append_assoc Rows.opening.objects (more ++ told ∷ []) (made ∷ [])

  made_there : object_at after.store.objects (next_number st) ≡ made
  made_there = get_or_push st.objects made absent (length st.objects) refl

  told_there : object_at after.store.objects (next_number w.store) ≡ told
  told_there =
      let longer = length-append w.store.objects (told ∷ []) in
      get_or_append_left st.objects (made ∷ []) absent (length w.store.objects) (omega (arith, longer))
      ∙ get_or_push w.store.objects told absent (length w.store.objects) refl

  class_found : class_of after.store.objects (Obj (next_number st)) ≡ core (texts.class_of c)
  unfolding class_of
  class_found =
      let os = after.store.objects in
      let e = next_number st in
      ap (λ (o : Object). nearest_singleton os (singletons_from os e (sort_of o.kind)) o.class) made_there
      ∙ nearest_alone os e (core (texts.class_of c)) (ap (λ (o : Object). o.singleton) made_there)

  unwritten : (name : Name) → IsCoreName name
      → finds_written (find (grown all) (core (texts.class_of c)) (the_symbol name)) ≡ false
      → writes after (next_number st) name ≡ false
  unwritten name known h =
      ap (λ (k : ObjId). finds_written (find after.store.objects k (intern after.store name).symbol)) class_found
      ∙ ap (λ (n : Interned). finds_written (find after.store.objects (core (texts.class_of c)) n.symbol))
      (interned_core s after.store name symbols known)
      ∙ ap (λ (os : List Object). finds_written (find os (core (texts.class_of c)) (the_symbol name))) grows ∙ h

  text_there : has_text after.store (present (message_of (object_at after.store.objects (next_number st)).kind)) ≡ true
  text_there =
      ap (λ (o : Object). has_text after.store (present (message_of o.kind))) made_there
      ∙ ap (λ (o : Object). is_some (string_of o.kind)) told_there

  pub failure_unasked : is_asked after (next_number st) ≡ false
  unfolding is_asked
  failure_unasked =
      let e = next_number st in
      let h = silent all c in
      let text = has_text after.store (present (message_of (object_at after.store.objects e).kind)) in
      and_last (not after.asked) (not (is_exit after.store e))
      (writes after e (codes "message") || writes after e (codes "to_s") || not text)
      (none_of_three (writes after e (codes "message")) (writes after e (codes "to_s")) text
      (unwritten (codes "message") message_known h.message) (unwritten (codes "to_s") text_known h.text) text_there)
