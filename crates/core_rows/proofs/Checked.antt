-- What the check of a call refuses, and that its cause is one of the store.
use Rattle.std.proofs.Common.{◌≡◌, ℕ, ◌+◌, ◌<◌, List, [], ◌∷◌, length, get_or, drop, Bool, true, false, refl, ap, ◌∙◌, add-one, drop-cons, if◌then◌else◌}
use Rattle.std.specs.Prelude.{Option, Some, None, IfSome, ◌&&◌, is_none}
use Rattle.rb_value.specs.declared.value.Value.{Value}
use Rattle.rb_value.specs.declared.value.Value.TheVariants.{Nil, True, False, Int, Sym, Obj}
use Rattle.rb_value.specs.declared.value.ObjId.{ObjId}
use Rattle.rb_value.specs.Object.{Object}
use Rattle.rb_value.specs.declared.core_class.CoreClass.{CoreClass}
use Rattle.rb_value.specs.declared.core_class.CoreClass.TheVariants as class
use Rattle.rb_value.specs.CoreClass.{is_module}
use Rattle.def_core.specs.declared.cause.Cause.{Cause}
use Rattle.def_core.specs.declared.cause.Cause.TheVariants as cause
use Rattle.def_core.specs.Store.{Store, core}
use Rattle.def_core.specs.Classes.{plain_class_of}
use Rattle.def_core.specs.Sound.{census, Sound, Any, ClassOrModule, Is, IsValue, AllAre, plays, plays_at, core_sort}
use Rattle.def_core.proofs.Roles.{superclass_is_class, class_is_superclass}
use Rattle.def_core.proofs.Good.{role_object}
use Rattle.rb_raise.specs.Causes.{SoundCause}
use Rattle.row_table.specs.declared.signature.Signature.{Signature}
use Rattle.row_table.specs.declared.signature.Wanted.{Wanted}
use Rattle.row_table.specs.declared.signature.Wanted.TheVariants.{Any as Whatever, Of, Comparable}
use Rattle.def_rows.specs.Checking.{has_contents, unfit, takes, needs_block, wanted_at, first_of, first_unfit, unfit_values, check}

-- one more argument is what is wanted
pub next_argument : (s : Signature) (objects : List Object) (args : List Value) (n : ℕ) (d : Value) → n < length args
    → unfit (wanted_at s n) objects (get_or args n d) ≡ None
    → first_unfit s objects n (drop n args) ≡ first_unfit s objects (n + 1) (drop (n + 1) args)
unfolding first_unfit
next_argument s objects args n d within fit = rw (drop-cons args n d, fit, add-one) refl

-- a core class is a class or module
pub core_is : (st : Store) → Sound st → (c : CoreClass) → Is (census st) ClassOrModule (core c)
core_is st sound c = record { holds = ap (plays_at ClassOrModule) (sound.core c) ∙ by (is_module c) }
  where
    by : (b : Bool) → plays ClassOrModule (core_sort b) ≡ true
    by true = refl
    by false = refl

-- so is the class of a value
pub plain_is : (st : Store) → Sound st → (v : Value) → IsValue (census st) v
    → Is (census st) ClassOrModule (plain_class_of st.objects v)
plain_is st sound Nil is = core_is st sound class.NilClass
plain_is st sound True is = core_is st sound class.TrueClass
plain_is st sound False is = core_is st sound class.FalseClass
plain_is st sound (Int z) is = core_is st sound class.Integer
plain_is st sound (Sym s) is = core_is st sound class.Symbol
plain_is st sound (Obj id) is =
    superclass_is_class st _ (class_is_superclass st _ (role_object st sound Any id is).class)

module _ (st : Store) (sound : Sound st) where
  unless : (b : Bool) (o p : Option Cause) → IfSome o (SoundCause (census st)) → IfSome p (SoundCause (census st))
      → IfSome (if b then o else p) (SoundCause (census st))
  unless true o p h g = h
  unless false o p h g = g

  either : (o p : Option Cause) → IfSome o (SoundCause (census st)) → IfSome p (SoundCause (census st))
      → IfSome (first_of o p) (SoundCause (census st))
  either None p h g = g
  either (Some c) p h g = h

  unfit_is : (w : Wanted) (v : Value) → IsValue (census st) v → IfSome (unfit w st.objects v) (SoundCause (census st))
  unfit_is Whatever v is = tt
  unfit_is (Of c) v is = unless (has_contents c st.objects v) None _ tt (core_is st sound c, plain_is st sound v is)
  unfit_is (Comparable c) v is =
      unless (has_contents c st.objects v) None _ tt (core_is st sound c, plain_is st sound v is)

  unfit_arguments : (s : Signature) (n : ℕ) (args : List Value) → AllAre (IsValue (census st)) args
      → IfSome (first_unfit s st.objects n args) (SoundCause (census st))
  unfolding first_unfit
  unfit_arguments s n [] all = tt
  unfit_arguments s n (v ∷ vs) all =
      either (unfit (wanted_at s n) st.objects v) _ (unfit_is (wanted_at s n) v all.0) (unfit_arguments s (n + 1) vs all.1)

  pub values_sound : (s : Signature) (recv : Value) (args : List Value) → AllAre (IsValue (census st)) (recv ∷ args)
      → IfSome (unfit_values s st.objects recv args) (SoundCause (census st))
  values_sound s recv args all =
      either (unfit s.receiver st.objects recv) _ (unfit_is s.receiver recv all.0) (unfit_arguments s 0 args all.1)

  pub check_sound : (s : Signature) (recv : Value) (args : List Value) (block : Option ObjId)
      → AllAre (IsValue (census st)) (recv ∷ args)
      → IfSome (check s st.objects recv args block) (SoundCause (census st))
  check_sound s recv args block all =
      unless (takes s (length args)) _ _
      (unless (needs_block s.marks && is_none block) _ _ tt (values_sound s recv args all))
      tt
