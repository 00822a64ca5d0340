-- The exception of a cause has the class of a class, and belongs to the store.
use Rattle.std.proofs.Common.{◌≡◌, false, refl, sym, subst}
use Rattle.rb_value.specs.declared.outcome.Outcome.{Outcome}
use Rattle.rb_value.specs.CoreClass.{is_module}
use Rattle.def_core.specs.declared.cause.Cause.{Cause}
use Rattle.def_core.specs.declared.cause.Cause.TheVariants as cause
use Rattle.def_core.specs.Store.{Store}
use Rattle.def_core.specs.Texts.{class_of}
use Rattle.def_core.specs.Changes.{fails}
use Rattle.run_values.specs.Raisable.{IsRaisable}

pub class_is_class : (c : Cause) → is_module (class_of c) ≡ false
class_is_class (cause.UndefinedMethod s c) = refl
class_is_class (cause.PrivateMethod s c) = refl
class_is_class (cause.ProtectedMethod s c) = refl
class_is_class (cause.NoSuperMethod s c) = refl
class_is_class cause.SuperOutside = refl
class_is_class (cause.UndefinedName s c) = refl
class_is_class (cause.UninitializedConstant o s) = refl
class_is_class (cause.UndefinedInClass s c) = refl
class_is_class (cause.WrongCount g n m) = refl
class_is_class cause.NegativeExponent = refl
class_is_class cause.NoBlockGiven = refl
class_is_class (cause.Incomparable c d) = refl
class_is_class cause.ComparisonFailed = refl
class_is_class cause.BadRange = refl
class_is_class cause.InvalidInteger = refl
class_is_class cause.StatusOutOfRange = refl
class_is_class cause.ArrayTooBig = refl
class_is_class cause.NegativeCount = refl
class_is_class cause.BadBase = refl
class_is_class cause.TooFewItems = refl
class_is_class (cause.Expected c d) = refl
class_is_class (cause.WrongValue s) = refl
class_is_class cause.RescueNotClass = refl
class_is_class cause.NotException = refl
class_is_class (cause.SuperclassMismatch s) = refl
class_is_class cause.SuperclassNotClass = refl
class_is_class (cause.NotClass s) = refl
class_is_class (cause.NotModule s) = refl
class_is_class cause.NoSingleton = refl
class_is_class cause.NoVariable = refl
class_is_class (cause.IndexOutOfRange i) = refl
class_is_class (cause.KeyNotFound key) = refl
class_is_class cause.IntegerOverflow = refl
class_is_class cause.StringTooLong = refl
class_is_class (cause.CharOutOfRange i) = refl
class_is_class cause.DividedByZero = refl
class_is_class cause.UnexpectedReturn = refl
class_is_class cause.BreakFromProc = refl
class_is_class cause.NoBlockToYield = refl
class_is_class cause.DeadFiber = refl
class_is_class cause.DoubleResume = refl
class_is_class cause.RootYield = refl
class_is_class (cause.IterationEnd v) = refl
class_is_class cause.StackTooDeep = refl
class_is_class (cause.Exit n) = refl
class_is_class cause.Unhandled = refl

-- what a cause raises can be raised
pub fails_raisable : (st : Store) (c : Cause) → IsRaisable (fails st c).outcome
unfolding fails
fails_raisable st c = class_is_class c

pub raisable_as : (o p : Outcome) → o ≡ p → IsRaisable p → IsRaisable o
raisable_as o p e h = subst IsRaisable (sym e) h
