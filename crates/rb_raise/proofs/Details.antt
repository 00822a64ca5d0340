-- The detail of a cause that is one of a store is a value of it.
use Rattle.rb_value.specs.declared.value.ObjId.{ObjId}
use Rattle.def_core.specs.declared.cause.Cause.{Cause}
use Rattle.def_core.specs.declared.cause.Cause.TheVariants as cause
use Rattle.def_core.specs.Texts.{detail_of}
use Rattle.def_core.specs.Sound.{Census, IsValue}
use Rattle.rb_raise.specs.Causes.{SoundCause}

pub detail_is : (k : Census) (c : Cause) → SoundCause k c → IsValue k (detail_of c)
detail_is k (cause.UndefinedMethod s c) h = h.0
detail_is k (cause.PrivateMethod s c) h = h.0
detail_is k (cause.ProtectedMethod s c) h = h.0
detail_is k (cause.NoSuperMethod s c) h = h.0
detail_is k cause.SuperOutside h = tt
detail_is k (cause.UndefinedName s c) h = h.0
detail_is k (cause.UninitializedConstant o s) h = h.1
detail_is k (cause.UndefinedInClass s c) h = h.0
detail_is k (cause.WrongCount g n m) h = tt
detail_is k cause.NegativeExponent h = tt
detail_is k cause.NoBlockGiven h = tt
detail_is k (cause.Incomparable c d) h = tt
detail_is k cause.ComparisonFailed h = tt
detail_is k cause.BadRange h = tt
detail_is k cause.InvalidInteger h = tt
detail_is k cause.StatusOutOfRange h = tt
detail_is k cause.ArrayTooBig h = tt
detail_is k cause.NegativeCount h = tt
detail_is k cause.BadBase h = tt
detail_is k cause.TooFewItems h = tt
detail_is k (cause.Expected c d) h = tt
detail_is k (cause.WrongValue s) h = tt
detail_is k cause.RescueNotClass h = tt
detail_is k cause.NotException h = tt
detail_is k (cause.SuperclassMismatch s) h = tt
detail_is k cause.SuperclassNotClass h = tt
detail_is k (cause.NotClass s) h = tt
detail_is k (cause.NotModule s) h = tt
detail_is k cause.NoSingleton h = tt
detail_is k cause.NoVariable h = tt
detail_is k (cause.IndexOutOfRange i) h = tt
detail_is k (cause.KeyNotFound key) h = tt
detail_is k cause.IntegerOverflow h = tt
detail_is k cause.StringTooLong h = tt
detail_is k (cause.CharOutOfRange i) h = tt
detail_is k cause.DividedByZero h = tt
detail_is k cause.UnexpectedReturn h = tt
detail_is k cause.BreakFromProc h = tt
detail_is k cause.NoBlockToYield h = tt
detail_is k cause.DeadFiber h = tt
detail_is k cause.DoubleResume h = tt
detail_is k cause.RootYield h = tt
detail_is k (cause.IterationEnd v) h = h
detail_is k cause.StackTooDeep h = tt
detail_is k (cause.Exit n) h = tt
detail_is k cause.Unhandled h = tt
