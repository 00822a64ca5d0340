-- When a cause is one of a store: what it names is there.
use Rattle.def_core.specs.declared.cause.Cause.{Cause}
use Rattle.def_core.specs.declared.cause.Cause.TheVariants as cause
use Rattle.def_core.specs.Sound.{Census, ClassOrModule, String, Is, IsSymbol, IsValue, OptionIs}

abbrev pub SoundCause : Census → Cause → Type 0
SoundCause k (cause.UndefinedMethod s c) = IsSymbol k s × Is k ClassOrModule c
SoundCause k (cause.PrivateMethod s c) = IsSymbol k s × Is k ClassOrModule c
SoundCause k (cause.ProtectedMethod s c) = IsSymbol k s × Is k ClassOrModule c
SoundCause k (cause.NoSuperMethod s c) = IsSymbol k s × Is k ClassOrModule c
SoundCause k cause.SuperOutside = Unit {0}
SoundCause k (cause.UndefinedName s c) = IsSymbol k s × Is k ClassOrModule c
SoundCause k (cause.UninitializedConstant o s) = OptionIs (Is k ClassOrModule) o × IsSymbol k s
SoundCause k (cause.UndefinedInClass s c) = IsSymbol k s × Is k ClassOrModule c
SoundCause k (cause.WrongCount g n m) = Unit {0}
SoundCause k cause.NegativeExponent = Unit {0}
SoundCause k cause.NoBlockGiven = Unit {0}
SoundCause k (cause.Incomparable c d) = Is k ClassOrModule c × Is k ClassOrModule d
SoundCause k cause.ComparisonFailed = Unit {0}
SoundCause k cause.BadRange = Unit {0}
SoundCause k cause.InvalidInteger = Unit {0}
SoundCause k cause.StatusOutOfRange = Unit {0}
SoundCause k cause.ArrayTooBig = Unit {0}
SoundCause k cause.NegativeCount = Unit {0}
SoundCause k cause.BadBase = Unit {0}
SoundCause k cause.TooFewItems = Unit {0}
SoundCause k (cause.Expected c d) = Is k ClassOrModule c × Is k ClassOrModule d
SoundCause k (cause.WrongValue s) = IsSymbol k s
SoundCause k cause.RescueNotClass = Unit {0}
SoundCause k cause.NotException = Unit {0}
SoundCause k (cause.SuperclassMismatch s) = IsSymbol k s
SoundCause k cause.SuperclassNotClass = Unit {0}
SoundCause k (cause.NotClass s) = IsSymbol k s
SoundCause k (cause.NotModule s) = IsSymbol k s
SoundCause k cause.NoSingleton = Unit {0}
SoundCause k cause.NoVariable = Unit {0}
SoundCause k (cause.IndexOutOfRange i) = Unit {0}
SoundCause k (cause.KeyNotFound key) = Is k String key
SoundCause k cause.IntegerOverflow = Unit {0}
SoundCause k cause.StringTooLong = Unit {0}
SoundCause k (cause.CharOutOfRange i) = Unit {0}
SoundCause k cause.DividedByZero = Unit {0}
SoundCause k cause.UnexpectedReturn = Unit {0}
SoundCause k cause.BreakFromProc = Unit {0}
SoundCause k cause.NoBlockToYield = Unit {0}
SoundCause k cause.DeadFiber = Unit {0}
SoundCause k cause.DoubleResume = Unit {0}
SoundCause k cause.RootYield = Unit {0}
SoundCause k (cause.IterationEnd v) = IsValue k v
SoundCause k cause.StackTooDeep = Unit {0}
SoundCause k (cause.Exit n) = Unit {0}
SoundCause k cause.Unhandled = Unit {0}
