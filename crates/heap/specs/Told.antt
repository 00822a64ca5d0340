-- What the cause of an exception counts as.
use Rattle.std.specs.Prelude.{Bool, true, ◌&&◌, if◌then◌else◌, Option, Some, None}
use Rattle.rb_value.specs.declared.value.ObjId.{ObjId}
use Rattle.rb_value.specs.declared.value.SymId.{SymId}
use Rattle.def_core.specs.declared.cause.Cause.{Cause}
use Rattle.def_core.specs.declared.cause.Cause.TheVariants as cause
use Rattle.def_core.specs.Store.{Store, sort_at}
use Rattle.heap.specs.Operands.{has, has_symbol, has_space, is_string, own}

abbrev pub has_names : Store → SymId → ObjId → Bool
has_names st name class = has_symbol st name && has_space st class

abbrev pub has_both : Store → ObjId → ObjId → Bool
has_both st left right = has_space st left && has_space st right

-- whether the store has all that a cause names
unfoldable pub has_cause : Store → Cause → Bool
has_cause st (cause.UndefinedMethod s c) = has_names st s c
has_cause st (cause.PrivateMethod s c) = has_names st s c
has_cause st (cause.ProtectedMethod s c) = has_names st s c
has_cause st (cause.NoSuperMethod s c) = has_names st s c
has_cause st (cause.UndefinedName s c) = has_names st s c
has_cause st (cause.UndefinedInClass s c) = has_names st s c
has_cause st (cause.UninitializedConstant None s) = has_symbol st s
has_cause st (cause.UninitializedConstant (Some c) s) = has_names st s c
has_cause st (cause.WrongValue s) = has_symbol st s
has_cause st (cause.SuperclassMismatch s) = has_symbol st s
has_cause st (cause.NotClass s) = has_symbol st s
has_cause st (cause.NotModule s) = has_symbol st s
has_cause st (cause.Incomparable c d) = has_both st c d
has_cause st (cause.Expected c d) = has_both st c d
has_cause st (cause.KeyNotFound key) = is_string (sort_at st.objects key)
has_cause st (cause.IterationEnd v) = has st v
has_cause st cause.SuperOutside = true
has_cause st (cause.WrongCount g n m) = true
has_cause st cause.NegativeExponent = true
has_cause st cause.NoBlockGiven = true
has_cause st cause.ComparisonFailed = true
has_cause st cause.BadRange = true
has_cause st cause.InvalidInteger = true
has_cause st cause.StatusOutOfRange = true
has_cause st cause.ArrayTooBig = true
has_cause st cause.NegativeCount = true
has_cause st cause.BadBase = true
has_cause st cause.TooFewItems = true
has_cause st cause.RescueNotClass = true
has_cause st cause.NotException = true
has_cause st cause.SuperclassNotClass = true
has_cause st cause.NoSingleton = true
has_cause st cause.NoVariable = true
has_cause st (cause.IndexOutOfRange i) = true
has_cause st cause.IntegerOverflow = true
has_cause st cause.StringTooLong = true
has_cause st (cause.CharOutOfRange i) = true
has_cause st cause.DividedByZero = true
has_cause st cause.UnexpectedReturn = true
has_cause st cause.BreakFromProc = true
has_cause st cause.NoBlockToYield = true
has_cause st cause.DeadFiber = true
has_cause st cause.DoubleResume = true
has_cause st cause.RootYield = true
has_cause st cause.StackTooDeep = true
has_cause st (cause.Exit n) = true
has_cause st cause.Unhandled = true

-- a cause that names what the store hasn't counts as that of an exception without a reason, and such a result as nil
unfoldable pub told : Store → Cause → Cause
told st (cause.UndefinedMethod s c) = if has_names st s c then cause.UndefinedMethod s c else cause.Unhandled
told st (cause.PrivateMethod s c) = if has_names st s c then cause.PrivateMethod s c else cause.Unhandled
told st (cause.ProtectedMethod s c) = if has_names st s c then cause.ProtectedMethod s c else cause.Unhandled
told st (cause.NoSuperMethod s c) = if has_names st s c then cause.NoSuperMethod s c else cause.Unhandled
told st (cause.UndefinedName s c) = if has_names st s c then cause.UndefinedName s c else cause.Unhandled
told st (cause.UndefinedInClass s c) = if has_names st s c then cause.UndefinedInClass s c else cause.Unhandled
told st (cause.UninitializedConstant None s) = if has_symbol st s then cause.UninitializedConstant None s else cause.Unhandled
told st (cause.UninitializedConstant (Some c) s) = if has_names st s c then cause.UninitializedConstant (Some c) s else cause.Unhandled
told st (cause.WrongValue s) = if has_symbol st s then cause.WrongValue s else cause.Unhandled
told st (cause.SuperclassMismatch s) = if has_symbol st s then cause.SuperclassMismatch s else cause.Unhandled
told st (cause.NotClass s) = if has_symbol st s then cause.NotClass s else cause.Unhandled
told st (cause.NotModule s) = if has_symbol st s then cause.NotModule s else cause.Unhandled
told st (cause.Incomparable c d) = if has_both st c d then cause.Incomparable c d else cause.Unhandled
told st (cause.Expected c d) = if has_both st c d then cause.Expected c d else cause.Unhandled
told st (cause.KeyNotFound key) = if is_string (sort_at st.objects key) then cause.KeyNotFound key else cause.Unhandled
told st (cause.IterationEnd v) = cause.IterationEnd (own st v)
told st cause.SuperOutside = cause.SuperOutside
told st (cause.WrongCount g n m) = cause.WrongCount g n m
told st cause.NegativeExponent = cause.NegativeExponent
told st cause.NoBlockGiven = cause.NoBlockGiven
told st cause.ComparisonFailed = cause.ComparisonFailed
told st cause.BadRange = cause.BadRange
told st cause.InvalidInteger = cause.InvalidInteger
told st cause.StatusOutOfRange = cause.StatusOutOfRange
told st cause.ArrayTooBig = cause.ArrayTooBig
told st cause.NegativeCount = cause.NegativeCount
told st cause.BadBase = cause.BadBase
told st cause.TooFewItems = cause.TooFewItems
told st cause.RescueNotClass = cause.RescueNotClass
told st cause.NotException = cause.NotException
told st cause.SuperclassNotClass = cause.SuperclassNotClass
told st cause.NoSingleton = cause.NoSingleton
told st cause.NoVariable = cause.NoVariable
told st (cause.IndexOutOfRange i) = cause.IndexOutOfRange i
told st cause.IntegerOverflow = cause.IntegerOverflow
told st cause.StringTooLong = cause.StringTooLong
told st (cause.CharOutOfRange i) = cause.CharOutOfRange i
told st cause.DividedByZero = cause.DividedByZero
told st cause.UnexpectedReturn = cause.UnexpectedReturn
told st cause.BreakFromProc = cause.BreakFromProc
told st cause.NoBlockToYield = cause.NoBlockToYield
told st cause.DeadFiber = cause.DeadFiber
told st cause.DoubleResume = cause.DoubleResume
told st cause.RootYield = cause.RootYield
told st cause.StackTooDeep = cause.StackTooDeep
told st (cause.Exit n) = cause.Exit n
told st cause.Unhandled = cause.Unhandled
